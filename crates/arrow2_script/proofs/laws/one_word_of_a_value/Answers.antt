use Rattle.std.proofs.Common.{ap, sym, ◌∙◌}
use Rattle.arrow2_script.specs.Words.{number_of, slot_of, optional_slot_of, below_of, bit_of, bits_of, number_list, bytes_of, width_of}
use Rattle.arrow2_script.proofs.WordLemmas.{number_of-decimal, decimal-number_of, slot_of-decimal, decimal-slot_of, optional_slot_of-word, word-optional_slot_of, bit_of-byte, byte-bit_of, bits_of-text, text-bits_of, below_of-decimal, decimal-below_of, width_of-word, word-width_of}
use Rattle.arrow2_script.proofs.HexLemmas.{bytes_of-text, text-bytes_of}
use Rattle.arrow2_script.proofs.NumberListLemmas.{number_list-text, text-number_list}
use Rattle.arrow2_script.proofs.laws.one_word_of_a_value.Goals as goal

pub returns : goal.returns
returns c = record {
  number = λ word n. (decimal-number_of word n, λ p. ap number_of (sym p.1) ∙ number_of-decimal n p.0);
  slot = λ word n. (decimal-slot_of word n, λ p. ap slot_of (sym p.1) ∙ slot_of-decimal n p.0);
  optional_slot = λ word slot. (word-optional_slot_of word slot, λ p. ap optional_slot_of (sym p.1) ∙ optional_slot_of-word slot p.0);
  table = λ bound word n most. (decimal-below_of bound word n, λ p. ap (below_of bound) (sym p.1) ∙ below_of-decimal bound n most p.0);
  bit = λ word bit. (byte-bit_of word bit, λ p. ap bit_of (sym p) ∙ bit_of-byte bit);
  bits = λ word items. (text-bits_of word items, λ p. ap bits_of (sym p) ∙ bits_of-text items);
  numbers = λ word ns. (text-number_list word ns, λ p. ap number_list (sym p.1) ∙ number_list-text ns p.0);
  bytes = λ word bytes. (text-bytes_of word bytes, λ p. ap bytes_of (sym p.1) ∙ bytes_of-text bytes p.0);
  width = λ word width. (word-width_of word width, λ p. ap width_of (sym p) ∙ width_of-word width);
}

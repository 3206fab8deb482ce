-- Commands of one group: the words that spell each, and the names that distinguish them.
use Rattle.std.proofs.Common.{◌≡◌, subst, refl, ◌<◌, ◌≤◌, ◌^◌, ℕ, List, [], ◌∷◌, Bool, true, cond, inl, inr, arith, Option, Some, None, IfSome, option_map, bytes_eq, decimal}
use Rattle.std.specs.List.{All, list_all}
use Rattle.std.proofs.lemmas.Option.{same_Some, none-some}
use Rattle.std.proofs.lemmas.Slice.Eq.{bytes_eq-Decides}
use Rattle.arrow2_script.specs.Arguments.{◌>>=◌, ◌>>◌, no_words}
use Rattle.arrow2_script.specs.declared.words.Width.{Width}
use Rattle.arrow2_script.specs.Words.{number_of, slot_of, optional_slot_of, optional_slot_word, below_of, bit_of, bit_byte, bits_of, bits_text, number_list, numbers_text, width_of, width_word, bytes_of, hex_text}
use Rattle.arrow2_script.proofs.HexLemmas.{text-bytes_of}
use Rattle.arrow2_script.proofs.NumberListLemmas.{text-number_list}
use Rattle.arrow2_script.proofs.SpellingLemmas.{is_word, number_word, optional_slot_is_word, bit_word, bits_word, numbers_word, width_is_word, hex_word}
use Rattle.arrow2_script.proofs.WordLemmas.{choice, mapped, decimal-number_of, decimal-slot_of, word-optional_slot_of, decimal-below_of, byte-bit_of, word-width_of, text-bits_of}

-- how a word is read, and the one word by which each value is spelled
pub record Reader (A : Type 0) : Type 1 where
  pub read : List ℕ → Option A
  pub spell : A → List ℕ
  pub Fits : A → Type 0
  pub spelled : (word : List ℕ) (x : A) → read word ≡ Some x → Fits x × (spell x ≡ word)
  pub passes : (x : A) → Fits x → is_word (spell x) ≡ true

abbrev pub slots : Reader ℕ
slots = record { read = slot_of; spell = decimal; Fits = λ n. n < 16; spelled = decimal-slot_of; passes = λ n h. number_word n (omega (arith, h)) }

abbrev pub optional_slots : Reader (Option ℕ)
optional_slots = record { read = optional_slot_of; spell = optional_slot_word; Fits = λ slot. IfSome slot (λ n. n < 16); spelled = word-optional_slot_of; passes = optional_slot_is_word }

abbrev pub numbers : Reader ℕ
numbers = record { read = number_of; spell = decimal; Fits = λ n. n < 2 ^ 64; spelled = decimal-number_of; passes = number_word }

-- a table's number is below a bound that fits 64 bits
abbrev pub tables : (bound : ℕ) → bound ≤ 2 ^ 64 → Reader ℕ
tables bound most = record { read = below_of bound; spell = decimal; Fits = λ n. n < bound; spelled = decimal-below_of bound; passes = λ n h. number_word n (omega (arith, most, h)) }

abbrev pub bits : Reader Bool
bits = record { read = bit_of; spell = λ bit. bit_byte bit ∷ []; Fits = λ bit. Unit {0}; spelled = λ word bit e. (tt, byte-bit_of word bit e); passes = λ bit fits. bit_word bit }

abbrev pub bit_texts : Reader (List Bool)
bit_texts = record { read = bits_of; spell = bits_text; Fits = λ items. Unit {0}; spelled = λ word items e. (tt, text-bits_of word items e); passes = λ items fits. bits_word items }

abbrev pub number_lists : Reader (List ℕ)
number_lists = record { read = number_list; spell = numbers_text; Fits = λ ns. All (λ n. n < 2 ^ 64) ns; spelled = text-number_list; passes = numbers_word }

abbrev pub widths : Reader Width
widths = record { read = width_of; spell = width_word; Fits = λ width. Unit {0}; spelled = λ word width e. (tt, word-width_of word width e); passes = λ width fits. width_is_word width }

abbrev pub hex_bytes : Reader (List ℕ)
hex_bytes = record { read = bytes_of; spell = hex_text; Fits = λ bytes. All (λ b. b < 256) bytes; spelled = text-bytes_of; passes = hex_word }

-- how the words after a name are read, and the words by which each value is spelled
pub record Values (A : Type 0) : Type 1 where
  pub read : List (List ℕ) → Option A
  pub spell : A → List (List ℕ)
  pub Fits : A → Type 0
  pub spelled : (words : List (List ℕ)) (x : A) → read words ≡ Some x → Fits x × (spell x ≡ words)
  pub passes : (x : A) → Fits x → list_all is_word (spell x) ≡ true

pub no_words_spelled : (words : List (List ℕ)) (x : Unit {0}) → no_words words ≡ Some x → Unit {0} × ([] ≡ words)
no_words_spelled [] x e = (tt, refl)
no_words_spelled (word ∷ words) x e = absurd (none-some x e)

abbrev pub no_more : Values (Unit {0})
no_more = record { read = no_words; spell = λ x. []; Fits = λ x. Unit {0}; spelled = no_words_spelled; passes = λ x fits. refl }

-- the parts of a chain that gave a value
bound : {A B : Type 0} (o : Option A) (f : A → Option B) (y : B) → (o >>= f) ≡ Some y → (x : A) × (o ≡ Some x) × (f x ≡ Some y)
bound None f y e = absurd (none-some y e)
bound (Some x) f y e = (x, refl, e)

pub more_spelled : {A B : Type 0} (f : Reader A) (g : Values B) (words : List (List ℕ)) (x : A × B) → (f.read >> g.read) words ≡ Some x → (f.Fits x.0 × g.Fits x.1) × (f.spell x.0 ∷ g.spell x.1 ≡ words)
more_spelled f g [] x e = absurd (none-some x e)
more_spelled f g (word ∷ words) x e =
    let p = bound (f.read word) (λ a. g.read words >>= λ b. Some (a, b)) x e in
    let q = bound (g.read words) (λ b. Some (p.0, b)) x p.2 in
    let s = f.spelled word p.0 p.1 in
    let t = g.spelled words q.0 q.1 in
    let same = same_Some (p.0, q.0) x q.2 in
    rw (← same) ((s.0, t.0), rw (s.1, t.1) refl)

pub more_pass : {A B : Type 0} (f : Reader A) (g : Values B) (x : A × B) → f.Fits x.0 × g.Fits x.1 → list_all is_word (f.spell x.0 ∷ g.spell x.1) ≡ true
more_pass f g x fits = rw (f.passes x.0 fits.0, g.passes x.1 fits.1) refl

abbrev pub more : {A B : Type 0} → Reader A → Values B → Values (A × B)
more f g = record { read = f.read >> g.read; spell = λ x. f.spell x.0 ∷ g.spell x.1; Fits = λ x. f.Fits x.0 × g.Fits x.1; spelled = more_spelled f g; passes = more_pass f g }

-- after this name, the words of a command, which are words
abbrev pub Parses : {C : Type 0} → (C → Type 0) → (C → List (List ℕ)) → List ℕ → List (List ℕ) → C → Type 0
Parses fits words_of name words command = fits command × (name ∷ words ≡ words_of command) × (list_all is_word (name ∷ words) ≡ true)

-- a row of a table of commands: where the test of its name passes, the values after it are a command's; else the next
-- row is one
pub at_row : {A C : Type 0} (Parses : List ℕ → List (List ℕ) → C → Type 0) (known : List ℕ) → is_word known ≡ true → (values : Values A) (made : A → C) → ((x : A) → values.Fits x → list_all is_word (known ∷ values.spell x) ≡ true → Parses known (values.spell x) (made x)) → (words : List (List ℕ)) (name : List ℕ) (command : C) (next : Option C) → (next ≡ Some command → Parses name words command) → cond (bytes_eq name known) (option_map made (values.read words)) next ≡ Some command → Parses name words command
at_row Parses known is values made parses words name command next others e = elim (choice (bytes_eq name known) (option_map made (values.read words)) next (Some command) e) [
  | inl p ↦
      let same = (bytes_eq-Decides name known).0 p.0 in
      let m = mapped made (values.read words) command p.1 in
      let q = values.spelled words m.0 m.1 in
      let pass : list_all is_word (known ∷ values.spell m.0) ≡ true = rw (is, values.passes m.0 q.0) refl in
      rw same (subst (λ c. Parses known words c) m.2 (subst (λ t. Parses known t (made m.0)) q.1 (parses m.0 q.0 pass)))
  | inr p ↦ others p.1
]

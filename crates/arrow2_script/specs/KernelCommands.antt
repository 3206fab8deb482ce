-- The commands that combine bitmaps by truth tables, and how each is spelled.
use Rattle.std.specs.Prelude.{◌<◌, ℕ, List, [], ◌∷◌, codes, Option, None, option_map, if◌then◌else◌, bytes_eq, decimal}
use Rattle.arrow2_script.specs.Arguments.{◌>>◌, no_words}
use Rattle.arrow2_script.specs.Words.{slot_of, below_of, width_of, width_word}
use Rattle.arrow2_script.specs.declared.kernel_command.KernelCommand.{KernelCommand}
use Rattle.arrow2_script.specs.declared.kernel_command.KernelCommand.TheVariants.{Make, AssignUnary, AssignBinary}
use Rattle.arrow2_script.specs.declared.kernel_command.Kernel.{Kernel}
use Rattle.arrow2_script.specs.declared.kernel_command.Kernel.TheVariants.{And, Or, Xor, Not, Unary, Binary, Ternary, Quaternary}

-- the command that the words after a name spell, if it makes a bitmap by a table
unfoldable pub table_command_of : List ℕ → List (List ℕ) → Option KernelCommand
table_command_of name words =
    if bytes_eq name (codes "table1") then option_map (λ p. Make p.0 (Unary p.1.0 p.1.1.0)) ((slot_of >> below_of 4 >> slot_of >> no_words) words)
    else if bytes_eq name (codes "table2") then option_map (λ p. Make p.0 (Binary p.1.0 p.1.1.0 p.1.1.1.0)) ((slot_of >> below_of 16 >> slot_of >> slot_of >> no_words) words)
    else if bytes_eq name (codes "table3") then option_map (λ p. Make p.0 (Ternary p.1.0 p.1.1.0 p.1.1.1.0 p.1.1.1.1.0)) ((slot_of >> below_of 256 >> slot_of >> slot_of >> slot_of >> no_words) words)
    else if bytes_eq name (codes "table4") then option_map (λ p. Make p.0 (Quaternary p.1.0 p.1.1.0 p.1.1.1.0 p.1.1.1.1.0 p.1.1.1.1.1.0)) ((slot_of >> below_of 65536 >> slot_of >> slot_of >> slot_of >> slot_of >> no_words) words)
    else None

-- the command that the words after a name spell, if it makes a bitmap by an operator or a table
unfoldable pub operator_command_of : List ℕ → List (List ℕ) → Option KernelCommand
operator_command_of name words =
    if bytes_eq name (codes "and") then option_map (λ p. Make p.0 (And p.1.0 p.1.1.0)) ((slot_of >> slot_of >> slot_of >> no_words) words)
    else if bytes_eq name (codes "or") then option_map (λ p. Make p.0 (Or p.1.0 p.1.1.0)) ((slot_of >> slot_of >> slot_of >> no_words) words)
    else if bytes_eq name (codes "xor") then option_map (λ p. Make p.0 (Xor p.1.0 p.1.1.0)) ((slot_of >> slot_of >> slot_of >> no_words) words)
    else if bytes_eq name (codes "not") then option_map (λ p. Make p.0 (Not p.1.0)) ((slot_of >> slot_of >> no_words) words)
    else table_command_of name words

-- the command that the words after a name spell, if it combines bitmaps
unfoldable pub kernel_command_of : List ℕ → List (List ℕ) → Option KernelCommand
kernel_command_of name words =
    if bytes_eq name (codes "inplace1") then option_map (λ p. AssignUnary p.0 p.1.0 p.1.1.0) ((slot_of >> below_of 4 >> width_of >> no_words) words)
    else if bytes_eq name (codes "inplace2") then option_map (λ p. AssignBinary p.0 p.1.0 p.1.1.0 p.1.1.1.0) ((slot_of >> below_of 16 >> width_of >> slot_of >> no_words) words)
    else operator_command_of name words

-- the words of a command that makes a bitmap in slot `to`
abbrev pub made_words : ℕ → Kernel → List (List ℕ)
made_words to (And left right) = codes "and" ∷ decimal to ∷ decimal left ∷ decimal right ∷ []
made_words to (Or left right) = codes "or" ∷ decimal to ∷ decimal left ∷ decimal right ∷ []
made_words to (Xor left right) = codes "xor" ∷ decimal to ∷ decimal left ∷ decimal right ∷ []
made_words to (Not from) = codes "not" ∷ decimal to ∷ decimal from ∷ []
made_words to (Unary table from) = codes "table1" ∷ decimal to ∷ decimal table ∷ decimal from ∷ []
made_words to (Binary table first second) = codes "table2" ∷ decimal to ∷ decimal table ∷ decimal first ∷ decimal second ∷ []
made_words to (Ternary table first second third) = codes "table3" ∷ decimal to ∷ decimal table ∷ decimal first ∷ decimal second ∷ decimal third ∷ []
made_words to (Quaternary table first second third fourth) = codes "table4" ∷ decimal to ∷ decimal table ∷ decimal first ∷ decimal second ∷ decimal third ∷ decimal fourth ∷ []

-- the words of a command that combines bitmaps
abbrev pub kernel_words : KernelCommand → List (List ℕ)
kernel_words (Make to kernel) = made_words to kernel
kernel_words (AssignUnary slot table width) = codes "inplace1" ∷ decimal slot ∷ decimal table ∷ width_word width ∷ []
kernel_words (AssignBinary slot table width other) = codes "inplace2" ∷ decimal slot ∷ decimal table ∷ width_word width ∷ decimal other ∷ []

-- slots are below 16, and a table is below 2 to the number of rows that it has
abbrev pub MadeFits : Kernel → Type 0
MadeFits (And left right) = (left < 16) × (right < 16)
MadeFits (Or left right) = (left < 16) × (right < 16)
MadeFits (Xor left right) = (left < 16) × (right < 16)
MadeFits (Not from) = from < 16
MadeFits (Unary table from) = (table < 4) × (from < 16)
MadeFits (Binary table first second) = (table < 16) × (first < 16) × (second < 16)
MadeFits (Ternary table first second third) = (table < 256) × (first < 16) × (second < 16) × (third < 16)
MadeFits (Quaternary table first second third fourth) = (table < 65536) × (first < 16) × (second < 16) × (third < 16) × (fourth < 16)

abbrev pub KernelFits : KernelCommand → Type 0
KernelFits (Make to kernel) = (to < 16) × MadeFits kernel
KernelFits (AssignUnary slot table width) = (slot < 16) × (table < 4)
KernelFits (AssignBinary slot table width other) = (slot < 16) × (table < 16) × (other < 16)

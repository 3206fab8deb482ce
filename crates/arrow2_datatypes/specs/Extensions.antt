-- The extension that metadata names.
use Rattle.std.specs.Prelude.{ℕ, List, Option, codes, option_map, string_bytes}
use Rattle.std.specs.BTreeMap.{get_by_text}
use Rattle.std.specs.declared.collections.BTreeMap.{BTreeMap}
use Rattle.std.specs.declared.string.String.{String}
use Rattle.std.specs.declared.alloc.Global.{Global}

-- a name and perhaps a text, as bytes
abbrev pub texts : Option (String Global × Option (String Global)) → Option (List ℕ × Option (List ℕ))
texts found = option_map (λ (e : String Global × Option (String Global)). (string_bytes e.0, option_map string_bytes e.1)) found

-- the text under the key of the name, with the text under the key of the metadata if there is one; none if there is no
-- name
abbrev pub extension : BTreeMap (String Global) (String Global) Global → Option (List ℕ × Option (List ℕ))
extension metadata = option_map (λ (name : String Global). (string_bytes name, option_map string_bytes (get_by_text metadata (codes "ARROW:extension:metadata")))) (get_by_text metadata (codes "ARROW:extension:name"))

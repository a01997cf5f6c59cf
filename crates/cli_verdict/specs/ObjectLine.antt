-- An object as commands print it. (RFC 8259; that it is a line, and which characters it escapes, is this project's own)
use Rattle.std.specs.Prelude.{◌++◌, ℕ, List, [], ◌∷◌}
use Rattle.std.specs.List.{flat_map}
use Rattle.std.specs.Str.{chars}
use Rattle.serde_json.specs.Data.{Data}
use Rattle.serde_json.specs.Written.{compact_text}
use Rattle.desk_check.specs.FindingJson.{shown_in_json}

-- the text of an object in a line, with each control character in it by its code
abbrev pub object_line : List ℕ → List ℕ
object_line object = flat_map shown_in_json (chars object) ++ 10 ∷ []

-- an object in a line
abbrev pub data_line : Data → List ℕ
data_line value = object_line (compact_text value)

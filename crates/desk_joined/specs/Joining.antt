-- Several texts in one text, each read to its own end, and which of them each line is of. (mountd(8) reads its files one behind another)
use Rattle.std.specs.Prelude.{◌≡◌, ℕ, ◌==◌, ◌++◌, Bool, List, [], ◌∷◌, count_by}
use Rattle.std.specs.List.{flat_map}
use Rattle.std.specs.String.{string_bytes}
use Rattle.desk_origins.specs.Origins.{origin}
use Rattle.desk_origins.specs.declared.origins.Origin.{Origin}
use Rattle.desk_split.specs.Joining.{last_line_end}
use Rattle.desk_joined.specs.declared.joining.Joined.{Joined}
use Rattle.desk_joined.specs.declared.joining.NamedText as code

-- a text, and the path of its file
pub record NamedText : Type 0 where
  pub path : List ℕ
  pub text : List ℕ

abbrev pub bytes_of : code.NamedText → NamedText
bytes_of file = record { path = file.path.now; text = file.text.now }

abbrev pub is_feed : ℕ → Bool
is_feed b = b == 10

-- A text as it stands in the whole: its last line is ended, and an empty line follows, in which a continued last line of it ends.
abbrev pub section : List ℕ → List ℕ
section text = text ++ last_line_end text ++ 10 ∷ []

abbrev pub joined : List NamedText → List ℕ
joined files = flat_map (λ file. section file.text) files

-- the texts that lines are of, of which the first stands behind this much of the whole: a line feed ends each line before
abbrev pub origins_behind : List ℕ → List NamedText → List Origin
origins_behind before [] = []
origins_behind before (file ∷ files) = origin file.path (count_by is_feed before) ∷ origins_behind (before ++ section file.text) files

abbrev pub origins_of : List NamedText → List Origin
origins_of files = origins_behind [] files

-- the texts are joined, and the whole tells of which each line is
pub record IsJoined (files : List NamedText) (whole : Joined) : Type 0 where
  pub text : string_bytes whole.text ≡ joined files
  pub origins : whole.origins ≡ origins_of files

-- a text stands behind those that were joined before
pub record Adds (file : NamedText) (old new : Joined) : Type 0 where
  pub text : string_bytes new.text ≡ string_bytes old.text ++ section file.text
  pub origins : new.origins ≡ old.origins ++ origin file.path (count_by is_feed (string_bytes old.text)) ∷ []

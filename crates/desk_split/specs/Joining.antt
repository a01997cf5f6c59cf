-- How the exports files of file systems are joined into one text, so that it can be split into them again. (this project's own)
use Rattle.std.specs.Prelude.{ℕ, ◌-◌, ◌==◌, ◌||◌, ◌++◌, Bool, List, [], ◌∷◌, codes, length, slice_index, if◌then◌else◌}
use Rattle.std.specs.Fmt.{decimal}
use Rattle.std.specs.List.{flat_map, list_any}
use Rattle.desk_split.specs.Splitting.{line_end}
use Rattle.desk_split.specs.declared.joining.ExportsFile.{ExportsFile}

-- an exports file: its name, the number and the author of its newest revision, and its text
pub record StoredFile : Type 0 where
  pub name : List ℕ
  pub rev : ℕ
  pub author : List ℕ
  pub text : List ℕ

abbrev pub stored_file : ExportsFile → StoredFile
stored_file file = record { name = file.name.now; rev = file.rev; author = file.author.now; text = file.text.now }

-- a line feed stands in a text
abbrev pub has_feed : List ℕ → Bool
has_feed text = list_any (λ b. b == 10) text

-- a comment that tells a revision, as `# exports:/u2 rev 2 (ulf)`
abbrev pub comment : List ℕ → ℕ → List ℕ → List ℕ
comment name rev author = codes "# " ++ name ++ codes " rev " ++ decimal rev ++ codes " (" ++ author ++ codes ")"

abbrev pub told_revision : List ℕ → ℕ → List ℕ → List ℕ
told_revision name rev author = comment name rev author ++ 10 ∷ []

-- The comment line of a file. Without it is a file whose name or author would break the line: what stood behind the line feed
-- would be a line of exports.
abbrev pub comment_line : StoredFile → List ℕ
comment_line file = if has_feed file.name || has_feed file.author then [] else told_revision file.name file.rev file.author

-- the text ends with a line feed
abbrev pub ends_with_feed : List ℕ → Bool
ends_with_feed text = slice_index text (length text - 1) == 10

-- what ends the last line of a text, if it has one and nothing ends it
abbrev pub last_line_end : List ℕ → List ℕ
last_line_end text = if length text == 0 || ends_with_feed text then [] else line_end text

-- A file as it is written: its comment line, its text, whose last line is ended, and an empty line, in which a continued last
-- line of the text ends.
abbrev pub section : StoredFile → List ℕ
section file = comment_line file ++ file.text ++ last_line_end file.text ++ 10 ∷ []

abbrev pub joined : List StoredFile → List ℕ
joined files = flat_map section files

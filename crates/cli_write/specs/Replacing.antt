-- What is told of files that get new texts. (this project's own)
use Rattle.std.specs.Prelude.{◌≡◌, ◌⊎◌, ℕ, ◌++◌, Contains, List, [], ◌∷◌, codes}
use Rattle.std.specs.List.{flat_map}
use Rattle.std.specs.String.{string_bytes}
use Rattle.cli_output.specs.declared.failure.Failure.{Failure}
use Rattle.cli_output.specs.declared.failure.Failure.TheVariants.{Memory, Unwritten}
use Rattle.cli_write.specs.declared.replacing.NewText.{NewText}

-- the name, the path and the text of a file
abbrev pub name_in : NewText → List ℕ
name_in file = file.name.now

abbrev pub path_in : NewText → List ℕ
path_in file = file.path.now

abbrev pub text_in : NewText → List ℕ
text_in file = file.text.now

-- the line of a file that was replaced
abbrev pub written_line : List ℕ → List ℕ
written_line name = codes "written " ++ name ++ 10 ∷ []

-- these are some of the others, in their order
abbrev pub AreAmong : List (List ℕ) → List (List ℕ) → Type 0
AreAmong [] others = Unit {0}
AreAmong (name ∷ names) [] = ⊥
AreAmong (name ∷ names) (other ∷ others) = ((name ≡ other) × AreAmong names others) ⊎ AreAmong (name ∷ names) others

-- The text tells some of these files, in their order. Which of them had other bytes is the system's to say.
abbrev pub TellsWritten : List (List ℕ) → List ℕ → Type 0
TellsWritten names text = (written : List (List ℕ)) × AreAmong written names × (text ≡ flat_map written_line written)

-- the line of this file is told too, or nothing more
abbrev pub MayTell : List ℕ → List ℕ → List ℕ → Type 0
MayTell name old new = (new ≡ old) ⊎ (new ≡ old ++ written_line name)

-- the file at this path cannot be written, or memory ran out
abbrev pub IsUnwritten : List ℕ → Failure → Type 0
IsUnwritten path (Unwritten found error) = string_bytes found ≡ path
IsUnwritten path Memory = Unit {0}
IsUnwritten path failure = ⊥

-- the file at one of these paths cannot be written, or memory ran out
abbrev pub IsUnwrittenIn : List (List ℕ) → Failure → Type 0
IsUnwrittenIn paths (Unwritten found error) = Contains paths (string_bytes found)
IsUnwrittenIn paths Memory = Unit {0}
IsUnwrittenIn paths failure = ⊥

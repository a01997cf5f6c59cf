-- The exports files that are read in turn, as the function that reads them says it. (this project's own)
use Rattle.std.specs.Prelude.{◌≡◌, ◌⊎◌, ◌++◌, ℕ, List, Option, Result, Ok, Err}
use Rattle.desk_joined.specs.declared.joining.Joined.{Joined}
use Rattle.desk_joined.specs.Joining.{Adds, IsJoined, NamedText}
use Rattle.cli_files.specs.Files.{HasText, LacksText, ReadsInTurn}
use Rattle.cli_output.specs.declared.failure.Failure.{Failure}
use Rattle.cli_output.specs.declared.failure.Failure.TheVariants.{Memory}
use Rattle.cli_sources.specs.ExportsFiles.{IsWhole, named_texts}
use Rattle.cli_sources.specs.InTurn.{ReadsTo}
use Rattle.cli_sources.specs.TableFiles.{given_path}

-- a text with the path of its file
abbrev pub first_text : List ℕ × Option (List ℕ) → List ℕ → NamedText
first_text file text = record { path = given_path file; text = text }

-- these files have texts, of which this is the whole, and leave this of the input
pub record IsReadWhole (files : List (List ℕ × Option (List ℕ))) (known left : Option (List ℕ)) (whole : Joined) : Type 0 where
  pub texts : List (List ℕ)
  pub read : ReadsTo files known texts left
  pub are : IsWhole (named_texts files texts) whole

-- the whole of the texts of these files; or why one of them has none, or that memory ran out
abbrev pub ReadsWholeText : List (List ℕ × Option (List ℕ)) → Option (List ℕ) → Option (List ℕ) → Result Joined Failure → Type 0
ReadsWholeText files known left (Ok whole) = IsReadWhole files known left whole
ReadsWholeText files known left (Err failure) = ReadsInTurn files known (Err failure) ⊎ (failure ≡ Memory)

-- The text of this file was added, or it has none, or memory ran out.
abbrev pub AddsOne : List ℕ → List ℕ → Option (List ℕ) → Joined → Joined → Result (Unit {0}) Failure → Type 0
AddsOne argument path known old new (Ok done) = (text : List ℕ) × (HasText argument path known text × Adds (record { path = path; text = text }) old new)
AddsOne argument path known old new (Err failure) = LacksText argument path known failure ⊎ (failure ≡ Memory)

-- The texts of these files were added in turn; or the first without a text has none, or memory ran out.
abbrev pub AddsInTurn : List (List ℕ × Option (List ℕ)) → Option (List ℕ) → Option (List ℕ) → Joined → Joined → Result (Unit {0}) Failure → Type 0
AddsInTurn files known left old new (Ok done) =
    (texts : List (List ℕ)) × (ReadsTo files known texts left × ((before : List NamedText) → IsJoined before old → IsJoined (before ++ named_texts files texts) new))
AddsInTurn files known left old new (Err failure) = ReadsInTurn files known (Err failure) ⊎ (failure ≡ Memory)

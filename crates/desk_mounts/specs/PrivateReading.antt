-- What the private contracts of reading mount points cite.
use Rattle.std.specs.Prelude.{◌≡◌, ◌++◌, ℕ, List, [], Option, Result, Ok, Err}
use Rattle.std.specs.List.{cons_option}
use Rattle.desk_text.specs.Reading.{at_line}
use Rattle.desk_text.specs.declared.reading.LineFault.{LineFault}
use Rattle.desk_text.specs.declared.reading.ReadError.{ReadError}
use Rattle.desk_text.specs.declared.reading.ReadError.TheVariants.{Memory}
use Rattle.desk_mounts.specs.declared.rules.Rule.{Rule}

-- The mount point that a line lists is added to those before it, or its fault is returned.
abbrev pub AddsListed : ℕ → Result (Option (List (List ℕ))) (ReadError Rule) → List (List (List ℕ)) → List (List (List ℕ)) → Result (Unit {0}) (ReadError (LineFault Rule)) → Type 0
AddsListed number (Ok listed) old new (Ok done) = new ≡ old ++ cons_option listed []
AddsListed number (Ok listed) old new (Err error) = error ≡ Memory
AddsListed number (Err error) old new result = result ≡ Err (at_line number error)

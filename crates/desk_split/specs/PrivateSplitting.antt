-- What the private contracts of splitting a text cite.
use Rattle.std.specs.Prelude.{◌≡◌, ℕ, nat_lt, ◌++◌, List, [], Option, Some, None, Result, Ok, Err, length, slice_index_or, slice_set, if◌then◌else◌}
use Rattle.desk_text.specs.Lines.{LogicalLine}
use Rattle.desk_text.specs.declared.reading.LineFault.{LineFault}
use Rattle.desk_text.specs.declared.reading.ReadError.{ReadError}
use Rattle.desk_text.specs.declared.reading.ReadError.TheVariants.{Fault, Memory}
use Rattle.desk_text.specs.Reading.{fault_of}
use Rattle.desk_tables.specs.declared.filesystems.FsId.{FsId}
use Rattle.desk_tables.specs.declared.filesystems.Mount.{Mount}
use Rattle.desk_exports.specs.Files.{answered_line}
use Rattle.desk_split.specs.Splitting.{destination_of, written_line}
use Rattle.desk_exports.specs.declared.rules.Rule.{Rule}

-- the texts, of which the one of this file system, if there is one, goes on with more
abbrev pub with_more : List (List ℕ) → ℕ → List ℕ → List (List ℕ)
with_more texts fs more = if nat_lt fs (length texts) then slice_set texts fs (slice_index_or texts fs [] ++ more) else texts

-- the texts with a line that has this destination
abbrev pub with_line : List (List ℕ) → Result (Option FsId) Rule → LogicalLine → List (List ℕ)
with_line texts (Ok None) line = texts
with_line texts (Ok (Some fs)) line = with_more texts fs.0 (written_line line)
with_line texts (Err rule) line = texts

-- The line was added to the text of its destination, or its fault is returned; out of memory says nothing.
abbrev pub Sends : List Mount → Result (Unit {0}) (ReadError (LineFault Rule)) → List (List ℕ) → List (List ℕ) → LogicalLine → Type 0
Sends table (Ok done) old new line = (fault_of (answered_line (destination_of table) line) ≡ None) × (new ≡ with_line old (destination_of table line) line)
Sends table (Err Memory) old new line = Unit {0}
Sends table (Err (Fault fault)) old new line = fault_of (answered_line (destination_of table) line) ≡ Some fault

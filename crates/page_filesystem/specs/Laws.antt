-- What the definitions of this crate keep. (this project's own)
use Rattle.std.specs.Prelude.{◌≡◌, ◌↔◌, ℕ, ◌<◌, ◌^◌, ◌&&◌, nat_le, false, true, List, Ok, map}
use Rattle.std.specs.List.{list_any}
use Rattle.desk_text.specs.Lines.{logical_lines}
use Rattle.desk_text.specs.Network.{covers}
use Rattle.desk_tables.specs.declared.filesystems.FsId.{FsId}
use Rattle.desk_exports.specs.Files.{text_answer}
use Rattle.desk_exports.specs.Tables.{TableRows}
use Rattle.desk_exports.specs.declared.entry.Entry.{Entry}
use Rattle.desk_exports.specs.declared.files.Scope.{Scope}
use Rattle.page_findings.specs.Lines.{LineValue}
use Rattle.page_filesystem.specs.Counting.{outside_private}
use Rattle.page_filesystem.specs.Notes.{notes_of}
use Rattle.page_filesystem.specs.CountedShares.{private_networks}

-- an address is in one of the ranges outside the private networks
abbrev pub IsOutside : ℕ → Type 0
IsOutside address = list_any (λ range. nat_le range.first address && nat_le address range.last) outside_private ≡ true

-- An address is in one of the ranges outside the private networks exactly if no private network has it.
abbrev pub OutsideIsOutside : Type 0
OutsideIsOutside =
    (address : ℕ) → address < 2 ^ 32 → IsOutside address ↔ (list_any (λ network. covers network address) private_networks ≡ false)

-- If the lines of a file system are those of a text that is read, each logical line of the text has a note, in their order.
abbrev pub EachLineHasANote : Type 0
EachLineHasANote =
    (tables : TableRows) (scope : Scope) (text : List ℕ) (entries : List (FsId × Entry)) (lines : List LineValue)
    → text_answer tables scope text ≡ Ok entries
    → map (λ line. line.row.entry.line) lines ≡ map (λ placed. placed.1.line) entries
    → map (λ note. note.line) (notes_of lines text) ≡ map (λ line. line.number) (logical_lines text)

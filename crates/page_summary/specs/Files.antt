-- The exports files of the file systems: their names, and their lines in force. (this project's own)
use Rattle.std.specs.Prelude.{ℕ, ◌-◌, Bool, List, [], Option, None, Some, map, slice_get, slice_index_or}
use Rattle.std.specs.Borrow.{Bor}
use Rattle.std.specs.List.{list_any}
use Rattle.std.specs.Option.{option_map}
use Rattle.std.specs.Str.{bytes_eq}
use Rattle.std.specs.Str.Lines.{lines}
use Rattle.desk_text.specs.Path.{path_text}
use Rattle.desk_tables.specs.declared.filesystems.Mount.{Mount}
use Rattle.desk_policy.specs.SiteFile.{exports_file_name}
use Rattle.desk_core.specs.Head.{Revision, newest_in}
use Rattle.desk_core.specs.declared.head.Head.{Head}
use Rattle.desk_core.specs.declared.proposal.Proposal.{Proposal}

-- the printed mount point of a file system, and nothing if the table does not have it
abbrev pub printed : Option (List (List ℕ)) → List ℕ
printed None = []
printed (Some mount) = path_text mount

abbrev pub name_of : List Mount → ℕ → List ℕ
name_of table fs = printed (option_map (λ mount. mount.path) (slice_get table fs))

-- the name of the exports file of a mount point, and its newest revision
abbrev pub file_of : Mount → List ℕ
file_of mount = exports_file_name (path_text mount.path)

abbrev pub newest_of : List Head → Mount → Option Revision
newest_of heads mount = newest_in heads (file_of mount)

-- a proposal of a file waits
abbrev pub has_proposal : List Proposal → List ℕ → Bool
has_proposal proposals file = list_any (λ proposal. bytes_eq proposal.file file) proposals

-- the lines in force of a file system: those of the newest revision, and none if there is no revision
abbrev pub lines_by : Option Revision → List (List ℕ)
lines_by None = []
lines_by (Some revision) = lines revision.body

abbrev pub text_in_force : List Head → Mount → List (List ℕ)
text_in_force heads mount = lines_by (newest_of heads mount)

-- the physical line with a number, from 1, of a text and of the text of a file system: an empty one if there is none
abbrev pub line_at : List (List ℕ) → ℕ → List ℕ
line_at text number = slice_index_or text (number - 1) []

abbrev pub line_in : List (List (List ℕ)) → ℕ → ℕ → List ℕ
line_in texts fs number = line_at (slice_index_or texts fs []) number

-- lent lines by value
abbrev pub line_values : List (Bor (List ℕ)) → List (List ℕ)
line_values lines = map (λ line. line.now) lines

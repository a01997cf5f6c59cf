-- How a whole exports text is split into one text for each file system. (this project's own; mountd(8) reads one file for
-- all of them)
use Rattle.std.specs.Prelude.{◌≡◌, ℕ, ◌-◌, ◌<◌, ◌==◌, All, Bool, false, true, List, [], ◌∷◌, ◌++◌, Option, Some, None, Result, Ok, Err, filter, length, map, slice_get, slice_index, slice_index_or, if◌then◌else◌}
use Rattle.std.specs.List.{filter_map, flat_map, range_with_len}
use Rattle.desk_text.specs.Lines.{LogicalLine, PhysicalLine, logical_lines}
use Rattle.desk_text.specs.Reading.{fault_of, unless_fault}
use Rattle.desk_text.specs.Word.{line_words}
use Rattle.desk_text.specs.declared.path.PathFault.{PathFault}
use Rattle.desk_text.specs.declared.reading.LineFault.{LineFault}
use Rattle.desk_text.specs.declared.word.OpenQuote.{OpenQuote}
use Rattle.desk_tables.specs.FileSystems.{fs_of}
use Rattle.desk_tables.specs.declared.filesystems.FsId.{FsId}
use Rattle.desk_tables.specs.declared.filesystems.Mount.{Mount}
use Rattle.desk_exports.specs.Files.{answered_line}
use Rattle.desk_exports.specs.Lines.{read_grammar_line}
use Rattle.desk_exports.specs.declared.grammar.GrammarLine.{GrammarLine}
use Rattle.desk_exports.specs.declared.rules.Rule.{Rule}
use Rattle.desk_exports.specs.declared.rules.Rule.TheVariants as rule

-- the file system that a directory was found in; it has to be in one
abbrev pub if_found : Option ℕ → Result (Option FsId) Rule
if_found None = Err rule.DirectoryElsewhere
if_found (Some place) = Ok (Some (record { 0 = place }))

-- the file system of a first directory, or the rule that it breaks
abbrev pub fs_of_first : List Mount → Option (Result (List (List ℕ)) PathFault) → Result (Option FsId) Rule
fs_of_first table None = Err rule.NotAbsolute
fs_of_first table (Some (Err fault)) = Err rule.BadPath
fs_of_first table (Some (Ok path)) = if_found (fs_of table path)

-- the first file system, if one is listed
abbrev pub first_fs : List Mount → Option FsId
first_fs [] = None
first_fs (mount ∷ table) = Some (record { 0 = 0 })

-- Where a line goes: a `V4:` line to the first file system, or nowhere if none is listed; any other line to the file
-- system of its first directory. Of the rules only StrayComment and those of the first directory are asked.
abbrev pub destination_by : List Mount → GrammarLine → Result (Option FsId) Rule
destination_by table line =
    if line.has_stray_comment then Err rule.StrayComment
    else (if line.is_v4 then Ok (first_fs table) else fs_of_first table (slice_get line.directories 0))

abbrev pub destination_if_read : List Mount → Result GrammarLine OpenQuote → Result (Option FsId) Rule
destination_if_read table (Ok line) = destination_by table line
destination_if_read table (Err quote) = Err rule.OpenQuote

-- the file system that a logical line goes to, if it goes to one, or the first rule that it breaks
abbrev pub destination_of : List Mount → LogicalLine → Result (Option FsId) Rule
destination_of table line = destination_if_read table (read_grammar_line line)

-- this is the destination
abbrev pub is_to : ℕ → Result (Option FsId) Rule → Bool
is_to fs (Ok None) = false
is_to fs (Ok (Some own_fs)) = own_fs.0 == fs
is_to fs (Err rule) = false

-- the lines that go to a file system, in order
abbrev pub lines_to : List Mount → List LogicalLine → ℕ → List LogicalLine
lines_to table lines fs = filter (λ line. is_to fs (destination_of table line)) lines

-- the last byte of a line is a carriage return
abbrev pub ends_with_return : List ℕ → Bool
ends_with_return line = slice_index line (length line - 1) == 13

-- What ends a physical line: a line feed, and behind a carriage return one more before it, since one is dropped when
-- the line is read.
abbrev pub line_end : List ℕ → List ℕ
line_end line = if ends_with_return line then 13 ∷ 10 ∷ [] else 10 ∷ []

abbrev pub written_part : PhysicalLine → List ℕ
written_part part = part.whole ++ line_end part.whole

-- a logical line as it is written: its physical lines, whole
abbrev pub written_line : LogicalLine → List ℕ
written_line line = flat_map written_part line.parts

-- the text of a file system: the lines that go to it
abbrev pub text_to : List Mount → List LogicalLine → ℕ → List ℕ
text_to table lines fs = flat_map written_line (lines_to table lines fs)

-- the texts of all file systems, in the order of the table
abbrev pub texts_to : List Mount → List LogicalLine → List (List ℕ)
texts_to table lines = map (text_to table lines) (range_with_len 0 (length table))

-- what a whole text is split into: a text for each file system; or its first faulty line
abbrev pub split_text : List Mount → List ℕ → Result (List (List ℕ)) (LineFault Rule)
split_text table text =
    unless_fault (filter_map fault_of (map (answered_line (destination_of table)) (logical_lines text))) (texts_to table (logical_lines text))

-- the words of a line as they are written
abbrev pub raw_words : LogicalLine → List (List ℕ)
raw_words line = map (λ word. word.raw) (line_words line)

-- The lines of each text that a whole text is split into have the words of the lines that go to its file system.
abbrev pub SplitKeepsWords : Type 0
SplitKeepsWords =
    (table : List Mount) (text : List ℕ) (texts : List (List ℕ)) (fs : ℕ) → split_text table text ≡ Ok texts → fs < length table
    → map raw_words (logical_lines (slice_index_or texts fs [])) ≡ map raw_words (lines_to table (logical_lines text) fs)

-- a `V4:` line, or one with this first directory, belongs to a file system: the first one of the table, or that of the directory
abbrev pub IsOfItsFirst : List Mount → ℕ → Bool → Option (Result (List (List ℕ)) PathFault) → Type 0
IsOfItsFirst table fs true first = fs ≡ 0
IsOfItsFirst table fs false None = ⊥
IsOfItsFirst table fs false (Some (Err fault)) = ⊥
IsOfItsFirst table fs false (Some (Ok path)) = fs_of table path ≡ Some fs

-- The line belongs to this file system, which is listed.
pub record BelongsTo (table : List Mount) (fs : ℕ) (line : LogicalLine) : Type 0 where
  pub parts : GrammarLine
  pub read : read_grammar_line line ≡ Ok parts
  pub listed : fs < length table
  pub first : IsOfItsFirst table fs parts.is_v4 (slice_get parts.directories 0)

-- a logical line, and the file system to whose text it went
pub record SentLine : Type 0 where
  pub fs : ℕ
  pub line : LogicalLine

-- These are the texts of the file systems, one for each: each logical line of the whole text went to one of them, that of the
-- file system to which it belongs, and the lines of a text are those that went there, in order.
pub record IsSplitInto (table : List Mount) (text : List ℕ) (texts : List (List ℕ)) : Type 0 where
  pub count : length texts ≡ length table
  pub sent : List SentLine
  pub all : map (λ s. s.line) sent ≡ logical_lines text
  pub own : All (λ s. BelongsTo table s.fs s.line) sent
  pub each : (fs : ℕ) → fs < length table → map raw_words (logical_lines (slice_index_or texts fs [])) ≡ map (λ s. raw_words s.line) (filter (λ s. s.fs == fs) sent)

-- A whole text that is split has each line in the text of one file system, that of its first directory. (If no file system is
-- listed, there is no text: `V4:` lines go nowhere, and every other line is faulty.)
abbrev pub SplitSendsEachLineOnce : Type 0
SplitSendsEachLineOnce =
    (table : List Mount) (text : List ℕ) (texts : List (List ℕ)) → 0 < length table → split_text table text ≡ Ok texts → IsSplitInto table text texts

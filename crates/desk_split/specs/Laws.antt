-- What the joined text holds, and what it is split into.
use Rattle.std.specs.Prelude.{◌≡◌, ◌≢◌, ℕ, ◌<◌, ◌==◌, All, List, [], Some, Ok, filter, length, map, slice_index_or}
use Rattle.std.specs.List.{AllPairs, flat_map}
use Rattle.desk_text.specs.Lines.{LogicalLine, logical_lines}
use Rattle.desk_tables.specs.declared.filesystems.Mount.{Mount}
use Rattle.desk_split.specs.Splitting.{destination_of, lines_to, raw_words, split_text}
use Rattle.desk_split.specs.Joining.{StoredFile, joined}

-- the words of the logical lines of a text, line by line
abbrev pub words_in : List ℕ → List (List (List ℕ))
words_in text = map raw_words (logical_lines text)

-- The lines of the joined text have the words of the lines of the texts, in order, and there are no others.
abbrev pub JoinKeepsWords : Type 0
JoinKeepsWords = (files : List StoredFile) → words_in (joined files) ≡ flat_map (λ file. words_in file.text) files

-- the logical lines of the texts, in order
abbrev pub lines_of : List StoredFile → List LogicalLine
lines_of files = flat_map (λ file. logical_lines file.text) files

-- the text can be split: none of its lines is faulty
pub record CanBeSplit (table : List Mount) (text : List ℕ) : Type 0 where
  pub texts : List (List ℕ)
  pub split : split_text table text ≡ Ok texts

-- The joined text is split into texts, one for each file system: each has, line by line, the words of the lines of all files that
-- go to its file system, in order.
pub record AreSentAlike (table : List Mount) (files : List StoredFile) : Type 0 where
  pub texts : List (List ℕ)
  pub split : split_text table (joined files) ≡ Ok texts
  pub each : (fs : ℕ) → fs < length table → words_in (slice_index_or texts fs []) ≡ map raw_words (lines_to table (lines_of files) fs)

-- If the text of each file can be split, the joined text can be, and each line goes where it goes from its own text.
abbrev pub JoinedTextsCanBeSplit : Type 0
JoinedTextsCanBeSplit = (table : List Mount) (files : List StoredFile) → All (λ file. CanBeSplit table file.text) files → AreSentAlike table files

-- a file, and the file system that it is of
pub record OwnFile : Type 0 where
  pub fs : ℕ
  pub file : StoredFile

-- Each line of the file goes to its own file system; so a `V4:` line stands only in the file of the first one.
abbrev pub StaysAtHome : List Mount → OwnFile → Type 0
StaysAtHome table own = All (λ line. destination_of table line ≡ Ok (Some (record { 0 = own.fs }))) (logical_lines own.file.text)

-- The joined text is split into texts, one for each file system, that have, line by line, the words of the files of that file
-- system; so if no other file is of it, those of the one.
pub record ComeBack (table : List Mount) (own : List OwnFile) : Type 0 where
  pub texts : List (List ℕ)
  pub split : split_text table (joined (map (λ o. o.file) own)) ≡ Ok texts
  pub each : (fs : ℕ) → fs < length table → words_in (slice_index_or texts fs []) ≡ flat_map (λ o. words_in o.file.text) (filter (λ o. o.fs == fs) own)
  pub own_words : AllPairs (λ o later. o.fs ≢ later.fs) own → All (λ o. o.fs < length table → words_in (slice_index_or texts o.fs []) ≡ words_in o.file.text) own

-- If each line of the files goes to the file system of its file, the joined text is split into the files again.
abbrev pub EachTextComesBack : Type 0
EachTextComesBack = (table : List Mount) (own : List OwnFile) → All (StaysAtHome table) own → ComeBack table own

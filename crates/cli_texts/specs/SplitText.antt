-- What `split` prints of an exports text and of the text of the file systems. (this project's own)
use Rattle.std.specs.Prelude.{ℕ, List, [], ◌∷◌, ◌++◌, Result, Ok, Err, codes}
use Rattle.desk_text.specs.Path.{path_text}
use Rattle.desk_text.specs.declared.reading.LineFault.{LineFault}
use Rattle.desk_tables.specs.FileSystemsText.{read_filesystems}
use Rattle.desk_tables.specs.Rules.{TableFault}
use Rattle.desk_tables.specs.declared.filesystems.Mount.{Mount}
use Rattle.desk_exports.specs.declared.rules.Rule.{Rule}
use Rattle.desk_split.specs.Splitting.{split_text}
use Rattle.desk_split.specs.declared.split_fault.SplitFault.{SplitFault}
use Rattle.desk_split.specs.declared.split_fault.SplitFault.TheVariants.{FileSystems, Exports}

-- a file system's text behind a line with its mount point
abbrev pub headed_text : Mount → List ℕ → List ℕ
headed_text mount text = codes "== " ++ path_text mount.path ++ 10 ∷ text

-- the text of each file system behind its line, in the order of the table
abbrev pub headed_texts : List Mount → List (List ℕ) → List ℕ
headed_texts (mount ∷ table) (text ∷ texts) = headed_text mount text ++ headed_texts table texts
headed_texts table texts = []

-- the texts that an exports text is split into for these file systems, as they are printed
abbrev pub printed_split : List Mount → Result (List (List ℕ)) (LineFault Rule) → Result (List ℕ) SplitFault
printed_split table (Ok texts) = Ok (headed_texts table texts)
printed_split table (Err fault) = Err (Exports fault)

-- the same for the file systems that a text lists; a fault of that text comes first
abbrev pub split_for : List ℕ → Result (List Mount) TableFault → Result (List ℕ) SplitFault
split_for text (Ok table) = printed_split table (split_text table text)
split_for text (Err fault) = Err (FileSystems fault)

abbrev pub split_answer : List ℕ → List ℕ → Result (List ℕ) SplitFault
split_answer text filesystems = split_for text (read_filesystems filesystems)

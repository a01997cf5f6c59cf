-- Laws of networks, paths, logical lines and words: what their definitions come to.
use Rattle.std.specs.Prelude.{All, ◌≡◌, ◌↔◌, ℕ, ◌+◌, ◌-◌, ◌<◌, ◌≤◌, ◌^◌, ◌==◌, Bool, true, false, IsTrue, Some, List, [], ◌∷◌, ◌++◌, length, take, drop, map, Ok}
use Rattle.std.specs.List.{AllByRecursion, flat_map, list_any}
use Rattle.std.specs.List.Sorted.{IsStrictlyIncreasing}
use Rattle.std.specs.Str.Lines.{lines}
use Rattle.desk_text.specs.Address.{addr_text, read_addr}
use Rattle.desk_text.specs.AddrSet.{is_among, sorted_set}
use Rattle.desk_text.specs.Network.{Block, IsBlock, covers, last_of, mask_of, prefix_of_mask}
use Rattle.desk_text.specs.Path.{IsPath, is_dot_component, longest_path, path_text, read_path}
use Rattle.desk_text.specs.Lines.{AreNumberedUp, PhysicalLine, LogicalLine, groups, is_continued, physical_lines, logical_lines}
use Rattle.desk_text.specs.Word.{Character, Bare, Escaped, Lone, Atom, Single, Quoted, Unclosed, RawWord, atoms, atom_text, is_quote, is_separator, line_words, raw_word, words_at}

-- The physical lines are the lines of the text as std has them, with their places.
abbrev pub PhysicalLinesAreLines : Type 0
PhysicalLinesAreLines = (text : List ℕ) → map (λ part. part.whole) (physical_lines text) ≡ lines text

-- each line of a group but the last is continued, and the last is not
abbrev pub IsClosed : List PhysicalLine → Type 0
IsClosed [] = ⊥
IsClosed (line ∷ []) = is_continued line.whole ≡ false
IsClosed (line ∷ next ∷ lines) = (is_continued line.whole ≡ true) × IsClosed (next ∷ lines)

-- each line of a group but the last is continued
abbrev pub IsGroup : List PhysicalLine → Type 0
IsGroup [] = ⊥
IsGroup (line ∷ []) = Unit {0}
IsGroup (line ∷ next ∷ lines) = (is_continued line.whole ≡ true) × IsGroup (next ∷ lines)

-- each group but the last is closed; the last may end with the text
abbrev pub AreGroups : List (List PhysicalLine) → Type 0
AreGroups [] = Unit {0}
AreGroups (group ∷ []) = IsGroup group
AreGroups (group ∷ next ∷ more) = IsClosed group × AreGroups (next ∷ more)

-- the lines fall into groups in one way, and these are the groups
abbrev pub GroupsAreUnique : Type 0
GroupsAreUnique =
    (lines : List PhysicalLine) (grouping : List (List PhysicalLine))
    → (AreGroups grouping × (flat_map (λ group. group) grouping ≡ lines)) ↔ (grouping ≡ groups lines)

-- The logical lines ascend by their numbers.
abbrev pub LinesAscend : Type 0
LinesAscend = (text : List ℕ) → AreNumberedUp (logical_lines text)

-- The physical lines of a logical line are those of the text from its number on.
abbrev pub LinesAreNumbered : Type 0
LinesAreNumbered =
    (text : List ℕ)
    → All (λ line. take (length line.parts) (drop (line.number - 1) (physical_lines text)) ≡ line.parts) (logical_lines text)

-- a part of a text: its place, and its bytes
pub record Slice : Type 0 where
  pub start : ℕ
  pub bytes : List ℕ

-- each is the slice of the text at its place, and ends before the next one begins; all lie between low and high
abbrev pub AreSlices : List ℕ → ℕ → ℕ → List Slice → Type 0
AreSlices text low high [] = low ≤ high
AreSlices text low high (slice ∷ more) =
    (low ≤ slice.start) × (take (length slice.bytes) (drop slice.start text) ≡ slice.bytes)
    × AreSlices text (slice.start + length slice.bytes) high more

abbrev pub whole_slice : PhysicalLine → Slice
whole_slice part = record { start = part.start; bytes = part.whole }

abbrev pub text_slice : PhysicalLine → Slice
text_slice part = record { start = part.start; bytes = part.text }

abbrev pub raw_slice : RawWord → Slice
raw_slice word = record { start = word.start; bytes = word.raw }

-- the physical lines of logical lines
abbrev pub parts_of : List LogicalLine → List PhysicalLine
parts_of lines = flat_map (λ line. line.parts) lines

-- The physical lines of the logical lines, whole and without their continuations, are slices of the text, in ascending order.
abbrev pub PartsAreSlices : Type 0
PartsAreSlices =
    (text : List ℕ)
    → AreSlices text 0 (length text) (map whole_slice (parts_of (logical_lines text)))
    × AreSlices text 0 (length text) (map text_slice (parts_of (logical_lines text)))

-- The raw words of the logical lines are slices of the text, in ascending order.
abbrev pub WordsAreSlices : Type 0
WordsAreSlices = (text : List ℕ) → AreSlices text 0 (length text) (map raw_slice (flat_map line_words (logical_lines text)))

-- The characters of a quoted run, of which none is a bare quote of its kind. A bare character is not a backslash, and a
-- backslash with nothing after it stands only at the end of a run that does not close.
abbrev pub AreInner : ℕ → Bool → List Character → Type 0
AreInner q closes [] = Unit {0}
AreInner q closes (Bare c ∷ inner) = ((c == q) ≡ false) × ((c == 92) ≡ false) × AreInner q closes inner
AreInner q closes (Escaped c ∷ inner) = AreInner q closes inner
AreInner q closes (Lone ∷ inner) = (closes ≡ false) × (inner ≡ [])

-- Atoms as they may be written: a bare character is neither a backslash nor a quote, a run begins with a quote, and a backslash
-- with nothing after it, or a quote with no end, stands only last.
abbrev pub AreAtoms : List Atom → Type 0
AreAtoms [] = Unit {0}
AreAtoms (Single (Bare c) ∷ more) = ((c == 92) ≡ false) × (is_quote c ≡ false) × AreAtoms more
AreAtoms (Single (Escaped c) ∷ more) = AreAtoms more
AreAtoms (Single Lone ∷ more) = more ≡ []
AreAtoms (Quoted q inner ∷ more) = (is_quote q ≡ true) × AreInner q true inner × AreAtoms more
AreAtoms (Unclosed q inner ∷ more) = (is_quote q ≡ true) × AreInner q false inner × (more ≡ [])

-- A text is written by one list of such atoms, and these are its atoms.
abbrev pub AtomsAreUnique : Type 0
AtomsAreUnique =
    (text : List ℕ) (read : List Atom)
    → (AreAtoms read × (flat_map atom_text read ≡ text)) ↔ (read ≡ atoms text)

-- blanks, and a run of atoms without a blank behind them
pub record Run : Type 0 where
  pub blanks : List Atom
  pub atoms : List Atom

-- The runs are maximal: each has an atom, none of its atoms is a blank, and blanks stand between it and the one before.
abbrev pub AreMaximal : Bool → List Run → Type 0
AreMaximal behind_another [] = Unit {0}
AreMaximal behind_another (run ∷ more) =
    (behind_another ≡ true → 0 < length run.blanks) × AllByRecursion (λ atom. is_separator atom ≡ true) run.blanks
    × (0 < length run.atoms) × AllByRecursion (λ atom. is_separator atom ≡ false) run.atoms × AreMaximal true more

-- the atoms of the runs, and blanks behind them
abbrev pub atoms_in : List Run → List Atom → List Atom
atoms_in runs blanks = flat_map (λ run. run.blanks ++ run.atoms) runs ++ blanks

-- how atoms are written
abbrev pub written : List Atom → List ℕ
written run = flat_map atom_text run

-- the words that the runs write, the first of which begins at start, with its blanks
abbrev pub words_in : ℕ → List Run → List RawWord
words_in start [] = []
words_in start (run ∷ more) =
    raw_word (start + length (written run.blanks)) (written run.atoms)
    ∷ words_in (start + length (written run.blanks) + length (written run.atoms)) more

-- a text falls into these maximal runs
pub record FallsInto (text : List ℕ) (runs : List Run) : Type 0 where
  pub maximal : AreMaximal false runs
  pub blanks : List Atom
  pub blank : AllByRecursion (λ atom. is_separator atom ≡ true) blanks
  pub whole : atoms text ≡ atoms_in runs blanks

-- The words of a text are its maximal runs of atoms without a blank, and the atoms of a word, which give its value, are those
-- of its run.
abbrev pub WordsAreMaximalRuns : Type 0
WordsAreMaximalRuns =
    (start : ℕ) (text : List ℕ) → (runs : List Run) × FallsInto text runs × (words_at start text ≡ words_in start runs)
    × AllByRecursion (λ run. atoms (written run.atoms) ≡ run.atoms) runs

-- Paths that are printed alike have the same components.
abbrev pub PrintedPathsDiffer : Type 0
PrintedPathsDiffer =
    (path other : List (List ℕ)) → IsPath path → IsPath other → path_text path ≡ path_text other → path ≡ other

-- A printed path reads as that path, unless it has a component `.` or `..`, is too long or has a NUL.
abbrev pub PathsReadBack : Type 0
PathsReadBack =
    (path : List (List ℕ)) → IsPath path → list_any is_dot_component path ≡ false
    → length (path_text path) ≤ longest_path → list_any (λ b. b == 0) (path_text path) ≡ false
    → read_path (path_text path) ≡ Ok path

-- The path that a text writes reads back from its printed form.
abbrev pub WrittenPathsReadBack : Type 0
WrittenPathsReadBack = (text : List ℕ) (path : List (List ℕ)) → read_path text ≡ Ok path → read_path (path_text path) ≡ Ok path

-- A printed address reads as that address.
abbrev pub AddrsReadBack : Type 0
AddrsReadBack = (address : ℕ) → address < 2 ^ 32 → read_addr (addr_text address) ≡ Ok address

-- these ascend, each once, and a number is among them exactly if it is one of the given numbers
pub record IsSetOf (numbers set : List ℕ) : Type 0 where
  pub ascend : IsStrictlyIncreasing set
  pub each : (number : ℕ) → is_among number set ≡ is_among number numbers

-- Numbers have one such list, and it is their sorted set.
abbrev pub SortedSetsAreUnique : Type 0
SortedSetsAreUnique = (numbers set : List ℕ) → IsSetOf numbers set ↔ (set ≡ sorted_set numbers)

-- The mask of a prefix reads as that prefix.
abbrev pub MasksReadBack : Type 0
MasksReadBack = (prefix : ℕ) → prefix ≤ 32 → prefix_of_mask (mask_of prefix) ≡ Some prefix

-- A network covers the addresses from its first to its last, and no other.
abbrev pub CoversBetweenFirstAndLast : Type 0
CoversBetweenFirstAndLast =
    (block : Block) → IsBlock block → (address : ℕ)
    → IsTrue (covers block address) ↔ ((block.first ≤ address) × (address ≤ last_of block))

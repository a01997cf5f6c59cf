-- The mount points that a text lists. (mount(8) -p and fstab(5), zfs-mount(8); that the words of a line tell which it is, is this
-- project's own)
use Rattle.std.specs.Prelude.{ℕ, Bool, List, [], ◌∷◌, Option, None, Some, Result, Ok, Err, codes, map, if◌then◌else◌}
use Rattle.std.specs.List.{list_any}
use Rattle.std.specs.Str.{bytes_eq}
use Rattle.desk_text.specs.Lines.{LogicalLine, logical_lines}
use Rattle.desk_text.specs.Path.{read_path}
use Rattle.desk_text.specs.Reading.{AnsweredLine, read_lines}
use Rattle.desk_text.specs.Word.{RawWord, read_words, word_value}
use Rattle.desk_text.specs.declared.path.PathFault.{PathFault}
use Rattle.desk_text.specs.declared.reading.LineFault.{LineFault}
use Rattle.desk_text.specs.declared.word.OpenQuote.{OpenQuote as Unclosed}
use Rattle.desk_mounts.specs.declared.rules.Rule.{Rule}
use Rattle.desk_mounts.specs.declared.rules.Rule.TheVariants.{OpenQuote, Words, Only, Second}

-- the types of file systems that hold no files to be exported: their lines list nothing
abbrev pub left_out : List (List ℕ)
left_out = codes "devfs" ∷ codes "fdescfs" ∷ codes "procfs" ∷ codes "linprocfs" ∷ codes "linsysfs" ∷ codes "autofs" ∷ codes "swap" ∷ []

abbrev pub is_left_out : List ℕ → Bool
is_left_out kind = list_any (bytes_eq kind) left_out

-- the mount point that a word writes; one that is not a path breaks this rule
abbrev pub path_answer : (PathFault → Rule) → Result (List (List ℕ)) PathFault → Result (Option (List (List ℕ))) Rule
path_answer broken (Ok path) = Ok (Some path)
path_answer broken (Err fault) = Err (broken fault)

abbrev pub word_answer : (PathFault → Rule) → List ℕ → Result (Option (List (List ℕ))) Rule
word_answer broken word = path_answer broken (read_path word)

-- the mount point of a line of mount -p, if it is not left out
abbrev pub kept_answer : Bool → List ℕ → Result (Option (List (List ℕ))) Rule
kept_answer is_out word = if is_out then Ok None else word_answer Second word

-- What a line of these words lists: one word is a path; two are a line of zfs mount, a data set and its mount point; four and more are
-- a line of mount -p, a device, its mount point, its type and the rest. Three are none of these.
abbrev pub words_answer : List (List ℕ) → Result (Option (List (List ℕ))) Rule
words_answer [] = Err Words
words_answer (path ∷ []) = word_answer Only path
words_answer (name ∷ path ∷ []) = word_answer Second path
words_answer (name ∷ path ∷ kind ∷ []) = Err Words
words_answer (name ∷ path ∷ kind ∷ rest ∷ more) = kept_answer (is_left_out kind) path

-- the same of the words of a line, if each quote closes
abbrev pub read_answer : Result (List RawWord) Unclosed → Result (Option (List (List ℕ))) Rule
read_answer (Ok words) = words_answer (map (λ word. word_value word.raw) words)
read_answer (Err quote) = Err OpenQuote

abbrev pub line_answer : LogicalLine → Result (Option (List (List ℕ))) Rule
line_answer line = read_answer (read_words line)

abbrev pub answered : LogicalLine → AnsweredLine (List (List ℕ)) Rule
answered line = record { number = line.number; answer = line_answer line }

-- the mount points that a text lists, in the order of its lines; or its first faulty line, and the rule that this breaks
abbrev pub read_mounts : List ℕ → Result (List (List (List ℕ))) (LineFault Rule)
read_mounts text = read_lines (map answered (logical_lines text))

-- Entries have directories.
use Rattle.std.proofs.Common.{◌≡◌, ◌∙◌, ℕ, Bool, true, false, cond, List, [], ◌∷◌, Option, Some, None, Result, Ok, Err, All, filter, map, refl, subst, sym}
use Rattle.std.specs.List.{AllByRecursion}
use Rattle.std.specs.Result.{result_map_both}
use Rattle.std.proofs.lemmas.List.Elements.{All-from_recursion}
use Rattle.desk_text.specs.Lines.{LogicalLine, logical_lines}
use Rattle.desk_text.specs.declared.reading.LineFault.{LineFault}
use Rattle.desk_tables.specs.declared.filesystems.FsId.{FsId}
use Rattle.desk_exports.specs.Entry.{entry_of}
use Rattle.desk_exports.specs.Files.{line_says, text_answer}
use Rattle.desk_exports.specs.Laws.{FileEntriesHaveDirectories, HasDirectory, LineEntriesHaveDirectories, WholeEntriesHaveDirectories, takes_part}
use Rattle.desk_exports.specs.Lines.{unless_broken}
use Rattle.desk_exports.specs.Rules.{first_broken_rule}
use Rattle.desk_exports.specs.Tables.{TableRows}
use Rattle.desk_exports.specs.declared.entry.Entry.{Entry}
use Rattle.desk_exports.specs.declared.files.Scope.{Scope}
use Rattle.desk_exports.specs.declared.files.Scope.TheVariants.{File, Whole}
use Rattle.desk_exports.specs.declared.grammar.GrammarLine.{GrammarLine}
use Rattle.desk_exports.specs.declared.rules.Rule.{Rule}
use Rattle.desk_exports.specs.declared.rules.Rule.TheVariants.{StrayComment}
use Rattle.desk_exports.proofs.SoundLines.{lines_are_sound}
use Rattle.desk_exports.proofs.TextAnswers.{answers_say_what, entries_are_the_answers}

-- ---- a line

module _ (tables : TableRows) (own_fs : Option FsId) (number : ℕ) (line : GrammarLine) (entry : Entry) where
  of_rule : (broken : Option Rule) → first_broken_rule tables own_fs line ≡ broken → unless_broken broken (entry_of tables number line) ≡ Ok (Some entry) → HasDirectory entry
  of_rule (Some rule) first e = absurd (cc)
  of_rule None first e =
      let sound = lines_are_sound tables own_fs number line first in
      let spelled : entry_of tables number line ≡ Some entry = cc in
      let both : Some sound.entry ≡ Some entry = sym sound.spells ∙ spelled in
      let same : sound.entry ≡ entry = cc in
      subst HasDirectory same sound.some

  of_version : (v4 stray : Bool) → cond v4 (cond stray (Err StrayComment) (Ok None)) (unless_broken (first_broken_rule tables own_fs line) (entry_of tables number line)) ≡ Ok (Some entry)
      → HasDirectory entry
  of_version true true e = absurd (cc)
  of_version true false e = absurd (cc)
  of_version false stray e = of_rule (first_broken_rule tables own_fs line) refl e

pub of_lines : LineEntriesHaveDirectories
of_lines tables own_fs number line entry e = of_version tables own_fs number line entry line.is_v4 line.has_stray_comment e

-- ---- a text

module _ (tables : TableRows) (scope : Scope) where
  each_said : (lines : List LogicalLine) (placed : List (FsId × Entry)) → map (line_says tables scope) lines ≡ map (λ one. Ok (Some one)) placed
      → AllByRecursion (λ one. HasDirectory one.1) placed
  each_said [] [] are = tt
  each_said [] (one ∷ more) are = absurd (cc)
  each_said (line ∷ lines) [] are = absurd (cc)
  each_said (line ∷ lines) (one ∷ more) are =
      let first : line_says tables scope line ≡ Ok (Some one) = cc in
      let others : map (line_says tables scope) lines ≡ map (λ one. Ok (Some one)) more = cc in
      ((answers_say_what tables scope line one first).some, each_said lines more others)

  of_text : (text : List ℕ) (placed : List (FsId × Entry)) → text_answer tables scope text ≡ Ok placed → AllByRecursion (λ one. HasDirectory one.1) placed
  of_text text placed e = each_said (filter takes_part (logical_lines text)) placed (entries_are_the_answers tables scope text placed e)

pub of_whole_texts : WholeEntriesHaveDirectories
of_whole_texts tables text placed e = All-from_recursion (λ (one : FsId × Entry). HasDirectory one.1) placed (of_text tables Whole text placed e)

alone : (placed : List (FsId × Entry)) → AllByRecursion (λ one. HasDirectory one.1) placed → AllByRecursion HasDirectory (map (λ one. one.1) placed)
alone [] all = tt
alone (one ∷ more) all = (all.0, alone more all.1)

was_placed : (answer : Result (List (FsId × Entry)) (LineFault Rule)) (entries : List Entry) → result_map_both (map (λ (one : FsId × Entry). one.1)) (λ fault. fault) answer ≡ Ok entries
    → (placed : List (FsId × Entry)) × (answer ≡ Ok placed) × (map (λ (one : FsId × Entry). one.1) placed ≡ entries)
was_placed (Ok placed) entries e = (placed, refl, (cc))
was_placed (Err fault) entries e = absurd (cc)

pub of_files : FileEntriesHaveDirectories
of_files tables own_fs text entries e =
    let read = was_placed (text_answer tables (File own_fs) text) entries e in
    subst (All HasDirectory) read.2 (All-from_recursion HasDirectory (map (λ (one : FsId × Entry). one.1) read.0) (alone read.0 (of_text tables (File own_fs) text read.0 read.1)))

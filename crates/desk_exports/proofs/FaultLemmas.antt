-- Lemmas on the faults of a text.
use Rattle.std.proofs.Common.{◌≡◌, ℕ, ◌+◌, ◌<◌, Bool, true, false, cond, List, ◌++◌, Option, None, Some, Result, Ok, Err, get_or, length, map, take, refl, sym, ap, subst, ◌∙◌}
use Rattle.std.specs.List.{All, IsAmong}
use Rattle.std.specs.Option.{option_zip}
use Rattle.std.specs.Result.{result_map_both}
use Rattle.std.proofs.lemmas.List.{map-append}
use Rattle.std.proofs.lemmas.List.Elements.{All-append}
use Rattle.desk_text.specs.Lines.{LogicalLine, logical_lines}
use Rattle.desk_text.specs.Reading.{fault_at}
use Rattle.desk_text.specs.declared.reading.LineFault.{LineFault}
use Rattle.desk_tables.specs.declared.filesystems.FsId.{FsId}
use Rattle.desk_exports.specs.Entry.{entry_of}
use Rattle.desk_exports.specs.Faults.{IsPlaced}
use Rattle.desk_exports.specs.Files.{answered_line, home_of}
use Rattle.desk_exports.specs.Laws.{faults}
use Rattle.desk_exports.specs.Lines.{unless_broken}
use Rattle.desk_exports.specs.PrivateFaults.{AddsFault, IsFaultOn, words_fault}
use Rattle.desk_exports.specs.PrivateLines.{has_entry}
use Rattle.desk_exports.specs.Rules.{first_broken_rule}
use Rattle.desk_exports.specs.Tables.{TableRows}
use Rattle.desk_exports.specs.declared.entry.Entry.{Entry}
use Rattle.desk_exports.specs.declared.faults.PlacedFault.{PlacedFault}
use Rattle.desk_exports.specs.declared.files.Scope.{Scope}
use Rattle.desk_exports.specs.declared.grammar.GrammarLine.{GrammarLine}
use Rattle.desk_exports.specs.declared.rules.Rule.{Rule}
use Rattle.desk_exports.specs.declared.rules.Rule.TheVariants.{StrayComment}
use Rattle.desk_exports.proofs.FileLemmas.{faults_more}

-- the fault of a line with this number that answers so
abbrev ruled : ℕ → Result Bool Rule → Option (LineFault Rule)
ruled number (Ok value) = None
ruled number (Err rule) = Some (record { line = number; rule = rule })

-- the fault of a line is what its rules alone say
by_rules : (number : ℕ) (home : Option FsId) (v4 stray : Bool) (broken : Option Rule) (entry : Option Entry)
    → fault_at {X = FsId × Entry} number (result_map_both (option_zip home) (λ rule. rule) (cond v4 (cond stray (Err StrayComment) (Ok None)) (unless_broken broken entry)))
    ≡ ruled number (cond v4 (cond stray (Err StrayComment) (Ok false)) (unless_broken broken true))
by_rules number home true true broken entry = refl
by_rules number home true false broken entry = refl
by_rules number home false stray None entry = refl
by_rules number home false stray (Some rule) entry = refl

pub fault_by_rules : (tables : TableRows) (scope : Scope) (number : ℕ) (line : GrammarLine) (home : Option FsId) (answer : Result Bool Rule)
    → home ≡ home_of tables scope line → answer ≡ has_entry tables home line → ruled number answer ≡ words_fault tables scope number line
fault_by_rules tables scope number line home answer read_for is =
    ap (ruled number) (is ∙ ap (λ fs. has_entry tables fs line) read_for)
    ∙ sym (by_rules number (home_of tables scope line) line.is_v4 line.has_stray_comment (first_broken_rule tables (home_of tables scope line) line) (entry_of tables number line))

module _ (answer : LogicalLine → Result (Option (FsId × Entry)) Rule) (ls : List LogicalLine) (i : ℕ) (x : LogicalLine) (old new : List PlacedFault)
    (below : i < length ls) (is : x ≡ get_or ls i x) (adds : AddsFault old new x (answered_line answer x)) where
  -- the faults of one more line
  pub more_faults : map (λ (one : PlacedFault). one.fault) old ≡ faults answer (take i ls) → map (λ (one : PlacedFault). one.fault) new ≡ faults answer (take (i + 1) ls)
  more_faults so_far =
      ap (map (λ (one : PlacedFault). one.fault)) adds.are ∙ map-append (λ (one : PlacedFault). one.fault) old adds.added
      ∙ ap (λ fs. fs ++ map (λ (one : PlacedFault). one.fault) adds.added) so_far
      ∙ ap (λ fs. faults answer (take i ls) ++ fs) adds.fault
      ∙ sym (faults_more answer ls i x below is)

  pub more_placed : (text : List ℕ) → ls ≡ logical_lines text → All (IsPlaced text) old → All (IsPlaced text) new
  more_placed text all so_far = subst (All (IsPlaced text)) (sym adds.are) (All-append (IsPlaced text) old adds.added so_far (λ k d lt. here (get_or adds.added k d) (adds.placed k d lt)))
    where
      among : IsAmong (logical_lines text) x
      among = subst (λ lines. IsAmong lines x) all (i, (below, is))

      here : (one : PlacedFault) → IsFaultOn x one → IsPlaced text one
      here one on = record { line = x; among = among; number = on.number; own = on.place.own text among; lies = on.place.lies text among }

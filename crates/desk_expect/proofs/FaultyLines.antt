-- All faults of a text of expectations, line by line.
use Rattle.std.proofs.Common.{◌≡◌, ◌↔◌, ◌∙◌, ℕ, ◌+◌, ◌<◌, ◌++◌, ◌∷◌, List, [], Option, Some, None, Result, Ok, Err, ap, get_or, length, map, subst, sym, take}
use Rattle.std.specs.Prelude.{slice_get}
use Rattle.std.specs.List.{All, IsAmong, cons_option, filter_map}
use Rattle.std.proofs.lemmas.List.{map-append, map_more}
use Rattle.std.proofs.lemmas.List.Elements.{All-append, filter_map-append}
use Rattle.desk_text.specs.Lines.{LogicalLine, logical_lines}
use Rattle.desk_text.specs.Reading.{fault_at, fault_of, unless_fault, value_of}
use Rattle.desk_text.specs.declared.reading.LineFault.{LineFault}
use Rattle.desk_tables.specs.declared.hosts.HostRow.{HostRow}
use Rattle.desk_netgroup.specs.declared.group_line.GroupLine.{GroupLine}
use Rattle.desk_expect.specs.Expectation.{Promise}
use Rattle.desk_expect.specs.FaultyLines.{FirstOfFaultsIsReported, IsPlaced, faults_of, text_faults}
use Rattle.desk_expect.specs.PrivateFaultyLines.{AddsFault, IsFaultOn}
use Rattle.desk_expect.specs.Reading.{answered, line_answer}
use Rattle.desk_expect.specs.declared.rules.PlacedFault.{PlacedFault}
use Rattle.desk_expect.specs.declared.rules.Rule.{Rule}

module _ (netgroups : List GroupLine) (hosts : List HostRow) (ls : List LogicalLine) (i : ℕ) (x : LogicalLine) (old new : List PlacedFault)
    (below : i < length ls) (is : x ≡ get_or ls i x) (adds : AddsFault netgroups hosts x old new) where
  -- the faults of one more line
  faults_more : faults_of netgroups hosts (take (i + 1) ls) ≡ faults_of netgroups hosts (take i ls) ++ cons_option (fault_of (answered netgroups hosts x)) []
  faults_more =
      ap (filter_map fault_of) (map_more (answered netgroups hosts) ls i x below)
      ∙ filter_map-append fault_of (map (answered netgroups hosts) (take i ls)) (answered netgroups hosts (get_or ls i x) ∷ [])
      ∙ ap (λ (l : LogicalLine). faults_of netgroups hosts (take i ls) ++ cons_option (fault_of (answered netgroups hosts l)) []) (sym is)

  pub more_faults : map (λ (one : PlacedFault). one.fault) old ≡ faults_of netgroups hosts (take i ls) → map (λ (one : PlacedFault). one.fault) new ≡ faults_of netgroups hosts (take (i + 1) ls)
  more_faults so_far =
      ap (map (λ (one : PlacedFault). one.fault)) adds.are ∙ map-append (λ (one : PlacedFault). one.fault) old adds.added
      ∙ ap (λ fs. fs ++ map (λ (one : PlacedFault). one.fault) adds.added) so_far
      ∙ ap (λ fs. faults_of netgroups hosts (take i ls) ++ fs) adds.fault
      ∙ sym faults_more

  pub more_placed : (text : List ℕ) → ls ≡ logical_lines text → All (IsPlaced netgroups hosts text) old → All (IsPlaced netgroups hosts text) new
  more_placed text all so_far =
      subst (All (IsPlaced netgroups hosts text)) (sym adds.are)
      (All-append (IsPlaced netgroups hosts text) old adds.added so_far (λ k d lt. here (get_or adds.added k d) (adds.placed k d lt)))
    where
      among : IsAmong (logical_lines text) x
      among = subst (λ lines. IsAmong lines x) all (i, (below, is))

      here : (one : PlacedFault) → IsFaultOn netgroups hosts x one → IsPlaced netgroups hosts text one
      here one on = record { line = x; among = among; number = on.number; own = on.own text among; lies = on.lies text among; word = on.word }

-- ---- the fault of a line by its answer
pub fault_if : (netgroups : List GroupLine) (hosts : List HostRow) (line : LogicalLine) (rule : Rule) (fault : LineFault Rule) → line_answer netgroups hosts line ≡ Err rule
    → fault ≡ record { line = line.number; rule = rule } → Some fault ≡ fault_of (answered netgroups hosts line)
fault_if netgroups hosts line rule fault bad is = ap (λ (f : LineFault Rule). Some f) is ∙ sym (ap (λ (r : Result (Option Promise) Rule). fault_at line.number r) bad)

pub none_if : (netgroups : List GroupLine) (hosts : List HostRow) (line : LogicalLine) (promise : Promise) → line_answer netgroups hosts line ≡ Ok (Some promise)
    → None ≡ fault_of (answered netgroups hosts line)
none_if netgroups hosts line promise good = sym (ap (λ (r : Result (Option Promise) Rule). fault_at line.number r) good)

-- ---- a text is refused with the first of its faults
refused : (faults : List (LineFault Rule)) (promises : List Promise) (fault : LineFault Rule) → (unless_fault faults promises ≡ Err fault) ↔ (slice_get faults 0 ≡ Some fault)
refused [] promises fault = (λ h. absurd (cc), λ h. absurd (cc))
refused (first ∷ more) promises fault = (λ h. let same : first ≡ fault = cc in ap Some same, λ h. let same : first ≡ fault = cc in ap Err same)

pub first_of_faults : FirstOfFaultsIsReported
first_of_faults netgroups hosts text fault = refused (text_faults netgroups hosts text) (filter_map value_of (map (answered netgroups hosts) (logical_lines text))) fault

use Rattle.std.proofs.Common.{◌≡◌, ◌∙◌, ◌++◌, ◌∷◌, [], ℕ, List, None, Some, Ok, ap, map, subst, sym}
use Rattle.std.proofs.lemmas.List.{take_all}
use Rattle.std.proofs.lemmas.List.Elements.{All-push}
use Rattle.std.specs.List.{All, IsAmong}
use Rattle.desk_text.specs.Lines.{LogicalLine, logical_lines}
use Rattle.desk_netgroup.specs.Faults.{IsPlaced, fault_on}
use Rattle.desk_netgroup.specs.GroupLine.{group_on}
use Rattle.desk_netgroup.specs.Netgroups.{faults_after, unless_fault}
use Rattle.desk_netgroup.specs.declared.faults.GroupFault.{GroupFault}
use Rattle.desk_netgroup.specs.declared.faults.PlacedFault.{PlacedFault}
use Rattle.desk_netgroup.specs.declared.group_line.GroupLine.{GroupLine}
use Rattle.desk_netgroup.proofs.FaultLemmas.{faulty_faults, faulty_groups, good_faults, good_groups, numbered_fault, told_fault, told_group}
use Rattle.desk_netgroup.proofs.FileLemmas.{fault_is, no_fault, value_is}
use Rattle.desk_netgroup.proofs.netgroups.Netgroups.faults.Goals as goal
use Rattle.desk_netgroup.proofs.netgroups.Netgroups.faults.Goals.{in-Ok+in_ok-groups-in-Ok, in-Err+in_ok-with_place-in-Err+in_ok-push-in-Err}

pub loop-line-preserved : goal.loop-line-preserved
loop-line-preserved c =
    let ls : List LogicalLine = c.deref-line-items.result.now in
    let i : ℕ = c.loop-line.line-index in
    let x : LogicalLine = c.line-item.result in
    let earlier : List GroupLine = c.loop-line.groups in
    let text : ls ≡ logical_lines c.args.text.now = c.deref-line-items.ensures.value ∙ c.in_ok-lines.ensures.lines in
    elim c.match-branch-3.branch [
      | in-Ok+in_ok-groups-in-Ok w ↦
          let told : unless_fault (group_on x) (fault_on earlier x) ≡ Ok (Some w.in-Ok.group) =
          told_group c.read_line.result _ w.in-Ok.group (sym c.split.ensures ∙ c.in_ok-group.was ∙ ap Ok w.in-Ok.is) c.read_line.ensures in
          let good : fault_on earlier x ≡ None = no_fault (group_on x) (Some w.in-Ok.group) (fault_on earlier x) told in
          let read : group_on x ≡ Some w.in-Ok.group = value_is (group_on x) (Some w.in-Ok.group) (fault_on earlier x) told in
          record {
            faults = ap (map (λ (one : PlacedFault). one.fault)) w.found-is ∙ good_faults ls i x c.loop-line-test.true c.line-item.is earlier c.loop-line.invariant.groups w.in-Ok.group good read _ c.loop-line.invariant.faults;
            groups = good_groups ls i x c.loop-line-test.true c.line-item.is earlier c.loop-line.invariant.groups w.in-Ok.group good read _ (w.groups-is ∙ w.in_ok-groups-in-Ok.ensures);
            placed = subst (All (IsPlaced c.args.text.now)) (sym w.found-is) c.loop-line.invariant.placed;
          }
      | in-Err+in_ok-with_place-in-Err+in_ok-push-in-Err w ↦
          let fault : GroupFault = w.in-Err.fault in
          let one : PlacedFault = w.in_ok-with_place-in-Err.field-0 in
          let told : fault_on earlier x ≡ Some fault =
          fault_is (group_on x) (fault_on earlier x) fault (told_fault c.read_line.result _ fault (sym c.split.ensures ∙ c.in_ok-group.was ∙ ap Ok w.in-Err.is) c.read_line.ensures) in
          let new : c.match-branch-3.found ≡ c.loop-line.found ++ one ∷ [] = w.found-is ∙ w.in_ok-push-in-Err.ensures.added in
          let among : IsAmong (logical_lines c.args.text.now) x = subst (λ lines. IsAmong lines x) text (i, (c.loop-line-test.true, c.line-item.is)) in
          let placed : IsPlaced c.args.text.now one =
          record {
            line = x;
            among = among;
            number = ap (λ (f : GroupFault). f.line) w.in_ok-with_place-in-Err.ensures.fault ∙ numbered_fault earlier x fault told;
            own = w.in_ok-with_place-in-Err.ensures.own c.args.text.now among;
            lies = w.in_ok-with_place-in-Err.ensures.lies c.args.text.now among;
          } in
          record {
            faults = faulty_faults ls i x c.loop-line-test.true c.line-item.is earlier c.loop-line.invariant.groups fault told c.loop-line.found _ one w.in_ok-with_place-in-Err.ensures.fault new c.loop-line.invariant.faults;
            groups = w.groups-is ∙ faulty_groups ls i x c.loop-line-test.true c.line-item.is earlier c.loop-line.invariant.groups fault told;
            placed = subst (All (IsPlaced c.args.text.now)) (sym new) (All-push (IsPlaced c.args.text.now) c.loop-line.found one c.loop-line.invariant.placed placed);
          }
    ]

pub returns-clause-faults : goal.returns-clause-faults
returns-clause-faults c =
    let ls : List LogicalLine = c.deref-line-items.result.now in
    let text : ls ≡ logical_lines c.args.text.now = c.deref-line-items.ensures.value ∙ c.in_ok-lines.ensures.lines in
    c.loop-line.invariant.faults ∙ ap (faults_after []) (take_all c.loop-line.line-index ls c.loop-line-test.false ∙ text)

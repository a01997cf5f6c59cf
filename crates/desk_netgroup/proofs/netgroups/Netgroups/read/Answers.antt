use Rattle.std.proofs.Common.{◌≡◌, ◌∙◌, ◌++◌, ◌∷◌, [], ℕ, List, Err, None, Ok, Some, Result, ap, subst, sym, take}
use Rattle.std.proofs.lemmas.List.{take_all}
use Rattle.std.proofs.lemmas.Result.{err_from_is_err_and}
use Rattle.desk_text.specs.Lines.{LogicalLine, logical_lines}
use Rattle.desk_text.specs.Reading.{Reads, ReadsAs}
use Rattle.desk_text.specs.declared.reading.ReadError.{ReadError}
use Rattle.desk_netgroup.specs.Faults.{fault_on}
use Rattle.desk_netgroup.specs.GroupLine.{group_on, groups_on}
use Rattle.desk_netgroup.specs.Netgroups.{first_fault, unless_fault}
use Rattle.desk_netgroup.specs.declared.faults.GroupFault.{GroupFault}
use Rattle.desk_netgroup.specs.declared.group_line.GroupLine.{GroupLine}
use Rattle.desk_netgroup.proofs.FileLemmas.{exit, groups_more, no_fault, sound_more, value_is}
use Rattle.desk_netgroup.proofs.netgroups.Netgroups.read.Goals as goal

abbrev whole : List LogicalLine → Result (List GroupLine) GroupFault
whole lines = unless_fault (groups_on lines) (first_fault [] lines)

pub returns-in_err-group : goal.returns-in_err-group
returns-in_err-group c =
    let ls : List LogicalLine = c.deref-line-items.result.now in
    let i : ℕ = c.loop-line.line-index in
    let x : LogicalLine = c.line-item.result in
    let earlier : List GroupLine = c.loop-line.groups in
    let text : ls ≡ logical_lines c.args.text.now = c.deref-line-items.ensures.value ∙ c.in_ok-lines.ensures.lines in
    let R : Result GroupLine (ReadError GroupFault) → Type 0 = λ r. ReadsAs (λ group. Some group) r (unless_fault (group_on x) (fault_on earlier x)) in
    let P : List LogicalLine → Type 0 = λ lines. Reads {X = List GroupLine} (Err c.in_err-group.field-0.0) (whole lines) in
    let p = err_from_is_err_and c.from_residual-in_err-group.result c.from_residual-in_err-group.ensures.1 in
    rw (p.1, p.2) (subst P text (exit ls i x c.loop-line-test.true c.line-item.is earlier c.in_err-group.field-0.0 c.loop-line.invariant.read c.loop-line.invariant.sound (subst R c.in_err-group.was c.read_line.ensures)))

pub loop-line-preserved : goal.loop-line-preserved
loop-line-preserved c =
    let ls : List LogicalLine = c.deref-line-items.result.now in
    let i : ℕ = c.loop-line.line-index in
    let x : LogicalLine = c.line-item.result in
    let earlier : List GroupLine = c.loop-line.groups in
    let R : Result GroupLine (ReadError GroupFault) → Type 0 = λ r. ReadsAs (λ group. Some group) r (unless_fault (group_on x) (fault_on earlier x)) in
    let told : unless_fault (group_on x) (fault_on earlier x) ≡ Ok (Some c.in_ok-group.group) = subst R c.in_ok-group.was c.read_line.ensures in
    let good : fault_on (groups_on (take i ls)) x ≡ None =
    ap (λ groups. fault_on groups x) (sym c.loop-line.invariant.read) ∙ no_fault (group_on x) (Some c.in_ok-group.group) (fault_on earlier x) told in
    let value : group_on x ≡ Some c.in_ok-group.group = value_is (group_on x) (Some c.in_ok-group.group) (fault_on earlier x) told in
    record {
      sound = sound_more ls i x c.loop-line-test.true c.line-item.is c.loop-line.invariant.sound good;
      read = c.in_ok-groups.ensures ∙ ap (λ groups. groups ++ c.in_ok-group.group ∷ []) c.loop-line.invariant.read ∙ sym (groups_more ls i x c.loop-line-test.true c.line-item.is c.in_ok-group.group value);
    }

pub returns : goal.returns
returns c =
    let ls : List LogicalLine = c.deref-line-items.result.now in
    let text : ls ≡ logical_lines c.args.text.now = c.deref-line-items.ensures.value ∙ c.in_ok-lines.ensures.lines in
    let all : take c.loop-line.line-index ls ≡ ls = take_all c.loop-line.line-index ls c.loop-line-test.false in
    ap whole (sym text) ∙ ap (unless_fault (groups_on ls)) (ap (first_fault []) (sym all) ∙ c.loop-line.invariant.sound)
    ∙ ap Ok (ap groups_on (sym all) ∙ sym c.loop-line.invariant.read)

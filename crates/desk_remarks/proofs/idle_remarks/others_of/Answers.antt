-- One more line is gathered.
use Rattle.std.proofs.Common.{◌≡◌, ◌∙◌, ◌||◌, ap, cond, eqb, nat_cmp, sym, take, true}
use Rattle.std.specs.BTreeSet.{contains}
use Rattle.std.proofs.lemmas.List.Folds.{list_any_more}
use Rattle.desk_server.specs.declared.wider_grant.WiderGrant.{WiderGrant}
use Rattle.desk_remarks.specs.Remarks.{grants_more}
use Rattle.desk_remarks.proofs.Inserted.{either, same_key}
use Rattle.desk_remarks.proofs.idle_remarks.others_of.Goals as goal

pub loop-one-preserved : goal.loop-one-preserved
loop-one-preserved c = λ line.
    let wider = c.args.wider.now in
    let i = c.loop-one.one-index in
    let one = c.one-item.result in
    c.in_ok-insert.ensures.updates.0 line
    ∙ ap (λ b. cond b true (contains nat_cmp c.loop-one.others line)) (same_key one.other line)
    ∙ either (eqb one.other line) (contains nat_cmp c.loop-one.others line)
    ∙ ap (λ b. b || eqb one.other line) (c.loop-one.invariant line)
    ∙ ap (λ (each : WiderGrant). grants_more (take i wider) line || eqb each.other line) c.one-item.is
    ∙ sym (list_any_more (λ (each : WiderGrant). eqb each.other line) wider i one c.loop-one-test.true)

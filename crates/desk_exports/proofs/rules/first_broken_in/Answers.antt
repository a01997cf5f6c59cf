use Rattle.std.proofs.Common.{◌∙◌, ap, map, refl, sym}
use Rattle.std.specs.Prelude.{find}
use Rattle.std.proofs.lemmas.List.{take_all}
use Rattle.desk_exports.specs.PrivateRules.{asked, group_of}
use Rattle.desk_exports.specs.Rules.{breaks}
use Rattle.desk_exports.specs.Tables.{table_rows}
use Rattle.desk_exports.proofs.RulesAsked.{found_next, none_found_if, none_next, skipped}
use Rattle.desk_exports.proofs.rules.first_broken_in.Goals as goal
use Rattle.desk_exports.proofs.rules.first_broken_in.Goals.{then-is_had+else-is_some, else-is_had}

pub loop-group-init : goal.loop-group-init
loop-group-init c = refl

pub returns-then-is_some : goal.returns-then-is_some
returns-then-is_some c =
    found_next (breaks (table_rows c.args.tables.now) c.args.own_fs c.args.line.now) c.args.has c.args.groups.now c.loop-group.group-index _ c.loop-group-test.true
    c.first_broken_of-broken.result c.loop-group.invariant (sym c.is_had.ensures ∙ c.if-is_had.true) c.first_broken_of-broken.ensures (sym c.is_some.ensures ∙ c.if-is_some.true)

pub loop-group-preserved : goal.loop-group-preserved
loop-group-preserved c =
    let p = breaks (table_rows c.args.tables.now) c.args.own_fs c.args.line.now in
    elim c.if-is_had.branch [
      | then-is_had+else-is_some w ↦
          none_next p c.args.has c.args.groups.now c.loop-group.group-index _ c.loop-group-test.true c.loop-group.invariant (sym c.is_had.ensures ∙ w.if-is_had.true)
          (sym w.first_broken_of-broken.ensures ∙ none_found_if _ (sym w.is_some.ensures ∙ w.if-is_some.false))
      | else-is_had w ↦ skipped p c.args.has c.args.groups.now c.loop-group.group-index _ c.loop-group-test.true c.loop-group.invariant (sym c.is_had.ensures ∙ w.if-is_had.false)
    ]

pub returns : goal.returns
returns c =
    sym (ap (λ groups. find (breaks (table_rows c.args.tables.now) c.args.own_fs c.args.line.now) (asked c.args.has (map group_of groups))) (sym (take_all c.loop-group.group-index c.args.groups.now c.loop-group-test.false))
    ∙ c.loop-group.invariant)

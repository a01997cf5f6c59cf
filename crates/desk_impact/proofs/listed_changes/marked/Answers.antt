use Rattle.std.proofs.Common.{map, subst}
use Rattle.std.proofs.lemmas.List.{take_all}
use Rattle.desk_impact.specs.Impact.{change_value}
use Rattle.desk_impact.specs.ListedChanges.{listed_change}
use Rattle.desk_impact.specs.PrivateListedChanges.{AreMarked}
use Rattle.desk_impact.proofs.Listing.{next_marked, none_marked}
use Rattle.desk_impact.proofs.listed_changes.marked.Goals as goal

pub loop-change-init : goal.loop-change-init
loop-change-init c = none_marked c.new-listed.result.items c.new-listed.ensures.items

pub loop-change-preserved : goal.loop-change-preserved
loop-change-preserved c =
    next_marked c.args.changes.now c.loop-change.change-index c.change-item.result c.loop-change-test.true c.change-item.is
    c.loop-change.listed.items c.push.new.self.items c.matters.result c.in_ok-push.ensures.items c.matters.ensures c.loop-change.invariant

pub returns : goal.returns
returns c =
    subst (λ changes. AreMarked (map change_value changes) (map listed_change c.loop-change.listed.items)) (take_all c.loop-change.change-index c.args.changes.now c.loop-change-test.false)
    c.loop-change.invariant

use Rattle.std.proofs.Common.{◌∙◌}
use Rattle.desk_policy.proofs.ShownLines.{shown_of_greatest, shown_of_none}
use Rattle.desk_policy.proofs.listings.shown_of_system.Goals as goal

pub returns-in_default : goal.returns-in_default
returns-in_default c = shown_of_none c.args.policy.now c.args.fs.0 c.args.address.number c.rows.result.now c.rows.ensures c.in_default.ensures

pub returns : goal.returns
returns c = c.in_ok-shown.ensures ∙ shown_of_greatest c.args.policy.now c.args.fs.0 c.args.address.number c.rows.result.now c.rows.ensures c.in-Some.weight c.in-Some.ensures

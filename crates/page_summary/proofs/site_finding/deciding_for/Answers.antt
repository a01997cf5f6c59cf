use Rattle.std.proofs.Common.{◌≤◌, ◌∙◌, length}
use Rattle.page_summary.proofs.Looking.{none_told, own_ascend, own_told}
use Rattle.page_summary.proofs.site_finding.deciding_for.Goals as goal

pub of_line-requires : goal.of_line-requires
of_line-requires c =
    let there = c.in-Some.ensures.lookup in
    own_ascend c.args.deciding.now c.args.fs.0 c.in-Some.own.now there.3.0 there.1 c.requires

pub returns-in-Some : goal.returns-in-Some
returns-in-Some c =
    let there = c.in-Some.ensures.lookup in
    c.of_line.ensures ∙ own_told c.args.deciding.now c.args.fs.0 c.in-Some.own.now c.args.line there.3.0 there.1

pub returns-in-None : goal.returns-in-None
returns-in-None c =
    let past : length c.args.deciding.now ≤ c.args.fs.0 = (rw c.in-None.is at c.get.ensures.lookup).3 in
    none_told c.args.deciding.now c.args.fs.0 c.args.line past

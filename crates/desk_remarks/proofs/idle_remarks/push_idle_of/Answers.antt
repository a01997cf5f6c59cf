-- The lines that may grant are those that are gathered.
use Rattle.std.proofs.Common.{◌≡◌, ◌∙◌, ◌++◌, ◌∷◌, [], List, ap, filter}
use Rattle.std.specs.List.{flat_map}
use Rattle.desk_idle.specs.declared.idle.Idle.{Idle}
use Rattle.desk_remarks.specs.PrivateUnwarnedLines.{is_outside}
use Rattle.desk_remarks.specs.Remarks.{idle_remark, idle_remark_if}
use Rattle.desk_remarks.specs.declared.remark.LineRemark.{LineRemark}
use Rattle.desk_remarks.proofs.Kept.{filter_each_one}
use Rattle.desk_remarks.proofs.idle_remarks.push_idle_of.Goals as goal

pub returns : goal.returns
returns c =
    let kept : List LineRemark → List LineRemark = filter (is_outside c.args.warned.now) in
    let idle = c.args.idle.now in
    let has = c.in_ok-others.ensures in
    c.in_ok-push_each.ensures
    ∙ ap (λ l. c.args.found.now ++ l)
    ((λ i. flat_map (λ (one : Idle). kept (idle_remark_if (has one.line i) one ∷ [])) idle)
    ∙ filter_each_one (is_outside c.args.warned.now) (idle_remark c.args.wider.now) idle)

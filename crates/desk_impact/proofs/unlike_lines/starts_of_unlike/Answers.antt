use Rattle.std.proofs.Common.{Bor, IfOk, map, subst}
use Rattle.std.proofs.lemmas.Result.{IfOk-weaker}
use Rattle.desk_policy.specs.declared.row.Row.{Row}
use Rattle.desk_who.specs.MostlySame.{AreStartsWithin}
use Rattle.desk_impact.specs.PrivateUnlikeLines.{AreStartsOfUnlike}
use Rattle.desk_impact.proofs.unlike_lines.starts_of_unlike.Goals as goal

pub starts_within-requires : goal.starts_within-requires
starts_within-requires c = c.requires

pub returns : goal.returns
returns c =
    let starts = c.args.starts.now in
    let rows = map (λ (r : Bor Row). r.now) c.in_ok-unlike.unlike.items in
    IfOk-weaker c.starts_within.result (AreStartsWithin starts rows) (AreStartsOfUnlike c.args.old.now c.args.new.now starts)
    (λ decided within. record { unlike = rows; are = c.in_ok-unlike.ensures; within = within })
    (subst (λ items. IfOk c.starts_within.result (AreStartsWithin starts (map (λ (r : Bor Row). r.now) items))) c.as_slice.ensures.value c.starts_within.ensures)

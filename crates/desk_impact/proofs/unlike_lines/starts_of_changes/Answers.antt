use Rattle.std.proofs.Common.{IfOk, refl, subst}
use Rattle.std.proofs.lemmas.Result.{IfOk-weaker}
use Rattle.desk_policy.specs.Policy.{rows_of}
use Rattle.desk_impact.specs.Impact.{AreStartsOfChanges}
use Rattle.desk_impact.specs.PrivateUnlikeLines.{AreHomes, AreStartsOfUnlike}
use Rattle.desk_impact.proofs.UnlikeLines.{all_starts, unlike_starts}
use Rattle.desk_impact.proofs.unlike_lines.starts_of_changes.Goals as goal

pub starts_of_unlike-requires : goal.starts_of_unlike-requires
starts_of_unlike-requires c = (c.in_ok-starts.ensures c.args.path.now refl refl).behind

pub returns-in-Some : goal.returns-in-Some
returns-in-Some c =
    let before = c.args.before.now in
    let after = c.args.after.now in
    let path = c.args.path.now in
    let starts = c.in_ok-starts.starts in
    let old = c.in-Some.old.0 in
    let new = c.in-Some.new.0 in
    let homes : AreHomes before after path old new = c.in-Some.ensures in
    let are : IfOk c.starts_of_unlike.result (AreStartsOfUnlike (rows_of before old) (rows_of after new) starts) =
    subst (λ rows. IfOk c.starts_of_unlike.result (AreStartsOfUnlike (rows_of before old) rows starts)) c.rows-in-Some.ensures
    (subst (λ rows. IfOk c.starts_of_unlike.result (AreStartsOfUnlike rows c.rows-in-Some.result.now starts)) c.rows.ensures c.starts_of_unlike.ensures) in
    IfOk-weaker c.starts_of_unlike.result (AreStartsOfUnlike (rows_of before old) (rows_of after new) starts) (AreStartsOfChanges before after path)
    (λ decided are. unlike_starts before after path starts c.in_ok-starts.ensures old new homes decided are) are

pub returns-in-None : goal.returns-in-None
returns-in-None c = all_starts c.args.before.now c.args.after.now c.args.path.now c.in_ok-starts.starts c.in_ok-starts.ensures

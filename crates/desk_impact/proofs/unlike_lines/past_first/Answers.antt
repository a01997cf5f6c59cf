use Rattle.std.proofs.Common.{◌∙◌, ◌∷◌, [], Bor, ap, map}
use Rattle.std.proofs.lemmas.List.{map-append}
use Rattle.desk_policy.specs.declared.row.Row.{Row}
use Rattle.desk_impact.proofs.UnlikeLines.{past_none, past_same}
use Rattle.desk_impact.proofs.unlike_lines.past_first.Goals as goal

pub returns-in-Some : goal.returns-in-Some
returns-in-Some c = past_same c.args.row.now c.args.rest.now c.in-Some.left.now (map (λ (r : Bor Row). r.now) c.args.unlike.now.items) c.in-Some.ensures

pub returns-in_ok-push-in-None : goal.returns-in_ok-push-in-None
returns-in_ok-push-in-None c =
    let old = c.args.unlike.now.items in
    past_none c.args.row.now c.args.rest.now (map (λ (r : Bor Row). r.now) old) _ (ap (map (λ (r : Bor Row). r.now)) c.in_ok-push-in-None.ensures.items ∙ map-append (λ (r : Bor Row). r.now) old (c.args.row ∷ []))

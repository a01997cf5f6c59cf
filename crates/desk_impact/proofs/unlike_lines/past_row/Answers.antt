use Rattle.std.proofs.Common.{◌≡◌, ◌-◌, ◌++◌, ◌∙◌, Bor, ap, arith, drop, length, map, sym, take, take-append-drop}
use Rattle.std.proofs.lemmas.List.{length-drop, take_all}
use Rattle.std.proofs.lemmas.Result.{IfOk-weaker}
use Rattle.desk_policy.specs.declared.row.Row.{Row}
use Rattle.desk_impact.specs.PrivateUnlikeLines.{IsPast}
use Rattle.desk_impact.proofs.UnlikeLines.{past_others}
use Rattle.desk_impact.proofs.unlike_lines.past_row.Goals as goal

pub returns : goal.returns
returns c =
    let row = c.args.row.now in
    let rest = c.args.rest.now in
    let count = c.partition_point-count.result in
    let front = take count rest in
    let behind = take (length rest - count) (drop count rest) in
    let unlike = map (λ (r : Bor Row). r.now) c.args.unlike.now.items in
    let some = map (λ (r : Bor Row). r.now) c.push_rows.new.unlike.items in
    let more = map (λ (r : Bor Row). r.now) c.past_first.new.unlike.items in
    let split : rest ≡ front ++ behind =
    sym (take-append-drop count rest) ∙ ap (λ rows. front ++ rows) (sym (take_all (length rest - count) (drop count rest) (omega (arith, length-drop count rest)))) in
    IfOk-weaker c.past_first.result (λ left. IsPast row behind left.now some more) (λ left. IsPast row rest left.now unlike more)
    (λ left past. past_others row rest front behind left.now unlike some more split c.in_ok-push_rows.ensures past) c.past_first.ensures

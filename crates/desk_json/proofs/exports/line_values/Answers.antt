use Rattle.std.proofs.Common.{◌++◌, ◌∙◌, [], ap, arith, map, sym}
use Rattle.std.specs.List.{flat_map, range_with_len}
use Rattle.std.proofs.lemmas.List.{flat_map_more}
use Rattle.serde_json.specs.View.{view}
use Rattle.desk_policy.specs.Policy.{rows_of}
use Rattle.desk_policy.specs.declared.row.Row.{Row}
use Rattle.desk_json.specs.Exports.{line_data, system_lines}
use Rattle.desk_json.proofs.Counting.{one_more}
use Rattle.desk_json.proofs.exports.line_values.Goals as goal

pub loop-place-preserved : goal.loop-place-preserved
loop-place-preserved c =
    let content = c.args.policy.now in
    let place = c.loop-place.place in
    let done = map view c.loop-place.values.items in
    let lines = system_lines content in
    c.in_ok-push_lines.ensures
    ∙ ap (λ rows. done ++ map (λ (row : Row). line_data c.mount_at-mount.result.now row.entry) rows) c.rows_at.ensures
    ∙ ap (λ mount. done ++ map (λ (row : Row). line_data mount row.entry) (rows_of content place)) c.mount_at-mount.ensures
    ∙ ap (λ values. values ++ lines place) c.loop-place.invariant ∙ flat_map_more lines [] (range_with_len 0 place) place
    ∙ ap (flat_map lines) (sym (one_more 0 place place (omega arith)))

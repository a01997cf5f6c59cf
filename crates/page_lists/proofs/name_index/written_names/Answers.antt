use Rattle.std.proofs.Common.{◌++◌, ◌∙◌, [], ap, arith, map, sym}
use Rattle.std.specs.List.{flat_map, range_with_len}
use Rattle.std.proofs.lemmas.List.{flat_map_more}
use Rattle.page_lists.specs.NameIndex.{filesystem_names, row_names, written_value}
use Rattle.page_lists.proofs.Counting.{one_more}
use Rattle.page_lists.proofs.name_index.written_names.Goals as goal

pub loop-place-preserved : goal.loop-place-preserved
loop-place-preserved c =
    let place = c.loop-place.place in
    let names = filesystem_names c.args.policy.now in
    c.in_ok-push_rows.ensures ∙ ap (λ rows. map written_value c.loop-place.written.items ++ flat_map (row_names place) rows) c.rows.ensures
    ∙ ap (λ written. written ++ names place) c.loop-place.invariant ∙ flat_map_more names [] (range_with_len 0 place) place
    ∙ ap (flat_map names) (sym (one_more 0 place place (omega arith)))

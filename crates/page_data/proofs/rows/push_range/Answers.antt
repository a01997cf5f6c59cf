use Rattle.std.proofs.Common.{◌∷◌, ◌∙◌, ◌-◌, [], ap, arith, inl, map, subst}
use Rattle.std.proofs.lemmas.List.{map-append}
use Rattle.std.proofs.lemmas.Result.{on_ok_weaker}
use Rattle.desk_who.specs.Who.{range_value}
use Rattle.page_data.specs.PrivateRows.{EndsAlike}
use Rattle.page_data.specs.Rows.{row_value}
use Rattle.page_data.proofs.Rowed.{adds_last, some_rows}
use Rattle.page_data.proofs.rows.push_range.Goals as goal

pub returns-then-is_of_last : goal.returns-then-is_of_last
returns-then-is_of_last c =
    let rows = c.args.rows.now.items in
    let row = c.index_mut.result.now in
    let range = c.args.range in
    let ends = subst (λ rs. EndsAlike (map row_value rs) (range_value range)) c.as_slice.ensures.value (c.is_of_last.ensures.0 c.if-is_of_last.true) in
    on_ok_weaker c.push.result
    (λ added. inl (adds_last rows (c.len-last.result - 1) row (record { verdict = row.verdict; ranges = c.push.new.self }) (range_value range)
    (let some = some_rows rows (range_value range) ends in omega (arith, c.len-last.ensures)) c.index_mut.ensures.value
    (ap (λ ranges. record { verdict = (row_value row).verdict; ranges = ranges }) (ap (map range_value) added ∙ map-append range_value row.ranges (range ∷ []))) ends))
    c.push.ensures.added

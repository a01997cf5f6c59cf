use Rattle.std.proofs.Common.{◌≡◌, ◌+◌, ◌-◌, ◌<◌, ◌≤◌, ◌∙◌, ap, arith, get_or, length, map, subst, sym}
use Rattle.std.specs.Prelude.{Result, Err}
use Rattle.std.specs.List.{sum_by}
use Rattle.std.proofs.lemmas.List.{get_or-map, length-map, take-map, take_all}
use Rattle.std.proofs.lemmas.List.Elements.{All-from_recursion}
use Rattle.desk_policy.specs.Verdict.{Grant}
use Rattle.desk_policy.specs.declared.verdict.Denial.{Denial}
use Rattle.desk_policy.specs.declared.verdict.Denial.TheVariants.{NoFileSystem}
use Rattle.desk_who.specs.Runs.{HasValue, Run}
use Rattle.desk_who.specs.Who.{range_value}
use Rattle.page_data.specs.PrivateTables.{denied_in}
use Rattle.page_data.proofs.Tabled.{denied_sum, fits_so_far, small}
use Rattle.page_data.proofs.tables.denied_among.Goals as goal

pub overflow_add-count : goal.overflow_add-count
overflow_add-count c =
    let ranges = c.args.ranges.now in
    let given = map range_value ranges in
    let i = c.loop-range.range-index in
    let item = c.range-item.result in
    let few = length-map ranges range_value in
    let within : i < length given = (let lt = c.loop-range-test.true in omega arith) in
    let d : Run (Result Grant Denial) = record { first = 0; last = 0; value = Err NoFileSystem } in
    let so_far = fits_so_far c.requires.value_at given c.requires.are i d within in
    let own = All-from_recursion (HasValue c.requires.value_at) given c.requires.are.values i d within in
    let proper = own.proper in
    let fits = own.addresses in
    let at : get_or given i d ≡ range_value item = get_or-map range_value ranges i item d c.loop-range-test.true ∙ ap range_value (sym c.range-item.is) in
    let last = ap (λ (range : Run (Result Grant Denial)). range.last) at in
    let same = ap (sum_by denied_in) (take-map range_value i ranges) in
    let bound : c.denied_in-count.result ≤ (range_value item).last + 1 - (range_value item).first =
    subst (λ n. n ≤ (range_value item).last + 1 - (range_value item).first) (sym c.denied_in-count.ensures) (small (range_value item)) in
    omega (arith, c.loop-range.invariant)

pub returns : goal.returns
returns c =
    c.loop-range.invariant ∙ ap (λ xs. sum_by denied_in (map range_value xs)) (take_all c.loop-range.range-index c.args.ranges.now c.loop-range-test.false) ∙ denied_sum (map range_value c.args.ranges.now)

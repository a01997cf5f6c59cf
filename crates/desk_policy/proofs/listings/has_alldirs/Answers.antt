use Rattle.std.proofs.Common.{◌≡◌, ◌<◌, true, length, map, sym, ap, ◌∙◌, arith}
use Rattle.std.proofs.lemmas.List.{get_or-map, length-map}
use Rattle.std.proofs.lemmas.List.Folds.{list_any_at}
use Rattle.desk_policy.specs.declared.row.Row.{Row}
use Rattle.desk_policy.proofs.listings.has_alldirs.Goals as goal

pub returns-then-deref : goal.returns-then-deref
returns-then-deref c =
    let rows = c.args.rows.now in
    let row = c.row-item.result in
    let i = c.loop-row.row-index in
    let there : i < length (map (λ row. row.now) rows) = omega (arith, length-map rows (λ row. row.now), c.loop-row-test.true) in
    let has : row.now.entry.alldirs ≡ true = ap (λ entry. entry.alldirs) (sym c.deref.ensures) ∙ c.if-deref.true in
    sym (list_any_at (λ (row : Row). row.entry.alldirs) (map (λ row. row.now) rows) i row.now there
    (ap (λ (row : Row). row.entry.alldirs) (get_or-map (λ row. row.now) rows i row row.now c.loop-row-test.true)
    ∙ ap (λ row. row.now.entry.alldirs) (sym c.row-item.is) ∙ has))

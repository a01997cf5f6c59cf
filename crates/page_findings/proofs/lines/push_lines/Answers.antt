use Rattle.std.proofs.Common.{◌≡◌, ◌<◌, ◌≤◌, ◌∙◌, ℕ, List, ap, arith, get_or, length, map, refl, subst, sym}
use Rattle.std.proofs.lemmas.List.{get_or-map, length-map, map-append, take_all}
use Rattle.desk_policy.specs.Policy.{rows_of}
use Rattle.desk_policy.specs.declared.row.Row.{Row}
use Rattle.page_data.specs.Grants.{GrantsTo, HoldsOf}
use Rattle.page_data.specs.Lines.{IsToldOf}
use Rattle.page_data.specs.declared.grants.LineGrants.{LineGrants}
use Rattle.page_data.specs.declared.lines.LineReasons.{LineReasons}
use Rattle.page_findings.specs.Lines.{line_value}
use Rattle.page_findings.specs.PrivateLines.{AddsLines}
use Rattle.page_findings.proofs.Adding.{adds_none, adds_one}
use Rattle.page_findings.proofs.lines.push_lines.Goals as goal

abbrev line_of : Row → ℕ
line_of row = row.entry.line

abbrev grant_line : LineGrants → ℕ
grant_line one = one.line

abbrev reason_line : LineReasons → ℕ
reason_line one = one.line

as_many : {X : Type 0} (line : X → ℕ) (xs : List X) (rows : List Row) → map line xs ≡ map line_of rows → length xs ≡ length rows
as_many line xs rows same = sym (length-map xs line) ∙ ap length same ∙ length-map rows line_of

same_line : {X : Type 0} (line : X → ℕ) (xs : List X) (rows : List Row) (place : ℕ) (x : X) (row : Row) → map line xs ≡ map line_of rows → place < length rows → row ≡ get_or rows place row
    → line (get_or xs place x) ≡ row.entry.line
same_line line xs rows place x row same within is =
    sym (get_or-map line xs place x 0 (let many = as_many line xs rows same in omega arith)) ∙ ap (λ (lines : List ℕ). get_or lines place 0) same ∙ get_or-map line_of rows place row 0 within ∙ ap line_of (sym is)

pub bounds-grants-place : goal.bounds-grants-place
bounds-grants-place c =
    let rows = rows_of c.args.policy.now c.args.fs.0 in
    let within : c.loop-place.place < length rows = subst (λ (some : List Row). c.loop-place.place < length some) c.rows-rows.ensures c.loop-place-test.true in
    let many = as_many grant_line c.args.grants.now rows c.requires.grants.lines in
    omega arith

pub bounds-reasons-place : goal.bounds-reasons-place
bounds-reasons-place c =
    let rows = rows_of c.args.policy.now c.args.fs.0 in
    let within : c.loop-place.place < length rows = subst (λ (some : List Row). c.loop-place.place < length some) c.rows-rows.ensures c.loop-place-test.true in
    let many = as_many reason_line c.args.reasons.now rows c.requires.reasons.lines in
    omega arith

pub loop-place-init : goal.loop-place-init
loop-place-init c = adds_none c.args.policy.now c.args.fs.0 (map line_value c.args.lines.now.items)

pub loop-place-preserved : goal.loop-place-preserved
loop-place-preserved c =
    let content = c.args.policy.now in
    let fs = c.args.fs.0 in
    let place = c.loop-place.place in
    let rows = rows_of content fs in
    let grants = c.args.grants.now in
    let row = c.index-rows-place.result in
    let is : row ≡ get_or rows place row = c.index-rows-place.is ∙ ap (λ (some : List Row). get_or some place row) c.rows-rows.ensures in
    let within : place < length rows = subst (λ (some : List Row). place < length some) c.rows-rows.ensures c.loop-place-test.true in
    let none : LineGrants = record { line = 0; count = 0 } in
    let grant : LineGrants = get_or grants place none in
    let many = as_many grant_line grants rows c.requires.grants.lines in
    let counts : HoldsOf (GrantsTo content fs row.entry.line) grant.count = subst (λ n. HoldsOf (GrantsTo content fs n) grant.count)
    (same_line grant_line grants rows place none row c.requires.grants.lines within is) (c.requires.grants.counts place none (omega arith)) in
    let reason = get_or c.args.reasons.now place c.index-reasons-place.result in
    let many' = as_many reason_line c.args.reasons.now rows c.requires.reasons.lines in
    let own : reason.line ≡ row.entry.line = same_line reason_line c.args.reasons.now rows place c.index-reasons-place.result row c.requires.reasons.lines within is in
    let told : IsToldOf content fs reason = c.requires.reasons.each place c.index-reasons-place.result (omega arith) in
    let told' : IsToldOf content fs (record { line = row.entry.line; reasons = reason.reasons }) = subst (λ n. IsToldOf content fs (record { line = n; reasons = reason.reasons })) own told in
    adds_one content fs rows place row within is (map line_value c.args.lines.now.items) (map line_value c.loop-place.lines.items) (map line_value c.push.new.self.items) _
    c.loop-place.invariant (ap (map line_value) c.in_ok-push.ensures.items ∙ map-append line_value c.loop-place.lines.items _) refl
    (record { has = (place, within, sym is); count = counts; reasons = subst (λ some. IsToldOf content fs (record { line = row.entry.line; reasons = some })) (sym c.as_slice.ensures) told' })

pub returns : goal.returns
returns c =
    let content = c.args.policy.now in
    let fs = c.args.fs.0 in
    let rows = rows_of content fs in
    subst (λ some. AddsLines content fs some (map line_value c.args.lines.now.items) (map line_value c.loop-place.lines.items))
    (take_all c.loop-place.place rows (subst (λ (some : List Row). length some ≤ c.loop-place.place) c.rows-rows.ensures c.loop-place-test.false)) c.loop-place.invariant

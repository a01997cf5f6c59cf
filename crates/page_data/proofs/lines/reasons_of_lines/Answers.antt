use Rattle.std.proofs.Common.{◌≡◌, ◌<◌, ◌++◌, ◌∙◌, ℕ, List, [], ◌∷◌, ap, arith, get_or, length, map, subst, sym, take}
use Rattle.std.specs.Prelude.{All, Contains}
use Rattle.std.proofs.lemmas.List.{get_or-map, length-map, map-append}
use Rattle.std.proofs.lemmas.List.Elements.{All-push}
use Rattle.desk_exports.specs.declared.entry.Entry.{Entry}
use Rattle.desk_policy.specs.Policy.{rows_of}
use Rattle.desk_policy.specs.declared.row.Row.{Row}
use Rattle.page_data.specs.Grants.{GrantsTo, HoldsOf}
use Rattle.page_data.specs.Lines.{IsToldOf}
use Rattle.page_data.specs.declared.grants.LineGrants.{LineGrants}
use Rattle.page_data.specs.declared.lines.LineReasons.{LineReasons}
use Rattle.page_data.proofs.Gathered.{take_next}
use Rattle.page_data.proofs.LineByLine.{told_of}
use Rattle.page_data.proofs.Served.{served}
use Rattle.page_data.specs.PrivateServer.{reasons_in}
use Rattle.page_data.proofs.lines.reasons_of_lines.Goals as goal

abbrev line_in : LineReasons → ℕ
line_in one = one.line

abbrev grant_line : LineGrants → ℕ
grant_line one = one.line

abbrev line_of : Row → ℕ
line_of row = row.entry.line

pub loop-place-preserved : goal.loop-place-preserved
loop-place-preserved c =
    let content = c.args.policy.now in
    let fs = c.args.fs.0 in
    let place = c.loop-place.place in
    let found = c.loop-place.found.items in
    let rows = rows_of content fs in
    let grants = c.args.grants.now in
    let row = c.index-rows-place.result in
    let is : row ≡ get_or rows place row = c.index-rows-place.is ∙ ap (λ (some : List Row). get_or some place row) c.rows-rows.ensures in
    let within : place < length rows = subst (λ (some : List Row). place < length some) c.rows-rows.ensures c.loop-place-test.true in
    let has : Contains rows row = (place, within, sym is) in
    let one : LineReasons = record { line = c.deref.result.now.line; reasons = c.from_vec.result } in
    let line : row.entry.line ≡ one.line = sym (ap (λ (entry : Entry). entry.line) c.deref.ensures) in
    let none : LineGrants = record { line = 0; count = 0 } in
    let grant : LineGrants = get_or grants place none in
    let long : length grants ≡ length rows = sym (length-map grants grant_line) ∙ ap length c.requires.grants.lines ∙ length-map rows line_of in
    let within' : place < length grants = omega arith in
    let own : grant.line ≡ one.line =
    sym (get_or-map grant_line grants place none 0 within') ∙ ap (λ (lines : List ℕ). get_or lines place 0) c.requires.grants.lines ∙ get_or-map line_of rows place row 0 within ∙ ap line_of (sym is) ∙ line in
    let counts : HoldsOf (GrantsTo content fs one.line) grant.count = subst (λ n. HoldsOf (GrantsTo content fs n) grant.count) own (c.requires.grants.counts place none within') in
    let reasons = c.from_vec.ensures ∙ c.in_ok-reasons.ensures in
    let told : IsToldOf content fs one = told_of content fs c.requires.sound row has grant.count one line counts c.matches_nobody.result c.matches_nobody.ensures
    (reasons_in c.args.server.now row.entry.line) (served content fs c.args.server.now c.requires.server row has) reasons in
    record {
      lines = ap (map line_in) c.in_ok-push.ensures.items ∙ map-append line_in found (one ∷ []) ∙ ap (λ (lines : List ℕ). lines ++ one.line ∷ []) c.loop-place.invariant.lines
          ∙ ap (λ n. map line_of (take place rows) ++ n ∷ []) (sym line) ∙ sym (ap (map line_of) (take_next rows place row within is) ∙ map-append line_of (take place rows) (row ∷ []));
      each = subst (All (IsToldOf content fs)) (sym c.in_ok-push.ensures.items) (All-push (IsToldOf content fs) found one c.loop-place.invariant.each told);
    }

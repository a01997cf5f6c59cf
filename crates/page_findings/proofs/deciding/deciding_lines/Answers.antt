use Rattle.std.proofs.Common.{◌≡◌, ◌<◌, ◌≤◌, ◌∙◌, ℕ, List, ap, arith, get_or, length, map, subst, sym}
use Rattle.std.specs.Prelude.{All, Contains, filter}
use Rattle.std.proofs.lemmas.List.{get_or-map, length-map, take_all}
use Rattle.desk_policy.specs.Policy.{rows_of}
use Rattle.desk_policy.specs.declared.row.Row.{Row}
use Rattle.desk_impact.specs.Sections.{section_value}
use Rattle.page_data.specs.declared.lines.LineReasons.{LineReasons}
use Rattle.page_findings.specs.Deciding.{IsDecidedFor, never_decides}
use Rattle.page_findings.specs.declared.deciding.NeverDecides.{NeverDecides}
use Rattle.page_findings.proofs.Ordered.{in_line_order}
use Rattle.page_findings.proofs.Places.{all_in_order}
use Rattle.page_findings.proofs.Told.{all_decided, each_more, lines_are, lines_more, with_list}
use Rattle.page_findings.proofs.deciding.deciding_lines.Goals as goal

abbrev line_in : LineReasons → ℕ
line_in one = one.line

abbrev line_of : Row → ℕ
line_of row = row.entry.line

pub add_line-requires : goal.add_line-requires
add_line-requires c = all_in_order c.args.policy.now c.args.fs.0 (map section_value c.args.sections.now) c.requires.sections

pub loop-place-preserved : goal.loop-place-preserved
loop-place-preserved c =
    let content = c.args.policy.now in
    let fs = c.args.fs.0 in
    let sections = map section_value c.args.sections.now in
    let reasons = c.args.reasons.now in
    let place = c.loop-place.place in
    let rows = rows_of content fs in
    let row = c.index-rows-place.result in
    let one = c.index-reasons-place.result in
    let is : row ≡ get_or rows place row = c.index-rows-place.is ∙ ap (λ (some : List Row). get_or some place row) c.rows-rows.ensures in
    let within : place < length rows = subst (λ (some : List Row). place < length some) c.rows-rows.ensures c.loop-place-test.true in
    let long : length reasons ≡ length rows = sym (length-map reasons line_in) ∙ ap length c.requires.reasons.lines ∙ length-map rows line_of in
    let within' : place < length reasons = omega arith in
    let has : Contains rows row = (place, within, sym is) in
    let line : row.entry.line ≡ one.line =
    ap line_of is ∙ sym (get_or-map line_of rows place row 0 within) ∙ sym (ap (λ (lines : List ℕ). get_or lines place 0) c.requires.reasons.lines) ∙ get_or-map line_in reasons place one 0 within'
    ∙ ap line_in (sym c.index-reasons-place.is) in
    let before = c.loop-place.invariant in
    let old = c.loop-place.lists in
    let new = c.add_line.new.lists in
    let lines = c.loop-place.lines.items in
    let after = c.add_line.new.lines.items in
    let step = c.in_ok-add_line.ensures before.known in
    record {
      known = step.known;
      lines = lines_more content fs sections reasons place row one old new lines after has line step within' c.index-reasons-place.is before.lines;
      each = each_more content fs sections reasons place row one old new lines after has line step before.each;
    }

pub returns : goal.returns
returns c =
    let content = c.args.policy.now in
    let fs = c.args.fs.0 in
    let sections = map section_value c.args.sections.now in
    let reasons = c.args.reasons.now in
    let rows = rows_of content fs in
    let place = c.loop-place.place in
    let lists = c.loop-place.lists.lists in
    let lines = c.loop-place.lines.items in
    let long : length reasons ≡ length rows = sym (length-map reasons line_in) ∙ ap length c.requires.reasons.lines ∙ length-map rows line_of in
    let over : length rows ≤ place = subst (λ (some : List Row). length some ≤ place) c.rows-rows.ensures c.loop-place-test.false in
    let all = take_all place reasons (omega arith) in
    let found : List NeverDecides = c.from_vec.result in
    let given : List (List ℕ) = c.into_lists.result in
    let same : map (with_list given) found ≡ map (with_list lists) lines = ap (λ (some : List (List ℕ)). map (with_list some) found) c.into_lists.ensures ∙ ap (map (with_list lists)) c.from_vec.ensures in
    let never = λ (one : LineReasons). never_decides one.reasons in
    let told = ap (map (λ one. one.line)) same ∙ lines_are lists lines ∙ c.loop-place.invariant.lines ∙ ap (λ some. map line_in (filter never some)) all in
    record {
      lines = told;
      order = in_line_order (map (with_list given) found) reasons rows told c.requires.reasons.lines c.requires.ascending;
      each = subst (All (IsDecidedFor content fs)) (sym same)
          (all_decided c.places_tell_scope.ensures c.covers_between_first_and_last.ensures content fs sections c.requires.sections lists lines c.loop-place.invariant.each);
    }

use Rattle.std.proofs.Common.{◌≡◌, ◌+◌, ◌∙◌, [], ◌∷◌, Some, None, ap, sym, cond, eqb, length, lit<, arith}
use Rattle.std.proofs.lemmas.Bool.{eqb-false}
use Rattle.std.proofs.lemmas.Str.Pattern.{split_once_first}
use Rattle.std.specs.List.{slice_split}
use Rattle.std.specs.Str.Lines.{strip_carriage_return}
use Rattle.desk_text.specs.Lines.{PhysicalLine, is_continued, physical_line, physical_lines_from}
use Rattle.desk_text.specs.Views.{line_of_part}
use Rattle.desk_text.proofs.PartPlaces.{placed-made}
use Rattle.desk_text.proofs.PhysicalLines.{last_line, length-strip, next_line, next_place}
use Rattle.desk_text.proofs.lines.PhysicalLines.next.Goals as goal

pub returns-in-Some-clause-line : goal.returns-in-Some-clause-line
returns-in-Some-clause-line c =
    let left = c.args.self.now in
    let line = c.in-Some.line.now in
    let cut = split_once_first 10 left.rest.now (Some (c.in-Some.line, c.in-Some.after)) c.in-Some.ensures.cases (lit< tt) in
    let place = next_place left.start left.rest.now line c.in-Some.after.now cut in
    let made : line_of_part c.make_physical.result.part ≡ physical_line left.start (strip_carriage_return line) = c.make_physical.ensures.part ∙ ap (physical_line left.start) c.without_carriage_return.ensures in
    record {
      is = next_line left.start left.rest.now line c.in-Some.after.now cut
          ∙ ap (λ p. p ∷ physical_lines_from (left.start + (length line + 1)) (slice_split (λ b. eqb b 10) c.in-Some.after.now)) (sym made);
      goes_on = c.make_physical.ensures.goes_on ∙ ap is_continued (sym (ap (λ (p : PhysicalLine). p.whole) c.make_physical.ensures.part));
      placed = placed-made c.make_physical.result.part left.start (strip_carriage_return line) made (omega (arith, length-strip line, place, c.requires));
      later = omega arith;
    }

pub returns-clause-line : goal.returns-clause-line
returns-clause-line c =
    let left = c.args.self.now in
    let ended = split_once_first 10 left.rest.now None c.in_default.ensures.cases (lit< tt) in
    let some = eqb-false (length left.rest.now) 0 (sym c.if-is_empty.ensures) in
    let made = c.make_physical-last.ensures.part in
    record {
      is = last_line left.start left.rest.now ended ∙ ap (λ b. cond b [] (physical_line left.start left.rest.now ∷ [])) (sym c.if-is_empty.ensures) ∙ ap (λ p. p ∷ []) (sym made);
      goes_on = c.make_physical-last.ensures.goes_on ∙ ap is_continued (sym (ap (λ (p : PhysicalLine). p.whole) made));
      placed = placed-made c.make_physical-last.result.part left.start left.rest.now made (omega (arith, c.requires));
      later = omega (arith, some);
    }

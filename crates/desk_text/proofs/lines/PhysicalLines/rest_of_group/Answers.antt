use Rattle.std.proofs.Common.{◌++◌, ◌∙◌, ◌∷◌, ap, sym, map, length, arith}
use Rattle.std.proofs.lemmas.List.{length-map, length_push}
use Rattle.desk_text.specs.Lines.{groups}
use Rattle.desk_text.specs.PrivateLines.{parts_left}
use Rattle.desk_text.specs.Views.{line_of_part}
use Rattle.desk_text.specs.declared.lines.PhysicalLines.{PhysicalLines}
use Rattle.desk_text.proofs.Groups.{close, go_on, last_group, taken}
use Rattle.desk_text.proofs.PartPlaces.{placed-push}
use Rattle.desk_text.proofs.lines.PhysicalLines.rest_of_group.Goals as goal

pub returns-then-not-next-clause-group : goal.returns-then-not-next-clause-group
returns-then-not-next-clause-group c =
    let held = c.loop-next.parts.items in
    let new = c.push-in-Some.new.self.items in
    let rest = parts_left c.next.new.self in
    let line = c.in-Some.ensures.line in
    let items = c.in_ok-push-2.ensures.items in
    record {
      is = sym c.loop-next.invariant.is ∙ ap (λ ps. groups (map line_of_part held ++ ps)) line.is ∙ ap groups (sym (taken held new c.in-Some.next.part rest items))
          ∙ close held new c.in-Some.next.part rest items c.loop-next.invariant.going_on (sym line.goes_on ∙ c.if-not-next.true);
      placed = placed-push held new c.in-Some.next.part items line.placed c.loop-next.invariant.placed;
      counted = omega (arith, ap length items, length_push held c.in-Some.next.part, c.loop-next.invariant.counted, line.later);
    }

pub loop-next-preserved : goal.loop-next-preserved
loop-next-preserved c =
    let held = c.loop-next.parts.items in
    let new = c.push-in-Some.new.self.items in
    let rest = parts_left c.next.new.self in
    let line = c.in-Some.ensures.line in
    let items = c.in_ok-push-2.ensures.items in
    record {
      is = ap groups (taken held new c.in-Some.next.part rest items) ∙ ap (λ ps. groups (map line_of_part held ++ ps)) (sym line.is) ∙ c.loop-next.invariant.is;
      going_on = go_on held new c.in-Some.next.part items c.loop-next.invariant.going_on (sym line.goes_on ∙ c.if-not-next.false);
      placed = placed-push held new c.in-Some.next.part items line.placed c.loop-next.invariant.placed;
      counted = omega (arith, ap length items, length_push held c.in-Some.next.part, c.loop-next.invariant.counted, line.later);
      some = omega (arith, ap length items, length_push held c.in-Some.next.part);
      onward = record {
        later = omega (arith, c.loop-next.invariant.onward.later, line.later);
        places = c.in-Some.ensures.onward.places;
      };
    }

pub returns-clause-group : goal.returns-clause-group
returns-clause-group c =
    let held = c.loop-next.parts.items in
    let ended = c.in_default.ensures.line in
    record {
      is = sym c.loop-next.invariant.is ∙ ap (λ ps. groups (map line_of_part held ++ ps)) ended.0
          ∙ last_group (map line_of_part held) c.loop-next.invariant.going_on (omega (arith, length-map held line_of_part, c.loop-next.invariant.some))
          ∙ ap (λ gs. map line_of_part held ∷ gs) (sym (ap (λ (left : PhysicalLines). groups (parts_left left)) ended.1 ∙ ap groups ended.0));
      placed = c.loop-next.invariant.placed;
      counted = omega (arith, ap (λ (left : PhysicalLines). left.start) ended.1, c.loop-next.invariant.counted);
    }

use Rattle.std.proofs.Common.{ap, sym, ◌∙◌, length, arith}
use Rattle.std.proofs.lemmas.List.{length-map}
use Rattle.desk_text.specs.Views.{line_of_part}
use Rattle.desk_text.proofs.Places.{is_filled, none_first, part_at}
use Rattle.desk_text.proofs.place.first_line.Goals as goal

pub returns-in-Some : goal.returns-in-Some
returns-in-Some c = λ text among. record {
  index = 0;
  part = line_of_part c.in-Some.part.now;
  there = part_at c.parts.result.now c.args.line.now.parts 0 c.in-Some.part.now c.parts.ensures.parts (sym c.in-Some.ensures.value);
  number = ap (λ place. place.line) c.of_line.ensures.exact ∙ omega (arith, c.number.ensures);
  within = c.of_line.ensures.whole;
}

pub returns-in-None : goal.returns-in-None
returns-in-None c = λ text among.
    let none = none_first c.parts.result.now c.in-None.ensures.value in
    let some = is_filled text c.args.line.now among in
    absurd (omega (arith, none, some, sym (length-map c.parts.result.now line_of_part) ∙ ap length c.parts.ensures.parts))

use Rattle.std.proofs.Common.{ap, sym, ◌∙◌, length, arith}
use Rattle.std.proofs.lemmas.Bool.{false≢true}
use Rattle.std.proofs.lemmas.List.{length-map}
use Rattle.std.proofs.lemmas.Option.{slice_get_within}
use Rattle.desk_text.specs.Views.{line_of_part}
use Rattle.desk_text.proofs.Places.{none_so_far, on_part_lies, on_part_own, place_of_part, place_on_part}
use Rattle.desk_text.proofs.place.first_place.Goals as goal

pub returns-then-has_slice-clause-exact : goal.returns-then-has_slice-clause-exact
returns-then-has_slice-clause-exact c = λ index part there has.
    place_of_part c.args.line.now c.parts-part-items.result.now c.number.result c.loop-index.index c.args.start c.args.end _ c.parts-part-items.ensures.parts c.number.ensures c.loop-index-test.true (c.has_slice.ensures.0 c.if-has_slice.true)

pub returns-then-has_slice-clause-lies : goal.returns-then-has_slice-clause-lies
returns-then-has_slice-clause-lies c = λ text among.
    on_part_lies text c.args.line.now _ among (place_on_part c.args.line.now c.args.start c.args.end _
    (place_of_part c.args.line.now c.parts-part-items.result.now c.number.result c.loop-index.index c.args.start c.args.end _ c.parts-part-items.ensures.parts c.number.ensures c.loop-index-test.true (c.has_slice.ensures.0 c.if-has_slice.true)))

pub returns-then-has_slice-clause-own : goal.returns-then-has_slice-clause-own
returns-then-has_slice-clause-own c = λ text among.
    on_part_own c.args.line.now _ (place_on_part c.args.line.now c.args.start c.args.end _
    (place_of_part c.args.line.now c.parts-part-items.result.now c.number.result c.loop-index.index c.args.start c.args.end _ c.parts-part-items.ensures.parts c.number.ensures c.loop-index-test.true (c.has_slice.ensures.0 c.if-has_slice.true)))

pub returns-clause-exact : goal.returns-clause-exact
returns-clause-exact c = λ index part there has.
    absurd (c.loop-index.invariant index part (omega (arith, c.loop-index-test.false, slice_get_within c.args.line.now.parts index part there, length-map c.parts-part-items.result.now line_of_part, ap length c.parts-part-items.ensures.parts)) there has)

pub returns-clause-lies : goal.returns-clause-lies
returns-clause-lies c = λ text among. on_part_lies text c.args.line.now c.first_line.result among (c.first_line.ensures text among)

pub returns-clause-own : goal.returns-clause-own
returns-clause-own c = λ text among. on_part_own c.args.line.now c.first_line.result (c.first_line.ensures text among)

pub loop-index-preserved : goal.loop-index-preserved
loop-index-preserved c =
    none_so_far c.args.line.now c.parts-part-items.result.now c.args.start c.args.end c.loop-index.index _ c.parts-part-items.ensures.parts c.loop-index-test.true c.loop-index.invariant
    (λ has. let holds = c.has_slice.ensures.1 has in absurd (false≢true (sym c.if-has_slice.false ∙ holds)))

use Rattle.std.proofs.Common.{◌∙◌, ◌&&◌, eqb, sym, ap}
use Rattle.std.specs.List.{starts_with}
use Rattle.std.proofs.lemmas.Bool.{and_left}
use Rattle.desk_text.proofs.Below.{below-is}
use Rattle.desk_text.proofs.path.goes_below.Goals as goal

pub returns-then-ends_component : goal.returns-then-ends_component
returns-then-ends_component c =
    let path = c.args.path.now in
    let above = c.args.above.now in
    c.starts_with.ensures.value ∙ ap (λ b. b && starts_with eqb path above) (sym c.if-ends_component.true ∙ c.ends_component.ensures) ∙ below-is path above

pub returns-else-ends_component : goal.returns-else-ends_component
returns-else-ends_component c =
    let path = c.args.path.now in
    let above = c.args.above.now in
    c.if-ends_component.false ∙ sym (and_left _ (starts_with eqb path above) (sym c.ends_component.ensures ∙ c.if-ends_component.false)) ∙ below-is path above

use Rattle.std.proofs.Common.{◌++◌, ◌∷◌, [], ap, ◌∙◌}
use Rattle.std.specs.Fmt.{decimal}
use Rattle.std.specs.String.{string_bytes}
use Rattle.desk_text.proofs.NumberedPaths.{child_components, child_kept}
use Rattle.desk_text.proofs.path.Path.child.Goals as goal

pub invariant_of-result : goal.invariant_of-result
invariant_of-result c = child_kept (string_bytes c.self.inside.text) (string_bytes c.in_ok-text.text) c.args.number c.ranges.number.fits c.self.invariant c.in_ok-text.ensures.ok

pub returns : goal.returns
returns c =
    child_components (string_bytes c.self.inside.text) (string_bytes c.in_ok-text.text) c.args.number c.ranges.number.fits c.self.invariant c.in_ok-text.ensures.ok
    ∙ ap (λ p. p ++ decimal c.args.number ∷ []) c.self.view_is

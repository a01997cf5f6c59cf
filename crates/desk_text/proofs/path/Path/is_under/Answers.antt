use Rattle.std.proofs.Common.{ap, ◌∙◌}
use Rattle.std.specs.String.{string_bytes}
use Rattle.desk_text.specs.Path.{components, is_under}
use Rattle.desk_text.specs.PrivatePath.{goes_below}
use Rattle.desk_text.proofs.Below.{under_kept}
use Rattle.desk_text.proofs.path.Path.is_under.Goals as goal

pub returns : goal.returns
returns c =
    c.goes_below.ensures ∙ ap (λ t. goes_below t c.as_bytes-2.result.now) c.as_bytes.ensures.value ∙ ap (goes_below (string_bytes c.self.inside.text)) c.as_bytes-2.ensures.value
    ∙ under_kept (string_bytes c.self.inside.text) (string_bytes c.above.inside.text) c.self.invariant c.above.invariant
    ∙ ap (λ p. is_under p (components (string_bytes c.above.inside.text))) c.self.view_is ∙ ap (is_under c.args.self.now) c.above.view_is

-- The reasons are these.
use Rattle.std.proofs.Common.{◌∙◌, ℕ, IfOk, List, Some, subst}
use Rattle.cli_verdict.specs.TryText.{TellsVerdict, mount_question_of}
use Rattle.cli_verdict.proofs.try_text.tried_why.Goals as goal

pub returns : goal.returns
returns g c =
    subst (λ (reasons : List ℕ). IfOk c.tried_with.result (TellsVerdict (Some reasons) (g.V.PolicyView.in_force c.args.view.now) (mount_question_of c.args.question))) (c.as_str.ensures.value ∙ c.in_ok-reasons.ensures) c.tried_with.ensures

-- The digest and its line end are written last.
use Rattle.std.proofs.Common.{◌++◌, ◌∙◌, ap, codes}
use Rattle.std.specs.String.{string_bytes}
use Rattle.cli_questions.proofs.notes.with_digest.Goals as goal

pub returns : goal.returns
returns c =
    let said = string_bytes c.in_ok-said.said in (
      said,
      c.in_ok-push_str-2.ensures.bytes
          ∙ ap (λ t. t ++ codes "\n") (c.in_ok-push_str.ensures.bytes ∙ ap (λ t. said ++ t) (c.as_str.ensures.value ∙ c.in_ok-digest.ensures)),
    )

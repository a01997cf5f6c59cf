-- The exports are those of the policy that the text writes.
use Rattle.std.proofs.Common.{◌∙◌, List, ap, subst, ℕ}
use Rattle.desk_policy.specs.ListingPrints.{all_terms}
use Rattle.cli_texts.specs.Printing.{PrintsAlone}
use Rattle.cli_texts.proofs.terms_command.print_terms.Goals as goal

pub returns : goal.returns
returns c = record {
  policy = c.in_ok-view.view;
  written = c.in_ok-view.ensures;
  prints = subst (λ (text : List ℕ). PrintsAlone 0 text c.print_alone.result) (c.in_ok-text.ensures ∙ ap all_terms c.policy.ensures) c.print_alone.ensures;
}

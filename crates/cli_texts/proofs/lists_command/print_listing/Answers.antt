-- The listing is by the policy that the text writes.
use Rattle.std.proofs.Common.{List, subst, ℕ}
use Rattle.cli_texts.specs.Printing.{PrintsAlone}
use Rattle.cli_texts.proofs.lists_command.print_listing.Goals as goal

pub returns : goal.returns
returns c = record {
  policy = c.in_ok-view.view;
  written = c.in_ok-view.ensures;
  prints = subst (λ (text : List ℕ). PrintsAlone 0 text c.print_alone.result) c.in_ok-text.ensures c.print_alone.ensures;
}

-- The ranges are those that are listed.
use Rattle.std.proofs.Common.{◌∙◌, List, Result, ap, ap₂, map, refl}
use Rattle.desk_policy.specs.Policy.{Content}
use Rattle.desk_policy.specs.Verdict.{Grant}
use Rattle.desk_policy.specs.declared.verdict.Denial.{Denial}
use Rattle.desk_who.specs.Runs.{Run}
use Rattle.desk_who.specs.Who.{range_value}
use Rattle.cli_verdict.specs.Ranges.{ranges_text}
use Rattle.cli_verdict.proofs.ranges.print_there.Goals as goal

pub returns : goal.returns
returns c = record {
  ranges = map range_value c.in_ok-ranges.ranges.items;
  who = c.in_ok-ranges.ensures;
  prints = record { status_is = refl; text_is = c.in_ok-text.ensures ∙ ap₂ (λ (content : Content) (ranges : List (Run (Result Grant Denial))). ranges_text c.args.json content c.args.path.now ranges) c.policy.ensures (ap (map range_value) c.as_slice.ensures.value) };
  beside = c.in_ok-note.ensures;
}

-- A change at a place matters just where it does by value.
use Rattle.std.proofs.Common.{◌∙◌}
use Rattle.clap.proofs.WalkLemmas.{list_any-map}
use Rattle.desk_impact.specs.ListedChanges.{listed_place}
use Rattle.cli_verdict.specs.Changes.{matters_at}
use Rattle.cli_verdict.proofs.changes.any_matters.Goals as goal

pub returns : goal.returns
returns c = c.any_place_matters.ensures ∙ list_any-map matters_at listed_place c.args.found.now

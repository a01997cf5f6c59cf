-- A change matters just where it does by value.
use Rattle.std.proofs.Common.{◌∙◌, List, ap}
use Rattle.std.specs.List.{list_any}
use Rattle.clap.proofs.WalkLemmas.{list_any-map}
use Rattle.desk_impact.specs.ListedChanges.{ListedChange, listed_change}
use Rattle.desk_impact.specs.declared.listed_changes.ListedChange.{ListedChange as KeptChange}
use Rattle.cli_verdict.proofs.changes.matters_at.Goals as goal

pub returns : goal.returns
returns c =
    c.any_change_matters.ensures
    ∙ ap (λ (changes : List KeptChange). list_any (λ one. one.matters) changes) c.as_slice.ensures
    ∙ list_any-map (λ (one : ListedChange). one.matters) listed_change c.args.place.now.changes

-- The mount points are named as the policy names them that would be in force.
use Rattle.std.proofs.Common.{◌≡◌, ◌∙◌, IfOk, List, ap, map, subst}
use Rattle.std.specs.String.{string_bytes}
use Rattle.serde_json.specs.Data.{Data}
use Rattle.serde_json.specs.Written.{compact_text}
use Rattle.desk_policy.specs.Policy.{Content}
use Rattle.desk_impact.specs.ListedChanges.{ListedPlace, listed_place}
use Rattle.desk_service.specs.Foreseeing.{Foreseen, content_after, foreseen_of}
use Rattle.desk_json.specs.Changes.{changes_data}
use Rattle.cli_questions.proofs.objects.changes_text.Goals as goal

pub returns : goal.returns
returns c =
    let given : Foreseen = foreseen_of (λ (content : Content). content) c.args.foreseen.now in
    let found : List ListedPlace = map listed_place c.args.found.now in
    subst (λ (value : Data). IfOk c.changes_object.result (λ text. string_bytes text ≡ compact_text value))
    (ap (λ (before : Content). changes_data before c.named_after.result.now c.args.all found) c.policy-before.ensures
    ∙ c.changes_name_mounts.ensures given.before (content_after given) c.named_after.result.now c.args.all found c.named_after.ensures)
    c.changes_object.ensures

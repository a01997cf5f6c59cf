-- The list is told as an object.
use Rattle.std.proofs.Common.{◌∙◌, List, ap, map}
use Rattle.serde_json.specs.Written.{compact_text}
use Rattle.desk_policy.specs.Policy.{Content}
use Rattle.desk_impact.specs.ListedChanges.{listed_place}
use Rattle.desk_impact.specs.declared.listed_changes.ListedPlace.{ListedPlace as KeptPlace}
use Rattle.desk_json.specs.Changes.{changes_data}
use Rattle.cli_verdict.specs.Changes.{changes_status}
use Rattle.cli_verdict.specs.ObjectLine.{object_line}
use Rattle.cli_texts.proofs.compare_command.told_list.Goals as goal

pub returns : goal.returns
returns c =
    let all = c.args.all in
    let lent = c.as_slice.result.now in
    record {
      found = map listed_place c.in_ok-found.found.items;
      are_listed = c.in_ok-found.ensures;
      status_is = c.changes_status.ensures ∙ ap (λ (places : List KeptPlace). changes_status (map listed_place places)) c.as_slice-2.ensures.value;
      text_is = c.in_ok-text.ensures
          ∙ ap object_line (c.as_str.ensures.value ∙ c.in_ok-object.ensures
          ∙ ap (λ (old : Content). compact_text (changes_data old c.policy-2.result.now all (map listed_place lent))) c.policy.ensures
          ∙ ap (λ (new : Content). compact_text (changes_data c.args.before.now new all (map listed_place lent))) c.policy-2.ensures
          ∙ ap (λ (places : List KeptPlace). compact_text (changes_data c.args.before.now c.args.after.now all (map listed_place places))) c.as_slice.ensures.value);
    }

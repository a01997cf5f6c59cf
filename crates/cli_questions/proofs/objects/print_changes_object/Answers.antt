-- The changes are those that are found.
use Rattle.std.proofs.Common.{◌≡◌, ◌∙◌, Bool, IfOk, List, ap, map, subst}
use Rattle.std.specs.String.{string_bytes}
use Rattle.serde_json.specs.Written.{compact_text}
use Rattle.desk_policy.specs.Policy.{Content}
use Rattle.desk_impact.specs.ListedChanges.{ListedPlace, listed_place}
use Rattle.desk_impact.specs.declared.listed_changes.ListedPlace.{ListedPlace as KeptPlace}
use Rattle.desk_service.specs.Foreseeing.{Foreseen, content_after, foreseen_of}
use Rattle.desk_json.specs.Changes.{changes_data}
use Rattle.cli_verdict.specs.Changes.{changes_status}
use Rattle.cli_questions.specs.Questions.{printer_of, prints_all}
use Rattle.cli_questions.proofs.objects.print_changes_object.Goals as goal

pub returns : goal.returns
returns c =
    let given : Foreseen = foreseen_of (λ (content : Content). content) c.args.foreseen.now in
    let listed : List ListedPlace = map listed_place c.in_ok-found.found.items in
    let after : Content = content_after given in
    record {
      found = listed;
      are = c.in_ok-found.ensures;
      prints = record {
        status_is = c.changes_status.ensures ∙ ap (λ (places : List KeptPlace). changes_status (map listed_place places)) c.as_slice-2.ensures.value;
        text_is =
            c.in_ok-line.ensures (compact_text (changes_data given.before after (prints_all (printer_of c.args.asked.printer)) listed))
            (subst (λ (all : Bool). IfOk c.changes_text.result (λ text. string_bytes text ≡ compact_text (changes_data given.before after all listed))) c.prints_all-all.ensures
            (subst (λ (places : List KeptPlace). IfOk c.changes_text.result (λ text. string_bytes text ≡ compact_text (changes_data given.before after c.prints_all-all.result (map listed_place places)))) c.as_slice.ensures.value
            c.changes_text.ensures));
      };
    }

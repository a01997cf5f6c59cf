-- The list is that of the values of what it lends.
use Rattle.std.proofs.Common.{◌≡◌, ◌++◌, ◌∷◌, ◌∙◌, ℕ, IfOk, List, [], ap, codes, map, refl, subst}
use Rattle.std.specs.String.{string_bytes}
use Rattle.desk_policy.specs.Policy.{Content}
use Rattle.cli_expectations.specs.BreachesJson.{BreachValue, breach_value, elements_text, object_text}
use Rattle.cli_expectations.specs.PrivateBreachesJson.{elements_of}
use Rattle.cli_expectations.specs.declared.breaches_json.Breach.{Breach}
use Rattle.cli_expectations.proofs.Gathered.{by_values}
use Rattle.cli_expectations.proofs.breaches_json.breaches_json.Goals as goal

same_elements : (content : Content) (file : List ℕ) (breaches : List Breach) → elements_of content file breaches ≡ elements_text content file (map breach_value breaches)
same_elements content file [] = refl
same_elements content file (breach ∷ more) =
    ap (λ t. object_text content file (breach_value breach) ++ t) (by_values breach_value (λ (later : BreachValue). codes "," ++ object_text content file later) more)

pub returns : goal.returns
returns c =
    let content = c.args.policy.now in
    let file = c.args.file.now in
    subst (λ bytes. IfOk c.list_text.result (λ text. string_bytes text ≡ bytes))
    (ap (λ t. codes "[" ++ t ++ codes "]\n")
    (same_elements content file c.as_slice.result.now
    ∙ ap (λ found. elements_text content file found) (ap (map breach_value) c.as_slice.ensures.value ∙ c.in_ok-breaches.ensures))) c.list_text.ensures

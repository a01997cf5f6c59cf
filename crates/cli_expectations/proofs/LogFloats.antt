-- No log of expectations has a float.
use Rattle.std.proofs.Common.{◌≡◌, List, [], ◌∷◌, Option, ℕ, false, map, refl}
use Rattle.serde_json.specs.Data.{Data}
use Rattle.serde_json.specs.View.{items_of}
use Rattle.serde_json.specs.Written.{has_float, items_have_float}
use Rattle.desk_policy.specs.Policy.{Content}
use Rattle.desk_expect.specs.ReportText.{BrokenValue}
use Rattle.desk_expect.specs.declared.rules.PlacedFault.{PlacedFault}
use Rattle.cli_expectations.specs.BreachesLog.{broken_result, line_data}
use Rattle.cli_expectations.specs.LogRules.{log_rules, rule_data}
use Rattle.cli_expectations.specs.NamedLines.{breaking_lines}
use Rattle.cli_expectations.specs.PrivateFaultPrints.{result_among}

-- a list whose values have none
list_has_none : {A : Type 0} (write : A → Data) → ((a : A) → has_float (write a) ≡ false) → (xs : List A) → items_have_float (items_of (map write xs)) ≡ false
list_has_none write each [] = refl
list_has_none write each (x ∷ xs) = rw (each x, list_has_none write each xs) refl

pub rules_have_none : items_have_float (items_of (map rule_data log_rules)) ≡ false
rules_have_none = list_has_none rule_data (λ rule. refl) log_rules

pub faults_have_none : (path : List ℕ) (lines : List (List ℕ)) (found : List PlacedFault) → items_have_float (items_of (map (result_among path lines) found)) ≡ false
faults_have_none path lines found = list_has_none (result_among path lines) (λ placed. refl) found

one_has_none : (exports : Option (List ℕ)) (content : Content) (path : List ℕ) (broken : BrokenValue) → has_float (broken_result exports content path broken) ≡ false
one_has_none exports content path broken = rw (list_has_none (line_data exports content) (λ line. refl) (breaking_lines broken)) refl

pub broken_have_none : (exports : Option (List ℕ)) (content : Content) (path : List ℕ) (broken : List BrokenValue) → items_have_float (items_of (map (broken_result exports content path) broken)) ≡ false
broken_have_none exports content path broken = list_has_none (broken_result exports content path) (one_has_none exports content path) broken

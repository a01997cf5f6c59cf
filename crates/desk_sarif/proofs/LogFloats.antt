-- No log has a float.
use Rattle.std.proofs.Common.{◌≡◌, ◌∙◌, Bool, IfOk, List, [], ◌∷◌, Option, None, Some, Ok, Err, Result, ℕ, ap, false, map, refl, true}
use Rattle.std.specs.Prelude.{String, string_bytes}
use Rattle.std.specs.declared.alloc.AllocError.{AllocError}
use Rattle.std.specs.declared.alloc.Global.{Global}
use Rattle.serde_json.specs.Data.{Data}
use Rattle.serde_json.specs.View.{items_of}
use Rattle.serde_json.specs.Written.{compact_text, has_float, items_have_float}
use Rattle.desk_findings.specs.declared.finding.Finding.{Finding}
use Rattle.desk_check.specs.FindingPrints.{message_of, other_of}
use Rattle.desk_sarif.specs.Logs.{log_with}
use Rattle.desk_sarif.specs.Sarif.{is_suppressed, result_data, result_of}
use Rattle.desk_sarif.specs.SarifRules.{log_rules, rule_data}

-- a list whose values have none
list_has_none : {A : Type 0} (write : A → Data) → ((a : A) → has_float (write a) ≡ false) → (xs : List A) → items_have_float (items_of (map write xs)) ≡ false
list_has_none write each [] = refl
list_has_none write each (x ∷ xs) = rw (each x, list_has_none write each xs) refl

result_of_has_none : (other : Option ℕ) (suppressed : Option Bool) (finding : Finding) (text : List ℕ) → has_float (result_of other suppressed finding text) ≡ false
result_of_has_none None None finding text = refl
result_of_has_none None (Some true) finding text = refl
result_of_has_none None (Some false) finding text = refl
result_of_has_none (Some line) None finding text = refl
result_of_has_none (Some line) (Some true) finding text = refl
result_of_has_none (Some line) (Some false) finding text = refl

result_has_none : (ignored : Option (List ℕ)) (finding : Finding) → has_float (result_data ignored finding) ≡ false
result_has_none ignored finding = result_of_has_none (other_of finding.matter) (is_suppressed ignored finding) finding (message_of finding)

pub results_have_none : (ignored : Option (List ℕ)) (findings : List Finding) → items_have_float (items_of (map (result_data ignored) findings)) ≡ false
results_have_none ignored findings = list_has_none (result_data ignored) (result_has_none ignored) findings

pub rules_have_none : items_have_float (items_of (map rule_data log_rules)) ≡ false
rules_have_none = list_has_none rule_data (λ rule. refl) log_rules

-- a log has none if its rules and results have none
pub log_has_none : (rules results : List Data) → items_have_float (items_of rules) ≡ false → items_have_float (items_of results) ≡ false → has_float (log_with rules results) ≡ false
log_has_none rules results of_rules of_results = rw (of_results, of_rules) refl

-- what was written is the text of the data
pub text_is : (r : Result (String Global) AllocError) (v d : Data) → v ≡ d → has_float d ≡ false → IfOk r (λ s. has_float v ≡ false → string_bytes s ≡ compact_text v) → IfOk r (λ s. string_bytes s ≡ compact_text d)
text_is (Ok s) v d same none is = is (ap has_float same ∙ none) ∙ ap compact_text same
text_is (Err e) v d same none is = is

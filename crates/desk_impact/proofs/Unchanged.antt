-- Verdicts that say the same have no change.
use Rattle.std.proofs.Common.{◌≡◌, ◌∙◌, ◌<◌, ◌^◌, ℕ, Bool, false, cond, List, [], ◌∷◌, ap, arith, refl, subst, sym}
use Rattle.std.specs.Prelude.{filter}
use Rattle.std.specs.List.{AllByRecursion}
use Rattle.std.proofs.lemmas.Bool.{false_from_ne_true}
use Rattle.desk_policy.specs.Policy.{Content}
use Rattle.desk_who.specs.Runs.{HasValue, Run, RunsExist}
use Rattle.desk_who.specs.Who.{VerdictsAreDiscrete}
use Rattle.desk_impact.specs.Impact.{SameSayingsAreNoChange, TwoVerdicts, saying}
use Rattle.desk_impact.proofs.Telling.{matters, matters_decides, says_otherwise, says_otherwise_decides, two_pairs}

module _ (compare : VerdictsAreDiscrete) (before after : Content) (verdicts : ℕ → TwoVerdicts)
    (same : (address : ℕ) → address < 2 ^ 32 → saying after (verdicts address).after ≡ saying before (verdicts address).before) where
  abbrev is_told : Run TwoVerdicts → Bool
  is_told run = says_otherwise compare before after run.value

  not_told : (run : Run TwoVerdicts) → HasValue verdicts run → is_told run ≡ false
  not_told run values =
      let is : verdicts run.first ≡ run.value = values.values run.first (omega arith) values.proper in
      let said : saying after run.value.after ≡ saying before run.value.before = subst (λ v. saying after v.after ≡ saying before v.before) is (same run.first (omega (arith, values.addresses, values.proper))) in
      false_from_ne_true (is_told run) (λ told. (says_otherwise_decides compare before after run.value).0 told said)

  none_told : (runs : List (Run TwoVerdicts)) → AllByRecursion (HasValue verdicts) runs → [] ≡ filter is_told runs
  none_told [] values = refl
  none_told (run ∷ runs) values = none_told runs values.1 ∙ sym (ap (λ b. cond b (run ∷ filter is_told runs) (filter is_told runs)) (not_told run values.0))

pub same_sayings_are_no_change : VerdictsAreDiscrete → RunsExist TwoVerdicts → SameSayingsAreNoChange
same_sayings_are_no_change compare exist before after verdicts same =
    let some = exist (two_pairs compare) verdicts in (
      record {
        whole = some.0;
        runs = some.1;
        chosen = record {
          test = λ run. says_otherwise compare before after run.value;
          decides = λ run. says_otherwise_decides compare before after run.value;
          are = none_told compare before after verdicts same some.0 some.1.values;
        };
      },
      record { test = λ run. matters compare run.value; decides = λ run. matters_decides compare run.value; are = refl },
    )

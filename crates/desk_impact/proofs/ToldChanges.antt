-- The changes of two verdicts are the ranges at which the policies say something else.
use Rattle.std.proofs.Common.{◌≡◌, ℕ, ◌+◌, Bool, false, cond, List, sym, ◌∙◌, ap, inl, inr}
use Rattle.std.specs.Prelude.{Option, Some, None, filter}
use Rattle.std.proofs.lemmas.Bool.{cases_Bool, false_from_ne_true, true≢false}
use Rattle.desk_policy.specs.Policy.{Content}
use Rattle.desk_who.specs.MostlySame.{GoTogether}
use Rattle.desk_who.specs.Runs.{AreRunsWithValue, Run, RunsExist, RunsPassTests, RunsWithValueAreUnique, passing}
use Rattle.desk_who.specs.Who.{VerdictsAreDiscrete}
use Rattle.desk_impact.specs.MostlySame.{ChangesGoTogether}
use Rattle.desk_impact.specs.Impact.{IsImpact, TwoVerdicts, saying}
use Rattle.desk_impact.specs.PrivateMostlySame.{IsChangeAt}
use Rattle.desk_impact.proofs.Telling.{says_otherwise, says_otherwise_decides, two_pairs}

module _ (compare : VerdictsAreDiscrete) (before after : Content) where
  -- the policies say something else by these verdicts
  abbrev otherwise : TwoVerdicts → Bool
  otherwise verdicts = says_otherwise compare before after verdicts

  -- what is told of an address
  abbrev pub told_at : (ℕ → TwoVerdicts) → ℕ → Option TwoVerdicts
  told_at verdicts address = passing otherwise (verdicts address)

  pub told_is : (verdicts : TwoVerdicts) (found : Option TwoVerdicts) → IsChangeAt before after verdicts found → found ≡ passing otherwise verdicts
  told_is verdicts found is =
      elim (cases_Bool (otherwise verdicts)) as (λ _. found ≡ passing otherwise verdicts) [
        | inl told ↦ is.told ((says_otherwise_decides compare before after verdicts).0 told) ∙ sym (ap (λ b. cond b (Some verdicts) None) told)
        | inr not ↦ is.silent (λ m. true≢false (sym ((says_otherwise_decides compare before after verdicts).1 m) ∙ not)) ∙ sym (ap (λ b. cond b (Some verdicts) None) not)
      ]

  -- the runs at which the policies say something else are the changes
  pub from_told : RunsExist TwoVerdicts → RunsPassTests TwoVerdicts → RunsWithValueAreUnique TwoVerdicts → (verdicts : ℕ → TwoVerdicts) (changes : List (Run TwoVerdicts))
      → AreRunsWithValue (told_at verdicts) changes → IsImpact before after verdicts changes
  from_told exist pass unique verdicts changes are =
      let all = exist (two_pairs compare) verdicts in
      record {
        whole = all.0;
        runs = all.1;
        chosen = record {
          test = λ run. otherwise run.value;
          decides = λ run. says_otherwise_decides compare before after run.value;
          are = unique (told_at verdicts) (filter (λ (run : Run TwoVerdicts). otherwise run.value) all.0) changes (pass (two_pairs compare) otherwise verdicts all.0 all.1) are;
        };
      }

  -- where the policies say the same, nothing is told
  told_none : (verdicts : TwoVerdicts) → saying after verdicts.after ≡ saying before verdicts.before → passing otherwise verdicts ≡ None
  told_none verdicts same =
      let silent : otherwise verdicts ≡ false = false_from_ne_true (otherwise verdicts) (λ told. (says_otherwise_decides compare before after verdicts).0 told same) in
      ap (λ b. cond b (Some verdicts) None) silent

  both_none : (verdicts others : TwoVerdicts) → saying after verdicts.after ≡ saying before verdicts.before → saying after others.after ≡ saying before others.before
      → passing otherwise verdicts ≡ passing otherwise others
  both_none verdicts others same same' = told_none verdicts same ∙ sym (told_none others same')

  -- what is told goes together where the verdicts do, and where the policies say the same by both
  pub told_together : (verdicts other_at : ℕ → TwoVerdicts) (decided : List ℕ) → ChangesGoTogether before after verdicts other_at decided → GoTogether (told_at verdicts) (told_at other_at) decided
  told_together verdicts other_at decided go address fits away =
      elim (go address fits away) [
        | inl alike ↦ inl (record { here = ap (passing otherwise) alike.here; next = ap (passing otherwise) alike.next })
        | inr (inl stay) ↦ inr (record { own = ap (passing otherwise) stay.own; other = ap (passing otherwise) stay.other })
        | inr (inr say) ↦ inl (record {
          here = both_none (verdicts address) (other_at address) say.0.here say.1.here;
          next = both_none (verdicts (address + 1)) (other_at (address + 1)) say.0.next say.1.next;
        })
      ]

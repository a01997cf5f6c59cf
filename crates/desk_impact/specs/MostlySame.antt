-- What another policy would change for the clients of a path, from what it would change where the verdicts are mostly the same.
-- (this project's own)
use Rattle.std.specs.Prelude.{◌≡◌, ◌⊎◌, ℕ, ◌+◌, ◌<◌, ◌^◌, false, List}
use Rattle.desk_text.specs.AddrSet.{is_among}
use Rattle.desk_policy.specs.Policy.{Content}
use Rattle.desk_who.specs.MostlySame.{AreAlike, NeitherChanges}
use Rattle.desk_who.specs.Runs.{Run}
use Rattle.desk_impact.specs.Impact.{IsImpact, SayTheSameOn, TwoVerdicts}

-- Two pairs of verdicts go together except at the decided addresses: at any other one, and at the one before it, they are the same,
-- or neither changes between the two, or by neither do the policies say something else.
abbrev pub ChangesGoTogether : Content → Content → (ℕ → TwoVerdicts) → (ℕ → TwoVerdicts) → List ℕ → Type 0
ChangesGoTogether before after verdicts other_at decided =
    (address : ℕ) → address + 1 < 2 ^ 32 → is_among (address + 1) decided ≡ false
    → AreAlike verdicts other_at address ⊎ (NeitherChanges verdicts other_at address ⊎ (SayTheSameOn before after verdicts address × SayTheSameOn before after other_at address))

-- Given the changes of other verdicts, which go together with these except at the decided addresses, these are the changes.
abbrev pub IsImpactBeside : Content → Content → (ℕ → TwoVerdicts) → List (Run TwoVerdicts) → List ℕ → List (Run TwoVerdicts) → Type 0
IsImpactBeside before after verdicts others decided changes =
    (other_at : ℕ → TwoVerdicts) → IsImpact before after other_at others → ChangesGoTogether before after verdicts other_at decided → IsImpact before after verdicts changes

-- What another policy would change, as it is printed. (this project's own)
use Rattle.std.specs.Prelude.{ℕ, ◌++◌, List, ◌∷◌, Result}
use Rattle.std.specs.List.{flat_map}
use Rattle.desk_policy.specs.Policy.{Content}
use Rattle.desk_policy.specs.Verdict.{Grant}
use Rattle.desk_policy.specs.declared.verdict.Denial.{Denial}
use Rattle.desk_impact.specs.Impact.{TwoVerdicts}
use Rattle.desk_who.specs.Runs.{Run}
use Rattle.desk_who.specs.WhoPrints.{range_line}

-- a range with one of its verdicts
abbrev pub with_verdict : Run TwoVerdicts → Result Grant Denial → Run (Result Grant Denial)
with_verdict change verdict = record { first = change.first; last = change.last; value = verdict }

-- the line that would go, behind `- `, and the line that would come, behind `+ `
abbrev pub change_lines : Content → Content → Run TwoVerdicts → List ℕ
change_lines before after change =
    (45 ∷ 32 ∷ range_line before (with_verdict change change.value.before)) ++ (43 ∷ 32 ∷ range_line after (with_verdict change change.value.after))

-- those of each change
abbrev pub impact_text : Content → Content → List (Run TwoVerdicts) → List ℕ
impact_text before after changes = flat_map (change_lines before after) changes

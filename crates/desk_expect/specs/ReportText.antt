-- Which expectations a policy breaks, as it is printed. (this project's own)
use Rattle.std.specs.Prelude.{ℕ, ◌++◌, ◌==◌, Bool, true, false, List, [], ◌∷◌, codes, length, if◌then◌else◌}
use Rattle.std.specs.Fmt.{decimal}
use Rattle.std.specs.List.{flat_map}
use Rattle.desk_text.specs.Address.{addr_text}
use Rattle.desk_policy.specs.Policy.{Content}
use Rattle.desk_policy.specs.Prints.{verdict_line}
use Rattle.desk_who.specs.Runs.{Run}
use Rattle.desk_impact.specs.Report.{heading}
use Rattle.desk_expect.specs.Judging.{JudgedValue, PlaceJudged}
use Rattle.desk_expect.specs.declared.expectation.Expectation.{Expectation}

-- an expectation, and where and for whom it is broken
pub record BrokenValue : Type 0 where
  pub expectation : Expectation
  pub sections : List PlaceJudged

-- the line above the sections, as `promises:3: broken: everybody may not write /usr/...`
abbrev pub headline : List ℕ → Expectation → List ℕ
headline file expectation = file ++ 58 ∷ decimal expectation.line ++ codes ": broken: " ++ expectation.text ++ 10 ∷ []

-- what stands behind a verdict that is that of the server alone
abbrev pub by_text : Bool → List ℕ
by_text true = codes " by mountd(8)"
by_text false = []

-- a range and the verdict that breaks the expectation, as `10.0.0.5-10.0.0.5 granted line 2 rw sec=sys root=65534:65533 by mountd(8)`
abbrev pub judged_line : Content → Run JudgedValue → List ℕ
judged_line content range =
    addr_text range.first ++ 45 ∷ addr_text range.last ++ 32 ∷ verdict_line content range.value.verdict ++ by_text range.value.by_server ++ 10 ∷ []

-- a section: the heading of its place, and a line for each range
abbrev pub section_text : Content → PlaceJudged → List ℕ
section_text content section = heading section.place ++ flat_map (judged_line content) section.ranges

abbrev pub broken_text : Content → List ℕ → BrokenValue → List ℕ
broken_text content file broken = headline file broken.expectation ++ flat_map (section_text content) broken.sections

-- how many expectations there are, as `6 expectations`
abbrev pub count_text : ℕ → List ℕ
count_text count = decimal count ++ (if count == 1 then codes " expectation" else codes " expectations")

-- how many are broken
abbrev pub broken_count_text : ℕ → List ℕ
broken_count_text broken = codes ", " ++ decimal broken ++ codes " broken"

-- how many expectations there are, and how many are broken, as `6 expectations, 1 broken`
abbrev pub last_line : ℕ → ℕ → List ℕ
last_line count broken = count_text count ++ broken_count_text broken ++ 10 ∷ []

-- the expectations that are broken, and the last line
abbrev pub report_text : Content → List ℕ → ℕ → List BrokenValue → List ℕ
report_text content file count broken = flat_map (broken_text content file) broken ++ last_line count (length broken)

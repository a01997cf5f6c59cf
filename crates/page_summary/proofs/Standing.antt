-- The lines that stand out are those that each line adds.
use Rattle.std.proofs.Common.{◌≡◌, ◌++◌, ◌∙◌, Bool, true, false, cond, List, [], ◌∷◌, ap, filter, map, refl}
use Rattle.std.specs.List.{flat_map}
use Rattle.std.proofs.lemmas.List.Concat.{flat_map-cons}
use Rattle.page_findings.specs.Deciding.{DecidedFor}
use Rattle.page_findings.specs.Findings.{stands_out}
use Rattle.page_findings.specs.Lines.{LineValue}
use Rattle.page_summary.specs.SiteFinding.{SiteFindingValue, finding_if, finding_of, findings_among}

pub standing_out : (decided : List (List DecidedFor)) (lines : List LineValue) → flat_map (finding_if decided) lines ≡ findings_among decided lines
standing_out decided [] = refl
standing_out decided (line ∷ lines) = flat_map-cons (finding_if decided) line lines ∙ by (stands_out line) (standing_out decided lines)
  where
    told : List SiteFindingValue
    told = flat_map (finding_if decided) lines

    left : List LineValue
    left = filter stands_out lines

    by : (b : Bool) → told ≡ map (finding_of decided) left → cond b (finding_of decided line ∷ []) [] ++ told ≡ map (finding_of decided) (cond b (line ∷ left) left)
    by true rest = ap (λ values. finding_of decided line ∷ values) rest
    by false rest = rest

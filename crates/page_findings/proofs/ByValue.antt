-- Reasons are told by their values.
use Rattle.std.proofs.Common.{◌≡◌, List, [], ◌∷◌, ◌++◌, map, refl}
use Rattle.std.specs.List.{flat_map}
use Rattle.page_data.specs.ReasonValues.{reason_value}
use Rattle.page_data.specs.declared.reasons.Reason.{Reason}
use Rattle.page_data.specs.declared.reasons.Reason.TheVariants.{ServerGrantsMore}
use Rattle.page_findings.specs.FindingWords.{FindingValue, reason_items, reasons_items, value_items}
use Rattle.page_findings.specs.Joining.{comma, joined}

module _ (finding : FindingValue) where
  one_by_value : (reason : Reason) → reason_items finding reason ≡ value_items finding (reason_value reason)
  one_by_value (ServerGrantsMore found) = refl
  one_by_value reason = refl

  behind_by_value : (reasons : List Reason)
      → flat_map (λ reason. comma ∷ reason_items finding reason) reasons ≡ flat_map (λ value. comma ∷ value_items finding value) (map reason_value reasons)
  behind_by_value [] = refl
  behind_by_value (reason ∷ reasons) = λ i. (comma ∷ one_by_value reason i) ++ behind_by_value reasons i

  pub told_by_value : (reasons : List Reason) → reasons_items finding reasons ≡ joined (value_items finding) comma (map reason_value reasons)
  told_by_value [] = refl
  told_by_value (reason ∷ reasons) = λ i. one_by_value reason i ++ behind_by_value reasons i

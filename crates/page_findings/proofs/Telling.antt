-- Why the lines of file systems stand out, with one more file system.
use Rattle.std.proofs.Common.{◌≡◌, ℕ, ◌+◌, ◌<◌, ◌++◌, ◌∙◌, List, [], ◌∷◌, ap, arith, get_or, inl, inr, length, refl, subst, sym}
use Rattle.std.proofs.lemmas.Bool.{cases_eq}
use Rattle.std.proofs.lemmas.List.{get_or_append_left, get_or_push, length-append}
use Rattle.desk_policy.specs.Policy.{Content}
use Rattle.page_data.specs.Lines.{AreLineReasons}
use Rattle.page_data.specs.declared.lines.LineReasons.{LineReasons}
use Rattle.page_findings.specs.Lines.{AreReasonsOfSite}

-- those of the first so many file systems
pub record AreReasonsOfFirst (content : Content) (count : ℕ) (reasons : List (List LineReasons)) : Type 0 where
  pub many : length reasons ≡ count
  pub each : (fs : ℕ) → fs < count → AreLineReasons content fs (get_or reasons fs [])

pub reasons_none : (content : Content) → AreReasonsOfFirst content 0 []
reasons_none content = record { many = refl; each = λ fs within. absurd (omega arith) }

pub reasons_more : (content : Content) (count : ℕ) (reasons new : List (List LineReasons)) (own : List LineReasons) → AreReasonsOfFirst content count reasons → new ≡ reasons ++ own ∷ [] → AreLineReasons content count own
    → AreReasonsOfFirst content (count + 1) new
reasons_more content count reasons new own so_far pushed told = record {
  many = ap length pushed ∙ length-append reasons (own ∷ []) ∙ ap (λ n. n + 1) so_far.many;
  each = λ fs within. elim (cases_eq fs count) as (λ _. AreLineReasons content fs (get_or new fs [])) [
    | inl last ↦ subst (λ n. AreLineReasons content n (get_or new n [])) (sym last) (subst (AreLineReasons content count) (sym (ap (λ rs. get_or rs count []) pushed ∙ get_or_push reasons own [] count so_far.many)) told)
    | inr earlier ↦
        let below : fs < count = omega arith in
        subst (AreLineReasons content fs) (sym (ap (λ rs. get_or rs fs []) pushed ∙ get_or_append_left reasons (own ∷ []) [] fs (omega (arith, so_far.many)))) (so_far.each fs below)
  ];
}

pub all_reasons : (content : Content) (count : ℕ) (reasons : List (List LineReasons)) → AreReasonsOfFirst content count reasons → count ≡ length content.table → AreReasonsOfSite content reasons
all_reasons content count reasons so_far all = record { count = so_far.many ∙ all; each = λ fs within. so_far.each fs (omega (arith, all)) }

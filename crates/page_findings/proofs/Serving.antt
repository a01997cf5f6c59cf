-- What the server does otherwise of file systems, with one more file system.
use Rattle.std.proofs.Common.{◌≡◌, ℕ, ◌+◌, ◌<◌, ◌++◌, ◌∙◌, List, [], ◌∷◌, ap, arith, get_or, inl, inr, length, refl, subst, sym}
use Rattle.std.proofs.lemmas.Bool.{cases_eq}
use Rattle.std.proofs.lemmas.List.{get_or_append_left, get_or_push, length-append}
use Rattle.desk_policy.specs.Policy.{Content}
use Rattle.page_data.specs.Server.{AreServerFindings}
use Rattle.page_data.specs.declared.server.ServerFindings.{ServerFindings}
use Rattle.page_findings.specs.Server.{AreServerOfSite}

-- those of the first so many file systems
pub record AreServerOfFirst (content : Content) (count : ℕ) (found : List ServerFindings) : Type 0 where
  pub many : length found ≡ count
  pub each : (fs : ℕ) (default : ServerFindings) → fs < count → AreServerFindings content fs (get_or found fs default)

pub server_none : (content : Content) → AreServerOfFirst content 0 []
server_none content = record { many = refl; each = λ fs default within. absurd (omega arith) }

pub server_more : (content : Content) (count : ℕ) (found new : List ServerFindings) (own : ServerFindings) → AreServerOfFirst content count found → new ≡ found ++ own ∷ [] → AreServerFindings content count own
    → AreServerOfFirst content (count + 1) new
server_more content count found new own so_far pushed told = record {
  many = ap length pushed ∙ length-append found (own ∷ []) ∙ ap (λ n. n + 1) so_far.many;
  each = λ fs default within. elim (cases_eq fs count) as (λ _. AreServerFindings content fs (get_or new fs default)) [
    | inl last ↦ subst (λ n. AreServerFindings content n (get_or new n default)) (sym last) (subst (AreServerFindings content count) (sym (ap (λ rs. get_or rs count default) pushed ∙ get_or_push found own default count so_far.many)) told)
    | inr earlier ↦
        let below : fs < count = omega arith in
        subst (AreServerFindings content fs) (sym (ap (λ rs. get_or rs fs default) pushed ∙ get_or_append_left found (own ∷ []) default fs (omega (arith, so_far.many)))) (so_far.each fs default below)
  ];
}

pub all_server : (content : Content) (count : ℕ) (found : List ServerFindings) → AreServerOfFirst content count found → count ≡ length content.table → AreServerOfSite content found
all_server content count found so_far all = record { count = so_far.many ∙ all; each = λ fs default within. so_far.each fs default (omega (arith, all)) }

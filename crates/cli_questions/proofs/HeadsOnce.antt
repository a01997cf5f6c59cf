-- Newest revisions of which no two are of one file, one after another.
use Rattle.std.proofs.Common.{◌≡◌, ◌≢◌, ◌∙◌, ◌++◌, ◌+◌, ◌<◌, ℕ, zero, suc, Bool, true, false, List, [], ◌∷◌, ap, arith, get_or, length, not, refl, subst, sym, take}
use Rattle.std.specs.List.{AllPairs, list_all}
use Rattle.std.specs.Str.{bytes_eq}
use Rattle.std.proofs.lemmas.Bool.{false≢true}
use Rattle.std.proofs.lemmas.List.{get_or-take, length-take-le, take_more}
use Rattle.std.proofs.lemmas.List.Quantifiers.{all_pairs_push}
use Rattle.std.proofs.lemmas.List.Sums.{AllPass-from_list_all, list_all-from_AllPass}
use Rattle.std.proofs.lemmas.Slice.Eq.{bytes_eq-Decides}
use Rattle.desk_core.specs.declared.head.Head.{Head}
use Rattle.cli_questions.specs.PrivateReport.{is_apart}

abbrev pub Apart : Head → Head → Type 0
Apart head later = head.file ≢ later.file

test_true : (a b : List ℕ) → a ≢ b → not (bytes_eq a b) ≡ true
test_true a b apart = step (bytes_eq a b) refl
  where
    step : (c : Bool) → bytes_eq a b ≡ c → not c ≡ true
    step true e = absurd (apart ((bytes_eq-Decides a b).0 e))
    step false e = refl

from_test : (a b : List ℕ) → not (bytes_eq a b) ≡ true → a ≢ b
from_test a b h same = let e : bytes_eq a b ≡ true = (bytes_eq-Decides a b).1 same in false≢true (sym (ap not e) ∙ h)

default : {X : Type 0} (xs : List X) (k : ℕ) (d e : X) → k < length xs → get_or xs k d ≡ get_or xs k e
default [] k d e below = absurd (omega arith)
default (x ∷ xs) zero d e below = refl
default (x ∷ xs) (suc k) d e below = default xs k d e (omega arith)

module _ (heads : List Head) (i : ℕ) (head : Head) (below : i < length heads) (is : head ≡ get_or heads i head) where
  -- no earlier one is of its file
  pub one_more_apart : list_all (is_apart head) (take i heads) ≡ true → AllPairs Apart (take i heads) → AllPairs Apart (take (i + 1) heads)
  one_more_apart first all =
      let passes = AllPass-from_list_all (is_apart head) (take i heads) first in
      subst (AllPairs Apart) (sym (take_more heads i head below ∙ ap (λ x. take i heads ++ x ∷ []) (sym is)))
      (all_pairs_push Apart (take i heads) head all (λ k d within. from_test (get_or (take i heads) k d).file head.file (passes k d within)))

  pub not_apart : list_all (is_apart head) (take i heads) ≡ false → AllPairs Apart heads → ⊥
  not_apart first all =
      false≢true (sym first ∙ list_all-from_AllPass (is_apart head) (take i heads) (λ k d within.
      let k_below : k < i = omega (arith, within, length-take-le i heads (omega arith)) in
      let other : Head = get_or (take i heads) k d in
      let there : other ≡ get_or heads k d = get_or-take i heads k d k_below in
      test_true other.file head.file
      (λ same. all k i d k_below below (ap (λ (x : Head). x.file) (sym there) ∙ same ∙ ap (λ (x : Head). x.file) (is ∙ default heads i head d below)))))

-- Of the newest revisions of a history no two are of one file.
use Rattle.std.proofs.Common.{◌≡◌, ◌∙◌, sym, ap, subst, inl, inr, refl, ℕ, suc, ◌<◌, ◌==◌, Bool, true, cond, List, [], ◌∷◌, length, get_or, arith}
use Rattle.std.specs.Prelude.{◌≢◌, All, AllPairs, Contains, String, filter}
use Rattle.std.specs.Str.{bytes_eq}
use Rattle.std.specs.BTreeMap.{BTreeMap}
use Rattle.std.proofs.lemmas.Bool.{cases_Bool, eqb-true, false≢true}
use Rattle.std.proofs.lemmas.List.Kept.{AllPairs-cons, AllPairs-filter}
use Rattle.std.proofs.lemmas.Slice.Eq.{bytes_eq-Decides}
use Rattle.desk_core.specs.Head.{Revision, StandOnce}
use Rattle.desk_store.specs.NewestRevisions.{number_in}
use Rattle.desk_store.proofs.Members.{default, from_filter, in_filter}
use Rattle.desk_store.proofs.Revisions.{AreNumbered, IsNumbered, own, rev_at}

-- what holds of each pair of those that pass holds of each pair in which both pass
module _ {X : Type 0} (R : X → X → Type 0) (p : X → Bool) where
  abbrev IfBoth : X → X → Type 0
  IfBoth x y = p x ≡ true → p y ≡ true → R x y

  first : (x : X) (xs ys : List X) → ((y : X) → Contains xs y → p y ≡ true → Contains ys y) → AllPairs R (x ∷ ys) → All (IfBoth x) xs
  first x xs ys there pairs k d below own passes =
      let y : X = get_or xs k d in
      let at = there y (k, below, default xs k y d below) passes in
      subst (R x) at.2 (pairs 0 (suc at.0) y (omega arith) (omega (arith, at.1)))

  pub both_pass : (xs : List X) → AllPairs R (filter p xs) → AllPairs IfBoth xs
  both_pass [] pairs = λ i j d lt within. absurd (omega arith)
  both_pass (x ∷ xs) pairs = elim (cases_Bool (p x)) [
    | inl own ↦
        let all : AllPairs R (x ∷ filter p xs) = subst (λ b. AllPairs R (cond b (x ∷ filter p xs) (filter p xs))) own pairs in
        AllPairs-cons IfBoth x xs (first x xs (filter p xs) (λ y there passes. in_filter p xs y there passes) all)
        (both_pass xs (λ i j d lt within. all (suc i) (suc j) d (omega arith) (omega arith)))
    | inr other ↦
        let all : AllPairs R (filter p xs) = subst (λ b. AllPairs R (cond b (x ∷ filter p xs) (filter p xs))) other pairs in
        AllPairs-cons IfBoth x xs (λ k d below. λ own passes. absurd (false≢true (sym other ∙ own))) (both_pass xs all)
  ]

rises : (xs : List Revision) → AreNumbered xs → AllPairs (λ (r later : Revision). r.rev ≢ later.rev) xs
rises xs numbered i j d lt within = λ same.
    let one = rev_at xs i d numbered (omega arith) in
    let two = rev_at xs j d numbered within in
    omega (arith, one, two, same)

-- in a history two revisions of one file have two numbers
apart : (history : List Revision) → IsNumbered history → AllPairs (λ (r later : Revision). r.file ≡ later.file → r.rev ≢ later.rev) history
apart history h i j d lt within = λ same.
    let file : List ℕ = (get_or history i d).file in
    let other : List ℕ = (get_or history j d).file in
    both_pass (λ (r later : Revision). r.rev ≢ later.rev) (λ (r : Revision). bytes_eq r.file file) history (rises (own file history) (h file)) i j d lt within
    ((bytes_eq-Decides file file).1 refl) ((bytes_eq-Decides other file).1 (sym same))

-- those that have the number that is kept of their file
pub chosen_once : {Y : Type 0} (numbers : BTreeMap (String Y) ℕ) (history : List Revision) → IsNumbered history → StandOnce (filter (λ (r : Revision). number_in numbers r.file == r.rev) history)
chosen_once numbers history h i j d lt within = λ same.
    let chosen : Revision → Bool = λ r. number_in numbers r.file == r.rev in
    let heads : List Revision = filter chosen history in
    let number : (k : ℕ) → k < length heads → number_in numbers (get_or heads k d).file ≡ (get_or heads k d).rev =
    λ k below.
    let head : Revision = get_or heads k d in
    eqb-true (number_in numbers head.file) head.rev (from_filter chosen history head (k, below, default heads k head d below)).1 in
    AllPairs-filter (λ (r later : Revision). r.file ≡ later.file → r.rev ≢ later.rev) chosen history (apart history h) i j d lt within same
    (sym (number i (omega arith)) ∙ ap (number_in numbers) same ∙ number j within)

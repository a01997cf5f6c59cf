-- What rows say, one row after another.
use Rattle.std.proofs.Common.{◌≡◌, ◌∙◌, sym, ap, subst, ℕ, ◌+◌, ◌<◌, ◌++◌, true, false, cond, List, [], ◌∷◌, Some, Result, Ok, Err, All, get_or, length, map, take, refl}
use Rattle.std.specs.Prelude.{IsPermutation, is_err, is_ok}
use Rattle.std.specs.List.{filter_map}
use Rattle.std.proofs.lemmas.List.{map-append, take_more}
use Rattle.std.proofs.lemmas.List.Sorted.{Contains-permutation, IsPermutation-sym}
use Rattle.sqlite.specs.Order.{Row}
use Rattle.desk_core.specs.Head.{Revision}
use Rattle.desk_store.specs.Desk.{IsStorable}
use Rattle.desk_store.specs.History.{approval_of}
use Rattle.desk_store.proofs.Members.{from_filter_map, from_map}

is_ok_of : {A E : Type 0} (r : Result A E) → is_err r ≡ false → is_ok r ≡ true
is_ok_of (Ok x) h = refl
is_ok_of (Err e) h = absurd (cc)

pub pushed : {A E X : Type 0} (r : Result A E) (xs ys : List X) (x : X) → is_err r ≡ false → ys ≡ cond (is_ok r) (xs ++ x ∷ []) xs → ys ≡ xs ++ x ∷ []
pushed r xs ys x ok h = h ∙ ap (λ b. cond b (xs ++ x ∷ []) xs) (is_ok_of r ok)

-- one row more is read
pub read_more : {X : Type 0} (f : X → Row) (rows : List Row) (i : ℕ) (row : Row) (xs new : List X) (x : X) → i < length rows → row ≡ get_or rows i row → new ≡ xs ++ x ∷ [] → f x ≡ row
    → map f xs ≡ take i rows → map f new ≡ take (i + 1) rows
read_more f rows i row xs new x below is more said so_far =
    ap (map f) more ∙ map-append f xs (x ∷ []) ∙ ap (λ ys. ys ++ f x ∷ []) so_far ∙ ap (λ y. take i rows ++ y ∷ []) (said ∙ is) ∙ sym (take_more rows i row below)

module _ (rows : List Row) (i : ℕ) (row : Row) (below : i < length rows) (is : row ≡ get_or rows i row) where
  -- a row that nothing of a kind says is not among those of a list of that kind
  pub not_said : {X : Type 0} (f : X → Row) (P : X → Type 0) → ((x : X) → P x → f x ≡ row → ⊥) → (xs : List X) → All P xs → IsPermutation (map f xs) rows → ⊥
  not_said f P foreign xs all same =
      let it = from_map f xs row (Contains-permutation rows (map f xs) row (IsPermutation-sym (map f xs) rows same) (i, below, sym is)) in
      foreign it.0 (subst P it.1.2 (all it.1.0 it.0 it.1.1)) it.2

  -- nor among those of the approvals of revisions
  pub not_approved : ((revision : Revision) → IsStorable revision → approval_of revision ≡ Some row → ⊥) → (history : List Revision) → All IsStorable history → IsPermutation (filter_map approval_of history) rows → ⊥
  not_approved foreign history all same =
      let approvals = filter_map approval_of history in
      let it = from_filter_map approval_of history row (Contains-permutation rows approvals row (IsPermutation-sym approvals rows same) (i, below, sym is)) in
      foreign it.0 (subst IsStorable it.1.2 (all it.1.0 it.0 it.1.1)) it.2

-- What is counted in the file systems of mount points.
use Rattle.std.proofs.Common.{◌≡◌, ◌∙◌, ◌+◌, ◌<◌, ◌&&◌, ◌++◌, ◌∷◌, ℕ, false, eqb, List, [], ap, get_or, inl, inr, length, subst, sym, take}
use Rattle.std.specs.List.{AllZip}
use Rattle.std.proofs.lemmas.Bool.{and_right, cases_eq, ne_eqb}
use Rattle.std.proofs.lemmas.List.{length-append, take_more}
use Rattle.std.proofs.lemmas.List.Sums.{sum_by_push}
use Rattle.desk_tables.specs.declared.filesystems.Mount.{Mount}
use Rattle.desk_server_notes.specs.CountsNote.{CountsFound}

pub zip_push : {A B : Type 0} (R : A → B → Type 0) (xs : List A) (ys : List B) (x : A) (y : B) → AllZip R xs ys → R x y → AllZip R (xs ++ x ∷ []) (ys ++ y ∷ [])
zip_push R [] [] x y all one = (one, tt)
zip_push R [] (b ∷ ys) x y all one = absurd all
zip_push R (a ∷ xs) [] x y all one = absurd all
zip_push R (a ∷ xs) (b ∷ ys) x y all one = (all.0, zip_push R xs ys x y all.1 one)

pub counts_none : {X : Type 0} (are_at : List (List ℕ) → List X → Type 0) (all : List X) → all ≡ [] → CountsFound are_at [] (length all)
counts_none are_at all is = record { lists = []; are = tt; count_is = ap length is }

pub counts_more : {X : Type 0} (are_at : List (List ℕ) → List X → Type 0) (mounts : List Mount) (i : ℕ) (mount : Mount) (found all next : List X) → i < length mounts → mount ≡ get_or mounts i mount
    → CountsFound are_at (take i mounts) (length all) → are_at mount.path found → next ≡ all ++ found → CountsFound are_at (take (i + 1) mounts) (length next)
counts_more {X = X} are_at mounts i mount found all next below is before here grown =
    let R : Mount → List X → Type 0 = λ one list. are_at one.path list in
    let longer : take (i + 1) mounts ≡ take i mounts ++ mount ∷ [] = take_more mounts i mount below ∙ ap (λ (m : Mount). take i mounts ++ m ∷ []) (sym is) in
    record {
      lists = before.lists ++ found ∷ [];
      are = subst (λ (ms : List Mount). AllZip R ms (before.lists ++ found ∷ [])) (sym longer) (zip_push R (take i mounts) before.lists mount found before.are here);
      count_is =
          ap (λ (xs : List X). length xs) grown ∙ length-append all found ∙ ap (λ (n : ℕ). n + length found) before.count_is
          ∙ sym (sum_by_push (λ (xs : List X). length xs) before.lists found);
    }

-- there is something to say
pub not_none : (wider left_out : ℕ) → (wider ≡ 0 → left_out ≡ 0 → ⊥) → (eqb wider 0 && eqb left_out 0) ≡ false
not_none wider left_out some = elim (cases_eq wider 0) [
  | inl none ↦ and_right (eqb wider 0) (eqb left_out 0) (ne_eqb left_out 0 (some none))
  | inr more ↦ ap (λ b. b && eqb left_out 0) (ne_eqb wider 0 more)
]

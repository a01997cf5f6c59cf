-- One revision more takes its approval from the end of a list.
use Rattle.std.proofs.Common.{◌≡◌, ◌∙◌, sym, ap, refl, ℕ, ◌+◌, ◌-◌, ◌<◌, ◌++◌, ◌==◌, Bool, true, false, cond, List, [], ◌∷◌, Some, None, Result, Ok, Err, OnOk, is_err, drop, get_or, length, option_to_list, reverse, set, take, arith, append_assoc, length-append}
use Rattle.std.specs.Prelude.{slice_get}
use Rattle.std.specs.Option.{option_map_or}
use Rattle.std.proofs.lemmas.Bool.{eqb-true}
use Rattle.std.proofs.lemmas.List.{drop-set-lt, drop_more, reverse-append, reverse-reverse, take_more_set}
use Rattle.desk_core.specs.Head.{Revision}
use Rattle.desk_store.specs.StoredRows.{approved_all, is_approval_of, last_of, left_after, left_by, own_approval, own_first, with_approval}
use Rattle.desk_store.specs.declared.stored_rows.Approval.{Approval}

at_end : (xs : List Approval) (a : Approval) → slice_get (xs ++ a ∷ []) (length xs) ≡ Some a
at_end [] a = refl
at_end (x ∷ xs) a = at_end xs a

last_is : (xs : List Approval) (a : Approval) → last_of (xs ++ a ∷ []) ≡ Some a
last_is xs a =
    let n : length (xs ++ a ∷ []) - 1 ≡ length xs = omega (arith, length-append xs (a ∷ [])) in
    ap (λ i. slice_get (xs ++ a ∷ []) i) n ∙ at_end xs a

-- the last approval is the first of the reversed list
own_of : (r : Revision) (bs : List Approval) → own_approval r (reverse bs) ≡ own_first r bs
own_of r [] = refl
own_of r (a ∷ bs) = ap (own_approval r) (reverse-append (a ∷ []) bs) ∙ ap (λ o. cond (option_map_or (is_approval_of r) o false) o None) (last_is (reverse bs) a)

own_is : (r : Revision) (items : List Approval) → own_approval r items ≡ own_first r (reverse items)
own_is r items = ap (own_approval r) (sym (reverse-reverse items)) ∙ own_of r (reverse items)

left_of : (r : Revision) (bs rest : List Approval) → bs ≡ reverse (option_to_list (own_first r bs)) ++ rest → rest ≡ left_by r bs
left_of r [] rest e = sym e
left_of r (a ∷ bs) rest e = step (is_approval_of r a) e
  where
    step : (b : Bool) → a ∷ bs ≡ reverse (option_to_list (cond b (Some a) None)) ++ rest → rest ≡ cond b bs (a ∷ bs)
    step true e = cc
    step false e = sym e

left_is : (r : Revision) (old left : List Approval) → old ≡ left ++ option_to_list (own_approval r old) → reverse left ≡ left_by r (reverse old)
left_is r old left e =
    left_of r (reverse old) (reverse left)
    (ap reverse e ∙ reverse-append left (option_to_list (own_approval r old)) ∙ ap (λ o. reverse (option_to_list o) ++ reverse left) (own_is r old))

module _ (items : List Revision) (i : ℕ) (head new : Revision) (old left : List Approval) (below : i < length items) (is : head ≡ get_or items i head)
    (made : new ≡ with_approval (own_approval head old) head) (taken : old ≡ left ++ option_to_list (own_approval head old)) where
  abbrev front : List Revision
  front = take i items

  abbrev rest : List Revision
  rest = drop (i + 1) items

  here : drop i items ≡ head ∷ rest
  here = drop_more items i head below ∙ ap (λ r. r ∷ rest) (sym is)

  untouched : drop (i + 1) (set items i new) ≡ rest
  untouched = drop-set-lt (i + 1) items i new (omega arith)

  pub taken_one : (whole : List Revision) → whole ≡ front ++ approved_all (drop i items) (reverse old) → whole ≡ take (i + 1) (set items i new) ++ approved_all (drop (i + 1) (set items i new)) (reverse left)
  taken_one whole e =
      e ∙ ap (λ rs. front ++ approved_all rs (reverse old)) here ∙ ap (λ o. front ++ (with_approval o head ∷ approved_all rest (left_by head (reverse old)))) (sym (own_is head old))
      ∙ ap (λ r. front ++ (r ∷ approved_all rest (left_by head (reverse old)))) (sym made) ∙ ap (λ bs. front ++ (new ∷ approved_all rest bs)) (sym (left_is head old left taken))
      ∙ sym (append_assoc front (new ∷ []) (approved_all rest (reverse left))) ∙ ap (λ xs. xs ++ approved_all rest (reverse left)) (sym (take_more_set items i new below))
      ∙ ap (λ rs. take (i + 1) (set items i new) ++ approved_all rs (reverse left)) (sym untouched)

  pub left_one : (whole : List Approval) → whole ≡ left_after (drop i items) (reverse old) → whole ≡ left_after (drop (i + 1) (set items i new)) (reverse left)
  left_one whole e =
      e ∙ ap (λ rs. left_after rs (reverse old)) here ∙ ap (left_after rest) (sym (left_is head old left taken)) ∙ ap (λ rs. left_after rs (reverse left)) (sym untouched)

-- ---- for the caller

pub on_ok : {A E : Type 0} (r : Result A E) (P : Type 0) → is_err r ≡ false → OnOk r P → P
on_ok (Ok x) P ok h = h
on_ok (Err e) P ok h = absurd (cc)

pub none_of_length : {X : Type 0} (xs : List X) → (length xs == 0) ≡ true → xs ≡ []
none_of_length [] h = refl
none_of_length (x ∷ xs) h = absurd (let e = eqb-true (length (x ∷ xs)) 0 h in omega (arith, e))

-- What the rows of a file's revisions and of their approvals tell, in ascending order of the numbers, is told by its revisions.
use Rattle.std.proofs.Common.{◌≡◌, ◌∙◌, sym, ap, subst, refl, ℕ, suc, ◌+◌, ◌<◌, ◌≤◌, ◌==◌, true, List, [], ◌∷◌, ◌++◌, Option, Some, None, Result, Ok, Err, IfOk, IsPermutation, codes, filter, filter_map, get_or, length, map, option_map, take, arith}
use Rattle.std.specs.Prelude.{Contains}
use Rattle.std.specs.List.{AllByRecursion, range_with_len}
use Rattle.std.specs.List.Sorted.{IsNonDecreasingBy}
use Rattle.std.specs.Str.{bytes_eq}
use Rattle.std.proofs.lemmas.Bool.{eq-eqb, eqb-true}
use Rattle.std.proofs.lemmas.List.{map-append, take_more, get_or-map, length-map}
use Rattle.std.proofs.lemmas.List.FromFn.{get_or-range_with_len, length-range_with_len}
use Rattle.std.proofs.lemmas.List.Sorted.{Contains-permutation, IsPermutation-map, IsPermutation-sym, IsPermutation-trans}
use Rattle.sqlite.specs.Order.{Row}
use Rattle.sqlite.specs.Effect.{Database}
use Rattle.sqlite_trees.proofs.ListLemmas.{IsPermutation-filter, all_of, filter-map, filter_same}
use Rattle.desk_exports.specs.Profile.{profile_number}
use Rattle.desk_exports.specs.declared.profile.Profile.{Profile}
use Rattle.desk_exports.specs.declared.profile.Profile.TheVariants.{One, Two}
use Rattle.desk_core.specs.Head.{Revision}
use Rattle.desk_core.specs.History.{revisions_of}
use Rattle.desk_core.specs.declared.entry.Entry.{Entry}
use Rattle.desk_store.specs.Desk.{signature_of}
use Rattle.desk_store.specs.History.{Holds, approval_of, revisions_in, row_of}
use Rattle.desk_store.specs.Rows.{Lists, Signs, approver_at, listed, profile_with, signed}
use Rattle.desk_store.specs.Looks.{approvers_in, is_of, number_and_approver, number_author_and_profile, numbers_in}
use Rattle.desk_store.specs.Tables.{approval_row, rows_of}
use Rattle.desk_store.specs.declared.desk.Signature.{Signature}
use Rattle.desk_store.specs.declared.error.DeskError.{DeskError}
use Rattle.desk_store.proofs.FoundRows.{of_file, row_parts}
use Rattle.desk_store.proofs.HistoryStep.{same_text}
use Rattle.desk_store.proofs.Members.{default, find_none, find_only, from_filter, from_filter_map, from_map, in_filter, in_filter_map, in_map, same_lists}
use Rattle.desk_store.proofs.Revisions.{one_number}
use Rattle.desk_store.proofs.SortedNumbers.{Rises, same_range}

-- ---- in ascending order

module _ {X : Type 0} (key : X → ℕ) where
  rises_from : (xs : List X) → IsNonDecreasingBy key xs → Rises (map key xs)
  rises_from [] up = tt
  rises_from (x ∷ xs) up = (above xs (λ k d below. up 0 (suc k) d (omega arith) (omega arith)), rises_from xs (λ i j d le below. up (suc i) (suc j) d (omega arith) (omega arith)))
    where
      above : (ys : List X) → ((k : ℕ) (d : X) → k < length ys → key x ≤ key (get_or ys k d)) → AllByRecursion (λ n. key x ≤ n) (map key ys)
      above [] h = tt
      above (y ∷ ys) h = (h 0 y (omega arith), above ys (λ k d below. h (suc k) d (omega arith)))

  -- the key of each of numbered elements
  key_at : (xs : List X) (n k : ℕ) (d : X) → map key xs ≡ range_with_len 1 n → k < length xs → key (get_or xs k d) ≡ 1 + k
  key_at xs n k d numbered below =
      let long : length xs ≡ n = sym (length-map xs key) ∙ ap length numbered ∙ length-range_with_len 1 n in
      sym (get_or-map key xs k d 0 below) ∙ ap (λ ns. get_or ns k 0) numbered ∙ get_or-range_with_len 1 n k 0 (omega (arith, below, long))

  -- ascending elements that are numbered ones in some order are these
  pub in_order : (xs ys : List X) (n : ℕ) → IsNonDecreasingBy key xs → IsPermutation xs ys → map key ys ≡ range_with_len 1 n → xs ≡ ys
  in_order xs ys n up same numbered =
      let mine = same_range (map key xs) (map key ys) 1 n (rises_from xs up) (IsPermutation-map key xs ys same) numbered in
      let long : length xs ≡ length ys = sym (length-map xs key) ∙ ap length (mine ∙ sym numbered) ∙ length-map ys key in
      same_lists xs ys long (λ k d below.
      let x : X = get_or xs k d in
      let there = Contains-permutation xs ys x same (k, below, default xs k x d below) in
      let here : key x ≡ 1 + k = key_at xs n k d mine below in
      let its : key x ≡ 1 + there.0 = ap key (sym there.2) ∙ key_at ys n there.0 x numbered there.1 in
      let place : there.0 ≡ k = omega (arith, here, its) in
      sym there.2 ∙ ap (λ i. get_or ys i x) place ∙ default ys k x d (omega (arith, below, long)))

numbers_of : {X : Type 0} (key : X → ℕ) (f : Revision → X) → ((r : Revision) → key (f r) ≡ r.rev) → (rs : List Revision) → map key (map f rs) ≡ map (λ r. r.rev) rs
numbers_of key f is [] = refl
numbers_of key f is (r ∷ rs) = ap (λ n. n ∷ map key (map f rs)) (is r) ∙ ap (λ ns. r.rev ∷ ns) (numbers_of key f is rs)

-- ---- what rows tell

abbrev pair : Revision → ℕ × List ℕ
pair r = (r.rev, r.author)

pairs_of : (rs : List Revision) → map listed (map number_author_and_profile (map row_of rs)) ≡ map pair rs
pairs_of [] = refl
pairs_of (r ∷ rs) = ap (λ ps. pair r ∷ ps) (pairs_of rs)

-- what is told of the row of a revision, where these are who approved it
abbrev signing : List (ℕ × List ℕ) → Revision → Signature
signing approved r = signed approved (number_author_and_profile (row_of r))

signed_of : (approved : List (ℕ × List ℕ)) (rs : List Revision) → map (signed approved) (map number_author_and_profile (map row_of rs)) ≡ map (signing approved) rs
signed_of approved [] = refl
signed_of approved (r ∷ rs) = ap (λ ss. signing approved r ∷ ss) (signed_of approved rs)

profile_back : (p : Profile) → profile_with (profile_number p) ≡ p
profile_back One = refl
profile_back Two = refl

same_on : {X Y : Type 0} (f g : X → Y) (xs : List X) → ((x : X) → Contains xs x → f x ≡ g x) → map f xs ≡ map g xs
same_on f g [] h = refl
same_on f g (x ∷ xs) h = ap (λ y. y ∷ map f xs) (h x (0, omega arith, refl)) ∙ ap (λ ys. g x ∷ ys) (same_on f g xs (λ y there. h y (suc there.0, omega (arith, there.1), there.2)))

module _ (db : Database) (history : List Entry) (rows : List Row) (holds : Holds db history) (file : List ℕ) (same : IsPermutation (numbers_in file db) rows) where
  abbrev stored : List Revision
  stored = revisions_in history

  abbrev mine : List Revision
  mine = revisions_of file history

  abbrev all : List Row
  all = rows_of db (codes "file_rev")

  own_rows : filter (is_of file) (map row_of stored) ≡ map row_of mine
  own_rows =
      filter-map (is_of file) row_of stored
      ∙ ap (map row_of) (filter_same (λ (r : Revision). is_of file (row_of r)) (λ (r : Revision). bytes_eq r.file file) stored (all_of (λ (r : Revision). is_of file (row_of r) ≡ bytes_eq r.file file) (λ r. of_file r file) stored))

  -- the rows are those of the file's revisions
  shown : IsPermutation rows (map number_author_and_profile (map row_of mine))
  shown =
      let passing : IsPermutation (filter (is_of file) all) (map row_of mine) =
      subst (IsPermutation (filter (is_of file) all)) own_rows (IsPermutation-filter (is_of file) all (map row_of stored) (IsPermutation-sym (map row_of stored) all holds.revisions)) in
      IsPermutation-trans rows (numbers_in file db) _ (IsPermutation-sym (numbers_in file db) rows same) (IsPermutation-map number_author_and_profile (filter (is_of file) all) (map row_of mine) passing)

  listed_is : (found : List (ℕ × List ℕ)) → Lists rows found → found ≡ map pair mine
  listed_is found h =
      let told : IsPermutation found (map pair mine) =
      IsPermutation-trans found (map listed rows) _ (IsPermutation-sym (map listed rows) found h.same)
      (subst (IsPermutation (map listed rows)) (pairs_of mine) (IsPermutation-map listed rows (map number_author_and_profile (map row_of mine)) shown)) in
      in_order (λ one. one.0) found (map pair mine) (length mine) h.ascending told (numbers_of (λ one. one.0) pair (λ r. refl) mine ∙ holds.numbers.numbered file)

  pub listed_if : (result : Result (List (ℕ × List ℕ)) DeskError) → IfOk result (Lists rows) → IfOk result (λ found. found ≡ map pair mine)
  listed_if (Ok found) h = listed_is found h
  listed_if (Err e) h = tt

  module _ (approvals : List Row) (same_approvals : IsPermutation (approvers_in file db) approvals) where
    abbrev approved : List (ℕ × List ℕ)
    approved = map listed approvals

    abbrev whole : List Row
    whole = rows_of db (codes "approval")

    -- who approved a revision is among them
    told : (r : Revision) → Contains mine r → (a : List ℕ) → r.approver ≡ Some a → Contains approved (r.rev, a)
    told r there a is =
        let from = from_filter (λ (x : Revision). bytes_eq x.file file) stored r there in
        let row : Row = approval_row r.file r.rev a in
        let kept = Contains-permutation (filter_map approval_of stored) whole row holds.approvals (in_filter_map approval_of stored r row from.0 (ap (option_map (approval_row r.file r.rev)) is)) in
        let passes = in_filter (is_of file) whole row kept (same_text r.file file ∙ from.1) in
        let here = in_map number_and_approver (filter (is_of file) whole) row passes in
        in_map listed approvals (number_and_approver row) (Contains-permutation (approvers_in file db) approvals (number_and_approver row) same_approvals here)

    -- what the row of an approval tells is of its revision
    approval_file : (r : Revision) (row : Row) → approval_of r ≡ Some row → is_of file row ≡ true → bytes_eq r.file file ≡ true
    approval_file r row is passes = let parts = row_parts r.file r.rev r.approver row is in sym (same_text r.file file) ∙ ap (is_of file) parts.2 ∙ passes

    approval_pair : (r : Revision) (row : Row) (one : ℕ × List ℕ) → approval_of r ≡ Some row → listed (number_and_approver row) ≡ one → (r.rev ≡ one.0) × (r.approver ≡ Some one.1)
    approval_pair r row one is told =
        let parts = row_parts r.file r.rev r.approver row is in
        let pair_is : (r.rev, parts.0) ≡ one = ap (λ row. listed (number_and_approver row)) parts.2 ∙ told in
        (ap (λ p. p.0) pair_is, parts.1 ∙ ap (λ (p : ℕ × List ℕ). Some p.1) pair_is)

    -- and each of them approved one
    who : (one : ℕ × List ℕ) → Contains approved one → (r : Revision) × Contains mine r × (r.rev ≡ one.0) × (r.approver ≡ Some one.1)
    who one there =
        let at = from_map listed approvals one there in
        let seen = from_map number_and_approver (filter (is_of file) whole) at.0 (Contains-permutation approvals (approvers_in file db) at.0 (IsPermutation-sym (approvers_in file db) approvals same_approvals) at.1) in
        let passes = from_filter (is_of file) whole seen.0 seen.1 in
        let it = from_filter_map approval_of stored seen.0 (Contains-permutation whole (filter_map approval_of stored) seen.0 (IsPermutation-sym (filter_map approval_of stored) whole holds.approvals) passes.0) in
        let its = approval_pair it.0 seen.0 one it.2 (ap listed seen.2 ∙ at.2) in
        (it.0, in_filter (λ (x : Revision). bytes_eq x.file file) stored it.0 it.1 (approval_file it.0 seen.0 it.2 passes.1), its.0, its.1)

    one_of : (r s : Revision) → Contains mine r → Contains mine s → r.rev ≡ s.rev → r ≡ s
    one_of r s h k same = one_number mine r s (holds.numbers.numbered file) h k same

    approver_is : (r : Revision) → Contains mine r → (o : Option (List ℕ)) → r.approver ≡ o → approver_at approved r.rev ≡ o
    approver_is r there None is =
        ap (option_map (λ (one : ℕ × List ℕ). one.1))
        (find_none (λ (one : ℕ × List ℕ). one.0 == r.rev) approved (λ one h passes.
        let it = who one h in
        let same : it.0 ≡ r = one_of it.0 r it.1 there (it.2 ∙ eqb-true one.0 r.rev passes) in
        let none : Some one.1 ≡ None = sym it.3 ∙ ap (λ (x : Revision). x.approver) same ∙ is in cc))
    approver_is r there (Some a) is =
        ap (option_map (λ (one : ℕ × List ℕ). one.1))
        (find_only (λ (one : ℕ × List ℕ). one.0 == r.rev) approved (r.rev, a) (told r there a is) (eq-eqb r.rev r.rev refl) (λ one h passes.
        let it = who one h in
        let number = eqb-true one.0 r.rev passes in
        let same : it.0 ≡ r = one_of it.0 r it.1 there (it.2 ∙ number) in
        let by : Some one.1 ≡ Some a = sym it.3 ∙ ap (λ (x : Revision). x.approver) same ∙ is in
        let name : one.1 ≡ a = cc in
        let make : ℕ → List ℕ → ℕ × List ℕ = λ n t. (n, t) in
        ap (λ n. make n one.1) number ∙ ap (make r.rev) name))

    signing_is : (r : Revision) → Contains mine r → signing approved r ≡ signature_of r
    signing_is r there =
        let make : Option (List ℕ) → Profile → Signature = λ approver profile. record { rev = r.rev; author = r.author; approver = approver; profile = profile } in
        ap (λ a. make a (profile_with (profile_number r.profile))) (approver_is r there r.approver refl) ∙ ap (make r.approver) (profile_back r.profile)

    signatures_is : (found : List Signature) → Signs rows approvals found → found ≡ map signature_of mine
    signatures_is found h =
        let told : IsPermutation found (map (signing approved) mine) =
        IsPermutation-trans found (map (signed approved) rows) _ (IsPermutation-sym (map (signed approved) rows) found h.same)
        (subst (IsPermutation (map (signed approved) rows)) (signed_of approved mine) (IsPermutation-map (signed approved) rows (map number_author_and_profile (map row_of mine)) shown)) in
        in_order (λ one. one.rev) found (map (signing approved) mine) (length mine) h.ascending told (numbers_of (λ one. one.rev) (signing approved) (λ r. refl) mine ∙ holds.numbers.numbered file)
        ∙ same_on (signing approved) signature_of mine signing_is

    pub signatures_if : (result : Result (List Signature) DeskError) → IfOk result (Signs rows approvals) → IfOk result (λ found. found ≡ map signature_of mine)
    signatures_if (Ok found) h = signatures_is found h
    signatures_if (Err e) h = tt

-- one row more
pub listed_more : {X : Type 0} (f : Row → X) (rows : List Row) (i : ℕ) (row : Row) (found new : List X) → i < length rows → row ≡ get_or rows i row → found ≡ map f (take i rows)
    → new ≡ found ++ f row ∷ [] → new ≡ map f (take (i + 1) rows)
listed_more f rows i row found new below at so_far is =
    is ∙ ap (λ xs. xs ++ f row ∷ []) so_far ∙ sym (map-append f (take i rows) (row ∷ [])) ∙ ap (λ r. map f (take i rows ++ r ∷ [])) at ∙ ap (map f) (sym (take_more rows i row below))

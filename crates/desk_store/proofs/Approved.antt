-- Revisions with those who approved them, where approvals are taken one after another.
use Rattle.std.proofs.Common.{◌≡◌, ◌∙◌, sym, ap, subst, refl, inl, inr, ℕ, ◌≤◌, ◌++◌, Bool, true, false, cond, List, [], ◌∷◌, Option, Some, None, IsPermutation, filter_map, map, option_map, arith}
use Rattle.std.specs.List.{AllByRecursion, cons_option, sum_by}
use Rattle.std.specs.Str.{IsUtf8}
use Rattle.std.proofs.lemmas.Bool.{cases_Bool, false≢true}
use Rattle.std.proofs.lemmas.List.Elements.{All-from_recursion}
use Rattle.std.proofs.lemmas.List.Sorted.{IsPermutation-cons, IsPermutation-refl, sum_by-IsPermutation}
use Rattle.std.proofs.lemmas.List.Sums.{sum_by-cons}
use Rattle.sqlite.specs.Order.{Row, column}
use Rattle.sqlite_trees.proofs.ListLemmas.{all_weaker}
use Rattle.desk_core.specs.Head.{Revision}
use Rattle.desk_store.specs.Desk.{IsStorable}
use Rattle.desk_store.specs.History.{approval_of, row_of}
use Rattle.desk_store.specs.Rows.{number_in, text_in}
use Rattle.desk_store.specs.StoredRows.{HasUtf8Approver, IsUnapproved, Key, approval_key, approved_all, is_approval_of, is_below, left_after, left_by, own_first, revision_key, row_of_approval, with_approval}
use Rattle.desk_store.specs.Tables.{approval_row}
use Rattle.desk_store.specs.declared.stored_rows.Approval.{Approval}
use Rattle.desk_store.proofs.ApprovalKeys.{Rises, at, at_is, at_itself, count, neither_below}
use Rattle.desk_store.proofs.Counts.{none_counts, one_if, one_passes, sum_map}

-- ---- no approval is left

-- no more approvals than revisions of each file and number
abbrev Fit : List Revision → List Approval → Type 0
Fit rs bs = (k : Key) → count approval_key k bs ≤ count revision_key k rs

own_fit : (r : Revision) (rs : List Revision) (a : Approval) (bs : List Approval) → is_approval_of r a ≡ true → Fit (r ∷ rs) (a ∷ bs) → Fit rs bs
own_fit r rs a bs own fit k =
    let same = ap (λ j. one_if (at k j)) (at_is (revision_key r) (approval_key a) own) in
    let mine = sum_by-cons (λ (x : Revision). one_if (at k (revision_key x))) r rs in
    let its = sum_by-cons (λ (x : Approval). one_if (at k (approval_key x))) a bs in
    let all = fit k in
    omega (arith, same, mine, its, all)

module _ (r : Revision) (rs : List Revision) (a : Approval) (bs : List Approval) (up : Rises revision_key (r ∷ rs)) (up' : Rises approval_key (a ∷ bs)) (other : is_approval_of r a ≡ false) (fit : Fit (r ∷ rs) (a ∷ bs)) where
  abbrev mine : Key
  mine = revision_key r

  not_at : at (approval_key a) mine ≡ false
  not_at = elim (cases_Bool (at (approval_key a) mine)) [
    | inl same ↦ absurd (false≢true (sym other ∙ ap (λ j. at j (approval_key a)) (at_is (approval_key a) mine same) ∙ at_itself (approval_key a)))
    | inr apart ↦ apart
  ]

  -- the first approval is of one of the later revisions, so the revision is not above it
  no_higher : is_below (approval_key a) mine ≡ false
  no_higher =
      let k : Key = approval_key a in
      let its = sum_by-cons (λ (x : Approval). one_if (at k (approval_key x))) a bs in
      let own : one_if (at k (approval_key a)) ≡ 1 = ap one_if (at_itself k) in
      let here = sum_by-cons (λ (x : Revision). one_if (at k (revision_key x))) r rs in
      let none : one_if (at k mine) ≡ 0 = ap one_if not_at in
      let all = fit k in
      let found = one_passes (λ (x : Revision). at k (revision_key x)) (λ (x : Revision). is_below (revision_key x) mine ≡ false) rs up.0 (omega (arith, its, own, here, none, all)) in
      subst (λ j. is_below j mine ≡ false) (at_is k (revision_key found.0) found.2) found.1

  -- so no approval is of the revision
  apart : (b : Approval) → is_below (approval_key b) (approval_key a) ≡ false → at mine (approval_key b) ≡ false
  apart b above = elim (cases_Bool (at mine (approval_key b))) [
    | inl same ↦
        let level = neither_below (approval_key a) mine no_higher (subst (λ j. is_below j (approval_key a) ≡ false) (at_is mine (approval_key b) same) above) in
        absurd (false≢true (sym other ∙ ap (at mine) level ∙ at_itself mine))
    | inr differs ↦ differs
  ]

  other_fit : Fit rs (a ∷ bs)
  other_fit k = elim (cases_Bool (at k mine)) [
    | inl same ↦
        let is = at_is k mine same in
        let none = none_counts (λ (x : Approval). at mine (approval_key x)) (a ∷ bs) (other, all_weaker _ _ apart bs up'.0) in
        let moved = ap (λ j. count approval_key j (a ∷ bs)) is in
        omega (arith, none, moved)
    | inr differs ↦
        let here = sum_by-cons (λ (x : Revision). one_if (at k (revision_key x))) r rs in
        let none : one_if (at k mine) ≡ 0 = ap one_if differs in
        let all = fit k in
        omega (arith, here, none, all)
  ]

left_step : (b : Bool) (rs : List Revision) (a : Approval) (bs : List Approval) → (b ≡ true → left_after rs bs ≡ []) → (b ≡ false → left_after rs (a ∷ bs) ≡ []) → left_after rs (cond b bs (a ∷ bs)) ≡ []
left_step true rs a bs own other = own refl
left_step false rs a bs own other = other refl

-- where both are in order, and the approvals fit, none is left
pub none_left : (rs : List Revision) (bs : List Approval) → Rises revision_key rs → Rises approval_key bs → Fit rs bs → left_after rs bs ≡ []
none_left [] [] up up' fit = refl
none_left [] (a ∷ bs) up up' fit =
    let k : Key = approval_key a in
    let its = sum_by-cons (λ (x : Approval). one_if (at k (approval_key x))) a bs in
    let own : one_if (at k (approval_key a)) ≡ 1 = ap one_if (at_itself k) in
    let all = fit k in
    absurd (omega (arith, its, own, all))
none_left (r ∷ rs) [] up up' fit = none_left rs [] up.1 tt (λ k. omega arith)
none_left (r ∷ rs) (a ∷ bs) up up' fit =
    left_step (is_approval_of r a) rs a bs (λ own. none_left rs bs up.1 up'.1 (own_fit r rs a bs own fit)) (λ other. none_left rs (a ∷ bs) up.1 up' (other_fit r rs a bs up up' other fit))

-- ---- the rows of a history fit

abbrev row_key : Row → Key
row_key row = (text_in (column row 0), number_in (column row 1))

abbrev at_row : Key → Row → ℕ
at_row k row = one_if (at k (row_key row))

fewer : (k : Key) (history : List Revision) → sum_by (at_row k) (filter_map approval_of history) ≤ sum_by (at_row k) (map row_of history)
fewer k [] = omega arith
fewer k (r ∷ rs) = step r.approver (fewer k rs)
  where
    step : (o : Option (List ℕ)) → sum_by (at_row k) (filter_map approval_of rs) ≤ sum_by (at_row k) (map row_of rs)
        → sum_by (at_row k) (cons_option (option_map (approval_row r.file r.rev) o) (filter_map approval_of rs)) ≤ sum_by (at_row k) (row_of r ∷ map row_of rs)
    step None rest = let all = sum_by-cons (at_row k) (row_of r) (map row_of rs) in omega (arith, all, rest)
    step (Some a) rest =
        let all = sum_by-cons (at_row k) (row_of r) (map row_of rs) in
        let own = sum_by-cons (at_row k) (approval_row r.file r.rev a) (filter_map approval_of rs) in
        omega (arith, all, own, rest)

pub rows_fit : (history old : List Revision) (approvals : List Approval) → IsPermutation (map row_of history) (map row_of old) → IsPermutation (filter_map approval_of history) (map row_of_approval approvals) → Fit old approvals
rows_fit history old approvals rows own k =
    let one = sum_map (at_row k) row_of_approval approvals in
    let two = sum_by-IsPermutation (at_row k) (filter_map approval_of history) (map row_of_approval approvals) own in
    let three = fewer k history in
    let four = sum_by-IsPermutation (at_row k) (map row_of history) (map row_of old) rows in
    let five = sum_map (at_row k) row_of old in
    omega (arith, one, two, three, four, five)

-- ---- what became of the revisions

row_kept : (o : Option Approval) (r : Revision) → row_of (with_approval o r) ≡ row_of r
row_kept None r = refl
row_kept (Some a) r = refl

pub rows_kept : (rs : List Revision) (bs : List Approval) → map row_of (approved_all rs bs) ≡ map row_of rs
rows_kept [] bs = refl
rows_kept (r ∷ rs) bs = ap (λ row. row ∷ map row_of (approved_all rs (left_by r bs))) (row_kept (own_first r bs) r) ∙ ap (λ rows. row_of r ∷ rows) (rows_kept rs (left_by r bs))

own_row : (r : Revision) (a : Approval) → is_approval_of r a ≡ true → approval_row r.file r.rev a.approver ≡ row_of_approval a
own_row r a own = ap (λ (k : Key). approval_row k.0 k.1 a.approver) (sym (at_is (revision_key r) (approval_key a) own))

-- the approval that a revision takes has its row
taken_row : (r : Revision) (bs : List Approval) → IsUnapproved r → map row_of_approval bs ≡ cons_option (approval_of (with_approval (own_first r bs) r)) (map row_of_approval (left_by r bs))
taken_row r [] bare = ap (λ o. cons_option (option_map (approval_row r.file r.rev) o) []) (sym bare)
taken_row r (a ∷ bs) bare = step (is_approval_of r a) refl
  where
    step : (b : Bool) → is_approval_of r a ≡ b → map row_of_approval (a ∷ bs) ≡ cons_option (approval_of (with_approval (cond b (Some a) None) r)) (map row_of_approval (cond b bs (a ∷ bs)))
    step true own = ap (λ row. row ∷ map row_of_approval bs) (sym (own_row r a own))
    step false own = ap (λ o. cons_option (option_map (approval_row r.file r.rev) o) (map row_of_approval (a ∷ bs))) (sym bare)

under : (o : Option Row) (xs front back : List Row) → IsPermutation xs (front ++ back) → IsPermutation (cons_option o xs) (cons_option o front ++ back)
under None xs front back same = same
under (Some row) xs front back same = IsPermutation-cons row xs (front ++ back) same

-- of revisions that nobody approved: each approval is written into one, or left
pub approved_rows : (rs : List Revision) (bs : List Approval) → AllByRecursion IsUnapproved rs → IsPermutation (map row_of_approval bs) (filter_map approval_of (approved_all rs bs) ++ map row_of_approval (left_after rs bs))
approved_rows [] bs bare = IsPermutation-refl (map row_of_approval bs)
approved_rows (r ∷ rs) bs bare =
    let left = left_by r bs in
    let rest = filter_map approval_of (approved_all rs left) in
    let back = map row_of_approval (left_after rs left) in
    subst (λ rows. IsPermutation rows (cons_option (approval_of (with_approval (own_first r bs) r)) rest ++ back)) (sym (taken_row r bs bare.0))
    (under (approval_of (with_approval (own_first r bs) r)) (map row_of_approval left) rest back (approved_rows rs left bare.1))

with_storable : (r : Revision) (a : Approval) → IsStorable r → HasUtf8Approver a → IsStorable (with_approval (Some a) r)
with_storable r a storable utf8 = record {
  name = storable.name;
  from = storable.from;
  rev = storable.rev;
  file = storable.file;
  author = storable.author;
  approver = All-from_recursion IsUtf8 (a.approver ∷ []) (utf8, tt);
  body = storable.body;
  short = storable.short;
}

first_storable : (r : Revision) (bs : List Approval) → IsStorable r → AllByRecursion HasUtf8Approver bs → IsStorable (with_approval (own_first r bs) r)
first_storable r [] storable utf8 = storable
first_storable r (a ∷ bs) storable utf8 = step (is_approval_of r a)
  where
    step : (b : Bool) → IsStorable (with_approval (cond b (Some a) None) r)
    step true = with_storable r a storable utf8.0
    step false = storable

left_utf8 : (r : Revision) (bs : List Approval) → AllByRecursion HasUtf8Approver bs → AllByRecursion HasUtf8Approver (left_by r bs)
left_utf8 r [] utf8 = tt
left_utf8 r (a ∷ bs) utf8 = step (is_approval_of r a)
  where
    step : (b : Bool) → AllByRecursion HasUtf8Approver (cond b bs (a ∷ bs))
    step true = utf8.1
    step false = utf8

pub storable_all : (rs : List Revision) (bs : List Approval) → AllByRecursion IsStorable rs → AllByRecursion HasUtf8Approver bs → AllByRecursion IsStorable (approved_all rs bs)
storable_all [] bs storable utf8 = tt
storable_all (r ∷ rs) bs storable utf8 = (first_storable r bs storable.0 utf8, storable_all rs (left_by r bs) storable.1 (left_utf8 r bs utf8))

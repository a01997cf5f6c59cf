-- What the rows say of a revision is what the history says, and a look leaves a desk as it was.
use Rattle.std.proofs.Common.{Err, List, None, Ok, Option, Result, Some, [], ap, arith, codes, filter_map, inl, inr, map, pos, refl, subst, sym, true, ℕ, ◌==◌, ◌&&◌, ◌∙◌, ◌∷◌, ◌≡◌, filter}
use Rattle.std.specs.Prelude.{Contains, IfOk, IsPermutation}
use Rattle.std.specs.Option.{option_map}
use Rattle.std.specs.Cmp.{Equal-is, int_cmp_is}
use Rattle.std.specs.Ordering.{int_cmp, is_eq}
use Rattle.std.specs.declared.cmp.Ordering.TheVariants.{Equal}
use Rattle.std.specs.Str.{bytes_eq}
use Rattle.std.specs.FinMap.{int_cmp-IsAntisymmetric}
use Rattle.sqlite_value.proofs.OrderLemmas.{value_cmp-Int}
use Rattle.std.proofs.lemmas.Bool.{eqb-true, eq-eqb}
use Rattle.std.proofs.lemmas.List.Sorted.{Contains-permutation, IsPermutation-sym}
use Rattle.std.proofs.lemmas.Slice.Eq.{bytes_eq-Decides}
use Rattle.sqlite.specs.Order.{Row, column}
use Rattle.sqlite.specs.Effect.{Database}
use Rattle.sqlite.specs.State.{HasCleanDisk, State}
use Rattle.sqlite.specs.declared.types.Value.TheVariants.{Int, Text as Words, Blob as Bytes}
use Rattle.desk_exports.specs.Profile.{profile_number}
use Rattle.desk_exports.specs.declared.profile.Profile.{Profile}
use Rattle.desk_core.specs.Head.{Revision}
use Rattle.desk_core.specs.History.{revisions_of}
use Rattle.desk_core.specs.Views.{Kept}
use Rattle.desk_core.specs.declared.entry.Entry.{Entry}
use Rattle.desk_store.specs.Desk.{IsDesk, Stands, revision_at, stored_of}
use Rattle.desk_store.specs.History.{Holds, approval_of, revisions_in, row_of}
use Rattle.desk_store.specs.Rows.{Finds, Says, SaysWho}
use Rattle.desk_store.specs.Looks.{ChangesNothing, approver_in, approver_of, are_equal, author_profile_and_text, is_at, is_of, revision_in}
use Rattle.desk_store.specs.Tables.{IsAtRest, IsKeyed, approval_row, rows_of}
use Rattle.desk_store.specs.declared.error.DeskError.{DeskError}
use Rattle.desk_store.specs.declared.desk.Revision.{Revision as Found}
use Rattle.desk_store.proofs.HistoryStep.{same_text}
use Rattle.desk_store.proofs.Members.{find_none, find_only, from_filter, from_filter_map, from_map, in_filter, in_filter_map, in_map, both_true}
use Rattle.desk_store.proofs.OneOrder.{same_profile}
use Rattle.desk_store.proofs.Revisions.{one_number}

in_nothing : (row : Row) → Contains [] row → ⊥
in_nothing row (k, below, is) = omega arith

-- the row of a revision passes if it is the revision that is looked for, and only then
pub of_file : (r : Revision) (file : List ℕ) → is_of file (row_of r) ≡ bytes_eq r.file file
of_file r file = same_text r.file file

of_rev : (n m : ℕ) → n ≡ m → are_equal (Int (pos n)) (Int (pos m)) ≡ true
of_rev n m same = ap is_eq (value_cmp-Int (pos n) (pos m) ∙ sym (int_cmp_is (pos n) (pos m) Equal (ap pos same)))

rev_of : (n m : ℕ) → are_equal (Int (pos n)) (Int (pos m)) ≡ true → n ≡ m
rev_of n m same =
    let e : int_cmp (pos n) (pos m) ≡ Equal = (Equal-is (int_cmp (pos n) (pos m))).0 (ap is_eq (sym (value_cmp-Int (pos n) (pos m))) ∙ same) in
    let z : pos n ≡ pos m = int_cmp-IsAntisymmetric (pos n) (pos m) e in
    cc

-- a row that begins with a file and a number
at_rev : (own : List ℕ) (number : ℕ) (rest : Row) (file : List ℕ) (rev : ℕ) → own ≡ file → number ≡ rev → is_at file rev (Words own ∷ Int (pos number) ∷ rest) ≡ true
at_rev own number rest file rev name same =
    ap (λ b. b && are_equal (Int (pos number)) (Int (pos rev))) (same_text own file ∙ (bytes_eq-Decides own file).1 name) ∙ of_rev number rev same

rev_at_row : (own : List ℕ) (number : ℕ) (rest : Row) (file : List ℕ) (rev : ℕ) → is_at file rev (Words own ∷ Int (pos number) ∷ rest) ≡ true → (own ≡ file) × (number ≡ rev)
rev_at_row own number rest file rev h =
    let both = both_true (is_of file (Words own ∷ Int (pos number) ∷ rest)) (are_equal (Int (pos number)) (Int (pos rev))) h in
    ((bytes_eq-Decides own file).0 (sym (same_text own file) ∙ both.0), rev_of number rev both.1)

-- what follows a file and a number in the row of a revision
abbrev rest_of : Revision → Row
rest_of r = Words r.author ∷ Int (pos (profile_number r.profile)) ∷ Bytes r.body ∷ []

approval_row_of : (r : Revision) (a : List ℕ) → r.approver ≡ Some a → approval_of r ≡ Some (approval_row r.file r.rev a)
approval_row_of r a is = ap (option_map (approval_row r.file r.rev)) is

-- the row of an approval is that of its revision
pub row_parts : (file : List ℕ) (rev : ℕ) (approver : Option (List ℕ)) (row : Row) → option_map (approval_row file rev) approver ≡ Some row → (a : List ℕ) × (approver ≡ Some a) × (approval_row file rev a ≡ row)
row_parts file rev None row e = absurd (cc)
row_parts file rev (Some a) row e = let same : approval_row file rev a ≡ row = cc in (a, refl, same)

module _ (db : Database) (history : List Entry) (rows approvals : List Row) (holds : Holds db history) (file : List ℕ) (rev : ℕ)
    (same : IsPermutation (revision_in file rev db) rows) (approved : IsPermutation (approver_in file rev db) approvals) where
  abbrev all : List Row
  all = rows_of db (codes "file_rev")

  abbrev whole : List Row
  whole = rows_of db (codes "approval")

  abbrev stored : List Revision
  stored = revisions_in history

  row_there : (r : Revision) → Contains stored r → r.file ≡ file → r.rev ≡ rev → Contains rows (author_profile_and_text (row_of r))
  row_there r h name number =
      let kept = Contains-permutation (map row_of stored) all (row_of r) holds.revisions (in_map row_of stored r h) in
      let passes = in_filter (is_at file rev) all (row_of r) kept (at_rev r.file r.rev (rest_of r) file rev name number) in
      Contains-permutation (revision_in file rev db) rows (author_profile_and_text (row_of r)) same (in_map author_profile_and_text (filter (is_at file rev) all) (row_of r) passes)

  revision_there : (row : Row) → Contains rows row → (r : Revision) × Contains stored r × (r.file ≡ file) × (r.rev ≡ rev) × (author_profile_and_text (row_of r) ≡ row)
  revision_there row h =
      let shown = from_map author_profile_and_text (filter (is_at file rev) all) row (Contains-permutation rows (revision_in file rev db) row (IsPermutation-sym (revision_in file rev db) rows same) h) in
      let passes = from_filter (is_at file rev) all shown.0 shown.1 in
      let it = from_map row_of stored shown.0 (Contains-permutation all (map row_of stored) shown.0 (IsPermutation-sym (map row_of stored) all holds.revisions) passes.0) in
      let own = rev_at_row it.0.file it.0.rev (rest_of it.0) file rev (ap (is_at file rev) it.2 ∙ passes.1) in
      (it.0, it.1, own.0, own.1, ap author_profile_and_text it.2 ∙ shown.2)

  -- who approved the revision that is looked for
  approver_there : (r : Revision) → Contains stored r → r.file ≡ file → r.rev ≡ rev → (a : List ℕ) → r.approver ≡ Some a → Contains approvals (Words a ∷ [])
  approver_there r h name number a is =
      let own : Row = approval_row r.file r.rev a in
      let kept = Contains-permutation (filter_map approval_of stored) whole own holds.approvals (in_filter_map approval_of stored r own h (approval_row_of r a is)) in
      let passes = in_filter (is_at file rev) whole own kept (at_rev r.file r.rev (Words a ∷ []) file rev name number) in
      Contains-permutation (approver_in file rev db) approvals (Words a ∷ []) approved (in_map approver_of (filter (is_at file rev) whole) own passes)

  who_there : (row : Row) → Contains approvals row → (r : Revision) × Contains stored r × (r.file ≡ file) × (r.rev ≡ rev) × ((a : List ℕ) × (r.approver ≡ Some a) × ((Words a ∷ []) ≡ row))
  who_there row h =
      let shown = from_map approver_of (filter (is_at file rev) whole) row (Contains-permutation approvals (approver_in file rev db) row (IsPermutation-sym (approver_in file rev db) approvals approved) h) in
      let passes = from_filter (is_at file rev) whole shown.0 shown.1 in
      let it = from_filter_map approval_of stored shown.0 (Contains-permutation whole (filter_map approval_of stored) shown.0 (IsPermutation-sym (filter_map approval_of stored) whole holds.approvals) passes.0) in
      let parts = row_parts it.0.file it.0.rev it.0.approver shown.0 it.2 in
      let own = rev_at_row it.0.file it.0.rev (Words parts.0 ∷ []) file rev (ap (is_at file rev) parts.2 ∙ passes.1) in
      (it.0, it.1, own.0, own.1, (parts.0, parts.1, ap approver_of parts.2 ∙ shown.2))

  -- of a file one revision has a number
  only_one : (r s : Revision) → Contains stored r → Contains stored s → r.file ≡ file → s.file ≡ file → r.rev ≡ rev → s.rev ≡ rev → r ≡ s
  only_one r s h k name other number its =
      one_number (revisions_of file history) r s (holds.numbers.numbered file) (in_filter (λ (x : Revision). bytes_eq x.file file) stored r h ((bytes_eq-Decides r.file file).1 name))
      (in_filter (λ (x : Revision). bytes_eq x.file file) stored s k ((bytes_eq-Decides s.file file).1 other)) (number ∙ sym its)

  who_is : (r : Revision) → Contains stored r → r.file ≡ file → r.rev ≡ rev → (told : Option (List ℕ)) → SaysWho approvals told → told ≡ r.approver
  who_is r h name number None none = nobody r.approver refl
    where
      nobody : (o : Option (List ℕ)) → r.approver ≡ o → None ≡ r.approver
      nobody None is = sym is
      nobody (Some a) is = absurd (in_nothing (Words a ∷ []) (subst (λ (ys : List Row). Contains ys (Words a ∷ [])) none (approver_there r h name number a is)))
  who_is r h name number (Some told) (row, there, says) =
      let it = who_there row there in
      let one : it.0 ≡ r = only_one it.0 r it.1 h it.2 name it.3 number in
      let words : Words it.4.0 ≡ Words told = ap (λ x. column x 0) it.4.2 ∙ says in
      let same : it.4.0 ≡ told = cc in
      ap Some (sym same) ∙ sym it.4.1 ∙ ap (λ (x : Revision). x.approver) one

  found_some : (row : Row) (found : Found) → Contains rows row → Says row found → SaysWho approvals found.approver → Some found ≡ stored_of (revision_at history file rev)
  found_some row found there says who =
      let it = revision_there row there in
      let r : Revision = it.0 in
      let author : Words r.author ≡ Words found.author = ap (λ x. column x 0) it.4 ∙ says.0 in
      let profile : Int (pos (profile_number r.profile)) ≡ Int (pos (profile_number found.profile)) = ap (λ x. column x 1) it.4 ∙ says.1 in
      let body : Bytes r.body ≡ Bytes found.body = ap (λ x. column x 2) it.4 ∙ says.2 in
      let a : r.author ≡ found.author = cc in
      let n : profile_number r.profile ≡ profile_number found.profile = cc in
      let p : r.profile ≡ found.profile = same_profile r.profile found.profile n in
      let b : r.body ≡ found.body = cc in
      let w : found.approver ≡ r.approver = who_is r it.1 it.2 it.3 found.approver who in
      let own : bytes_eq r.file file ≡ true = (bytes_eq-Decides r.file file).1 it.2 in
      let kept : Contains (revisions_of file history) r = in_filter (λ (x : Revision). bytes_eq x.file file) stored r it.1 own in
      let at : revision_at history file rev ≡ Some r =
      find_only (λ (x : Revision). x.rev == rev) (revisions_of file history) r kept (eq-eqb r.rev rev it.3)
      (λ x h passes. one_number (revisions_of file history) x r (holds.numbers.numbered file) h kept (eqb-true x.rev rev passes ∙ sym it.3)) in
      let make : List ℕ → Option (List ℕ) → Profile → List ℕ → Option Found = λ author approver profile body. Some (record { author = author; approver = approver; profile = profile; body = body }) in
      ap (λ x. make x found.approver found.profile found.body) (sym a) ∙ ap (λ x. make r.author x found.profile found.body) w ∙ ap (λ x. make r.author r.approver x found.body) (sym p)
      ∙ ap (λ x. make r.author r.approver r.profile x) (sym b) ∙ ap stored_of (sym at)

  found_none : rows ≡ [] → None ≡ stored_of (revision_at history file rev)
  found_none none =
      let at : revision_at history file rev ≡ None =
      find_none (λ (x : Revision). x.rev == rev) (revisions_of file history) (λ x h passes.
      let from = from_filter (λ (y : Revision). bytes_eq y.file file) stored x h in
      let row = row_there x from.0 ((bytes_eq-Decides x.file file).0 from.1) (eqb-true x.rev rev passes) in
      in_nothing (author_profile_and_text (row_of x)) (subst (λ (ys : List Row). Contains ys (author_profile_and_text (row_of x))) none row)) in
      ap stored_of (sym at)

  pub found_is : (found : Option Found) → Finds rows approvals found → found ≡ stored_of (revision_at history file rev)
  found_is None h = found_none h
  found_is (Some found) h = found_some h.0 found h.1 h.2 h.3

  pub found_if : (result : Result (Option Found) DeskError) → IfOk result (Finds rows approvals) → IfOk result (λ found. found ≡ stored_of (revision_at history file rev))
  found_if (Ok found) h = found_is found h
  found_if (Err e) h = tt

-- a look leaves a desk as it was
module _ {V : Type 0} (old new : State) (kept : Kept V) (look : ChangesNothing old new) where
  pub stands_still : HasCleanDisk new → (history pending : List Entry) → Stands old kept history pending → Stands new kept history pending
  stands_still clean history pending stands = record {
    stored = stands.stored;
    standing_is = stands.standing_is;
    tables = λ live. subst (λ (db : Database). Holds db history) (sym (look.leaves.same clean live)) (stands.tables (look.opened clean live));
    leaves = λ trees may. elim (look.leaves.crash.crash clean trees may) [ inl as_before ↦ stands.leaves trees as_before | inr never ↦ absurd never ];
  }

  pub desk_still : (HasCleanDisk old → IsDesk old kept) → HasCleanDisk new → IsDesk new kept
  desk_still desk clean =
      let start : HasCleanDisk old = omega (arith, clean, look.leaves.crash.clean) in
      let d = desk start in
      record {
        rest = look.rest clean true d.rest;
        keyed = λ live. subst (λ (db : Database). IsKeyed db (codes "proposal")) (sym (look.leaves.same clean live)) (d.keyed (look.opened clean live));
        history = d.history;
        pending = d.pending;
        stands = stands_still clean d.history d.pending d.stands;
      }

  -- it is at rest where the desk was
  pub rest_still : (HasCleanDisk old → IsDesk old kept) → HasCleanDisk new → IsAtRest new
  rest_still desk clean =
      let start : HasCleanDisk old = omega (arith, clean, look.leaves.crash.clean) in
      look.rest clean true (desk start).rest

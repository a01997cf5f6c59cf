-- What rows say that were read in any order, the rows of the database say.
use Rattle.std.proofs.Common.{◌≡◌, false, refl, subst, sym, ℕ, List, [], ◌∷◌, Result, Ok, Err, IfOk, IsPermutation, OnOk, arith, codes, map}
use Rattle.std.specs.List.{filter_map}
use Rattle.std.proofs.lemmas.List.Sorted.{IsPermutation-refl, IsPermutation-sym, IsPermutation-trans, length_permutation}
use Rattle.sqlite.specs.Effect.{Database}
use Rattle.sqlite.specs.Order.{Row}
use Rattle.desk_core.specs.History.{pending_in, standing_of}
use Rattle.desk_core.specs.declared.proposal.Proposal.{Proposal}
use Rattle.desk_core.specs.State.{standing}
use Rattle.desk_core.specs.Views.{Kept}
use Rattle.desk_store.specs.Desk.{History, IsSiteHistory}
use Rattle.desk_store.specs.History.{HoldsFirst, approval_of, proposed_row, revisions_in}
use Rattle.desk_store.specs.Open.{version_rows}
use Rattle.desk_store.specs.StoredRows.{AreRowsOf}
use Rattle.desk_schema.specs.Tables.{HasFirstTables, has_later}
use Rattle.desk_store.specs.Tables.{rows_of}
use Rattle.desk_schema.specs.declared.declared.Version.TheVariants.{First}
use Rattle.desk_store.specs.declared.error.DeskError.{DeskError}
use Rattle.desk_store.proofs.OneRow.{one_row}

pub on_ok : {T E P Q : Type 0} (r : Result T E) → (P → Q) → OnOk r P → OnOk r Q
on_ok (Ok x) f p = f p
on_ok (Err e) f p = p

pub ok_always : {T E P : Type 0} (r : Result T E) → P → OnOk r P
ok_always (Ok x) p = p
ok_always (Err e) p = tt

-- one row that was read
module _ (before rows : List Row) (same : IsPermutation before rows) where
  pub one_before : (a : Row) → rows ≡ a ∷ [] → before ≡ a ∷ []
  one_before a is = one_row before a (subst (IsPermutation before) is same)

  pub one_read : (a : Row) → before ≡ a ∷ [] → rows ≡ a ∷ []
  one_read a is = one_row rows a (subst (IsPermutation rows) is (IsPermutation-sym before rows same))

-- the rows of a history that were read
module _ (revisions approvals proposals revised approved proposed : List Row) (r : IsPermutation revisions revised) (a : IsPermutation approvals approved) (p : IsPermutation proposals proposed) where
  pub are_read : (history : History) → AreRowsOf history revisions approvals proposals → AreRowsOf history revised approved proposed
  are_read history are = record {
    revised = IsPermutation-trans _ revisions revised are.revised r;
    approved = IsPermutation-trans _ approvals approved are.approved a;
    proposed = IsPermutation-trans _ proposals proposed are.proposed p;
  }

  are_before : (history : History) → AreRowsOf history revised approved proposed → AreRowsOf history revisions approvals proposals
  are_before history are = record {
    revised = IsPermutation-trans _ revised revisions are.revised (IsPermutation-sym revisions revised r);
    approved = IsPermutation-trans _ approved approvals are.approved (IsPermutation-sym approvals approved a);
    proposed = IsPermutation-trans _ proposed proposals are.proposed (IsPermutation-sym proposals proposed p);
  }

  pub history_before : {V : Type 0} (result : Result (Kept V) DeskError)
      → IfOk result (λ it. (history : History) × IsSiteHistory history × AreRowsOf history revised approved proposed × (standing it ≡ standing_of history))
      → IfOk result (λ it. (history : History) × IsSiteHistory history × AreRowsOf history revisions approvals proposals × (standing it ≡ standing_of history))
  history_before (Ok it) (history, site, are, stands) = (history, site, are_before history are, stands)
  history_before (Err e) h = h

-- rows that were read of a table while nothing changed are those that it had before
pub read_in : (name : List ℕ) (old mid : Database) (items now : List Row) → mid ≡ old → now ≡ items → IsPermutation (rows_of mid name) items → IsPermutation (rows_of old name) now
read_in name old mid items now same is read = subst (λ (db : Database). IsPermutation (rows_of db name) now) same (subst (IsPermutation (rows_of mid name)) (sym is) read)

pub none_left : {X : Type 0} (xs : List X) → IsPermutation xs [] → xs ≡ []
none_left [] same = refl
none_left (x ∷ xs) same = absurd (let long = length_permutation (x ∷ xs) [] same in omega (arith, long))

none_shown : (proposals : List Proposal) → map proposed_row proposals ≡ [] → proposals ≡ []
none_shown [] e = refl
none_shown (p ∷ proposals) e = absurd (cc)

-- a database of version 1 has the rows of a history without approvals and proposals
module _ (db : Database) (revised : List Row) (read : IsPermutation (rows_of db (codes "file_rev")) revised) where
  pub first_read : (history : History) → HoldsFirst db history → AreRowsOf history revised [] []
  first_read history holds = record {
    revised = IsPermutation-trans _ (rows_of db (codes "file_rev")) revised holds.revisions read;
    approved = subst (λ rows. IsPermutation rows []) (sym holds.approvals) (IsPermutation-refl []);
    proposed = subst (λ proposals. IsPermutation (map proposed_row proposals) []) (sym holds.proposals) (IsPermutation-refl []);
  }

  pub first_before : {V : Type 0} (result : Result (Kept V) DeskError) → HasFirstTables db.schema → has_later db.schema ≡ false → rows_of db (codes "meta") ≡ version_rows First
      → IfOk result (λ it. (history : History) × IsSiteHistory history × AreRowsOf history revised [] [] × (standing it ≡ standing_of history))
      → IfOk result (λ it. (history : History) × IsSiteHistory history × HoldsFirst db history × (standing it ≡ standing_of history))
  first_before (Ok it) tables alone version (history, site, are, stands) =
      let holds : HoldsFirst db history = record {
        tables = tables;
        first = alone;
        version = version;
        revisions = IsPermutation-trans _ revised (rows_of db (codes "file_rev")) are.revised (IsPermutation-sym (rows_of db (codes "file_rev")) revised read);
        approvals = none_left (filter_map approval_of (revisions_in history)) are.approved;
        proposals = none_shown (pending_in history) (none_left (map proposed_row (pending_in history)) are.proposed);
        numbers = site.numbered;
      } in
      (history, site, holds, stands)
  first_before (Err e) tables alone version h = h

-- The rows of the history of a site, and the state of its newest revisions and its proposals.
use Rattle.std.proofs.Common.{◌≡◌, ◌≢◌, ◌∙◌, sym, ap, subst, inl, inr, refl, ℕ, ◌-◌, ◌++◌, ◌||◌, Bool, true, false, cond, List, [], ◌∷◌, Option, Some, Result, Ok, Err, IfOk, All, find, filter_map, get_or, length, map, arith, append-nil}
use Rattle.std.specs.Prelude.{Contains, IsPermutation, is_some, slice_get}
use Rattle.std.specs.List.{AllPass, list_all, list_any}
use Rattle.std.specs.Str.{bytes_eq}
use Rattle.std.proofs.lemmas.Bool.{cases_Bool, false≢true}
use Rattle.std.proofs.lemmas.List.Elements.{filter_map-append}
use Rattle.std.proofs.lemmas.List.Sorted.{All-permutation, IsPermutation-map, IsPermutation-refl, IsPermutation-sym, IsPermutation-trans}
use Rattle.std.proofs.lemmas.List.Sums.{AllPass-from_list_all, list_all-from_AllPass}
use Rattle.sqlite.specs.Order.{Row}
use Rattle.desk_core.specs.Head.{CanBeKept, Newest, Revision, newest_in, newest_number}
use Rattle.desk_core.specs.History.{IsHistory, newest_of, pending_in, revision_in, revisions_of, standing_of}
use Rattle.desk_core.specs.Judging.{seven}
use Rattle.desk_core.specs.Site.{IsConsistent, site_in}
use Rattle.desk_core.specs.Standing.{CanBePending, Proposals, Standing, proposals_in, standing_in}
use Rattle.desk_core.specs.declared.entry.Entry.{Entry}
use Rattle.desk_core.specs.declared.entry.Entry.TheVariants.{Proposed, Revised}
use Rattle.desk_core.specs.declared.proposal.Proposal.{Proposal}
use Rattle.desk_store.specs.Desk.{IsSiteHistory, IsStorable, MayPend}
use Rattle.desk_store.specs.History.{approval_of, proposed_row, revisions_in, row_of}
use Rattle.desk_store.specs.NewestRevisions.{has_revision}
use Rattle.desk_store.specs.StoredRows.{AreNewestOf, AreRowsOf, MayFollow, row_of_approval}
use Rattle.desk_store.specs.declared.stored_rows.Approval.{Approval}
use Rattle.desk_store.proofs.LongerHistory.{none_pending}
use Rattle.desk_store.proofs.Members.{IsPermutation-filter_map, default, told_by_one}
use Rattle.desk_store.proofs.NextNumbers.{low_newest, slice_at}
use Rattle.desk_store.proofs.OneOrder.{numbered_so, proposals_say, same_newest}
use Rattle.desk_store.proofs.PendingOnce.{all_pending, apart_permutation, pending_apart}
use Rattle.desk_store.proofs.Revisions.{AreNumbered, history_of, newest_by, newest_is, newest_revised, numbered_in, own, revised_back}

pub if_both : {T E : Type 0} (r : Result T E) (P Q R : T → Type 0) → ((x : T) → P x → Q x → R x) → IfOk r P → IfOk r Q → IfOk r R
if_both (Ok x) P Q R f p q = f x p q
if_both (Err e) P Q R f p q = p

-- what is told of slices
pub may_read : {heads own : List Revision} {ps qs : List Proposal} → heads ≡ own → ps ≡ qs → MayFollow (newest_in heads) ps → MayFollow (newest_in own) qs
may_read {own = own} {ps = ps} heads_are proposals_are may = subst (MayFollow (newest_in own)) proposals_are (subst (λ hs. MayFollow (newest_in hs) ps) heads_are may)

pub not_read : {heads own : List Revision} {ps qs : List Proposal} → heads ≡ own → ps ≡ qs → MayFollow (newest_in own) qs → MayFollow (newest_in heads) ps
not_read heads_are proposals_are may = may_read (sym heads_are) (sym proposals_are) may

-- ---- the newest revisions that rows say

module _ (rows approvals : List Row) (read marked heads : List Revision) (given : List Approval) (read_is : map row_of read ≡ rows) (given_is : map row_of_approval given ≡ approvals)
    (same : IsPermutation (map row_of read) (map row_of marked)) (written : IsPermutation (map row_of_approval given) (filter_map approval_of marked)) where
  pub heads_newest : All IsStorable marked → (history : List Revision) × IsPermutation marked history × IsHistory (map Revised history) × (newest_in heads ≡ newest_of (map Revised history))
      → (history : List Revision) × AreNewestOf rows approvals heads history
  heads_newest storable newest =
      let history = newest.0 in
      let back : IsPermutation history marked = IsPermutation-sym marked history newest.1 in
      let revised : IsPermutation (map row_of history) (map row_of read) =
      IsPermutation-trans _ (map row_of marked) _ (IsPermutation-map row_of history marked back) (IsPermutation-sym (map row_of read) (map row_of marked) same) in
      let approved : IsPermutation (filter_map approval_of history) (map row_of_approval given) =
      IsPermutation-trans _ (filter_map approval_of marked) _ (IsPermutation-filter_map approval_of history marked back) (IsPermutation-sym (map row_of_approval given) (filter_map approval_of marked) written) in (
        history,
        record {
          revised = subst (IsPermutation (map row_of history)) read_is revised;
          approved = subst (IsPermutation (filter_map approval_of history)) given_is approved;
          storable = All-permutation IsStorable marked history newest.1 storable;
          numbered = newest.2;
          newest = newest.3;
        },
      )

-- where the revisions have no order in which they are numbered, the rows are not those of a history
pub not_numbered : (rows : List Row) (read marked : List Revision) → map row_of read ≡ rows → IsPermutation (map row_of read) (map row_of marked)
    → ((history : List Revision) → IsPermutation marked history → IsHistory (map Revised history) → ⊥) → (history : List Revision) → IsHistory (map Revised history) → IsPermutation (map row_of history) rows → ⊥
not_numbered rows read marked is same gap history whole rows_same =
    let of_read : IsPermutation (map row_of history) (map row_of read) = subst (IsPermutation (map row_of history)) (sym is) rows_same in
    let it = numbered_so history marked (IsPermutation-trans _ (map row_of read) _ of_read same) (numbered_in history whole) in
    gap it.0 it.1 (history_of it.0 it.2)

pub can_be_kept : (revisions heads : List Revision) → All IsStorable revisions → ((head : Revision) → Contains heads head → Contains revisions head) → All CanBeKept heads
can_be_kept revisions heads all among = λ k d below.
    let r : Revision = get_or heads k d in
    let there = among r (k, below, default heads k r d below) in
    let storable : IsStorable r = subst IsStorable there.2 (all there.0 r there.1) in
    record { from = storable.from; to = storable.rev; short = omega (arith, storable.short) }

-- ---- each of the seven files has a revision

found : {X : Type 0} (b : Bool) (x : X) (o : Option X) → b || is_some o ≡ is_some (cond b (Some x) o)
found true x o = refl
found false x o = refl

any_found : {X : Type 0} (p : X → Bool) (xs : List X) → list_any p xs ≡ is_some (find p xs)
any_found p [] = refl
any_found p (x ∷ xs) = ap (λ b. p x || b) (any_found p xs) ∙ found (p x) x (find p xs)

has_last : List Revision → Bool
has_last xs = is_some (slice_get xs (length xs - 1))

some : (xs : List Revision) → has_last xs ≡ true → xs ≢ []
unfolding has_last
some [] h none = cc
some (x ∷ xs) h none = cc

none : (xs : List Revision) → has_last xs ≡ false → xs ≡ []
unfolding has_last
none [] h = refl
none (x ∷ xs) h = absurd (false≢true (sym h ∙ ap is_some (slice_at (x ∷ xs) (length (x ∷ xs) - 1) x (omega arith))))

module _ (heads : List Revision) (history : List Entry) (same : newest_in heads ≡ newest_of history) where
  revised : (file : List ℕ) → has_revision heads file ≡ has_last (revisions_of file history)
  unfolding newest_in newest_of has_last
  revised file = any_found (λ (head : Revision). bytes_eq head.file file) heads ∙ ap (λ n. is_some (n file)) same

  complete : list_all (has_revision heads) seven ≡ true → All (λ file. revisions_of file history ≢ []) seven
  complete h = λ k d below.
      let file : List ℕ = get_or seven k d in
      some (revisions_of file history) (sym (revised file) ∙ AllPass-from_list_all (has_revision heads) seven h k d below)

  all_have : All (λ file. revisions_of file history ≢ []) seven → AllPass (has_revision heads) seven
  all_have all = λ k d below.
      let file : List ℕ = get_or seven k d in
      elim (cases_Bool (has_revision heads file)) [
        | inl has ↦ has
        | inr lacks ↦ absurd (all k d below (none (revisions_of file history) (sym (revised file) ∙ lacks)))
      ]

  incomplete : list_all (has_revision heads) seven ≡ false → All (λ file. revisions_of file history ≢ []) seven → ⊥
  incomplete h all = false≢true (sym h ∙ list_all-from_AllPass (has_revision heads) seven (all_have all))

-- ---- a history of revisions, and of proposals behind them

abbrev behind : List Revision → List Proposal → List Entry
behind rs ps = map Revised rs ++ map Proposed ps

no_revisions : (ps : List Proposal) → revisions_in (map Proposed ps) ≡ []
no_revisions [] = refl
no_revisions (p ∷ ps) = no_revisions ps

revisions_behind : (rs : List Revision) (ps : List Proposal) → revisions_in (behind rs ps) ≡ rs
revisions_behind rs ps =
    filter_map-append revision_in (map Revised rs) (map Proposed ps) ∙ ap (λ xs. xs ++ revisions_in (map Proposed ps)) (revised_back rs) ∙ ap (λ xs. rs ++ xs) (no_revisions ps) ∙ append-nil rs

pending_behind : (rs : List Revision) (later : List Entry) → pending_in (map Revised rs ++ later) ≡ pending_in later
pending_behind [] later = refl
pending_behind (r ∷ rs) later = none_pending _ (pending_in (map Revised rs ++ later)) ∙ pending_behind rs later

abbrev Follows : Newest → Proposal → Type 0
Follows newest proposal = newest_number (newest proposal.file) ≡ proposal.base

module _ (rows approvals proposals : List Row) (heads : List Revision) (found : (history : List Revision) × AreNewestOf rows approvals heads history) where
  abbrev rs : List Revision
  rs = found.0

  numbered : (file : List ℕ) → AreNumbered (own file rs)
  numbered = numbered_in rs found.1.numbered

  newest_told : newest_in heads ≡ newest_by rs
  newest_told = found.1.newest ∙ newest_revised rs

  -- what proposals follow is a number that a revision may have
  pub can_be_pending : (ps : List Proposal) → MayFollow (newest_in heads) ps → All CanBePending ps
  can_be_pending ps may = λ k d below.
      let p : Proposal = get_or ps k d in
      let low = low_newest rs found.1.storable p.file in
      let number = ap (λ (n : Newest). newest_number (n p.file)) newest_told in
      let base : newest_number (newest_in heads p.file) ≡ p.base = may.follow k d below in
      omega (arith, low, number, base)

  module _ (ps : List Proposal) (read : map proposed_row ps ≡ proposals) (may : MayFollow (newest_in heads) ps) where
    abbrev history : List Entry
    history = behind rs ps

    pending_is : pending_in history ≡ ps
    pending_is = pending_behind rs (map Proposed ps) ∙ all_pending ps may.once

    newest_at : newest_of history ≡ newest_in heads
    newest_at = newest_is history ∙ ap newest_by (revisions_behind rs ps) ∙ sym newest_told

    whole : IsHistory history
    whole = record {
      numbered = λ file. subst (λ xs. AreNumbered (own file xs)) (sym (revisions_behind rs ps)) (numbered file);
      follow = subst (All (Follows (newest_of history))) (sym pending_is) (subst (λ n. All (Follows n) ps) (sym newest_at) may.follow);
    }

    rows_of_it : AreRowsOf history rows approvals proposals
    rows_of_it = record {
      revised = subst (λ xs. IsPermutation (map row_of xs) rows) (sym (revisions_behind rs ps)) found.1.revised;
      approved = subst (λ xs. IsPermutation (filter_map approval_of xs) approvals) (sym (revisions_behind rs ps)) found.1.approved;
      proposed = subst (λ qs. IsPermutation (map proposed_row qs) proposals) (sym pending_is) (subst (IsPermutation (map proposed_row ps)) read (IsPermutation-refl (map proposed_row ps)));
    }

    standing_at : standing_in heads ps ≡ standing_of history
    standing_at =
        let make : Newest → Proposals → Standing = λ n qs. record { newest = n; proposals = qs } in
        ap (λ n. make n (proposals_in ps)) (sym newest_at) ∙ ap (λ qs. make (newest_of history) (proposals_in qs)) (sym pending_is)

    pub site_history : All MayPend ps → list_all (has_revision heads) seven ≡ true → IsConsistent (site_in (newest_in heads)) → (st : Standing) → st ≡ standing_in heads ps
        → (history : List Entry) × IsSiteHistory history × AreRowsOf history rows approvals proposals × (st ≡ standing_of history)
    site_history pend has_all consistent st is = (
      history,
      record {
        numbered = whole;
        each = subst (All IsStorable) (sym (revisions_behind rs ps)) found.1.storable;
        pending = subst (All MayPend) (sym pending_is) pend;
        complete = complete heads history (sym newest_at) has_all;
        consistent = subst (λ n. IsConsistent (site_in n)) (sym newest_at) consistent;
      },
      rows_of_it,
      is ∙ standing_at,
    )

  -- where the rows are those of the history of a site
  module _ (history : List Entry) (site : IsSiteHistory history) (same : AreRowsOf history rows approvals proposals) where
    same_heads : newest_in heads ≡ newest_of history
    same_heads =
        newest_told
        ∙ same_newest rs (revisions_in history) numbered site.numbered.numbered (told_by_one _ _ rows found.1.revised same.revised) (told_by_one _ _ approvals found.1.approved same.approved)
        ∙ sym (newest_is history)

    pub lacks_one : list_all (has_revision heads) seven ≡ false → ⊥
    lacks_one h = incomplete heads history same_heads h site.complete

    pub not_consistent : (IsConsistent (site_in (newest_in heads)) → ⊥) → ⊥
    not_consistent h = h (subst (λ n. IsConsistent (site_in n)) (sym same_heads) site.consistent)

    pub not_following : (ps : List Proposal) → map proposed_row ps ≡ proposals → (MayFollow (newest_in heads) ps → ⊥) → ⊥
    not_following ps read h =
        let moved : IsPermutation (pending_in history) ps = proposals_say (pending_in history) ps (subst (IsPermutation (map proposed_row (pending_in history))) (sym read) same.proposed) in
        h (record {
          once = apart_permutation (pending_in history) ps moved (pending_apart history);
          follow = All-permutation (Follows (newest_in heads)) (pending_in history) ps moved (subst (λ n. All (Follows n) (pending_in history)) (sym same_heads) site.numbered.follow);
        })

    pub pending_low : All CanBePending (pending_in history)
    pending_low = λ k d below.
        let p : Proposal = get_or (pending_in history) k d in
        let low = low_newest (revisions_in history) site.each p.file in
        let number = ap (λ (n : Newest). newest_number (n p.file)) (newest_is history) in
        let base : newest_number (newest_of history p.file) ≡ p.base = site.numbered.follow k d below in
        omega (arith, low, number, base)

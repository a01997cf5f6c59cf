-- The same tables hold one history, file by file, and its files stand in one way.
use Rattle.std.proofs.Common.{◌≡◌, ◌∙◌, sym, ap, ℕ, List, map, IsPermutation}
use Rattle.std.specs.List.{filter_map}
use Rattle.sqlite.specs.Effect.{Database}
use Rattle.sqlite.specs.Order.{Row}
use Rattle.desk_core.specs.Head.{Newest}
use Rattle.desk_core.specs.History.{IsHistory, newest_of, pending_in, revisions_of, standing_of}
use Rattle.desk_core.specs.Standing.{Proposals, Standing, proposals_in}
use Rattle.desk_core.specs.declared.entry.Entry.{Entry}
use Rattle.desk_store.specs.Laws.{OneHistory}
use Rattle.desk_store.specs.History.{Holds, approval_of, revisions_in, row_of}
use Rattle.desk_store.specs.StoredRows.{AreRowsIn, AreRowsOf}
use Rattle.desk_store.proofs.OneOrder.{proposals_say, same_newest, same_own}
use Rattle.desk_store.proofs.PendingOnce.{pending_apart, same_pending}
use Rattle.desk_store.proofs.Revisions.{newest_is}
use Rattle.desk_store.proofs.Members.{told_by_one}

module _ (history other : List Entry) (numbered : IsHistory history) (numbered' : IsHistory other) (revisions approvals proposals : List Row)
    (rows : AreRowsOf history revisions approvals proposals) (rows' : AreRowsOf other revisions approvals proposals) where
  revised : IsPermutation (map row_of (revisions_in history)) (map row_of (revisions_in other))
  revised = told_by_one _ _ revisions rows.revised rows'.revised

  approved : IsPermutation (filter_map approval_of (revisions_in history)) (filter_map approval_of (revisions_in other))
  approved = told_by_one _ _ approvals rows.approved rows'.approved

  pub same_revisions : (file : List ℕ) → revisions_of file history ≡ revisions_of file other
  same_revisions file = same_own (revisions_in history) (revisions_in other) numbered.numbered numbered'.numbered revised approved file

  newest : newest_of history ≡ newest_of other
  newest = newest_is history ∙ same_newest (revisions_in history) (revisions_in other) numbered.numbered numbered'.numbered revised approved ∙ sym (newest_is other)

  pending : proposals_in (pending_in history) ≡ proposals_in (pending_in other)
  pending = same_pending (pending_in history) (pending_in other) (proposals_say (pending_in history) (pending_in other) (told_by_one _ _ proposals rows.proposed rows'.proposed)) (pending_apart history)

  pub same_standing : standing_of history ≡ standing_of other
  same_standing =
      let make : Newest → Proposals → Standing = λ n ps. record { newest = n; proposals = ps } in
      ap (λ n. make n (proposals_in (pending_in history))) newest ∙ ap (make (newest_of other)) pending

-- the rows of a database are those of the history that it holds
pub rows_held : {db : Database} {history : List Entry} → Holds db history → AreRowsIn db history
rows_held holds = record { revised = holds.revisions; approved = holds.approvals; proposed = holds.proposals }

pub one_history : OneHistory
one_history db history other holds holds' =
    let rows = rows_held holds in
    let rows' = rows_held holds' in
    (same_revisions history other holds.numbers holds'.numbers _ _ _ rows rows', same_standing history other holds.numbers holds'.numbers _ _ _ rows rows')

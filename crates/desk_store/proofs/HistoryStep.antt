-- Rows that are put into the tables are one entry more of a history.
use Rattle.std.proofs.Common.{◌≡◌, ◌∙◌, sym, ap, subst, ℕ, List, [], ◌∷◌, ◌++◌, not, map, codes}
use Rattle.std.specs.Prelude.{IsPermutation}
use Rattle.std.specs.List.{filter_map}
use Rattle.std.specs.Ordering.{is_eq}
use Rattle.std.specs.Str.{bytes_eq}
use Rattle.std.proofs.lemmas.List.{map-append}
use Rattle.std.proofs.lemmas.List.Elements.{filter_map-append}
use Rattle.std.proofs.lemmas.List.Sorted.{IsPermutation-append_comm, IsPermutation-append_left, IsPermutation-trans}
use Rattle.std.proofs.lemmas.Map.Text.{is_eq-slice_cmp}
use Rattle.sqlite.specs.Effect.{Database}
use Rattle.sqlite.specs.Order.{value_cmp}
use Rattle.sqlite.specs.declared.types.Value.TheVariants.{Text as Words}
use Rattle.sqlite_trees.proofs.ListLemmas.{IsPermutation-filter, all_of, filter-map, filter_same}
use Rattle.sqlite_value.proofs.OrderLemmas.{value_cmp-Text}
use Rattle.desk_core.specs.History.{IsHistory, pending_in}
use Rattle.desk_core.specs.declared.entry.Entry.{Entry}
use Rattle.desk_core.specs.declared.entry.Entry.TheVariants as entry
use Rattle.desk_core.specs.declared.proposal.Proposal.{Proposal}
use Rattle.desk_schema.specs.Tables.{HasTables}
use Rattle.desk_store.specs.Tables.{Stores, is_row_of, rows_of, without_file}
use Rattle.desk_store.specs.History.{Holds, approval_of, entry_rows, proposed_row, revisions_in, row_of}
use Rattle.desk_store.proofs.LongerHistory.{others, pending_more, revisions_more}

-- SQL takes two texts for equal if they have the same bytes
pub same_text : (a b : List ℕ) → is_eq (value_cmp (Words a) (Words b)) ≡ bytes_eq a b
same_text a b = ap is_eq (value_cmp-Text a b) ∙ is_eq-slice_cmp a b

-- what is told, and rows that are put beside those of it
grown : {X : Type 0} (told all rows added new : List X) → all ≡ told ++ added → IsPermutation told rows → IsPermutation (added ++ rows) new → IsPermutation all new
grown told all rows added new is same put =
    subst (λ xs. IsPermutation xs new) (sym is)
    (IsPermutation-trans _ _ _ (IsPermutation-append_left added told rows same) (IsPermutation-trans _ _ _ (IsPermutation-append_comm rows added) put))

-- the rows of an entry, which stand behind those of a history
revised : (history : List Entry) (stored : Entry) → map row_of (revisions_in (history ++ stored ∷ [])) ≡ map row_of (revisions_in history) ++ (entry_rows stored).revisions
revised history (entry.Revised r) = ap (map row_of) (revisions_more history (entry.Revised r)) ∙ map-append row_of (revisions_in history) (r ∷ [])
revised history (entry.Proposed p) = ap (map row_of) (revisions_more history (entry.Proposed p)) ∙ map-append row_of (revisions_in history) []

approved : (history : List Entry) (stored : Entry) → filter_map approval_of (revisions_in (history ++ stored ∷ [])) ≡ filter_map approval_of (revisions_in history) ++ (entry_rows stored).approvals
approved history (entry.Revised r) = ap (filter_map approval_of) (revisions_more history (entry.Revised r)) ∙ filter_map-append approval_of (revisions_in history) (r ∷ [])
approved history (entry.Proposed p) = ap (filter_map approval_of) (revisions_more history (entry.Proposed p)) ∙ filter_map-append approval_of (revisions_in history) []

-- the rows of the proposals of other files
others_rows : (file : List ℕ) (proposals : List Proposal) → map proposed_row (others file proposals) ≡ without_file file (map proposed_row proposals)
others_rows file proposals =
    ap (map proposed_row) (sym (filter_same (λ (p : Proposal). not (is_row_of file (proposed_row p))) (λ (p : Proposal). not (bytes_eq p.file file)) proposals
    (all_of (λ (p : Proposal). not (is_row_of file (proposed_row p)) ≡ not (bytes_eq p.file file)) (λ p. ap not (same_text p.file file)) proposals)))
    ∙ sym (filter-map (λ row. not (is_row_of file row)) proposed_row proposals)

behind : (file : List ℕ) (proposals more : List Proposal) → map proposed_row (others file proposals ++ more) ≡ without_file file (map proposed_row proposals) ++ map proposed_row more
behind file proposals more = map-append proposed_row (others file proposals) more ∙ ap (λ rows. rows ++ map proposed_row more) (others_rows file proposals)

pending : (history : List Entry) (stored : Entry)
    → map proposed_row (pending_in (history ++ stored ∷ [])) ≡ without_file (entry_rows stored).file (map proposed_row (pending_in history)) ++ (entry_rows stored).proposals
pending history (entry.Revised r) = ap (map proposed_row) (pending_more history (entry.Revised r)) ∙ behind r.file (pending_in history) []
pending history (entry.Proposed p) = ap (map proposed_row) (pending_more history (entry.Proposed p)) ∙ behind p.file (pending_in history) (p ∷ [])

-- the history with one entry more, whose numbers still rise by one
pub holds_more : (old new : Database) (history : List Entry) (stored : Entry) → Holds old history → IsHistory (history ++ stored ∷ []) → Stores (entry_rows stored) old new → Holds new (history ++ stored ∷ [])
holds_more old new history stored holds numbered stores =
    let rows = entry_rows stored in
    record {
      tables = subst HasTables (sym stores.schema) holds.tables;
      version = stores.version ∙ holds.version;
      revisions = grown _ _ (rows_of old (codes "file_rev")) rows.revisions _ (revised history stored) holds.revisions stores.revised;
      approvals = grown _ _ (rows_of old (codes "approval")) rows.approvals _ (approved history stored) holds.approvals stores.approved;
      proposals = grown _ _ (without_file rows.file (rows_of old (codes "proposal"))) rows.proposals _ (pending history stored)
          (IsPermutation-filter (λ row. not (is_row_of rows.file row)) _ _ holds.proposals) stores.proposed;
      numbers = numbered;
    }

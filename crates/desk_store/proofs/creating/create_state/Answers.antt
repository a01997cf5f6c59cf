use Rattle.std.proofs.Common.{◌≡◌, ◌∙◌, ap, Bool, false, inl, inr, IsTrue, map, subst, Ok, Err}
use Rattle.std.specs.List.{filter_map}
use Rattle.std.proofs.lemmas.Bool.{both_ways, cases_Bool}
use Rattle.sqlite_trees.specs.View.{doubt}
use Rattle.sqlite_trees.proofs.Doubt.{no_doubt}
use Rattle.sqlite.specs.Held.{state}
use Rattle.desk_policy.specs.Site.{texts_of}
use Rattle.desk_core.specs.declared.entry.Entry.TheVariants.{Revised}
use Rattle.desk_store.specs.Create.{StoresAll, first_revisions}
use Rattle.desk_store.specs.History.{approval_of}
use Rattle.desk_store.proofs.FirstHistory.{none_approved}
use Rattle.desk_store.proofs.MadeState.{made_state, not_stored_state}
use Rattle.desk_store.proofs.creating.create_state.Goals as goal

-- a store that is not clean shows as shut
clean_so : (is_clean is_open : Bool) → (is_clean ≡ false → is_open ≡ false) → IsTrue is_open → doubt is_clean ≡ 0
clean_so is_clean is_open law live = elim (cases_Bool is_clean) [ inl clean ↦ no_doubt is_clean clean | inr dirty ↦ absurd (both_ways is_open (law dirty) live) ]

pub store_history-requires-clause-unapproved : goal.store_history-requires-clause-unapproved
store_history-requires-clause-unapproved g c = ap (filter_map approval_of) (c.heads.ensures ∙ c.in-Ok.ensures.made.heads_are) ∙ none_approved (texts_of c.args.site.now)

pub returns-in-Ok-store_history : goal.returns-in-Ok-store_history
returns-in-Ok-store_history g c =
    let mid = state g.S.Store c.look_for_room.new.conn in
    let new = state g.S.Store c.store_history.new.conn in
    let texts = texts_of c.args.site.now in
    let heads : c.heads.result.now ≡ first_revisions texts = c.heads.ensures ∙ c.in-Ok.ensures.made.heads_are in
    made_state (state g.S.Store c.args.conn.now) mid new texts (clean_so mid.is_clean mid.is_open (g.met.S.Store.shut_if_dirty c.look_for_room.new.conn.store)) (tt {0}) (tt {0}) c.in-Ok.first c.in_default.ensures
    (subst (λ heads. StoresAll mid new (map Revised heads) (Ok (tt {0}))) heads c.in-Ok-store_history.ensures.stored) c.in-Ok.ensures.made c.in-Ok.ensures.proposals
    (λ live trees may. g.met.S.Store.settled c.store_history.new.conn.store trees live may)

pub returns-in-Err-store_history : goal.returns-in-Err-store_history
returns-in-Err-store_history g c =
    let mid = state g.S.Store c.look_for_room.new.conn in
    let new = state g.S.Store c.store_history.new.conn in
    let texts = texts_of c.args.site.now in
    let heads : c.heads.result.now ≡ first_revisions texts = c.heads.ensures ∙ c.in-Ok.ensures.made.heads_are in
    not_stored_state (state g.S.Store c.args.conn.now) mid new texts (clean_so mid.is_clean mid.is_open (g.met.S.Store.shut_if_dirty c.look_for_room.new.conn.store)) g.row.V.Denot (tt {0}) c.in-Err-store_history.e c.not_made.result
    c.in_default.ensures (subst (λ heads. StoresAll mid new (map Revised heads) (Err c.in-Err-store_history.e)) heads c.in-Err-store_history.ensures.stored) c.in-Ok.ensures.made.stored c.not_made.ensures

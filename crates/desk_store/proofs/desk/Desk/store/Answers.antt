use Rattle.std.proofs.Common.{false, sym, subst, refl, inl, arith, Err, Ok, ◌+◌, ◌∙◌, ap}
use Rattle.sqlite.specs.Held.{state}
use Rattle.desk_core.specs.Edit.{asked}
use Rattle.desk_core.specs.Head.{newest_in}
use Rattle.desk_core.specs.Site.{IsConsistent, site_in}
use Rattle.desk_core.specs.declared.entry.Entry.{Entry}
use Rattle.desk_store.specs.Desk.{CommitsAtMost, IsAccepted, IsEdited, is_proposed}
use Rattle.desk_store.specs.History.{entry_rows}
use Rattle.desk_store.specs.Tables.{Stores}
use Rattle.desk_store.specs.declared.error.DeskError.TheVariants as error
use Rattle.desk_store.proofs.EditStep.{base_low, desk_after, edit_failed, edit_stored, of_edit, rest_failed, rest_stored}
use Rattle.desk_store.proofs.desk.Desk.store.Goals as goal

pub overflow_add-rev : goal.overflow_add-rev
overflow_add-rev g c =
    let low = base_low g.V.PolicyView.in_force c.args.self.now.state (asked c.args.edit.now) c.args.accepted c.requires.accepted in
    omega (arith, low)

pub invariant_of-self : goal.invariant_of-self
invariant_of-self g c =
    let old = state g.S.Store c.self.inside.conn in
    let new = state g.S.Store c.append_entry.new.conn in
    let e = asked c.args.edit.now in
    let before = c.self.inside.current in
    let sound = subst (λ s. IsConsistent (site_in (newest_in s.state.heads))) (sym c.self.view_is) c.requires.sound in
    let accepted = subst (λ s. IsAccepted g.V.PolicyView.in_force s.state e c.args.accepted) (sym c.self.view_is) c.requires.accepted in
    let may = subst (λ (stored : Entry). CommitsAtMost (Stores (entry_rows stored)) old new (Err c.in-Err.e)) c.entry-2.ensures c.in-Err.ensures.commits in
    let edited = edit_failed c.standing_of_a_longer_history.ensures c.answered_edits_keep_site_histories.ensures g.V.PolicyView.in_force old new before before e c.args.accepted sound accepted c.texts_are_utf8.ensures error.Memory (inl refl) may in
    (may.autocommit, desk_after old new before before e (Err error.Memory) edited c.self.invariant.1 (rest_failed old new before c.args.accepted.entry may), c.self.invariant.2)

pub returns-in-Err-clause-edited : goal.returns-in-Err-clause-edited
returns-in-Err-clause-edited g c =
    let old = state g.S.Store c.self.inside.conn in
    let new = state g.S.Store c.append_entry.new.conn in
    let e = asked c.args.edit.now in
    let before = c.self.inside.current in
    let sound = subst (λ s. IsConsistent (site_in (newest_in s.state.heads))) (sym c.self.view_is) c.requires.sound in
    let accepted = subst (λ s. IsAccepted g.V.PolicyView.in_force s.state e c.args.accepted) (sym c.self.view_is) c.requires.accepted in
    let may = subst (λ (stored : Entry). CommitsAtMost (Stores (entry_rows stored)) old new (Err c.in-Err.e)) c.entry-2.ensures c.in-Err.ensures.commits in
    let edited = edit_failed c.standing_of_a_longer_history.ensures c.answered_edits_keep_site_histories.ensures g.V.PolicyView.in_force old new before before e c.args.accepted sound accepted c.texts_are_utf8.ensures c.not_stored.result c.not_stored.ensures.either may in
    subst (λ s. IsEdited (state g.S.Store s.conn) new s.state before e (Err c.not_stored.result)) c.self.view_is edited

pub invariant_of-self-2 : goal.invariant_of-self-2
invariant_of-self-2 g c =
    let old = state g.S.Store c.self.inside.conn in
    let new = state g.S.Store c.append_entry.new.conn in
    let e = asked c.args.edit.now in
    let before = c.self.inside.current in
    let after = c.apply.new.self in
    let proposed = c.is_proposed-proposed.result in
    let sound = subst (λ s. IsConsistent (site_in (newest_in s.state.heads))) (sym c.self.view_is) c.requires.sound in
    let accepted = subst (λ s. IsAccepted g.V.PolicyView.in_force s.state e c.args.accepted) (sym c.self.view_is) c.requires.accepted in
    let may = subst (λ (stored : Entry). CommitsAtMost (Stores (entry_rows stored)) old new (Ok c.in_default.field-0)) c.entry-2.ensures c.in_default.ensures.commits in
    let edited = edit_stored c.standing_of_a_longer_history.ensures c.answered_edits_keep_site_histories.ensures g.V.PolicyView.in_force old new before after e c.args.accepted sound accepted c.texts_are_utf8.ensures proposed
    (c.is_proposed-proposed.ensures ∙ ap is_proposed c.entry.ensures) may c.apply.ensures.standing in
    (may.autocommit, desk_after old new before after e (Ok (record { rev = e.base + 1; already = false; proposed = proposed })) edited c.self.invariant.1 (rest_stored old new before c.args.accepted.entry may), c.apply.ensures.proposals_once c.self.invariant.2)

pub returns-in-Err-clause-errors : goal.returns-in-Err-clause-errors
returns-in-Err-clause-errors g c = of_edit c.not_stored.result c.not_stored.ensures.either

pub returns-clause-edited : goal.returns-clause-edited
returns-clause-edited g c =
    let old = state g.S.Store c.self.inside.conn in
    let new = state g.S.Store c.append_entry.new.conn in
    let e = asked c.args.edit.now in
    let before = c.self.inside.current in
    let after = c.apply.new.self in
    let proposed = c.is_proposed-proposed.result in
    let sound = subst (λ s. IsConsistent (site_in (newest_in s.state.heads))) (sym c.self.view_is) c.requires.sound in
    let accepted = subst (λ s. IsAccepted g.V.PolicyView.in_force s.state e c.args.accepted) (sym c.self.view_is) c.requires.accepted in
    let may = subst (λ (stored : Entry). CommitsAtMost (Stores (entry_rows stored)) old new (Ok c.in_default.field-0)) c.entry-2.ensures c.in_default.ensures.commits in
    let edited = edit_stored c.standing_of_a_longer_history.ensures c.answered_edits_keep_site_histories.ensures g.V.PolicyView.in_force old new before after e c.args.accepted sound accepted c.texts_are_utf8.ensures proposed
    (c.is_proposed-proposed.ensures ∙ ap is_proposed c.entry.ensures) may c.apply.ensures.standing in
    subst (λ s. IsEdited (state g.S.Store s.conn) new s.state after e (Ok (record { rev = e.base + 1; already = false; proposed = proposed }))) c.self.view_is edited

-- Which entries are pending after exchanges.
use Rattle.std.proofs.Common.{◌≡◌, ◌≢◌, ◌⊎◌, ◌∙◌, sym, ap, subst, inl, inr, refl, ◌++◌, zero, suc, List, [], ◌∷◌, Option, Some, None, arith, append-nil}
use Rattle.std.specs.Prelude.{Contains}
use Rattle.std.proofs.lemmas.List.Elements.{Contains-append_cases}
use Rattle.desk_core.specs.Edit.{Already, Answer, Pending, Proposed, Refused, Stored}
use Rattle.desk_core.specs.History.{Exchange, added_if, history_after, history_through, standing_of}
use Rattle.desk_core.specs.Judging.{entry_of}
use Rattle.desk_core.specs.declared.entry.Entry.{Entry}
use Rattle.desk_store.specs.Desk.{History, pending_after}
use Rattle.desk_store.specs.Laws.{AddsSome, IsUntold, PendingEditsHaveNoAnswer}

its_only : (stored own : Entry) → Contains (own ∷ []) stored → stored ≡ own
its_only stored own (zero, below, is) = sym is
its_only stored own (suc k, below, is) = absurd (omega arith)

module _ (history pending : History) (x : Exchange) (calls : List Exchange) (stored : Entry) (none : AddsSome (history_after history x) calls → ⊥) where
  abbrev Goal : Type 0
  Goal = (Contains pending stored × (AddsSome history (x ∷ calls) → ⊥)) ⊎ IsUntold history (x ∷ calls) stored

  -- an exchange that adds nothing
  still : (answer : Option Answer) → x.answer ≡ answer → added_if (standing_of history) x.edit answer ≡ [] → history_after history x ≡ history
  still answer is nothing = ap (λ a. history ++ added_if (standing_of history) x.edit a) is ∙ ap (λ added. history ++ added) nothing ∙ append-nil history

  yet : history_after history x ≡ history → Contains pending stored → Goal
  yet same h = inl (h, subst (λ last. (history_through (history_after history x) calls ≢ last) → ⊥) same none)

  by_answer : (answer : Option Answer) → x.answer ≡ answer → Contains (pending_after pending (standing_of history) x.edit answer) stored → Goal
  by_answer None is h =
      let same = still None is refl in
      elim (Contains-append_cases pending (entry_of (standing_of history) x.edit ∷ []) stored h) [
        | inl before ↦ yet same before
        | inr own ↦ inr ([], calls, x, refl, is, its_only stored (entry_of (standing_of history) x.edit) own, subst (λ h. AddsSome h calls → ⊥) same none)
      ]
  by_answer (Some (Stored number)) is (k, below, at) = absurd (omega arith)
  by_answer (Some (Proposed number)) is (k, below, at) = absurd (omega arith)
  by_answer (Some (Already number)) is h = yet (still (Some (Already number)) is refl) h
  by_answer (Some (Pending number)) is h = yet (still (Some (Pending number)) is refl) h
  by_answer (Some (Refused refusal)) is h = yet (still (Some (Refused refusal)) is refl) h

pub pending_edits : PendingEditsHaveNoAnswer
pending_edits history pending [] stored h = inl (h, λ some. some refl)
pending_edits history pending (x ∷ calls) stored h =
    elim (pending_edits (history_after history x) (pending_after pending (standing_of history) x.edit x.answer) calls stored h) [
      | inl before ↦ by_answer history pending x calls stored before.1 x.answer refl before.0
      | inr (before, after, untold, is, answer, own, none) ↦ inr (x ∷ before, after, untold, ap (λ all. x ∷ all) is, answer, own, none)
    ]

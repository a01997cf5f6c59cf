-- What a desk answers to a question is the answer by its history, for `answering` and `texts`.
use Rattle.std.proofs.Common.{◌≡◌, ◌==◌, ℕ, Bool, true, false, List, [], ◌∷◌, Option, Some, None, ap, arith, cond, eqb-true, inl, length, refl, subst, sym}
use Rattle.std.proofs.lemmas.List.{nil_from_length}
use Rattle.std.specs.Prelude.{find}
use Rattle.sqlite_trees.specs.declared.store.Store.{Ghosts}
use Rattle.sqlite.specs.Held.{state}
use Rattle.sqlite.specs.State.{State, Survives}
use Rattle.desk_core.specs.Head.{Revision}
use Rattle.desk_store.specs.Desk.{Shown, stored_of}
use Rattle.desk_store.specs.declared.desk.Revision.{Revision as Found}
use Rattle.desk_store.specs.declared.desk.Signature.{Signature}
use Rattle.desk_service.specs.Questions.{Answer, NoRevision, OnlyLooks, RevisionsAre, TextIs, revisions_answer, text_answer}

survives_itself : (s : State) → Survives s s (λ _. ⊥)
survives_itself s = record { clean = omega arith; shield = λ h. h; counts = omega arith; limit = refl; closes = λ clean live. inl live; crash = λ clean trees may. inl may }

-- a desk that is left alone
pub left_alone : {S V : Type 0} (g : Ghosts S) (desk : Shown S V) → OnlyLooks g desk desk
left_alone g desk = (
  record { state = refl; disk = omega arith; stands = λ clean history pending stands. stands },
  record { same = λ clean live. refl; crash = survives_itself (state g desk.conn) },
)

-- the answer that a revision of this number is, as it was found
abbrev pub numbered_answer : ℕ → Option Found → Answer
numbered_answer rev (Some f) = TextIs (record { rev = rev; author = f.author; approver = f.approver; profile = f.profile; body = f.body })
numbered_answer rev None = NoRevision

first_or_later : (rev : ℕ) (x : Revision) (later : Option Revision) → numbered_answer rev (stored_of later) ≡ text_answer later
    → (b : Bool) → (x.rev == rev) ≡ b → numbered_answer rev (stored_of (cond b (Some x) later)) ≡ text_answer (cond b (Some x) later)
first_or_later rev x later same true e = ap (λ n. TextIs (record { rev = n; author = x.author; approver = x.approver; profile = x.profile; body = x.body })) (sym (eqb-true x.rev rev e))
first_or_later rev x later same false e = same

-- the revision of a number has that number, so it is answered as it was found
pub same_text : (rev : ℕ) (revisions : List Revision) → numbered_answer rev (stored_of (find (λ r. r.rev == rev) revisions)) ≡ text_answer (find (λ r. r.rev == rev) revisions)
same_text rev [] = refl
same_text rev (x ∷ revisions) = first_or_later rev x (find (λ r. r.rev == rev) revisions) (same_text rev revisions) (x.rev == rev) refl

holds : Bool → Type 0
holds true = Unit {0}
holds false = ⊥

apart : true ≡ false → ⊥
unfolding holds
apart e = subst holds e tt

-- an empty list of revisions is none, and another is one
pub lists_none : (xs : List Signature) → (length xs == 0) ≡ true → NoRevision ≡ revisions_answer xs
lists_none xs e = ap revisions_answer (sym (nil_from_length xs (eqb-true _ _ e)))

pub lists_some : (xs : List Signature) → (length xs == 0) ≡ false → RevisionsAre xs ≡ revisions_answer xs
lists_some [] e = absurd (apart e)
lists_some (x ∷ xs) e = refl

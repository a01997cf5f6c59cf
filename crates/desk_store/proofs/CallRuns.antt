-- Edits and looks on a good disk are answered by histories, and the edits are a run.
use Rattle.std.proofs.Common.{sym, subst, refl, ◌≤◌, ◌++◌, List, [], ◌∷◌, arith}
use Rattle.sqlite_trees.specs.declared.store.Store.{Ghosts}
use Rattle.sqlite_trees.specs.View.{doubt}
use Rattle.sqlite.specs.Held.{state}
use Rattle.sqlite.specs.State.{HasCleanDisk, State}
use Rattle.desk_core.specs.History.{Exchange, Run, history_through}
use Rattle.desk_core.specs.Views.{Kept}
use Rattle.desk_store.specs.Desk.{History, Shown, Stands}
use Rattle.desk_store.specs.Laws.{AreRight, Call, CalledBy, CallsAreARun, IsRight, calls_of, edit_of, edited, edits_in, found, history_called, listed, newest, pending_by, pending_through, proposal, signed, untold, viewed}

-- what calls come to: the edits among them, and what was pending before
abbrev Ends : {V : Type 0} → State → Kept V → History → History → List Call → List Exchange → Type 0
Ends new after history pending calls edits =
    AreRight history calls × Run history edits (history_through history edits) × Stands new after (history_through history edits) (pending_through history pending edits)

-- one call before others
one_more : {V : Type 0} (new : State) (after : Kept V) (history pending : History) (call : Call) (calls : List Call) (edits : List Exchange) → IsRight history call
    → Ends new after (history_called history call) (pending_by history pending call) calls edits → Ends new after history pending (call ∷ calls) (edit_of call ++ edits)
one_more new after history pending (edited x) calls edits right (others, run, stands) = ((right, others), (right, run), stands)
one_more new after history pending (found file rev it) calls edits right (others, run, stands) = ((right, others), run, stands)
one_more new after history pending (listed file all) calls edits right (others, run, stands) = ((right, others), run, stands)
one_more new after history pending (signed file all) calls edits right (others, run, stands) = ((right, others), run, stands)
one_more new after history pending (newest file it) calls edits right (others, run, stands) = ((right, others), run, stands)
one_more new after history pending (proposal file it) calls edits right (others, run, stands) = ((right, others), run, stands)
one_more new after history pending (viewed content) calls edits right (others, run, stands) = ((right, others), run, stands)
one_more new after history pending untold calls edits right (others, run, stands) = ((right, others), run, stands)

module _ {S V : Type 0} (g : Ghosts S) where
  doubts : (old new : Shown S V) (calls : List (Call × Shown S V)) → CalledBy g old calls new → doubt (state g old.conn).is_clean ≤ doubt (state g new.conn).is_clean
  doubts old new [] e = let P : Shown S V → Type 0 = λ d. doubt (state g old.conn).is_clean ≤ doubt (state g d.conn).is_clean in subst P (sym e) (omega arith)
  doubts old new (call ∷ calls) (once, rest) = let h = doubts call.1 new calls rest in omega (arith, once.0, h)

  ends_of : (old new : Shown S V) (calls : List (Call × Shown S V)) (history pending : History)
      → CalledBy g old calls new → HasCleanDisk (state g new.conn) → Stands (state g old.conn) old.state history pending
      → Ends (state g new.conn) new.state history pending (calls_of calls) (edits_in (calls_of calls))
  ends_of old new [] history pending e clean stands =
      let P : Shown S V → Type 0 = λ d. Stands (state g d.conn) d.state history pending in
      (tt, refl, subst P (sym e) stands)
  ends_of old new (call ∷ calls) history pending (once, rest) clean stands =
      let h = doubts call.1 new calls rest in
      let mid : HasCleanDisk (state g call.1.conn) = omega (arith, h, clean) in
      let step = once.1 mid history pending stands in
      let more = ends_of call.1 new calls (history_called history call.0) (pending_by history pending call.0) rest clean step.1 in
      one_more (state g new.conn) new.state history pending call.0 (calls_of calls) (edits_in (calls_of calls)) step.0 more

pub calls_are_a_run : {S V : Type 0} (g : Ghosts S) → CallsAreARun S V g
calls_are_a_run g old new calls history pending called clean stands = ends_of g old new calls history pending called clean stands

-- Edits on a good disk are a run.
use Rattle.std.proofs.Common.{sym, subst, refl, ◌≤◌, List, [], ◌∷◌, map, arith}
use Rattle.sqlite_trees.specs.declared.store.Store.{Ghosts}
use Rattle.sqlite_trees.specs.View.{doubt}
use Rattle.sqlite.specs.Held.{state}
use Rattle.sqlite.specs.State.{HasCleanDisk}
use Rattle.desk_core.specs.History.{Exchange, Run, history_after, history_through, standing_of}
use Rattle.desk_store.specs.Desk.{History, Shown, Stands, pending_after}
use Rattle.desk_store.specs.Laws.{EditedBy, EditsAreARun, pending_through}

abbrev exchanges : {S V : Type 0} → List (Exchange × Shown S V) → List Exchange
exchanges calls = map (λ call. call.0) calls

module _ {S V : Type 0} (g : Ghosts S) where
  doubts : (old new : Shown S V) (calls : List (Exchange × Shown S V)) → EditedBy g old calls new → doubt (state g old.conn).is_clean ≤ doubt (state g new.conn).is_clean
  doubts old new [] e = let P : Shown S V → Type 0 = λ d. doubt (state g old.conn).is_clean ≤ doubt (state g d.conn).is_clean in subst P (sym e) (omega arith)
  doubts old new (call ∷ calls) (once, rest) = let h = doubts call.1 new calls rest in omega (arith, once.0, h)

  run_of : (old new : Shown S V) (calls : List (Exchange × Shown S V)) (history pending : History)
      → EditedBy g old calls new → HasCleanDisk (state g new.conn) → Stands (state g old.conn) old.state history pending
      → Run history (exchanges calls) (history_through history (exchanges calls))
      × Stands (state g new.conn) new.state (history_through history (exchanges calls)) (pending_through history pending (exchanges calls))
  run_of old new [] history pending e clean stands =
      let P : Shown S V → Type 0 = λ d. Stands (state g d.conn) d.state history pending in
      (refl, subst P (sym e) stands)
  run_of old new (call ∷ calls) history pending (once, rest) clean stands =
      let h = doubts call.1 new calls rest in
      let mid : HasCleanDisk (state g call.1.conn) = omega (arith, h, clean) in
      let step = once.1 mid history pending stands in
      let x = call.0 in
      let more = run_of call.1 new calls (history_after history x) (pending_after pending (standing_of history) x.edit x.answer) rest clean step.stands in
      ((step.answered, more.0), more.1)

pub edits_are_a_run : {S V : Type 0} (g : Ghosts S) → EditsAreARun S V g
edits_are_a_run g old new calls history pending edited clean stands = run_of g old new calls history pending edited clean stands

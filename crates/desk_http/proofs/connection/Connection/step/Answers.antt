-- A step over the bytes is an event of the connection.
use Rattle.std.proofs.Common.{◌∙◌, [], ap, refl, subst, sym}
use Rattle.desk_store.specs.Desk.{HasGoodDisk, StandsAt}
use Rattle.desk_http.specs.declared.connection.State.{State}
use Rattle.desk_http.specs.Connection.{IsKnown, Place, StepMoves, has_ended}
use Rattle.desk_http.proofs.RunLemmas.{Serves-none}
use Rattle.desk_http.proofs.StepLemmas.{known_after, step_run, steps_move}
use Rattle.desk_http.proofs.connection.Connection.step.Goals as goal

pub invariant_of-self : goal.invariant_of-self
invariant_of-self g c = (
  subst (λ (s : State). IsKnown s c.take_step-step.new.buffer) (sym c.state_after-self-inside.ensures)
      (known_after (HasGoodDisk g.S.Store) (StandsAt g.S.Store) c.self.inside.buffer c.args.desk.now c.take_step-step.result c.take_step-step.new.buffer c.take_step-step.new.desk c.take_step-step.ensures.steps),
  c.self.invariant.1,
)

pub returns-clause-moves : goal.returns-clause-moves
returns-clause-moves g c =
    let i = c.self.inside in
    let q : Place = record { waiting = c.take_step-step.new.buffer; state = c.state_after-self-inside.result; reads = i.reads } in
    subst (λ (p : Place). StepMoves (HasGoodDisk g.S.Store) (StandsAt g.S.Store) p c.args.desk.now c.take_step-step.result q c.take_step-step.new.desk) c.self.view_is
    (steps_move (HasGoodDisk g.S.Store) (StandsAt g.S.Store) (record { waiting = i.buffer; state = i.state; reads = i.reads }) q c.args.desk.now c.take_step-step.result c.take_step-step.new.desk
    (ap (λ (p : Place). has_ended p.state) c.self.view_is ∙ c.requires.goes_on) c.take_step-step.ensures.steps c.state_after-self-inside.ensures refl)

pub returns-in-Waits-clause-run : goal.returns-in-Waits-clause-run
returns-in-Waits-clause-run g c = ([], [], Serves-none (HasGoodDisk g.S.Store) (StandsAt g.S.Store) c.args.desk.now)

pub returns-clause-run : goal.returns-clause-run
returns-clause-run g c = step_run (HasGoodDisk g.S.Store) (StandsAt g.S.Store) _ _ _ _ _ (returns-clause-moves g c)

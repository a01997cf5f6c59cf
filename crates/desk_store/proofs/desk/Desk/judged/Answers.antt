use Rattle.std.proofs.Common.{◌≡◌, Err, None, Ok, subst}
use Rattle.sqlite.specs.Held.{state}
use Rattle.desk_core.specs.Edit.{asked}
use Rattle.desk_core.specs.Judging.{Answers, first_case}
use Rattle.desk_core.specs.State.{Judges, again, standing}
use Rattle.desk_store.proofs.EditStep.{edited_already, edited_memory}
use Rattle.desk_store.proofs.desk.Desk.judged.Goals as goal

pub returns-in-Err-Memory-clause-edited : goal.returns-in-Err-Memory-clause-edited
returns-in-Err-Memory-clause-edited g c =
    let e = asked c.args.edit.now in
    let none : first_case (standing c.self.inside.current) e ≡ None = subst (λ f. Judges g.V.PolicyView.in_force c.self.inside.current e (Err f)) c.in-Err-Memory.field-0-is c.in-Err-Memory.ensures in
    edited_memory (state g.S.Store c.args.self.now.conn) c.args.self.now.state e c.requires.sound
    (subst (λ s. first_case (standing s.state) e ≡ None) c.self.view_is none)

pub returns-in-Ok-Already-clause-edited : goal.returns-in-Ok-Already-clause-edited
returns-in-Ok-Already-clause-edited g c =
    let e = asked c.args.edit.now in
    let rev = c.in-Ok-Already.rev in
    let proposed = c.in-Ok-Already.proposed in
    let answers : Answers (standing c.self.inside.current) e (again rev proposed) =
    subst (λ j. Judges g.V.PolicyView.in_force c.self.inside.current e (Ok j)) c.in-Ok-Already.field-0-is c.in-Ok-Already.ensures in
    edited_already (state g.S.Store c.args.self.now.conn) c.args.self.now.state e c.requires.sound rev proposed
    (subst (λ s. Answers (standing s.state) e (again rev proposed)) c.self.view_is answers)

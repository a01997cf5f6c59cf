use Rattle.std.proofs.Common.{◌<◌, subst, sym, ap, All, Err, length, arith}
use Rattle.std.specs.Prelude.{vec_capacity}
use Rattle.desk_core.specs.Edit.{asked}
use Rattle.desk_core.specs.Head.{CanBeKept}
use Rattle.desk_core.specs.PrivateState.{Accepts}
use Rattle.desk_core.specs.Views.{shown}
use Rattle.desk_core.proofs.Accepting.{accepted, not_accepted, within}
use Rattle.desk_core.proofs.state.State.accept.Goals as goal

pub entry_of-requires : goal.entry_of-requires
entry_of-requires g c =
    let kept : All CanBeKept c.args.self.now.heads = subst (λ s. All CanBeKept s.heads) c.self.view_is c.self.invariant.kept in
    (within c.args.self.now.heads c.args.self.now.proposals (asked c.args.edit.now) kept c.requires).0

pub change_by-requires : goal.change_by-requires
change_by-requires g c =
    let kept : All CanBeKept c.args.self.now.heads = subst (λ s. All CanBeKept s.heads) c.self.view_is c.self.invariant.kept in
    (within c.args.self.now.heads c.args.self.now.proposals (asked c.args.edit.now) kept c.requires).1

pub returns-in-Ok : goal.returns-in-Ok
returns-in-Ok g c =
    let state = c.args.self.now in
    let e = asked c.args.edit.now in
    let kept : All CanBeKept state.heads = subst (λ s. All CanBeKept s.heads) c.self.view_is c.self.invariant.kept in
    let heads = ap (λ s. s.heads) c.self.view_is in
    let proposals = ap (λ s. s.proposals) c.self.view_is in
    let room : length state.heads < vec_capacity c.in_ok-room.room = omega (arith, c.in_ok-room.ensures.exact, ap length heads) in
    let proposal_room : length state.proposals < vec_capacity c.in_ok-proposal_room.proposal_room = omega (arith, c.in_ok-proposal_room.ensures.exact, ap length proposals) in
    accepted g.V.PolicyView.in_force state e
    (record { entry = c.in_ok-entry.entry; room = vec_capacity c.in_ok-room.room; proposal_room = vec_capacity c.in_ok-proposal_room.proposal_room; change = shown g.V.PolicyView.part_rows c.in-Ok.change })
    kept c.requires c.in_ok-entry.ensures room proposal_room c.in-Ok.ensures.0 c.in-Ok.ensures.1

pub returns-in-Err : goal.returns-in-Err
returns-in-Err g c =
    let state = c.args.self.now in
    let e = asked c.args.edit.now in
    let F = g.V.PolicyView.in_force in
    subst (λ r. Accepts F state e (Err r)) (sym c.refused.ensures) (not_accepted F g.V.PolicyView.part_rows state e c.in-Err.error c.in-Err.ensures)

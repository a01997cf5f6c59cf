use Rattle.std.proofs.Common.{◌≡◌, ◌∷◌, [], ap, pos, refl, sym, subst, IfOk, IsPermutation, arith}
use Rattle.sqlite.specs.Held.{state}
use Rattle.sqlite.specs.State.{HasCleanDisk}
use Rattle.desk_store.specs.Desk.{Stands, revision_at, stored_of}
use Rattle.desk_store.specs.Looks.{approver_in, revision_in, revision_queries, select_approver, select_revision}
use Rattle.desk_store.proofs.FoundRows.{desk_still, found_if, rest_still, stands_still}
use Rattle.std.specs.Prelude.{Contains, IfErr}
use Rattle.desk_store.specs.Error.{Query, Statement}
use Rattle.desk_store.specs.Rows.{IsOfTask, TellsLook}
use Rattle.desk_store.specs.declared.error.Task.TheVariants as tasks
use Rattle.sqlite.specs.declared.types.Value.TheVariants.{Int, Text as Words}
use Rattle.desk_store.proofs.Inside.{same_survives}
use Rattle.desk_store.proofs.LookSaid.{of_rows, query_told, rows_told}
use Rattle.desk_store.proofs.desk.Desk.revision.Goals as goal
use Rattle.desk_store.proofs.desk.Desk.revision.Goals.{in-Ok-read_approver, in-Err-read_approver}

pub invariant_of-self : goal.invariant_of-self
invariant_of-self g c =
    let look = c.read_revision.ensures.look in
    (look.mode c.self.invariant.0, desk_still (state g.S.Store c.self.inside.conn) (state g.S.Store c.read_revision.new.conn) c.self.inside.current look c.self.invariant.1, c.self.invariant.2)

pub read_approver-requires : goal.read_approver-requires
read_approver-requires g c = rest_still (state g.S.Store c.self.inside.conn) (state g.S.Store c.read_revision.new.conn) c.self.inside.current c.read_revision.ensures.look c.self.invariant.1

pub invariant_of-self-2 : goal.invariant_of-self-2
invariant_of-self-2 g c =
    let old = state g.S.Store c.self.inside.conn in
    let mid = state g.S.Store c.read_revision.new.conn in
    let new = state g.S.Store c.read_approver.new.conn in
    let kept = c.self.inside.current in
    let first = c.read_revision.ensures.look in
    let second = c.read_approver.ensures.look in
    (second.mode (first.mode c.self.invariant.0), desk_still mid new kept second (desk_still old mid kept first c.self.invariant.1), c.self.invariant.2)

pub returns-clause-found : goal.returns-clause-found
returns-clause-found g c clean history pending stands =
    let old = state g.S.Store c.self.inside.conn in
    let mid = state g.S.Store c.read_revision.new.conn in
    let kept = c.self.inside.current in
    let file = c.args.file.now in
    let rev = c.args.rev in
    let here : Stands old kept history pending = subst (λ s. Stands (state g.S.Store s.conn) s.state history pending) (sym c.self.view_is) stands in
    elim c.match-read_approver.branch [
      | in-Ok-read_approver w ↦
          let a = c.in-Ok.ensures in
          let b = w.in-Ok-read_approver.ensures in
          let before : HasCleanDisk mid = omega (arith, clean, b.look.leaves.crash.clean) in
          let live = b.look.opened clean (b.live clean) in
          let there = stands_still old mid kept a.look before history pending here in
          let shown : IsPermutation (revision_in file rev mid.committed) c.in-Ok.rows.items = subst (λ db. IsPermutation (revision_in file rev db) c.in-Ok.rows.items) (sym (a.look.leaves.same before live)) (a.rows before) in
          let rows : IsPermutation (revision_in file rev mid.committed) w.as_slice.result.now = subst (IsPermutation (revision_in file rev mid.committed)) (sym w.as_slice.ensures.value) shown in
          let approvals : IsPermutation (approver_in file rev mid.committed) w.as_slice-in-Ok-read_approver.result.now =
          subst (IsPermutation (approver_in file rev mid.committed)) (sym w.as_slice-in-Ok-read_approver.ensures.value) (b.rows clean) in
          let found = found_if mid.committed history w.as_slice.result.now w.as_slice-in-Ok-read_approver.result.now (there.tables live) file rev rows approvals w.find_revision.result w.find_revision.ensures.found in
          subst (λ r. IfOk r (λ found. found ≡ stored_of (revision_at history file rev))) (sym w.result-is) found
      | in-Err-read_approver w ↦ subst (λ r. IfOk r (λ found. found ≡ stored_of (revision_at history file rev))) (sym w.result-is) tt
    ]

pub returns-in-Err-clause-said : goal.returns-in-Err-clause-said
returns-in-Err-clause-said g c clean =
    let own : Statement → Type 0 = Contains (revision_queries c.args.file.now c.args.rev) in
    let old = c.self.inside.conn in
    let new = c.read_revision.new.conn in
    subst (λ conn. TellsLook g.S.Store own conn new c.not_stored.result) (ap (λ s. s.conn) c.self.view_is)
    (query_told g.S.Store own old new (Query select_revision (Words c.args.file.now ∷ Int (pos c.args.rev) ∷ [])) (0, omega arith, refl) old (same_survives (state g.S.Store old)) tasks.ReadRevisions c.in-Err.e c.not_stored.result c.not_stored.ensures.named (c.in-Err.ensures.said clean))

pub returns-clause-errors : goal.returns-clause-errors
returns-clause-errors g c =
    elim c.match-read_approver.branch [
      | in-Ok-read_approver w ↦ subst (λ r. IfErr r (IsOfTask tasks.ReadRevisions)) (sym w.result-is) (of_rows w.find_revision.result w.find_revision.ensures.errors)
      | in-Err-read_approver w ↦ subst (λ r. IfErr r (IsOfTask tasks.ReadRevisions)) (sym w.result-is) w.not_stored-in-Err-read_approver.ensures.either
    ]

pub returns-clause-said : goal.returns-clause-said
returns-clause-said g c clean =
    let own : Statement → Type 0 = Contains (revision_queries c.args.file.now c.args.rev) in
    let old = c.self.inside.conn in
    let now = c.args.self.now.conn in
    let new = c.read_approver.new.conn in
    let is = ap (λ s. s.conn) c.self.view_is in
    elim c.match-read_approver.branch [
      | in-Ok-read_approver w ↦ subst (λ r. IfErr r (TellsLook g.S.Store own now new)) (sym w.result-is) (rows_told g.S.Store own now new w.find_revision.result w.find_revision.ensures.errors)
      | in-Err-read_approver w ↦
          let told = query_told g.S.Store own old new (Query select_approver (Words c.args.file.now ∷ Int (pos c.args.rev) ∷ [])) (1, omega arith, refl) c.read_revision.new.conn c.read_revision.ensures.look.leaves.crash tasks.ReadRevisions w.in-Err-read_approver.e w.not_stored-in-Err-read_approver.result w.not_stored-in-Err-read_approver.ensures.named (w.in-Err-read_approver.ensures.said clean) in
          subst (λ r. IfErr r (TellsLook g.S.Store own now new)) (sym w.result-is) (subst (λ conn. TellsLook g.S.Store own conn new w.not_stored-in-Err-read_approver.result) is told)
    ]

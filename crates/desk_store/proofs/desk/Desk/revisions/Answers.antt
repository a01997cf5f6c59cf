use Rattle.std.proofs.Common.{◌≡◌, ◌∷◌, [], ap, arith, refl, sym, subst, IfOk, map, IsPermutation}
use Rattle.sqlite.specs.Held.{state}
use Rattle.desk_store.specs.Desk.{Stands}
use Rattle.desk_core.specs.Head.{Revision}
use Rattle.desk_core.specs.History.{revisions_of}
use Rattle.desk_store.specs.Looks.{numbers_in, numbers_queries, select_numbers}
use Rattle.desk_store.proofs.FoundRows.{desk_still}
use Rattle.desk_store.proofs.ListedRows.{listed_if}
use Rattle.std.specs.Prelude.{Contains, IfErr}
use Rattle.desk_store.specs.Error.{Query, Statement}
use Rattle.desk_store.specs.Rows.{IsOfTask, TellsLook}
use Rattle.desk_store.specs.declared.error.Task.TheVariants as tasks
use Rattle.sqlite.specs.declared.types.Value.TheVariants.{Text as Words}
use Rattle.desk_store.proofs.Inside.{same_survives}
use Rattle.desk_store.proofs.LookSaid.{of_rows, query_told, rows_told}
use Rattle.desk_store.proofs.desk.Desk.revisions.Goals as goal
use Rattle.desk_store.proofs.desk.Desk.revisions.Goals.{in-Ok, in-Err}

pub invariant_of-self : goal.invariant_of-self
invariant_of-self g c =
    let look = c.read_numbers.ensures.look in
    (look.mode c.self.invariant.0, desk_still (state g.S.Store c.self.inside.conn) (state g.S.Store c.read_numbers.new.conn) c.self.inside.current look c.self.invariant.1, c.self.invariant.2)

pub returns-clause-found : goal.returns-clause-found
returns-clause-found g c clean history pending stands =
    let old = state g.S.Store c.self.inside.conn in
    let here : Stands old c.self.inside.current history pending = subst (λ s. Stands (state g.S.Store s.conn) s.state history pending) (sym c.self.view_is) stands in
    elim c.match-read_numbers.branch [
      | in-Ok w ↦
          let a = w.in-Ok.ensures in
          let shown = numbers_in c.args.file.now old.committed in
          let rows : IsPermutation shown w.as_slice.result.now = subst (IsPermutation shown) (sym w.as_slice.ensures.value) (a.rows clean) in
          let found = listed_if old.committed history w.as_slice.result.now (here.tables (a.look.opened clean (a.live clean))) c.args.file.now rows w.list_revisions.result w.list_revisions.ensures.listed in
          subst (λ r. IfOk r (λ found. found ≡ map (λ (r : Revision). (r.rev, r.author)) (revisions_of c.args.file.now history))) (sym w.result-is) found
      | in-Err w ↦ subst (λ r. IfOk r (λ found. found ≡ map (λ (r : Revision). (r.rev, r.author)) (revisions_of c.args.file.now history))) (sym w.result-is) tt
    ]

pub returns-clause-errors : goal.returns-clause-errors
returns-clause-errors g c =
    elim c.match-read_numbers.branch [
      | in-Ok w ↦ subst (λ r. IfErr r (IsOfTask tasks.ReadRevisions)) (sym w.result-is) (of_rows w.list_revisions.result w.list_revisions.ensures.errors)
      | in-Err w ↦ subst (λ r. IfErr r (IsOfTask tasks.ReadRevisions)) (sym w.result-is) w.not_stored.ensures.either
    ]

pub returns-clause-said : goal.returns-clause-said
returns-clause-said g c clean =
    let own : Statement → Type 0 = Contains (numbers_queries c.args.file.now) in
    let old = c.self.inside.conn in
    let now = c.args.self.now.conn in
    let new = c.read_numbers.new.conn in
    let is = ap (λ s. s.conn) c.self.view_is in
    elim c.match-read_numbers.branch [
      | in-Ok w ↦ subst (λ r. IfErr r (TellsLook g.S.Store own now new)) (sym w.result-is) (rows_told g.S.Store own now new w.list_revisions.result w.list_revisions.ensures.errors)
      | in-Err w ↦
          let told = query_told g.S.Store own old new (Query select_numbers (Words c.args.file.now ∷ [])) (0, omega arith, refl) old (same_survives (state g.S.Store old)) tasks.ReadRevisions w.in-Err.e w.not_stored.result w.not_stored.ensures.named (w.in-Err.ensures.said clean) in
          subst (λ r. IfErr r (TellsLook g.S.Store own now new)) (sym w.result-is) (subst (λ conn. TellsLook g.S.Store own conn new w.not_stored.result) is told)
    ]

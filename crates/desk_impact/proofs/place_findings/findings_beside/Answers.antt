use Rattle.std.proofs.Common.{◌≡◌, ◌∙◌, Bor, map, subst, sym}
use Rattle.std.proofs.lemmas.Result.{IfOk-weaker}
use Rattle.desk_tables.specs.FileSystems.{fs_of}
use Rattle.desk_policy.specs.declared.row.Row.{Row}
use Rattle.desk_who.specs.MostlySame.{AreFoundBeside, AreStartsWithin}
use Rattle.desk_who.specs.Runs.{AreRunsWithValue, run_value}
use Rattle.desk_who.specs.Searching.{ByRule, found_at}
use Rattle.desk_impact.specs.Places.{Others}
use Rattle.desk_impact.specs.Sections.{found_of}
use Rattle.desk_impact.proofs.Together.{found_go}
use Rattle.desk_impact.proofs.place_findings.findings_beside.Goals as goal

pub writers-requires : goal.writers-requires
writers-requires g c = c.requires.writings.order

pub starts_within-requires : goal.starts_within-requires
starts_within-requires g c = c.requires.known.behind

pub found_beside-requires : goal.found_beside-requires
found_beside-requires g c = c.in_ok-decided.ensures.behind

pub returns : goal.returns
returns g c =
    let meaning = g.T.Alike.meaning in
    let sought = c.args.search.now in
    let content = g.S.Search.in_force sought in
    let by = ByRule meaning (g.S.Search.found sought) content (g.S.Search.turns sought) in
    let path = c.args.path.now in
    let known = c.args.known.now in
    let home = c.requires.known.path in
    let given = map (run_value meaning) c.as_slice-2.result.now in
    let rows = map (λ (r : Bor Row). r.now) c.in_ok-rows.rows.items in
    let decided = c.in_ok-decided.decided in
    let same : fs_of content.table path ≡ fs_of content.table home = sym c.requires.fs ∙ c.requires.known.old_is in
    let within : AreStartsWithin known.starts rows decided =
    subst (λ items. AreStartsWithin known.starts (map (λ (r : Bor Row). r.now) items) decided) c.as_slice.ensures.value c.in_ok-decided.ensures in
    IfOk-weaker c.found_beside.result (λ runs. by (λ rule. AreFoundBeside (found_at rule content path) given decided (map (run_value meaning) runs.items)))
    (λ runs. by (λ rule. AreRunsWithValue (found_at rule content path) (map (run_value meaning) runs.items)))
    (λ runs beside rule of.
    let own = c.requires.known.by_rule rule of in
    beside rule of (found_of rule content (Others home))
    (subst (λ found. AreRunsWithValue (found_of rule content (Others home)) (map (run_value meaning) found)) (sym c.as_slice-2.ensures) own.runs)
    (found_go rule of.asks content home path same c.args.writings.now c.requires.writings rows c.in_ok-rows.ensures known.starts decided own.starts within))
    c.found_beside.ensures

use Rattle.std.proofs.Common.{◌≡◌, ◌∙◌, IfOk, ap, map, subst, sym}
use Rattle.std.proofs.lemmas.List.{get_or_default}
use Rattle.std.proofs.lemmas.Result.{IfOk-weaker}
use Rattle.desk_tables.specs.FileSystems.{fs_of}
use Rattle.desk_who.specs.Runs.{AreRunsWithValue, run_value}
use Rattle.desk_who.specs.Searching.{ByRule}
use Rattle.desk_impact.specs.Places.{Others, place_of}
use Rattle.desk_impact.specs.PrivateKnownSystems.{AreKnownFindings}
use Rattle.desk_impact.specs.PrivatePlaces.{path_of}
use Rattle.desk_impact.specs.Sections.{found_of}
use Rattle.desk_impact.specs.declared.known_systems.Known.{Known}
use Rattle.desk_impact.specs.declared.places.Place.{Place as LentPlace}
use Rattle.desk_impact.proofs.Learned.{is_known, known_findings}
use Rattle.desk_impact.proofs.place_findings.findings_at.Goals as goal

pub learn_findings-requires : goal.learn_findings-requires
learn_findings-requires g c = record { taken = c.requires.taken; known = c.requires.known }

pub returns-in-Directory-clause-runs : goal.returns-in-Directory-clause-runs
returns-in-Directory-clause-runs g c =
    let meaning = g.T.Alike.meaning in
    let sought = c.args.search.now in
    let content = g.S.Search.in_force sought in
    let by = ByRule meaning (g.S.Search.found sought) content (g.S.Search.turns sought) in
    subst (λ place. IfOk c.findings_beside.result (λ runs. by (λ rule. AreRunsWithValue (found_of rule content (place_of place)) (map (run_value meaning) runs.items)))) (sym c.in-Directory.is)
    c.findings_beside.ensures

pub returns-in-Others-clause-runs : goal.returns-in-Others-clause-runs
returns-in-Others-clause-runs g c =
    let meaning = g.T.Alike.meaning in
    let sought = c.args.search.now in
    let content = g.S.Search.in_force sought in
    let by = ByRule meaning (g.S.Search.found sought) content (g.S.Search.turns sought) in
    let are_known = AreKnownFindings meaning (g.S.Search.found sought) content (g.S.Search.turns sought) in
    let path = c.path_of.result.now in
    let mount = c.in-Others.field-0.now in
    let items = c.learn_findings.new.known.items in
    let at = c.in_ok-own.ensures.own in
    let known : AreKnownFindings meaning (g.S.Search.found sought) content (g.S.Search.turns sought) at.one =
    is_known are_known items (fs_of content.table path) (fs_of content.table path) c.in_ok-own.own at c.in_ok-own.ensures.all in
    let here : path ≡ mount = c.path_of.ensures ∙ ap (λ (place : LentPlace). path_of (place_of place)) c.in-Others.is in
    let one = c.index-one.result.now in
    let same : one ≡ at.one = c.index-one.ensures ∙ get_or_default items c.in_ok-own.own one at.one at.within ∙ at.there in
    let home : fs_of content.table known.path ≡ fs_of content.table mount = sym known.old_is ∙ at.old_is ∙ ap (fs_of content.table) here in
    subst (λ place. IfOk c.copied.result (λ runs. by (λ rule. AreRunsWithValue (found_of rule content (place_of place)) (map (run_value meaning) runs.items)))) (sym c.in-Others.is)
    (IfOk-weaker c.copied.result (λ copy. copy.items ≡ c.as_slice.result.now) (λ runs. by (λ rule. AreRunsWithValue (found_of rule content (Others mount)) (map (run_value meaning) runs.items)))
    (λ copy is rule of.
    subst (λ found. AreRunsWithValue (found_of rule content (Others mount)) (map (run_value meaning) found)) (sym (is ∙ c.as_slice.ensures ∙ ap (λ (k : Known _). k.found) same))
    (known_findings meaning rule content at.one known.path mount (known.by_rule rule of) home))
    c.copied.ensures)

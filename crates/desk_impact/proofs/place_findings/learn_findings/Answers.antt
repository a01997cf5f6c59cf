use Rattle.std.proofs.Common.{◌≡◌, ◌-◌, ◌∷◌, ◌∙◌, [], ap, arith, length, length-append, map, subst, sym}
use Rattle.desk_tables.specs.FileSystems.{fs_of}
use Rattle.desk_policy.specs.Policy.{Content}
use Rattle.desk_who.specs.Runs.{AreRunsWithValue, run_value}
use Rattle.desk_who.specs.Searching.{ByRule, found_at}
use Rattle.desk_impact.specs.KnownSystems.{fs_number}
use Rattle.desk_impact.specs.Places.{paths_in}
use Rattle.desk_impact.specs.PrivateKnownSystems.{HasLearnedFindings}
use Rattle.desk_impact.specs.declared.known_systems.Known.{Known}
use Rattle.desk_impact.proofs.Learned.{learned_findings, number_is}
use Rattle.desk_impact.proofs.place_findings.learn_findings.Goals as goal

pub free_path-requires : goal.free_path-requires
free_path-requires g c = c.requires.taken.ascend

pub returns : goal.returns
returns g c =
    let meaning = g.T.Alike.meaning in
    let sought = c.args.search.now in
    let content = g.S.Search.in_force sought in
    let found = g.S.Search.found sought in
    let turns = g.S.Search.turns sought in
    let path = c.args.path.now in
    let is : fs_number c.of-fs.result ≡ fs_of content.table path =
    ap fs_number c.of-fs.ensures ∙ number_is _ ∙ ap (λ table. fs_of table path) c.filesystems.ensures ∙ ap (λ (one : Content). fs_of one.table path) c.policy.ensures in
    let one : Known _ = record { old = c.of-fs.result; new = c.of-fs.result; starts = c.in_ok-starts.starts; found = c.from_vec.result } in
    let known = c.args.known.now.items in
    let other = c.in_ok-other.other in
    let runs : ByRule meaning found content turns (λ rule. AreRunsWithValue (found_at rule content other) (map (run_value meaning) one.found)) =
    subst (λ all. ByRule meaning found content turns (λ rule. AreRunsWithValue (found_at rule content other) (map (run_value meaning) all))) (sym c.from_vec.ensures) c.in_ok-runs.ensures in
    let last : c.len.result - 1 ≡ length known = omega (arith, c.len.ensures, ap length c.in_ok-push.ensures.items, length-append known (one ∷ [])) in
    subst (λ items. HasLearnedFindings meaning found content turns path items (c.len.result - 1)) (sym c.in_ok-push.ensures.items)
    (learned_findings path other (paths_in c.args.taken.now) c.in_ok-other.ensures meaning found content turns known one (c.len.result - 1) c.requires.taken.all last is is
    c.in_ok-starts.ensures.behind c.in_ok-starts.ensures.starts runs c.requires.known)

use Rattle.std.proofs.Common.{◌≡◌, ◌≤◌, ◌∙◌, ℕ, List, arith, length, subst, take}
use Rattle.std.proofs.lemmas.List.{length-map, take_all}
use Rattle.std.proofs.lemmas.List.Elements.{All-get_or}
use Rattle.desk_text.specs.Address.{number_of}
use Rattle.desk_policy.specs.Policy.{rows_of}
use Rattle.desk_idle.specs.Selections.{IsSelection, addresses_of}
use Rattle.desk_idle.specs.declared.selections.Selection.{Selection}
use Rattle.desk_idle.proofs.Heaviest.{at_next}
use Rattle.desk_server.specs.PrivateWiderGrants.{AreTold}
use Rattle.desk_server.proofs.Telling.{none_told, up_to_next}
use Rattle.desk_server.proofs.wider_grant.known_of.Goals as goal

pub loop-selection-init : goal.loop-selection-init
loop-selection-init c = none_told (rows_of c.args.index.now c.args.fs.0) c.new-known.result c.new-known.ensures.empty

pub look-requires-clause-selection : goal.look-requires-clause-selection
look-requires-clause-selection c =
    All-get_or (IsSelection (rows_of c.args.index.now c.args.fs.0)) c.args.selections.now c.loop-selection.selection-index _ c.loop-selection-test.true c.requires.selections.each

pub loop-selection-preserved : goal.loop-selection-preserved
loop-selection-preserved c =
    let rows = rows_of c.args.index.now c.args.fs.0 in
    let i = c.loop-selection.selection-index in
    let items = c.args.selections.now in
    let found = c.requires.selections in
    at_next (λ (ns : List ℕ). AreTold rows ns c.look.new.known) items i _ c.loop-selection-test.true
    (c.in_ok-look.ensures (take i (addresses_of items)) (up_to_next items found.starts i _ c.loop-selection-test.true found.addresses found.are.ascend) c.loop-selection.invariant)

pub returns : goal.returns
returns c =
    let rows = rows_of c.args.index.now c.args.fs.0 in
    let items = c.args.selections.now in
    let all = addresses_of items in
    let i = c.loop-selection.selection-index in
    let few : length all ≡ length items = length-map items (λ (s : Selection). number_of s.address) in
    let past : length items ≤ i = c.loop-selection-test.false in
    let found = c.requires.selections in
    record {
      starts = found.starts;
      are = found.are;
      tell = subst (λ (ns : List ℕ). AreTold rows ns c.loop-selection.known) (take_all i all (omega arith) ∙ found.addresses) c.loop-selection.invariant;
    }

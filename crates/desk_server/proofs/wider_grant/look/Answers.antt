use Rattle.std.proofs.Common.{◌≡◌, ◌<◌, ◌^◌, ◌++◌, ◌∷◌, ◌∙◌, [], ℕ, List, Some, arith, nat_cmp, sym, true, false}
use Rattle.std.specs.BTreeMap as tree
use Rattle.std.specs.Option.{is_some}
use Rattle.desk_text.specs.Address.{number_of}
use Rattle.desk_policy.specs.Policy.{rows_of}
use Rattle.desk_idle.specs.Idle.{first_selected}
use Rattle.desk_idle.proofs.Heaviest.{all_weigh, heaviest_there, own_blocks}
use Rattle.desk_idle.proofs.Marking.{on_ok}
use Rattle.desk_server.specs.PrivateWiderGrants.{AreTold, AreUpTo}
use Rattle.desk_server.proofs.Lighter.{first_is, none_at}
use Rattle.desk_server.proofs.Telling.{told_known, told_look, told_nothing}
use Rattle.desk_server.proofs.wider_grant.look.Goals as goal

pub returns-in_default : goal.returns-in_default
returns-in_default c = λ before up told.
    let rows = rows_of c.args.index.now c.args.fs.0 in
    let address = number_of c.args.selection.address in
    let blocks = own_blocks c.new-probes.result.index.now c.args.index.now c.args.fs.0 c.new-probes.ensures.index c.new-probes.ensures.networks in
    told_nothing rows before address c.args.known.now (none_at rows blocks c.args.selection c.requires.selection c.in_default.is) told

pub returns-then-contains_key : goal.returns-then-contains_key
returns-then-contains_key c = λ before up told.
    let rows = rows_of c.args.index.now c.args.fs.0 in
    let address = number_of c.args.selection.address in
    let line = c.in-Some-first.line.now in
    let known = c.args.known.now in
    let blocks = own_blocks c.new-probes.result.index.now c.args.index.now c.args.fs.0 c.new-probes.ensures.index c.new-probes.ensures.networks in
    let is : first_selected rows address ≡ Some line = first_is rows address blocks c.in-Some.group (heaviest_there rows blocks c.args.selection c.requires.selection c.in-Some.group c.in-Some.is) line c.in-Some-first.ensures.value in
    let some : is_some (tree.get nat_cmp known line) ≡ true = sym c.contains_key.ensures ∙ c.if-contains_key.true in
    told_known rows before address known line is some up told

pub look_at-requires-clause-group : goal.look_at-requires-clause-group
look_at-requires-clause-group c =
    let rows = rows_of c.args.index.now c.args.fs.0 in
    let blocks = own_blocks c.new-probes.result.index.now c.args.index.now c.args.fs.0 c.new-probes.ensures.index c.new-probes.ensures.networks in
    heaviest_there rows blocks c.args.selection c.requires.selection c.in-Some.group c.in-Some.is

pub returns : goal.returns
returns c =
    let rows = rows_of c.args.index.now c.args.fs.0 in
    let address = number_of c.args.selection.address in
    let group = c.in-Some.group in
    let line = c.in-Some-first.line.now in
    let old = c.args.known.now in
    let new = c.keep.new.known in
    let small : address < 2 ^ 32 = (let e = c.number-number.ensures in omega (arith, c.number-number.type_inv)) in
    let blocks = own_blocks c.new-probes.result.index.now c.args.index.now c.args.fs.0 c.new-probes.ensures.index c.new-probes.ensures.networks in
    let heaviest = heaviest_there rows blocks c.args.selection c.requires.selection group c.in-Some.is in
    let is : first_selected rows address ≡ Some line = first_is rows address blocks group heaviest line c.in-Some-first.ensures.value in
    let unknown : is_some (tree.get nat_cmp old line) ≡ false = sym c.contains_key.ensures ∙ c.if-contains_key.false in
    on_ok _
    ((before : List ℕ) → AreUpTo before address → AreTold rows before old → AreTold rows (before ++ address ∷ []) new)
    (λ updates before up told.
    told_look rows before address c.lines_are_selected_by_keys.ensures c.requires.ascending blocks small group.weight (all_weigh rows address blocks group heaviest) line is old new c.in_ok-seen.seen unknown c.in_ok-seen.ensures updates told)
    c.keep.result c.keep.ensures

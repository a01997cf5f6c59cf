use Rattle.std.proofs.Common.{◌<◌, ◌^◌, ◌∙◌, arith, subst}
use Rattle.desk_text.specs.Address.{number_of}
use Rattle.desk_index.specs.Keys.{HasNoHostBits}
use Rattle.desk_index.proofs.WeighedLines.{lines_weighing, under_key}
use Rattle.desk_index.proofs.index.Index.weighing.Goals as goal

pub returns-clause-weighing : goal.returns-clause-weighing
returns-clause-weighing c =
    let address = number_of c.args.address in
    let small : address < 2 ^ 32 = (let e = c.number-number.ensures in omega (arith, c.number-number.type_inv)) in
    let blocks : HasNoHostBits c.args.self.now = subst HasNoHostBits c.new-probes.ensures.index c.new-probes.ensures.networks in
    c.row.ensures ∙ lines_weighing c.args.self.now c.args.fs address small blocks c.key_of.result c.args.weight c.key_of.ensures.is_key c.key_of.ensures.matches

pub returns-clause-lines : goal.returns-clause-lines
returns-clause-lines c =
    let address = number_of c.args.address in
    let small : address < 2 ^ 32 = (let e = c.number-number.ensures in omega (arith, c.number-number.type_inv)) in
    let blocks : HasNoHostBits c.args.self.now = subst HasNoHostBits c.new-probes.ensures.index c.new-probes.ensures.networks in
    under_key c.args.self.now c.args.fs address small blocks c.key_of.result c.args.weight c.key_of.ensures.matches c.row.result c.row.ensures

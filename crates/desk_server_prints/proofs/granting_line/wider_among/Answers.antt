use Rattle.std.proofs.Common.{◌≡◌, ◌∙◌}
use Rattle.desk_text.specs.Address.{number_of}
use Rattle.desk_server_prints.proofs.Widest.{first_is, none_is}
use Rattle.desk_server_prints.proofs.granting_line.wider_among.Goals as goal

pub returns-in-Some : goal.returns-in-Some
returns-in-Some c =
    let address = number_of c.args.address in
    c.first_wider.ensures ∙ first_is address c.args.path.now c.args.rows.now c.in-Some.weight c.in-Some.ensures

pub returns-in-None : goal.returns-in-None
returns-in-None c = none_is (number_of c.args.address) c.args.path.now c.args.rows.now c.in-None.ensures

use Rattle.std.proofs.Common.{◌<◌, ◌^◌, arith, subst, sym}
use Rattle.desk_text.specs.declared.address.Addr.{Addr}
use Rattle.page_data.specs.PrivateLines.{IsOneOf}
use Rattle.page_data.proofs.Matched.{first_among}
use Rattle.page_data.proofs.matching.first_of.Goals as goal

pub returns-in-len1-up : goal.returns-in-len1-up
returns-in-len1-up c =
    let addresses = c.args.addresses.now in
    let none : Addr = record { number = 0 } in
    let number = c.number.result in
    let small : number < 2 ^ 32 = omega (arith, c.number.type_inv) in
    subst (IsOneOf addresses) (sym c.from_number.ensures)
    (first_among c.as_slice.result.now addresses number none c.as_slice.ensures.value c.in-len1-up.len_at_least c.number.ensures small)

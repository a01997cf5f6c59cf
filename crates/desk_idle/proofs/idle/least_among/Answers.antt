use Rattle.std.proofs.Common.{◌<◌, ◌^◌, arith, subst, sym}
use Rattle.desk_text.specs.declared.address.Addr.{Addr}
use Rattle.desk_idle.specs.PrivateMarks.{IsLeastOf}
use Rattle.desk_idle.proofs.Matching.{least_first}
use Rattle.desk_idle.proofs.idle.least_among.Goals as goal

pub returns-in-len1-up : goal.returns-in-len1-up
returns-in-len1-up c =
    let addresses = c.args.addresses.now in
    let none : Addr = record { number = 0 } in
    let number = c.number.result in
    let small : number < 2 ^ 32 = omega (arith, c.number.type_inv) in
    subst (IsLeastOf addresses) (sym c.from_number.ensures)
    (least_first c.as_slice.result.now addresses number none c.as_slice.ensures.value c.as_slice.ensures.ascending c.in-len1-up.len_at_least c.number.ensures small)

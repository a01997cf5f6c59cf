use Rattle.std.proofs.Common.{List, map, ◌∙◌, sym, ap, subst}
use Rattle.std.specs.List.Sorted.{IsStrictlyIncreasing}
use Rattle.desk_text.specs.declared.address.Addr.{Addr}
use Rattle.desk_text.specs.Address.{number_of}
use Rattle.desk_text.specs.AddrSet.{is_among}
use Rattle.desk_text.proofs.SortedSets.{search_finds}
use Rattle.desk_text.proofs.addr_set.AddrSet.contains.Goals as goal

pub returns : goal.returns
returns c =
    let at = c.deref.ensures.value in
    c.is_ok.ensures.value
    ∙ search_finds number_of c.deref.result.now c.args.address.number c.binary_search.result
    (subst (λ (xs : List Addr). IsStrictlyIncreasing (map number_of xs)) (sym at) c.self.invariant)
    c.binary_search.ensures.bound c.binary_search.ensures.position
    ∙ ap (λ (xs : List Addr). is_among c.args.address.number (map number_of xs)) at
    ∙ ap (is_among c.args.address.number) c.self.view_is

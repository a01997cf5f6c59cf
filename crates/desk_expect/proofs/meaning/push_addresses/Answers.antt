use Rattle.std.proofs.Common.{get_or, refl}
use Rattle.std.proofs.lemmas.List.{get_or_default}
use Rattle.desk_text.specs.declared.address.Addr.{Addr}
use Rattle.desk_expect.proofs.Meant.{address_more, all_addresses, no_span}
use Rattle.desk_expect.proofs.meaning.push_addresses.Goals as goal

pub loop-address-init : goal.loop-address-init
loop-address-init c = no_span _ (λ address. refl) c.args.spans.now.items

pub loop-address-preserved : goal.loop-address-preserved
loop-address-preserved c =
    let items = c.args.addresses.now in
    let i = c.loop-address.address-index in
    let zero : Addr = record { number = 0 } in
    address_more items i (get_or items i zero) c.loop-address-test.true (get_or_default items i zero (get_or items i zero) c.loop-address-test.true) _ refl refl
    c.args.spans.now.items c.loop-address.spans.items c.push.new.self.items c.loop-address.invariant c.in_ok-push.ensures.items

pub returns : goal.returns
returns c = all_addresses c.args.addresses.now c.loop-address.address-index c.args.spans.now.items c.loop-address.spans.items c.loop-address-test.false c.loop-address.invariant

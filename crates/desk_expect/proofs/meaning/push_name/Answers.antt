use Rattle.std.proofs.Common.{◌≡◌, ◌∙◌, ap, false, map, sym}
use Rattle.std.proofs.lemmas.Bool.{cond-false}
use Rattle.std.proofs.lemmas.Result.{on_ok_weaker}
use Rattle.desk_text.specs.Address.{number_of}
use Rattle.desk_text.specs.AddrSet.{is_among}
use Rattle.desk_policy.specs.Names.{stands_for}
use Rattle.desk_expect.specs.Meaning.{means}
use Rattle.desk_expect.specs.Names.{is_between, is_span_like, span_of}
use Rattle.desk_expect.proofs.Meant.{name_stands, same_test}
use Rattle.desk_expect.proofs.meaning.push_name.Goals as goal

pub returns : goal.returns
returns c =
    let netgroups = c.args.netgroups.now in
    let hosts = c.args.hosts.now in
    let name = c.args.name.now in
    let addresses = map number_of c.as_slice.result.now in
    let plain : is_span_like name ≡ false = sym c.is_span_like.ensures ∙ c.if-is_span_like.false in
    on_ok_weaker c.push_addresses.result
    (same_test (λ address. is_among address addresses) (means netgroups hosts name)
    (λ address.
    name_stands c.addresses_are_unique.ensures netgroups hosts name addresses (ap (map number_of) c.as_slice.ensures.value ∙ c.in_ok-found.ensures) address
    ∙ sym (cond-false (is_span_like name) (is_between (span_of name) address) (stands_for netgroups hosts name address) plain)) c.args.spans.now.items c.push_addresses.new.spans.items)
    c.push_addresses.ensures

use Rattle.std.proofs.Common.{ap, ◌≡◌, ◌||◌, ◌∙◌, map, subst, sym}
use Rattle.std.specs.Prelude.{Some, string_bytes}
use Rattle.std.specs.Result.{result_ok}
use Rattle.desk_text.specs.Address.{number_of, read_addr}
use Rattle.desk_text.specs.AddrSet.{is_among}
use Rattle.desk_netgroup.specs.Netgroups.{AreHostsOf}
use Rattle.desk_policy.proofs.KeyPlaces.{on_ok}
use Rattle.desk_policy.proofs.RowAddresses.{group_stands}
use Rattle.desk_policy.proofs.WrittenAddresses.{gains_one_more, name_written}
use Rattle.desk_policy.proofs.names.push_name.Goals as goal

pub returns-in-Some : goal.returns-in-Some
returns-in-Some c =
    let written : Some (number_of c.in-Some.address) ≡ result_ok (read_addr c.args.name.now) = rw c.in-Some.is at c.written_address.ensures in
    λ a. gains_one_more c.args.addresses.now.items _ c.in-Some.address c.in_ok-push.ensures.items a
    ∙ ap (λ b. is_among a (map number_of c.args.addresses.now.items) || b) (sym (name_written c.args.hosts.now c.args.name.now a c.args.netgroups.now _ written))

pub returns-in-Some-2 : goal.returns-in-Some-2
returns-in-Some-2 c =
    let members = map string_bytes c.as_slice.result.now in
    let unlike = sym c.is_address_like.ensures ∙ c.if-is_address_like.false in
    let some = rw c.in-Some-2.is at c.in_ok-members.ensures.defined in
    let given = rw c.in-Some-2.is at c.in_ok-members.ensures.hosts in
    let are : AreHostsOf c.args.netgroups.now c.args.name.now members = subst (λ texts. AreHostsOf c.args.netgroups.now c.args.name.now (map string_bytes texts)) (sym c.as_slice.ensures.value) given in
    on_ok c.push_hosts.result (λ gains a. gains a
    ∙ ap (λ b. is_among a (map number_of c.args.addresses.now.items) || b) (group_stands c.args.netgroups.now c.args.hosts.now c.args.name.now members unlike some are a)) c.push_hosts.ensures

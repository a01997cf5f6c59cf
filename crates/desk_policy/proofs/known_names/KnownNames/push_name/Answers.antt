use Rattle.std.proofs.Common.{◌∙◌, List, ap, ℕ}
use Rattle.desk_text.specs.AddrSet.{is_among}
use Rattle.desk_policy.specs.Names.{stands_for}
use Rattle.desk_policy.proofs.KnownAddresses.{gains_all, one_name_among}
use Rattle.desk_policy.proofs.known_names.KnownNames.push_name.Goals as goal

pub returns-clause-gains : goal.returns-clause-gains
returns-clause-gains c =
    let netgroups = c.args.netgroups.now in
    let hosts = c.args.hosts.now in
    let name = c.args.name.now in
    gains_all c.extend_from_slice.result c.args.addresses.now.items c.extend_from_slice.new.self.items c.as_slice.result.now (stands_for netgroups hosts name) c.extend_from_slice.ensures.items
    (λ a. ap (λ (xs : List ℕ). is_among a xs) (c.as_slice.ensures.value ∙ c.in_ok-found.ensures.addresses) ∙ one_name_among c.sorted_sets_are_unique.ensures netgroups hosts name a)

use Rattle.std.proofs.Common.{[], ◌∷◌, ◌∙◌}
use Rattle.desk_policy.specs.Names.{stands_for}
use Rattle.desk_policy.proofs.RowAddresses.{gains_one, gathered}
use Rattle.desk_policy.proofs.names.addresses_of_name.Goals as goal

pub returns : goal.returns
returns c =
    let netgroups = c.args.netgroups.now in
    let hosts = c.args.hosts.now in
    let name = c.args.name.now in
    let items = c.push_name.new.addresses.items in
    c.from_vec.ensures
    ∙ gathered c.sorted_sets_are_unique.ensures netgroups hosts (name ∷ []) items (gains_one c.new-addresses.result.items items (stands_for netgroups hosts name) c.new-addresses.ensures.items c.in_ok-push_name.ensures)

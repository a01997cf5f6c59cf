use Rattle.std.proofs.Common.{[], ◌∙◌, List, arith, subst, ℕ}
use Rattle.std.specs.List.{list_any}
use Rattle.std.proofs.lemmas.List.{take_all}
use Rattle.desk_policy.specs.Names.{stands_for}
use Rattle.desk_policy.specs.PrivateNames.{Gains}
use Rattle.desk_policy.proofs.KnownAddresses.{if_ok}
use Rattle.desk_policy.proofs.RowAddresses.{gathered}
use Rattle.desk_policy.proofs.known_names.KnownNames.addresses_of.Goals as goal

pub returns-clause-addresses : goal.returns-clause-addresses
returns-clause-addresses c =
    let netgroups = c.args.netgroups.now in
    let hosts = c.args.hosts.now in
    let names = c.args.names.now in
    let items = c.loop-index.addresses.items in
    let all = c.from_vec.ensures
    ∙ gathered c.sorted_sets_are_unique.ensures netgroups hosts names items
    (subst (λ (xs : List (List ℕ)). Gains [] items (λ a. list_any (λ name. stands_for netgroups hosts name a) xs)) (take_all c.loop-index.index names (omega (arith, c.loop-index-test.false, c.len-index-end.ensures))) c.loop-index.invariant.gains) in
    if_ok c.of_set.result (λ addresses is. is ∙ all) c.of_set.ensures

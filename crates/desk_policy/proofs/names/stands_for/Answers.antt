use Rattle.std.proofs.Common.{◌≡◌, ◌==◌, ◌||◌, ◌∙◌, ℕ, List, [], ◌∷◌, ap, map, refl, subst}
use Rattle.std.specs.List.{list_any}
use Rattle.desk_text.specs.Address.{number_of}
use Rattle.desk_text.specs.AddrSet.{is_among}
use Rattle.desk_text.specs.declared.address.Addr.{Addr}
use Rattle.desk_policy.specs.Names.{stands_for}
use Rattle.desk_policy.specs.PrivateNames.{Gains}
use Rattle.desk_policy.proofs.names.stands_for.Goals as goal

by_numbers : (address : ℕ) (others : List Addr) → list_any (λ (other : Addr). number_of other == address) others ≡ is_among address (map number_of others)
by_numbers address [] = refl
by_numbers address (other ∷ others) = ap (λ b. number_of other == address || b) (by_numbers address others)

pub returns : goal.returns
returns c =
    let address = number_of c.args.address in
    let found = c.push_name.new.addresses.items in
    let stands = stands_for c.args.netgroups.now c.args.hosts.now c.args.name.now in
    c.has_address.ensures ∙ by_numbers address c.as_slice.result.now ∙ ap (λ (xs : List Addr). is_among address (map number_of xs)) c.as_slice.ensures.value
    ∙ subst (λ (xs : List Addr). Gains xs found stands) c.new-addresses.ensures.items c.in_ok-push_name.ensures address

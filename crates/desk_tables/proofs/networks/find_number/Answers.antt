use Rattle.std.proofs.Common.{◌≡◌, ◌≤◌, ◌∙◌, ap, arith, false, length, refl, rules, sym, true}
use Rattle.std.specs.Option.{option_map}
use Rattle.std.specs.Str.{bytes_eq}
use Rattle.std.proofs.lemmas.List.Sorted.{IsPartitionPoint-from_clause}
use Rattle.std.proofs.lemmas.Option.{slice_get_read}
use Rattle.desk_tables.specs.PrivateIndex.{name_of}
use Rattle.desk_tables.specs.declared.index.Listing.{Listing}
use Rattle.desk_tables.proofs.ListingLemmas.{before-partitioned, found_at, has, is_before, none_at}
use Rattle.desk_tables.proofs.networks.find_number.Goals as goal

pub returns-in-Some : goal.returns-in-Some
returns-in-Some c =
    let key = name_of c.args.rows.now in
    let listings = c.args.listings.now in
    let name = c.args.name.now in
    let first = c.partition_point-first.result in
    let listing = c.in-Some.listing.now in
    let found = c.partition_point-first.ensures in
    let point = IsPartitionPoint-from_clause (is_before key name) listings first found.partitioned (before-partitioned key listings c.requires name) (λ a r f q. search rules) in
    let there = c.in-Some.ensures.lookup in
    let here : has key name listing ≡ true = ap (bytes_eq name) (sym c.name_of.ensures) ∙ sym c.eq.ensures ∙ c.if-eq.true in
    let at = found_at key listings c.requires name first point listing there.3.0 (ap (has key name) (sym there.1) ∙ here) in
    sym (ap (option_map (λ (one : Listing). one.addr)) (at ∙ slice_get_read listings (length listings) first listing refl there.3.0 there.1))

pub returns-in_default : goal.returns-in_default
returns-in_default c =
    let key = name_of c.args.rows.now in
    let listings = c.args.listings.now in
    let name = c.args.name.now in
    let first = c.partition_point-first.result in
    let listing = c.in-Some.listing.now in
    let found = c.partition_point-first.ensures in
    let point = IsPartitionPoint-from_clause (is_before key name) listings first found.partitioned (before-partitioned key listings c.requires name) (λ a r f q. search rules) in
    let there = c.in-Some.ensures.lookup in
    let lacks : has key name listing ≡ false = ap (bytes_eq name) (sym c.name_of.ensures) ∙ sym c.eq.ensures ∙ c.if-eq.false in
    sym (ap (option_map (λ (one : Listing). one.addr)) (none_at key listings c.requires name first point listing found.bound (λ _. ap (has key name) (sym there.1) ∙ lacks)))

pub returns-in_default-2 : goal.returns-in_default-2
returns-in_default-2 c =
    let key = name_of c.args.rows.now in
    let listings = c.args.listings.now in
    let name = c.args.name.now in
    let first = c.partition_point-first.result in
    let found = c.partition_point-first.ensures in
    let point = IsPartitionPoint-from_clause (is_before key name) listings first found.partitioned (before-partitioned key listings c.requires name) (λ a r f q. search rules) in
    let no_listing : Listing = record { row = 0; name = 0; addr = record { number = 0 } } in
    let past : length listings ≤ first = (rw c.in_default.is at c.get.ensures.lookup).3 in
    sym (ap (option_map (λ (one : Listing). one.addr)) (none_at key listings c.requires name first point no_listing found.bound (λ within. absurd (omega (arith, past, within)))))

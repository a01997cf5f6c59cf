use Rattle.std.proofs.Common.{◌≡◌, ◌∙◌, ◌++◌, List, [], ◌∷◌, ap, filter, get_or, map, rules, sym, take}
use Rattle.std.specs.Str.{str_to_ascii_lowercase}
use Rattle.std.proofs.lemmas.List.{get_or_default, map-append}
use Rattle.std.proofs.lemmas.List.Sorted.{IsPartitionPoint-from_clause}
use Rattle.desk_text.specs.declared.address.Addr.{Addr}
use Rattle.desk_tables.specs.PrivateIndex.{host_key}
use Rattle.desk_tables.specs.declared.index.Listing.{Listing}
use Rattle.desk_tables.proofs.ListingLemmas.{all_before, before-partitioned, has, is_before, kept_more, none_before}
use Rattle.desk_tables.proofs.hosts.listed_addresses.Goals as goal

abbrev addr_of : Listing → Addr
addr_of listing = listing.addr

abbrev no_listing : Listing
no_listing = record { row = 0; name = 0; addr = record { number = 0 } }

pub loop-index-init : goal.loop-index-init
loop-index-init c =
    let key = host_key c.args.rows.now in
    let listings = c.args.listings.now in
    let name = str_to_ascii_lowercase c.args.name.now in
    let first = c.partition_point-first.result in
    let point = IsPartitionPoint-from_clause (is_before key name) listings first c.partition_point-first.ensures.partitioned (before-partitioned key listings c.requires name) (λ a r f q. search rules) in
    c.new-addresses.ensures.items ∙ sym (ap (map addr_of) (none_before key listings c.requires name first point))

pub returns-then-not-has_name : goal.returns-then-not-has_name
returns-then-not-has_name c =
    let key = host_key c.args.rows.now in
    let listings = c.args.listings.now in
    let name = str_to_ascii_lowercase c.args.name.now in
    let first = c.partition_point-first.result in
    let index = c.loop-index.index in
    let listing = get_or listings index no_listing in
    let point = IsPartitionPoint-from_clause (is_before key name) listings first c.partition_point-first.ensures.partitioned (before-partitioned key listings c.requires name) (λ a r f q. search rules) in
    let is : listing ≡ get_or listings index listing = get_or_default listings index no_listing listing c.loop-index-test.true in
    c.loop-index.invariant ∙ sym (ap (map addr_of) (all_before key listings c.requires name first point index listing c.loop-index.auto.index c.loop-index-test.true is (sym c.if-not-has_name.ensures)))

pub loop-index-preserved : goal.loop-index-preserved
loop-index-preserved c =
    let key = host_key c.args.rows.now in
    let listings = c.args.listings.now in
    let name = str_to_ascii_lowercase c.args.name.now in
    let index = c.loop-index.index in
    let listing = get_or listings index no_listing in
    let is : listing ≡ get_or listings index listing = get_or_default listings index no_listing listing c.loop-index-test.true in
    c.in_ok-push.ensures.items
    ∙ ap (λ (found : List Addr). found ++ listing.addr ∷ []) c.loop-index.invariant
    ∙ sym (map-append addr_of (filter (has key name) (take index listings)) (listing ∷ []))
    ∙ sym (ap (map addr_of) (kept_more (has key name) listings index listing c.loop-index-test.true is (sym c.if-not-has_name.ensures)))

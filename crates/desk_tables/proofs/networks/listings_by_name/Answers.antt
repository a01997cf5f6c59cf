use Rattle.std.proofs.Common.{◌≡◌, ◌∙◌, Option, ap, rules, take}
use Rattle.std.specs.Option.{option_map, option_or}
use Rattle.std.proofs.lemmas.List.{take_all}
use Rattle.desk_text.specs.declared.address.Addr.{Addr}
use Rattle.desk_tables.specs.Networks.{is_network, network_number}
use Rattle.desk_tables.specs.PrivateIndex.{is_named}
use Rattle.desk_tables.specs.declared.index.Listing.{Listing}
use Rattle.desk_tables.proofs.ListingLemmas.{same_first}
use Rattle.desk_tables.proofs.NetworkLemmas.{given, rows_more}
use Rattle.desk_tables.proofs.networks.listings_by_name.Goals as goal

pub loop-place-preserved : goal.loop-place-preserved
loop-place-preserved c = λ q.
    let row = c.index-rows-place.result in
    c.in_ok-add_names.ensures q
    ∙ ap (λ (o : Option Addr). option_or o (given (is_network q row) row.number)) (c.loop-place.invariant q)
    ∙ rows_more q c.args.rows.now c.loop-place.place row (search rules) c.index-rows-place.is

pub returns-clause-numbers : goal.returns-clause-numbers
returns-clause-numbers c = λ name.
    let whole : take c.loop-place.place c.args.rows.now ≡ c.args.rows.now = take_all c.loop-place.place c.args.rows.now (search rules) in
    ap (option_map (λ (listing : Listing). listing.addr)) (same_first (is_named c.args.rows.now name) c.loop-place.listings.items c.sort_by_name.new.listings.items (c.in_ok-sort_by_name.ensures.kept name))
    ∙ c.loop-place.invariant name ∙ ap (λ rows. network_number rows name) whole

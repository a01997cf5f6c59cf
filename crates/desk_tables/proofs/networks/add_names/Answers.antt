use Rattle.std.proofs.Common.{◌≡◌, ◌<◌, ◌∙◌, [], ap, arith, get_or, length, take}
use Rattle.std.specs.List.{list_any}
use Rattle.std.specs.Option.{option_map_or, option_or}
use Rattle.std.specs.Prelude.{slice_index_or}
use Rattle.std.specs.Str.{bytes_eq}
use Rattle.std.proofs.lemmas.List.{get_or_default}
use Rattle.desk_tables.specs.PrivateIndex.{name_of, numbered}
use Rattle.desk_tables.specs.declared.index.Listing.{Listing}
use Rattle.desk_tables.specs.declared.networks.NetworkName.{NetworkName}
use Rattle.desk_tables.proofs.NetworkLemmas.{given, names_more, numbered_more}
use Rattle.desk_tables.proofs.networks.add_names.Goals as goal

pub loop-name-preserved : goal.loop-name-preserved
loop-name-preserved c = λ q.
    let rows = c.args.rows.now in
    let row = c.args.row.now in
    let i = c.loop-name.name in
    let listing : Listing = record { row = c.args.place; name = i; addr = row.number } in
    let name = get_or row.names i [] in
    let old = numbered rows c.args.listings.now.items q in
    let so_far = given (list_any (bytes_eq q) (take i row.names)) row.number in
    let below : i < length row.names = omega (arith, c.len-name-end.ensures, c.loop-name-test.true) in
    let is : name_of rows listing ≡ name = ap (λ o. option_map_or (λ (r : NetworkName). slice_index_or r.names i []) o []) c.requires in
    ap (λ listings. numbered rows listings q) c.in_ok-push.ensures.items
    ∙ numbered_more rows q c.loop-name.listings.items listing
    ∙ ap (λ o. option_or o (given (bytes_eq q (name_of rows listing)) row.number)) (c.loop-name.invariant q)
    ∙ ap (λ n. option_or (option_or old so_far) (given (bytes_eq q n) row.number)) is
    ∙ names_more old q row.names i name row.number below (get_or_default row.names i [] name below)

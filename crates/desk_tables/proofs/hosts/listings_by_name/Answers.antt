use Rattle.std.proofs.Common.{◌++◌, ◌∙◌, List, ap}
use Rattle.std.specs.List.{flat_map}
use Rattle.std.specs.Str.{str_to_ascii_lowercase}
use Rattle.desk_text.specs.declared.address.Addr.{Addr}
use Rattle.desk_tables.specs.PrivateIndex.{under}
use Rattle.desk_tables.specs.declared.hosts.HostRow.{HostRow}
use Rattle.desk_tables.proofs.IndexLemmas.{more}
use Rattle.desk_tables.proofs.hosts.listings_by_name.Goals as goal

pub loop-place-preserved : goal.loop-place-preserved
loop-place-preserved c = λ key.
    let row = c.index-rows-place.result in
    let of_row : HostRow → List Addr = λ r. flat_map (λ name. under key r.addr (str_to_ascii_lowercase name)) r.names in
    c.in_ok-add_hosts.ensures key
    ∙ ap (λ (found : List Addr). found ++ of_row row) (c.loop-place.invariant key)
    ∙ more of_row c.args.rows.now c.loop-place.place row c.loop-place-test.true c.index-rows-place.is

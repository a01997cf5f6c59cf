-- The addresses under the name, as a set, are those of the rows that have it.
use Rattle.std.proofs.Common.{◌∙◌, ap, map, List, ℕ}
use Rattle.std.specs.Str.{str_to_ascii_lowercase}
use Rattle.desk_text.specs.AddrSet.{sorted_set}
use Rattle.desk_text.specs.Address.{number_of}
use Rattle.desk_text.specs.declared.address.Addr.{Addr}
use Rattle.desk_tables.specs.Hosts.{addresses_of_host}
use Rattle.desk_tables.specs.PrivateIndex.{listed_hosts}
use Rattle.desk_tables.specs.declared.index.Listing.{Listing}
use Rattle.desk_tables.specs.declared.hosts.HostRow.{HostRow}
use Rattle.desk_tables.proofs.HostLemmas.{index_is}
use Rattle.desk_tables.proofs.hosts.Hosts.addresses.Goals as goal

pub returns : goal.returns
returns c =
    c.into_vec.ensures.value
    ∙ c.from_vec.ensures
    ∙ ap (λ (found : List Addr). sorted_set (map number_of found)) (c.in_ok-addresses.ensures
    ∙ ap (λ (rows : List HostRow). listed_hosts rows c.as_slice-2.result.now (str_to_ascii_lowercase c.as_bytes.result.now)) c.as_slice.ensures
    ∙ ap (λ (listings : List Listing). listed_hosts c.self.inside.rows listings (str_to_ascii_lowercase c.as_bytes.result.now)) c.as_slice-2.ensures.value
    ∙ ap (λ (name : List ℕ). listed_hosts c.self.inside.rows c.self.inside.listings.items (str_to_ascii_lowercase name)) c.as_bytes.ensures.value
    ∙ c.self.invariant.1 (str_to_ascii_lowercase c.args.name.now))
    ∙ index_is c.args.name.now c.self.inside.rows
    ∙ ap (λ (rows : List HostRow). addresses_of_host rows c.args.name.now) c.self.view_is

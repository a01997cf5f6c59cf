-- The addresses of a name are one list.
use Rattle.std.proofs.Common.{◌≡◌, ℕ, ◌==◌, ◌&&◌, ◌||◌, List, [], ◌∷◌, map, filter, ap, sym, ◌∙◌, refl, inl, inr}
use Rattle.std.specs.List.{list_any}
use Rattle.std.proofs.lemmas.Bool.{cases_Bool, cond-true, cond-false}
use Rattle.desk_text.specs.Address.{number_of}
use Rattle.desk_tables.specs.Hosts.{AreAddressesOf, AddressesAreUnique, is_host}
use Rattle.desk_tables.specs.declared.hosts.HostRow.{HostRow}
use Rattle.desk_text.specs.AddrSet.{is_among}
use Rattle.desk_text.specs.Laws.{IsSetOf, SortedSetsAreUnique}

-- the addresses of the rows with the name, in the order of the rows
abbrev written : List HostRow → List ℕ → List ℕ
written rows name = map (λ row. number_of row.addr) (filter (is_host name) rows)

-- an address is written exactly where some row with the name has it
pub written_has : (a : ℕ) (rows : List HostRow) (name : List ℕ) → is_among a (written rows name) ≡ list_any (λ row. is_host name row && (number_of row.addr == a)) rows
written_has a [] name = refl
written_has a (row ∷ rows) name =
    elim (cases_Bool (is_host name row)) [
      | inl e ↦
          ap (λ kept. is_among a (map (λ r. number_of r.addr) kept)) (cond-true (is_host name row) (row ∷ filter (is_host name) rows) (filter (is_host name) rows) e)
          ∙ ap (λ b. (number_of row.addr == a) || b) (written_has a rows name)
          ∙ ap (λ b. (b && (number_of row.addr == a)) || list_any (λ r. is_host name r && (number_of r.addr == a)) rows) (sym e)
      | inr e ↦
          ap (λ kept. is_among a (map (λ r. number_of r.addr) kept)) (cond-false (is_host name row) (row ∷ filter (is_host name) rows) (filter (is_host name) rows) e)
          ∙ written_has a rows name
          ∙ ap (λ b. (b && (number_of row.addr == a)) || list_any (λ r. is_host name r && (number_of r.addr == a)) rows) (sym e)
    ]

-- the law of sorted sets, of the addresses that are written
module _ (sets : SortedSetsAreUnique) (rows : List HostRow) (name : List ℕ) where
  of_set : (addresses : List ℕ) → IsSetOf (written rows name) addresses → AreAddressesOf rows name addresses
  of_set addresses set = record { ascend = set.ascend; each = λ a. set.each a ∙ written_has a rows name }

  to_set : (addresses : List ℕ) → AreAddressesOf rows name addresses → IsSetOf (written rows name) addresses
  to_set addresses are = record { ascend = are.ascend; each = λ a. are.each a ∙ sym (written_has a rows name) }

-- so they are one list
pub unique_by_sets : SortedSetsAreUnique → AddressesAreUnique
unique_by_sets sets rows name addresses =
    let both = sets (written rows name) addresses in
    (λ are. both.0 (to_set sets rows name addresses are), λ is. of_set sets rows name addresses (both.1 is))

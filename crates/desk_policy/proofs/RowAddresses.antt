-- The addresses for which names stand are one set: for the law `addresses_are_unique`.
use Rattle.std.proofs.Common.{◌≡◌, ℕ, ◌==◌, ◌||◌, Bool, true, false, cond, List, [], ◌∷◌, ap, inl, inr, subst, sym, ◌∙◌, refl}
use Rattle.std.specs.Prelude.{IsSome, Option, Some, None, Result, Ok, Err, map}
use Rattle.std.specs.List.{list_any, flat_map}
use Rattle.std.specs.Cmp.{both_ways}
use Rattle.std.specs.Str.{bytes_eq}
use Rattle.std.proofs.lemmas.Bool.{cond-false, or_cases, or_left, or_right, true≢false}
use Rattle.std.proofs.lemmas.List.Folds.{list_any-append}
use Rattle.std.proofs.lemmas.Slice.Eq.{bytes_eq-Decides}
use Rattle.desk_text.specs.declared.address.Addr.{Addr}
use Rattle.desk_text.specs.declared.address.AddrFault.{AddrFault}
use Rattle.desk_text.specs.Address.{is_dotted, number_of, read_addr}
use Rattle.desk_text.specs.AddrSet.{is_among, sorted_set}
use Rattle.desk_text.specs.Bytes.{is_ipv6}
use Rattle.desk_text.specs.Laws.{IsSetOf, SortedSetsAreUnique}
use Rattle.desk_tables.specs.Hosts.{addresses_of_host}
use Rattle.desk_tables.specs.declared.hosts.HostRow.{HostRow}
use Rattle.desk_netgroup.specs.GroupLine.{group_named}
use Rattle.desk_netgroup.specs.Netgroups.{AreHostsOf, hosts_of}
use Rattle.desk_netgroup.specs.Netgroups as netgroup
use Rattle.desk_netgroup.specs.declared.group_line.GroupLine.{GroupLine}
use Rattle.desk_policy.specs.Names.{addresses_by, addresses_of_names, AddressesAreUnique, AreAddressesOf, host_addresses, host_stands_for, is_address_like, is_read_as, name_addresses, number_read, stands_by, stands_for}
use Rattle.desk_policy.specs.PrivateNames.{Gains}

or_false : (b : Bool) → (b || false) ≡ b
or_false true = refl
or_false false = refl

number_stands : (a : ℕ) (read : Result ℕ AddrFault) → is_among a (number_read read) ≡ is_read_as read a
number_stands a (Ok number) = or_false (number == a)
number_stands a (Err fault) = refl

-- the same way is taken to a list and to a test of what is in it
pick : (a : ℕ) (b : Bool) (xs ys : List ℕ) (p q : Bool) → is_among a xs ≡ p → is_among a ys ≡ q → is_among a (cond b xs ys) ≡ cond b p q
pick a true xs ys p q e f = e
pick a false xs ys p q e f = f

-- an address is in the lists of some value exactly if some value passes
flat_among : {X : Type 0} (a : ℕ) (f : X → List ℕ) (p : X → Bool) → ((x : X) → is_among a (f x) ≡ p x) → (xs : List X) → is_among a (flat_map f xs) ≡ list_any p xs
flat_among a f p each [] = refl
flat_among a f p each (x ∷ xs) =
    list_any-append _ (f x) (flat_map f xs) ∙ ap (λ b. b || is_among a (flat_map f xs)) (each x) ∙ ap (λ b. p x || b) (flat_among a f p each xs)

module _ (hosts : List HostRow) (a : ℕ) where
  host_among : (name : List ℕ) → is_among a (host_addresses hosts name) ≡ host_stands_for hosts name a
  host_among name =
      pick a (is_ipv6 name) [] (cond (is_dotted name) (number_read (read_addr name)) (addresses_of_host hosts name)) false _ refl
      (pick a (is_dotted name) (number_read (read_addr name)) (addresses_of_host hosts name) _ _ (number_stands a (read_addr name)) refl)

  module _ (netgroups : List GroupLine) where
    group_among : (group : Option GroupLine) (name : List ℕ) → is_among a (addresses_by group netgroups hosts name) ≡ stands_by group netgroups hosts name a
    group_among None name = host_among name
    group_among (Some line) name = flat_among a (host_addresses hosts) (λ host. host_stands_for hosts host a) host_among (hosts_of netgroups name)

    name_among : (name : List ℕ) → is_among a (name_addresses netgroups hosts name) ≡ stands_for netgroups hosts name a
    name_among name =
        pick a (is_address_like name) (host_addresses hosts name) (addresses_by (group_named netgroups name) netgroups hosts name) _ _ (host_among name) (group_among (group_named netgroups name) name)

    -- an address is written exactly if some name stands for it
    written_among : (names : List (List ℕ)) → is_among a (flat_map (name_addresses netgroups hosts) names) ≡ list_any (λ name. stands_for netgroups hosts name a) names
    written_among names = flat_among a (name_addresses netgroups hosts) (λ name. stands_for netgroups hosts name a) name_among names

module _ (netgroups : List GroupLine) (hosts : List HostRow) (names : List (List ℕ)) (addresses : List ℕ) where
  abbrev written : List ℕ
  written = flat_map (name_addresses netgroups hosts) names

  of_set : IsSetOf written addresses → AreAddressesOf netgroups hosts names addresses
  of_set set = record { ascend = set.ascend; each = λ a. set.each a ∙ written_among hosts a netgroups names }

  to_set : AreAddressesOf netgroups hosts names addresses → IsSetOf written addresses
  to_set are = record { ascend = are.ascend; each = λ a. are.each a ∙ sym (written_among hosts a netgroups names) }

-- the law of sorted sets, of the addresses that the names write
pub unique_by_sets : SortedSetsAreUnique → AddressesAreUnique
unique_by_sets sets netgroups hosts names addresses =
    let both = sets (flat_map (name_addresses netgroups hosts) names) addresses in
    (λ are. both.0 (to_set netgroups hosts names addresses are), λ is. of_set netgroups hosts names addresses (both.1 is))

-- addresses that were gathered are, in order and without duplicates, those of the names
pub gathered : SortedSetsAreUnique → (netgroups : List GroupLine) (hosts : List HostRow) (names : List (List ℕ)) (items : List Addr)
    → Gains [] items (λ a. list_any (λ name. stands_for netgroups hosts name a) names) → sorted_set (map number_of items) ≡ addresses_of_names netgroups hosts names
gathered sets netgroups hosts names items gains =
    let set = (sets (map number_of items) (sorted_set (map number_of items))).1 refl in
    (unique_by_sets sets netgroups hosts names (sorted_set (map number_of items))).0 (record { ascend = set.ascend; each = λ a. set.each a ∙ gains a })

-- what was gathered for one name
pub gains_one : (old items : List Addr) (passes : ℕ → Bool) → old ≡ [] → Gains old items passes → Gains [] items (λ a. passes a || false)
gains_one old items passes empty gains =
    let from_none : Gains [] items passes = subst (λ xs. Gains xs items passes) empty gains in
    λ a. from_none a ∙ sym (or_false (passes a))

-- a text that passes is found in other texts that have it
found : (p : List ℕ → Bool) (text : List ℕ) (texts : List (List ℕ)) → p text ≡ true → netgroup.is_among text texts ≡ true → list_any p texts ≡ true
found p text [] h e = absurd (true≢false (sym e))
found p text (other ∷ texts) h e =
    elim (or_cases (bytes_eq text other) _ e) [
      | inl same ↦ or_left (p other) _ (ap p (sym ((bytes_eq-Decides text other).0 same)) ∙ h)
      | inr more ↦ or_right (p other) _ (found p text texts h more)
    ]

any_among : (p : List ℕ → Bool) (texts others : List (List ℕ)) → ((text : List ℕ) → netgroup.is_among text texts ≡ true → netgroup.is_among text others ≡ true)
    → list_any p texts ≡ true → list_any p others ≡ true
any_among p [] others sub e = absurd (true≢false (sym e))
any_among p (text ∷ texts) others sub e =
    elim (or_cases (p text) _ e) [
      | inl h ↦ found p text others h (sub text (or_left (bytes_eq text text) _ ((bytes_eq-Decides text text).1 refl)))
      | inr h ↦ any_among p texts others (λ t f. sub t (or_right (bytes_eq t text) _ f)) h
    ]

stands_by_group : (group : Option GroupLine) (netgroups : List GroupLine) (hosts : List HostRow) (name : List ℕ) (a : ℕ) → IsSome group
    → stands_by group netgroups hosts name a ≡ list_any (λ host. host_stands_for hosts host a) (hosts_of netgroups name)
stands_by_group None netgroups hosts name a some = absurd (true≢false (sym some))
stands_by_group (Some line) netgroups hosts name a some = refl

-- the hosts of a group, in any order, stand for the addresses of its name
pub group_stands : (netgroups : List GroupLine) (hosts : List HostRow) (name : List ℕ) (members : List (List ℕ)) → is_address_like name ≡ false → IsSome (group_named netgroups name) → AreHostsOf netgroups name members
    → (a : ℕ) → list_any (λ host. host_stands_for hosts host a) members ≡ stands_for netgroups hosts name a
group_stands netgroups hosts name members unlike some are a =
    let p : List ℕ → Bool = λ host. host_stands_for hosts host a in
    both_ways _ _ (any_among p members (hosts_of netgroups name) (λ t e. sym (are t) ∙ e)) (any_among p (hosts_of netgroups name) members (λ t e. are t ∙ e))
    ∙ sym (stands_by_group (group_named netgroups name) netgroups hosts name a some)
    ∙ sym (cond-false (is_address_like name) (host_stands_for hosts name a) (stands_by (group_named netgroups name) netgroups hosts name a) unlike)

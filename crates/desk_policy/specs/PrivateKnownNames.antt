-- What the private contracts of the names that were looked up cite.
use Rattle.std.specs.Prelude.{◌≡◌, ℕ, IfSome, List, [], ◌∷◌}
use Rattle.std.specs.BTreeMap.{get_by_text}
use Rattle.desk_tables.specs.declared.hosts.HostRow.{HostRow}
use Rattle.desk_netgroup.specs.declared.group_line.GroupLine.{GroupLine}
use Rattle.desk_policy.specs.Names.{addresses_of_names}
use Rattle.desk_policy.specs.declared.known_names.KnownNames.{KnownNames}

-- each name that is kept has the addresses for which it stands
abbrev pub AreKnown : List GroupLine → List HostRow → KnownNames → Type 0
AreKnown netgroups hosts known =
    (name : List ℕ) → IfSome (get_by_text known.addresses name) (λ addresses. addresses ≡ addresses_of_names netgroups hosts (name ∷ []))

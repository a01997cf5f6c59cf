-- Whom the names of a line mean. (this project's own; hosts(5), netgroup(5))
use Rattle.std.specs.Prelude.{◌≡◌, ℕ, ◌==◌, ◌&&◌, ◌||◌, not, Bool, List, is_none, length, if◌then◌else◌}
use Rattle.std.specs.List.{list_any}
use Rattle.desk_tables.specs.Hosts.{addresses_of_host}
use Rattle.desk_tables.specs.declared.hosts.HostRow.{HostRow}
use Rattle.desk_netgroup.specs.GroupLine.{group_named}
use Rattle.desk_netgroup.specs.declared.group_line.GroupLine.{GroupLine}
use Rattle.desk_policy.specs.Names.{is_address_like, stands_for}
use Rattle.desk_expect.specs.Names.{is_between, is_span_like, span_of}
use Rattle.desk_expect.specs.Spans.{holds}
use Rattle.desk_expect.specs.declared.span.Span.{Span}

-- A name means an address: a network or a range those from its first to its last; any other name those for which it stands in a
-- line of an exports file.
abbrev pub means : List GroupLine → List HostRow → List ℕ → ℕ → Bool
means netgroups hosts name address = if is_span_like name then is_between (span_of name) address else stands_for netgroups hosts name address

-- one of these names means an address
abbrev pub are_for : List GroupLine → List HostRow → List (List ℕ) → ℕ → Bool
are_for netgroups hosts names address = list_any (λ name. means netgroups hosts name address) names

-- a name is written like an address, a network or a range
abbrev pub is_written : List ℕ → Bool
is_written name = is_span_like name || is_address_like name

-- any other name that is neither a netgroup's nor a host's
abbrev pub is_unknown : List GroupLine → List HostRow → List ℕ → Bool
is_unknown netgroups hosts name = not (is_written name) && (is_none (group_named netgroups name) && length (addresses_of_host hosts name) == 0)

-- whom a line is about, as it is written: everybody, or names; but for others
pub record Subject : Type 0 where
  pub everybody : Bool
  pub names : List (List ℕ)
  pub but : List (List ℕ)

-- a line is about an address: it is about everybody, or one of its names means the address; and none of those after `but` does
abbrev pub is_meant : List GroupLine → List HostRow → Subject → ℕ → Bool
is_meant netgroups hosts subject address = (subject.everybody || are_for netgroups hosts subject.names address) && not (are_for netgroups hosts subject.but address)

-- these spans hold just the addresses that some of the names mean
abbrev pub AreMeant : List GroupLine → List HostRow → List (List ℕ) → List Span → Type 0
AreMeant netgroups hosts names spans = (address : ℕ) → list_any (holds address) spans ≡ are_for netgroups hosts names address

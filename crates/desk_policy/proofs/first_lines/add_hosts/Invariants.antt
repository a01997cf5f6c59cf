-- The least clash at the addresses so far, which have a place.
use Rattle.std.proofs.Common.{◌≡◌, ℕ, None, Some, length, take}
use Rattle.std.specs.Prelude.{if◌then◌else◌}
use Rattle.std.specs.BTreeMap.{get}
use Rattle.std.specs.Option.{option_or}
use Rattle.std.specs.Ordering.{nat_cmp}
use Rattle.desk_text.specs.AddrSet.{is_among}
use Rattle.desk_policy.specs.Keys.{is_host_among}
use Rattle.desk_policy.specs.PrivateFirstLines.{IsClashAmong}
use Rattle.desk_policy.proofs.first_lines.add_hosts.Given as goal

abbrev pub invariant-loop-address : goal.invariant-loop-address
invariant-loop-address l = record {
  clash : IsClashAmong l.earlier l.row.entry.terms (is_host_among (take l.address-index l.row.addrs)) l.found;
  adds : (address : ℕ) → get nat_cmp l.hosts address
      ≡ option_or (get nat_cmp l.initial.hosts address) (if is_among address (take l.address-index l.row.addrs) then Some (length l.earlier) else None);
}

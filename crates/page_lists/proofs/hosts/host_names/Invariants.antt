-- The names of hosts so far.
use Rattle.std.proofs.Common.{◌≡◌, map, take}
use Rattle.std.specs.Prelude.{filter}
use Rattle.page_lists.specs.Hosts.{is_host_name}
use Rattle.page_lists.specs.NameIndex.{name_key}
use Rattle.page_lists.proofs.hosts.host_names.Given as goal

abbrev pub invariant-loop-one : goal.invariant-loop-one
invariant-loop-one l = map (λ name. name.now) l.names.items ≡ filter (is_host_name l.netgroups) (map name_key (take l.one-index l.index))

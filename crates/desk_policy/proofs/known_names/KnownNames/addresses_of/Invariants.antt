-- The addresses for which the names so far stand.
use Rattle.std.proofs.Common.{[], take}
use Rattle.std.specs.List.{list_any}
use Rattle.desk_policy.specs.Names.{stands_for}
use Rattle.desk_policy.specs.PrivateKnownNames.{AreKnown}
use Rattle.desk_policy.specs.PrivateNames.{Gains}
use Rattle.desk_policy.proofs.known_names.KnownNames.addresses_of.Given as goal

abbrev pub invariant-loop-index : goal.invariant-loop-index
invariant-loop-index l = record {
  gains : Gains [] l.addresses.items (λ address. list_any (λ name. stands_for l.netgroups l.hosts name address) (take l.index l.names));
  known : AreKnown l.netgroups l.hosts l.self;
}

-- The parts of the file systems so far.
use Rattle.std.proofs.Common.{◌≡◌, ◌++◌, length, map}
use Rattle.std.specs.String.{string_bytes}
use Rattle.page_data.specs.Systems.{system_value}
use Rattle.page_site.specs.SystemParts.{AreTextsFrom}
use Rattle.page_site.specs.Pieces.{Gains}
use Rattle.page_site.specs.PrivateSystemParts.{telling_value}
use Rattle.page_site.proofs.system_parts.push_systems.Given as goal

abbrev pub invariant-loop-system : goal.invariant-loop-system
invariant-loop-system g l = record {
  given : l.yielded ++ l.system-iterator.rest.items ≡ l.fn.systems.items;
  so_far : l.number ≡ length l.yielded;
  gains : Gains (AreTextsFrom (telling_value g.V.PolicyView.in_force l.telling) 0 (map system_value l.yielded)) (string_bytes l.initial.page) (string_bytes l.page);
}

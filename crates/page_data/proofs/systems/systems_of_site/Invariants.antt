-- The file systems so far, each with what is found of it.
use Rattle.std.proofs.Common.{map}
use Rattle.page_data.specs.Systems.{system_value}
use Rattle.page_data.proofs.Reported.{AreSoFar}
use Rattle.page_data.proofs.systems.systems_of_site.Given as goal

abbrev pub invariant-loop-sections : goal.invariant-loop-sections
invariant-loop-sections g l = AreSoFar (g.V.PolicyView.in_force l.view) l.yielded l.sections-iterator.rest.items l.number (map system_value l.systems.items)

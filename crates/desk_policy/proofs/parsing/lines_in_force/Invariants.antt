-- The lines of the entries so far.
use Rattle.std.proofs.Common.{◌≡◌, map}
use Rattle.desk_policy.specs.PrivateKnownNames.{AreKnown}
use Rattle.desk_policy.specs.Row.{row_of}
use Rattle.desk_policy.proofs.parsing.lines_in_force.Given as goal

abbrev pub invariant-loop-entry : goal.invariant-loop-entry
invariant-loop-entry l = record {
  rows : l.rows ≡ map (row_of l.site_tables.netgroups l.site_tables.hosts) l.yielded;
  known : AreKnown l.site_tables.netgroups l.site_tables.hosts l.known;
}

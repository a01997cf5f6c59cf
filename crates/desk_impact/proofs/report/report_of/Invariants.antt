-- The places so far are told, each has less than 2 ^ 64 changes, and what is known is so.
use Rattle.std.proofs.Common.{◌*◌, ◌≤◌, ◌^◌, All, map, take}
use Rattle.std.specs.String.{string_bytes}
use Rattle.desk_impact.specs.KnownSystems.{IsKnownChange}
use Rattle.desk_impact.specs.Places.{place_of}
use Rattle.desk_impact.specs.PrivateReport.{AreTold}
use Rattle.desk_impact.proofs.report.report_of.Given as goal

abbrev pub invariant-loop-place : goal.invariant-loop-place
invariant-loop-place g l = record {
  told : AreTold (g.V.PolicyView.in_force l.before) (g.V.PolicyView.in_force l.after) l.all (map place_of (take l.place-index l.places)) (string_bytes l.text) l.mattering l.others;
  few : l.mattering ≤ l.place-index * 2 ^ 64;
  few_others : l.others ≤ l.place-index * 2 ^ 64;
  known : All (IsKnownChange (g.V.PolicyView.in_force l.before) (g.V.PolicyView.in_force l.after)) l.known.items;
}

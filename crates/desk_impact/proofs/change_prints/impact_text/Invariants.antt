-- The changes so far are written.
use Rattle.std.proofs.Common.{◌≡◌, take}
use Rattle.std.specs.List.{flat_map}
use Rattle.std.specs.String.{string_bytes}
use Rattle.desk_impact.specs.Impact.{change_value}
use Rattle.desk_impact.specs.ImpactPrints.{change_lines}
use Rattle.desk_impact.specs.declared.changes.TwoVerdicts.{TwoVerdicts}
use Rattle.desk_who.specs.declared.runs.Run.{Run}
use Rattle.desk_impact.proofs.change_prints.impact_text.Given as goal

abbrev pub invariant-loop-change : goal.invariant-loop-change
invariant-loop-change l = string_bytes l.text ≡ flat_map (λ (change : Run TwoVerdicts). change_lines l.before l.after (change_value change)) (take l.change-index l.changes)

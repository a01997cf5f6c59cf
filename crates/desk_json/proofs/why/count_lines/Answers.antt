use Rattle.std.proofs.Common.{◌∙◌, ◌-◌, arith, length, sym}
use Rattle.desk_json.proofs.Ends.{ends_empty, ends_full, ends_nowhere}
use Rattle.desk_json.proofs.why.count_lines.Goals as goal
use Rattle.desk_json.proofs.why.count_lines.Goals.{else-count-gt0-via-then-count-gt0+else-is_empty, else-count-gt0-via-else-count-gt0}

pub returns-then-is_empty-clause-lines : goal.returns-then-is_empty-clause-lines
returns-then-is_empty-clause-lines c =
    ends_empty c.args.parts.now (length c.args.parts.now - 1) _ (omega (arith, c.if-count-gt0.true)) (sym c.is_empty.ensures ∙ c.if-is_empty.true)

pub returns-else-count-gt0-clause-lines : goal.returns-else-count-gt0-clause-lines
returns-else-count-gt0-clause-lines c =
    elim c.else-count-gt0.branch [
      | else-count-gt0-via-then-count-gt0+else-is_empty w ↦ ends_full c.args.parts.now (length c.args.parts.now - 1) _ (omega (arith, w.if-count-gt0.true)) (sym w.is_empty.ensures ∙ w.if-is_empty.false)
      | else-count-gt0-via-else-count-gt0 w ↦ ends_nowhere c.args.parts.now (omega (arith, w.if-count-gt0.false))
    ]

-- One more line is gathered.
use Rattle.std.proofs.Common.{◌≡◌, ◌∙◌, ◌||◌, ap, cond, eqb, nat_cmp, sym, take, true}
use Rattle.std.specs.BTreeSet.{contains}
use Rattle.std.proofs.lemmas.List.Folds.{list_any_more}
use Rattle.desk_policy.specs.declared.warning.Warning.{Warning}
use Rattle.desk_remarks.specs.UnwarnedLines.{is_warned}
use Rattle.desk_remarks.proofs.Inserted.{either, same_key}
use Rattle.desk_remarks.proofs.unwarned_lines.warned_lines.Goals as goal

pub loop-warning-preserved : goal.loop-warning-preserved
loop-warning-preserved c = λ line.
    let warnings = c.args.warnings.now in
    let i = c.loop-warning.warning-index in
    let warning = c.warning-item.result in
    c.in_ok-insert.ensures.updates.0 line
    ∙ ap (λ b. cond b true (contains nat_cmp c.loop-warning.lines line)) (same_key warning.line line)
    ∙ either (eqb warning.line line) (contains nat_cmp c.loop-warning.lines line)
    ∙ ap (λ b. b || eqb warning.line line) (c.loop-warning.invariant line)
    ∙ ap (λ (one : Warning). is_warned (take i warnings) line || eqb one.line line) c.warning-item.is
    ∙ sym (list_any_more (λ (one : Warning). eqb one.line line) warnings i warning c.loop-warning-test.true)

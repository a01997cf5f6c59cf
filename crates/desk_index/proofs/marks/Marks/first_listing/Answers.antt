use Rattle.std.proofs.Common.{◌∙◌, ℕ, add-one, ap, find, subst, sym}
use Rattle.desk_policy.specs.Verdict.{lists_here}
use Rattle.desk_index.specs.PrivateMarks.{is_one_line, lists_at}
use Rattle.desk_index.specs.declared.marks.Group.{Group}
use Rattle.desk_index.proofs.Groups.{found_in_group, not_alone, not_in_group}
use Rattle.desk_index.proofs.LinesByNumber.{Fails, is_numbered, next_none}
use Rattle.desk_index.proofs.marks.Marks.first_listing.Goals as goal
use Rattle.desk_index.proofs.marks.Marks.first_listing.Goals.{in-Some+in_default-first_of_group+else-not-is_one_line, in_default}

pub returns-in-Some-first_of_group : goal.returns-in-Some-first_of_group
returns-in-Some-first_of_group c =
    let rows = c.args.rows.now in
    sym (found_in_group rows c.requires.ascending c.args.path.now c.args.lines.now c.requires.lines c.loop-number.number-index c.loop-number-test.true c.in-Some.row.now (sym c.in-Some.ensures)
    c.in-Some-first_of_group.found.now c.loop-number.invariant (ap (λ (group : Group). find (lists_at group c.args.path.now) rows) (sym c.group_of-group.ensures) ∙ sym c.in-Some-first_of_group.ensures))

pub returns-then-not-is_one_line : goal.returns-then-not-is_one_line
returns-then-not-is_one_line c =
    let rows = c.args.rows.now in
    sym (not_in_group rows c.requires.ascending c.args.path.now c.args.lines.now c.requires.lines c.loop-number.number-index c.loop-number-test.true c.in-Some.row.now (sym c.in-Some.ensures)
    (ap (λ (group : Group). find (lists_at group c.args.path.now) rows) (sym c.group_of-group.ensures) ∙ sym c.in_default-first_of_group.ensures)
    (ap is_one_line (sym c.group_of-group.ensures) ∙ sym c.if-not-is_one_line.ensures))

pub loop-number-preserved : goal.loop-number-preserved
loop-number-preserved c =
    let rows = c.args.rows.now in
    let path = c.args.path.now in
    let i = c.loop-number.number-index in
    let by = λ (number : ℕ). find (is_numbered number) rows in
    rw add-one (next_none by (lists_here path) c.args.lines.now i 0 c.loop-number-test.true c.loop-number.invariant (elim c.match-numbered.branch [
      | in-Some+in_default-first_of_group+else-not-is_one_line w ↦
          subst (Fails by (lists_here path)) w.in-Some.ensures
          (not_alone rows c.requires.ascending path c.args.lines.now c.requires.lines i c.loop-number-test.true w.in-Some.row.now (sym w.in-Some.ensures)
          (ap (λ (group : Group). find (lists_at group path) rows) (sym w.group_of-group.ensures) ∙ sym w.in_default-first_of_group.ensures)
          (ap is_one_line (sym w.group_of-group.ensures) ∙ sym w.if-not-is_one_line.ensures))
      | in_default w ↦ subst (Fails by (lists_here path)) w.in_default.ensures tt
    ]))

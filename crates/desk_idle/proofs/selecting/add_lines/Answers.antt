use Rattle.std.proofs.Common.{◌∙◌, cond, true, ap, inl, inr, sym}
use Rattle.std.specs.BTreeMap.{is_at}
use Rattle.std.specs.BTreeSet as sorted
use Rattle.std.proofs.lemmas.Bool.{cases_Bool}
use Rattle.desk_idle.specs.PrivateMarks.{order_of_lines}
use Rattle.desk_idle.proofs.Directories.{texts_same}
use Rattle.desk_idle.proofs.selecting.add_lines.Goals as goal

pub returns-clause-adds : goal.returns-clause-adds
returns-clause-adds c = λ other has.
    let lines = c.args.lines in
    let before = sorted.contains order_of_lines c.args.lists.now other in
    elim (cases_Bool (is_at (order_of_lines lines) other)) [
      | inl same ↦ inl (texts_same lines.now other.now same)
      | inr not ↦ inr (sym (ap (λ b. cond b true before) not) ∙ sym (c.in_ok-insert.ensures.updates.0 other) ∙ has)
    ]

use Rattle.std.proofs.Common.{◌∙◌, ap, nat_cmp, subst, sym}
use Rattle.std.specs.BTreeMap as tree
use Rattle.desk_exports.specs.declared.entry.Entry.{Entry}
use Rattle.desk_idle.specs.PrivateMarks.{IsKnown}
use Rattle.desk_idle.proofs.Known.{known}
use Rattle.desk_idle.proofs.idle.mark_of.Goals as goal

pub returns : goal.returns
returns c = λ rows all ascending has.
    let row = c.args.row.now in
    let marks = c.args.marks.now in
    subst (IsKnown rows row)
    (sym (c.copied.ensures ∙ c.get.ensures.value ∙ ap (λ (entry : Entry). tree.get nat_cmp marks entry.line) c.deref.ensures ∙ all.tell row.entry.line))
    (known rows ascending all.starts all.are all.below row has)

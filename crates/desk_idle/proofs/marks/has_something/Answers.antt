use Rattle.std.proofs.Common.{◌≡◌, ◌∙◌, ◌||◌, [], ap, sym}
use Rattle.std.specs.List.{list_any}
use Rattle.desk_exports.specs.declared.entry.Entry.{Entry}
use Rattle.desk_idle.proofs.Directories.{is_new}
use Rattle.desk_idle.proofs.Marking.{any_dir}
use Rattle.desk_idle.proofs.marks.has_something.Goals as goal

pub returns-else-deref : goal.returns-else-deref
returns-else-deref c =
    let dirs = c.args.row.now.entry.dirs in
    let own : c.as_slice.result.now ≡ dirs = c.as_slice.ensures ∙ ap (λ (entry : Entry). entry.dirs) c.deref-else-deref.ensures in
    any_dir c.as_slice.result.now c.is_empty.result c.is_empty.ensures ∙ ap (list_any (is_new [])) own
    ∙ ap (λ b. b || list_any (is_new []) dirs) (sym c.if-deref.false ∙ ap (λ (entry : Entry). entry.alldirs) c.deref.ensures)

use Rattle.std.proofs.Common.{◌≡◌, ◌∙◌, [], ◌∷◌, ap, sym}
use Rattle.desk_exports.specs.declared.entry.Entry.{Entry}
use Rattle.desk_idle.proofs.Directories.{Path, same_are}
use Rattle.desk_server.proofs.Lists.{only_element}
use Rattle.desk_server.proofs.same_listing.lists_only.Goals as goal

pub returns-then-not-deref : goal.returns-then-not-deref
returns-then-not-deref c = λ same_dir.
    let dirs = c.as_slice.result.now in
    let own = c.own-item.result in
    let is : dirs ≡ c.args.row.now.entry.dirs = c.as_slice.ensures ∙ ap (λ (entry : Entry). entry.dirs) c.deref.ensures in
    let one : dirs ≡ own ∷ [] = only_element dirs own c.in-len1.len_at_least c.in-len1.len_below c.own-item.is in
    let same : own ≡ c.args.dir.now = same_are own c.args.dir.now (sym c.eq.ensures.same ∙ same_dir) in
    record {
      alldirs = sym (ap (λ (entry : Entry). entry.alldirs) c.deref-in-len1.ensures) ∙ c.if-not-deref.true;
      dirs = sym is ∙ one ∙ ap (λ (dir : Path). dir ∷ []) same;
    }

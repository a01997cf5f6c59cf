use Rattle.std.proofs.Common.{◌<◌, ◌∙◌, List, ap, get_or, length, subst}
use Rattle.desk_tables.specs.declared.filesystems.Mount.{Mount}
use Rattle.desk_policy.specs.Site.{texts_of}
use Rattle.desk_policy.proofs.FilesRead.{one_read}
use Rattle.desk_policy.proofs.parsing.push_files.Goals as goal

pub loop-place-preserved : goal.loop-place-preserved
loop-place-preserved c =
    let table = c.args.filesystems.now in
    let i = c.loop-place.place in
    let mount = c.mount-item.result in
    let same = c.as_slice-mount-items.ensures in
    let below : i < length table = subst (λ (ms : List Mount). i < length ms) same c.loop-place-test.true in
    record {
      files = one_read (texts_of c.args.site.now) table c.args.site_tables.now i mount below (c.mount-item.is ∙ ap (λ (ms : List Mount). get_or ms i mount) same)
          c.args.rows.now.items c.loop-place.rows.items c.push_file.new.rows.items c.args.warnings.now c.loop-place.warnings c.push_file.new.warnings c.loop-place.invariant.files c.in_ok-push_file.ensures.pushes;
      known = c.in_ok-push_file.ensures.known;
    }

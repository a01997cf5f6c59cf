-- The second of a folder comes before those of `--and`.
use Rattle.std.proofs.Common.{map, option_map}
use Rattle.std.proofs.lemmas.Result.{err_from_is_err_and}
use Rattle.cli_sources.specs.ExportsFiles.{and_file, zfs_list}
use Rattle.cli_sources.proofs.ExportsTexts.{more_added, none_behind}
use Rattle.cli_sources.proofs.exports_files.add_more.Goals as goal

pub returns-in_err-add_zfs : goal.returns-in_err-add_zfs
returns-in_err-add_zfs g c =
    let p = err_from_is_err_and c.from_residual.result c.from_residual.ensures.1 in
    rw (p.1, p.2)
    (none_behind (zfs_list (option_map (λ path. path.now) c.args.files.zfs)) (map (λ word. and_file word.now) c.args.files.and.now) (g.I.Read.remaining c.args.input.now) (g.I.Read.remaining c.add_zfs.new.input) (g.I.Read.remaining c.add_zfs.new.input)
    c.args.whole.now c.add_zfs.new.whole c.add_zfs.new.whole c.in_err-add_zfs.field-0.0 c.in_err-add_zfs.ensures)

pub returns : goal.returns
returns g c =
    more_added (zfs_list (option_map (λ path. path.now) c.args.files.zfs)) (map (λ word. and_file word.now) c.args.files.and.now) (g.I.Read.remaining c.args.input.now) (g.I.Read.remaining c.add_zfs.new.input) (g.I.Read.remaining c.add_each.new.input)
    c.args.whole.now c.add_zfs.new.whole c.add_each.new.whole tt c.add_each.result c.in_ok-add_zfs.ensures c.add_each.ensures

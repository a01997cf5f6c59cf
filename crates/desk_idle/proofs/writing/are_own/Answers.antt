use Rattle.std.proofs.Common.{◌≡◌, All, Some, refl, subst}
use Rattle.std.proofs.lemmas.List.{take_all}
use Rattle.std.proofs.lemmas.List.Elements.{All-more}
use Rattle.desk_tables.specs.FileSystems.{fs_of}
use Rattle.desk_idle.proofs.Directories.{Path}
use Rattle.desk_idle.proofs.writing.are_own.Goals as goal

pub loop-dir-preserved : goal.loop-dir-preserved
loop-dir-preserved c =
    let own : Path → Type 0 = λ dir. fs_of c.args.table.now dir ≡ Some c.args.fs.0 in
    let here : own c.dir-item.result = c.is_own.ensures.0 c.if-not-is_own.false in
    All-more own c.args.dirs.now c.loop-dir.dir-index c.dir-item.result c.loop-dir-test.true c.loop-dir.invariant (subst own c.dir-item.is here)

pub returns : goal.returns
returns c =
    let own : Path → Type 0 = λ dir. fs_of c.args.table.now dir ≡ Some c.args.fs.0 in
    (λ _. subst (All own) (take_all c.loop-dir.dir-index c.args.dirs.now c.loop-dir-test.false) c.loop-dir.invariant, λ _. refl)

use Rattle.std.proofs.Common.{◌≡◌, ◌+◌, ◌++◌, ◌∷◌, ◌∙◌, ◌||◌, [], ap, subst, sym, take}
use Rattle.std.specs.List.{list_any}
use Rattle.std.proofs.lemmas.List.{append_assoc, take_all, take_more}
use Rattle.desk_idle.specs.Listed.{HasDirs}
use Rattle.desk_idle.proofs.Directories.{Path, is_new, one_more_new}
use Rattle.desk_idle.proofs.listed.add_dirs.Goals as goal

pub loop-dir-preserved : goal.loop-dir-preserved
loop-dir-preserved c = λ known has.
    let dirs = c.args.dirs.now in
    let i = c.loop-dir.dir-index in
    let dir = c.dir-item.result in
    let done = take i dirs in
    let before = c.loop-dir.invariant known has in
    let next : take (i + 1) dirs ≡ done ++ dir ∷ [] = take_more dirs i dir c.loop-dir-test.true ∙ ap (λ (d : Path). take i dirs ++ d ∷ []) (sym c.dir-item.is) in (
      ap (λ b. b || c.in_ok-is_new.field-0) before.0 ∙ ap (λ b. list_any (is_new known) done || b) (c.in_ok-is_new.ensures.new (known ++ done) before.1) ∙ one_more_new known done dir ∙ ap (list_any (is_new known)) (sym next),
      subst (HasDirs c.add_dir.new.seen) (append_assoc known done (dir ∷ []) ∙ ap (λ ds. known ++ ds) (sym next)) (c.in_ok-is_new.ensures.has (known ++ done) before.1),
    )

pub returns-clause-has : goal.returns-clause-has
returns-clause-has c = λ known has.
    let dirs = c.args.dirs.now in
    subst (λ ds. HasDirs c.loop-dir.seen (known ++ ds)) (take_all c.loop-dir.dir-index dirs c.loop-dir-test.false) (c.loop-dir.invariant known has).1

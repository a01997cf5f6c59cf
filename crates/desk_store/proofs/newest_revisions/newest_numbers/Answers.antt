use Rattle.std.proofs.Common.{◌≡◌, ap, refl, [], Err, arith}
use Rattle.desk_store.specs.declared.error.DeskError.TheVariants as error
use Rattle.desk_store.proofs.NextNumbers.{kept_more, none_kept, not_next}
use Rattle.desk_store.proofs.Revisions.{history_of}
use Rattle.desk_store.proofs.newest_revisions.newest_numbers.Goals as goal

pub loop-revision-init : goal.loop-revision-init
loop-revision-init c = (history_of [] (λ file. refl), none_kept c.new-numbers.result c.new-numbers.ensures.empty)

pub loop-revision-preserved : goal.loop-revision-preserved
loop-revision-preserved c =
    kept_more c.loop-revision.numbers c.keep_number.new.numbers c.args.revisions.now c.loop-revision.revision-index c.revision-item.result c.standing_of_a_longer_history.ensures (omega arith) c.revision-item.is
    c.loop-revision.invariant c.in_default.ensures.next c.in_default.ensures.kept

pub returns-in-Err-clause-gap : goal.returns-in-Err-clause-gap
returns-in-Err-clause-gap c schema =
    let told : c.in-Err.e ≡ error.Schema = cc in
    not_next c.loop-revision.numbers c.args.revisions.now c.loop-revision.revision-index c.revision-item.result (omega arith) c.revision-item.is c.loop-revision.invariant (c.in-Err.ensures.gap (ap Err told))

use Rattle.std.proofs.Common.{All, arith, subst, sym}
use Rattle.desk_store.specs.Create.{IsUtf8Revision}
use Rattle.desk_store.proofs.first_revisions.revisions_of_seven.Goals as goal

pub returns-clause-utf8 : goal.returns-clause-utf8
returns-clause-utf8 c =
    let none : All IsUtf8Revision c.new-heads.result.items = subst (All IsUtf8Revision) (sym c.new-heads.ensures.items) (λ k d below. absurd (omega arith)) in
    c.in_ok-add_first-7.ensures.utf8
    (c.in_ok-add_first-6.ensures.utf8 (c.in_ok-add_first-5.ensures.utf8 (c.in_ok-add_first-4.ensures.utf8 (c.in_ok-add_first-3.ensures.utf8 (c.in_ok-add_first-2.ensures.utf8 (c.in_ok-add_first.ensures.utf8 none))))))

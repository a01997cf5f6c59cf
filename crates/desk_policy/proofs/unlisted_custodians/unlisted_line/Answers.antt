use Rattle.std.proofs.Common.{◌≡◌, ◌+◌, ◌∙◌, List, ap, subst, sym, take, Some, ℕ}
use Rattle.desk_tables.specs.declared.filesystems.Mount.{Mount}
use Rattle.desk_policy.specs.UnlistedCustodians.{unlisted_line}
use Rattle.desk_policy.proofs.Lesser.{lesser, none_more, one_more}
use Rattle.desk_policy.proofs.unlisted_custodians.unlisted_line.Goals as goal
use Rattle.desk_policy.proofs.unlisted_custodians.unlisted_line.Goals.{then-has_unlisted, else-has_unlisted}

pub loop-mount-preserved : goal.loop-mount-preserved
loop-mount-preserved c =
    let custodians = c.args.custodians.now in
    let items : List Mount = c.as_slice-mount-items.result.now in
    let i : ℕ = c.loop-mount.mount-index in
    let mount = c.mount-item.result in
    let so_far = c.loop-mount.invariant ∙ ap (λ (ms : List Mount). unlisted_line custodians (take i ms)) (sym c.as_slice-mount-items.ensures) in
    subst (λ (ms : List Mount). c.if-has_unlisted.found ≡ unlisted_line custodians (take (i + 1) ms)) c.as_slice-mount-items.ensures (elim c.if-has_unlisted.branch [
      | then-has_unlisted w ↦
          w.found-is ∙ ap (λ (n : ℕ). Some n) (w.lesser.ensures ∙ ap (lesser mount.line) so_far)
          ∙ sym (one_more custodians items i mount c.loop-mount-test.true c.mount-item.is (sym c.has_unlisted.ensures ∙ w.if-has_unlisted.true))
      | else-has_unlisted w ↦
          w.found-is ∙ so_far ∙ sym (none_more custodians items i mount c.loop-mount-test.true c.mount-item.is (sym c.has_unlisted.ensures ∙ w.if-has_unlisted.false))
    ])

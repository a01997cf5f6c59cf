use Rattle.std.proofs.Common.{◌≡◌, ◌==◌, ◌++◌, ◌∙◌, sym, ap, subst, [], List, All, IsPermutation, filter_map, length, map, reverse, append-nil}
use Rattle.std.proofs.lemmas.Bool.{false≢true}
use Rattle.std.proofs.lemmas.List.{reverse-reverse}
use Rattle.std.proofs.lemmas.List.Elements.{All-from_recursion, recursion_from_All}
use Rattle.std.proofs.lemmas.List.Sorted.{All-permutation, IsPermutation-map, IsPermutation-reverse, IsPermutation-trans, sorted_far}
use Rattle.desk_core.specs.Head.{Revision}
use Rattle.desk_store.specs.Desk.{IsStorable}
use Rattle.desk_store.specs.History.{approval_of, row_of}
use Rattle.desk_store.specs.StoredRows.{HasUtf8Approver, IsUnapproved, approval_key, approved_all, is_below, revision_key, row_of_approval}
use Rattle.desk_store.specs.declared.stored_rows.Approval.{Approval}
use Rattle.desk_store.proofs.ApprovalKeys.{of_approvals, of_revisions, reverse_rises, rises_from}
use Rattle.desk_store.proofs.Approved.{approved_rows, none_left, rows_fit, rows_kept, storable_all}
use Rattle.desk_store.proofs.TakenApprovals.{none_of_length, on_ok}
use Rattle.desk_store.proofs.pending_proposals.approve.Goals as goal

pub returns-then-is_empty-clause-same : goal.returns-then-is_empty-clause-same
returns-then-is_empty-clause-same c =
    let old = c.args.revisions.now.items in
    let sorted = c.sort_revisions.new.revisions.items in
    let same = IsPermutation-map row_of old sorted c.sort_revisions.ensures.same in
    let kept = rows_kept sorted (reverse c.sort_approvals.new.approvals.items) in
    subst (IsPermutation (map row_of old)) (sym (ap (map row_of) c.take_approvals.ensures.approved ∙ kept)) same

pub returns-then-is_empty-clause-approved : goal.returns-then-is_empty-clause-approved
returns-then-is_empty-clause-approved c =
    let approvals = c.args.approvals.items in
    let ordered = c.sort_approvals.new.approvals.items in
    let sorted = c.sort_revisions.new.revisions.items in
    let bare = recursion_from_All IsUnapproved sorted (All-permutation IsUnapproved c.args.revisions.now.items sorted c.sort_revisions.ensures.same c.requires.bare) in
    let turned = IsPermutation-trans approvals ordered (reverse ordered) c.sort_approvals.ensures.same (IsPermutation-reverse ordered) in
    let rows = IsPermutation-trans _ _ _ (IsPermutation-map row_of_approval approvals (reverse ordered) turned) (approved_rows sorted (reverse ordered) bare) in
    let left = c.take_approvals.new.approvals in
    let none = sym c.take_approvals.ensures.left ∙ ap reverse (none_of_length left.items (ap (λ n. n == 0) (sym left.ok.0) ∙ sym c.is_empty.ensures ∙ c.if-is_empty.true)) in
    let written = filter_map approval_of (approved_all sorted (reverse ordered)) in
    subst (λ rs. IsPermutation (map row_of_approval approvals) (filter_map approval_of rs)) (sym c.take_approvals.ensures.approved)
    (subst (IsPermutation (map row_of_approval approvals)) (append-nil written) (subst (λ left. IsPermutation (map row_of_approval approvals) (written ++ map row_of_approval left)) none rows))

pub returns-then-is_empty-clause-storable : goal.returns-then-is_empty-clause-storable
returns-then-is_empty-clause-storable c = λ storable utf8.
    let approvals = c.args.approvals.items in
    let ordered = c.sort_approvals.new.approvals.items in
    let sorted = c.sort_revisions.new.revisions.items in
    let all = All-permutation IsStorable c.args.revisions.now.items sorted c.sort_revisions.ensures.same storable in
    let turned = IsPermutation-trans approvals ordered (reverse ordered) c.sort_approvals.ensures.same (IsPermutation-reverse ordered) in
    let names = All-permutation HasUtf8Approver approvals (reverse ordered) turned utf8 in
    subst (All IsStorable) (sym c.take_approvals.ensures.approved)
    (All-from_recursion IsStorable _ (storable_all sorted (reverse ordered) (recursion_from_All IsStorable sorted all) (recursion_from_All HasUtf8Approver (reverse ordered) names)))

pub returns-clause-foreign : goal.returns-clause-foreign
returns-clause-foreign c = λ schema history rows own.
    let approvals = c.args.approvals.items in
    let ordered = c.sort_approvals.new.approvals.items in
    let sorted = c.sort_revisions.new.revisions.items in
    let turned = IsPermutation-trans approvals ordered (reverse ordered) c.sort_approvals.ensures.same (IsPermutation-reverse ordered) in
    let fit =
    rows_fit history sorted (reverse ordered)
    (IsPermutation-trans _ _ _ rows (IsPermutation-map row_of c.args.revisions.now.items sorted c.sort_revisions.ensures.same))
    (IsPermutation-trans _ _ _ own (IsPermutation-map row_of_approval approvals (reverse ordered) turned)) in
    let up = on_ok c.sort_revisions.result _ (sym c.is_err.ensures.value ∙ c.if-is_err.false) c.sort_revisions.ensures.order in
    let down = on_ok c.sort_approvals.result _ (sym c.is_err-else-is_err.ensures.value ∙ c.if-is_err-2.false) c.sort_approvals.ensures.order in
    let rises = rises_from revision_key sorted (sorted_far (λ (one other : Revision). is_below (revision_key one) (revision_key other)) of_revisions sorted up) in
    let falls = reverse_rises approval_key ordered (sorted_far (λ (one other : Approval). is_below (approval_key other) (approval_key one)) of_approvals ordered down) in
    let none = c.take_approvals.ensures.left ∙ none_left sorted (reverse ordered) rises falls fit in
    let empty : c.take_approvals.new.approvals.items ≡ [] = sym (reverse-reverse c.take_approvals.new.approvals.items) ∙ ap reverse none in
    false≢true (sym c.if-is_empty.false ∙ c.is_empty.ensures ∙ ap (λ n. n == 0) c.take_approvals.new.approvals.ok.0 ∙ ap (λ (xs : List Approval). length xs == 0) empty)

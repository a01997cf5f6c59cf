use Rattle.std.proofs.Common.{◌≡◌, ◌+◌, ◌∙◌, ℕ, List, [], Some, ap, arith, get_or, inl, inr, length, subst, sym}
use Rattle.std.specs.Prelude.{slice_get}
use Rattle.std.proofs.lemmas.Option.{slice_get-get_or}
use Rattle.desk_exports.specs.declared.entry.Entry.{Entry}
use Rattle.desk_policy.specs.declared.row.Row.{Row}
use Rattle.desk_index.specs.PrivateMarks.{AreMarked, group_of, mark_of, text_at, text_of}
use Rattle.desk_index.specs.declared.marks.Group.{Group}
use Rattle.desk_index.proofs.Marked.{past_end}
use Rattle.desk_index.proofs.Marking.{one_marked, row_marked}
use Rattle.desk_index.proofs.marks.add_row.Goals as goal

pub loop-dir-preserved : goal.loop-dir-preserved
loop-dir-preserved c =
    let rows = c.args.rows.now in
    let row = c.index-rows-place.result in
    let dirs = c.as_slice-dirs.result.now in
    let dir = c.loop-dir.dir in
    let one = c.index-dirs-dir.result in
    let written : dirs ≡ row.entry.dirs = c.as_slice-dirs.ensures ∙ ap (λ (e : Entry). e.dirs) c.deref.ensures in
    let at : slice_get row.entry.dirs dir ≡ Some one = ap (λ ds. slice_get ds dir) (sym written) ∙ slice_get-get_or dirs dir one c.loop-dir-test.true ∙ ap (λ d. Some d) (sym c.index-dirs-dir.is) in
    let text : c.as_bytes.result.now ≡ text_at row dir = c.as_bytes.ensures.value ∙ c.text.ensures.printed ∙ sym (ap text_of at) in
    let mark : c.mark_of-mark.result ≡ mark_of (group_of row) (text_at row dir) =
    c.mark_of-mark.ensures ∙ ap (λ (g : Group). mark_of g c.as_bytes.result.now) c.group_of-group.ensures ∙ ap (mark_of (group_of row)) text in
    rw (c.in_ok-add_spot.ensures.pairs, c.in_ok-add_spot.ensures.spots)
    (one_marked c.loop-dir.pairs.items c.loop-dir.spots.items rows c.args.place dir row c.loop-dir.invariant c.requires.place c.mark_of-mark.result
    (mark ∙ ap (λ (r : Row). mark_of (group_of r) (text_at r dir)) c.index-rows-place.is))

pub returns-in_ok-add_spot-2 : goal.returns-in_ok-add_spot-2
returns-in_ok-add_spot-2 c =
    let rows = c.args.rows.now in
    let place = c.args.place in
    let row = c.index-rows-place.result in
    let dirs = c.as_slice-dirs.result.now in
    let end = length dirs in
    let pairs = c.loop-dir.pairs.items in
    let spots = c.loop-dir.spots.items in
    let written : dirs ≡ row.entry.dirs = c.as_slice-dirs.ensures ∙ ap (λ (e : Entry). e.dirs) c.deref.ensures in
    let text : text_at row end ≡ [] = ap (λ (ds : List (List (List ℕ))). text_of (slice_get ds end)) (sym written) ∙ ap text_of (past_end dirs) in
    let mark : c.mark_of.result ≡ mark_of (group_of row) (text_at row end) = c.mark_of.ensures ∙ ap (λ (g : Group). mark_of g []) c.group_of-group.ensures ∙ ap (mark_of (group_of row)) (sym text) in
    let before = subst (AreMarked pairs spots rows place) (let a = c.loop-dir.auto.dir-end in let t = c.loop-dir-test.false in let e : c.loop-dir.dir ≡ end = omega arith in e) c.loop-dir.invariant in
    let marked = one_marked pairs spots rows place end row before c.requires.place c.mark_of.result (mark ∙ ap (λ (r : Row). mark_of (group_of r) (text_at r end)) c.index-rows-place.is) in
    let count : end ≡ length (get_or rows place row).entry.dirs = ap length written ∙ ap (λ (r : Row). length r.entry.dirs) c.index-rows-place.is in
    rw (c.in_ok-add_spot-2.ensures.pairs, c.in_ok-add_spot-2.ensures.spots)
    (row_marked _ _ rows place (end + 1) row marked (λ dir is. elim is [ inl lt ↦ omega arith | inr at ↦ (let e = at.0 in omega arith) ]))

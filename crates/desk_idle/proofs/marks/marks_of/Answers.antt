use Rattle.std.proofs.Common.{◌≡◌, ◌≤◌, ◌∷◌, ◌∙◌, ℕ, List, arith, length, subst, sym, take, true}
use Rattle.std.proofs.lemmas.Bool.{or_right, true≢false}
use Rattle.std.proofs.lemmas.List.{length-map, take_all}
use Rattle.std.proofs.lemmas.List.Elements.{All-get_or}
use Rattle.desk_text.specs.Address.{number_of}
use Rattle.desk_text.specs.AddrSet.{is_among}
use Rattle.desk_policy.specs.Policy.{rows_of}
use Rattle.desk_idle.specs.PrivateMarks.{AreMarks, HaveLooked, looks_at}
use Rattle.desk_idle.specs.Selections.{IsSelection, addresses_of}
use Rattle.desk_idle.specs.declared.selections.Selection.{Selection}
use Rattle.desk_idle.proofs.Heaviest.{at_next}
use Rattle.desk_idle.proofs.Marking.{no_marks}
use Rattle.desk_idle.proofs.Together.{nothing_known}
use Rattle.desk_idle.proofs.marks.marks_of.Goals as goal

pub loop-selection-init : goal.loop-selection-init
loop-selection-init c = record {
  below = λ start e. absurd (true≢false (sym e));
  tell = no_marks (rows_of c.args.index.now c.args.fs.0) c.new-marks.result c.new-marks.ensures.empty;
  known = λ lines has. absurd (true≢false (sym has ∙ nothing_known c.new-lists.result c.new-lists.ensures.empty lines));
}

pub mark_at-requires-clause-selection : goal.mark_at-requires-clause-selection
mark_at-requires-clause-selection c =
    All-get_or (IsSelection (rows_of c.args.index.now c.args.fs.0)) c.args.selections.now c.loop-selection.selection-index _ c.loop-selection-test.true c.requires.selections.each

pub loop-selection-preserved : goal.loop-selection-preserved
loop-selection-preserved c =
    let rows = rows_of c.args.index.now c.args.fs.0 in
    let i = c.loop-selection.selection-index in
    let items = c.args.selections.now in
    at_next (λ (ns : List ℕ). HaveLooked rows ns c.mark_at.new.marks c.mark_at.new.lists) items i _ c.loop-selection-test.true
    (c.in_ok-mark_at.ensures (take i (addresses_of items)) c.loop-selection.invariant)

pub returns : goal.returns
returns c =
    let rows = rows_of c.args.index.now c.args.fs.0 in
    let items = c.args.selections.now in
    let all = addresses_of items in
    let i = c.loop-selection.selection-index in
    let few : length all ≡ length items = length-map items (λ (s : Selection). number_of s.address) in
    let past : length items ≤ i = c.loop-selection-test.false in
    let found = c.requires.selections in
    let whole : take i all ≡ 0 ∷ found.starts = take_all i all (omega arith) ∙ found.addresses in
    record {
      starts = found.starts;
      are = found.are;
      below = λ start among. c.loop-selection.invariant.below start (subst (λ (ns : List ℕ). is_among start ns ≡ true) (sym whole) (or_right _ _ among));
      tell = subst (λ (ns : List ℕ). AreMarks (looks_at rows ns) c.loop-selection.marks) whole c.loop-selection.invariant.tell;
    }

use Rattle.std.proofs.Common.{◌≡◌, ◌<◌, ◌≤◌, ◌+◌, ◌++◌, ◌∷◌, ◌∙◌, [], Bool, Bor, ℕ, List, ap, arith, length, map, subst, sym, take}
use Rattle.std.proofs.lemmas.List.{append_assoc, get_or-map, length-map, take_all, take_more}
use Rattle.desk_text.specs.Address.{number_of}
use Rattle.desk_exports.specs.declared.entry.Entry.{Entry}
use Rattle.desk_policy.specs.declared.row.Row.{Row}
use Rattle.desk_idle.specs.Laws.{brings}
use Rattle.desk_idle.specs.Listed.{IsListedBy}
use Rattle.desk_idle.specs.PrivateMarks.{AreMarks, Look, looks_among}
use Rattle.desk_idle.proofs.Marking.{look_more}
use Rattle.desk_idle.proofs.marks.mark_each.Goals as goal

pub loop-row-preserved : goal.loop-row-preserved
loop-row-preserved c =
    let items = c.args.rows.now in
    let rows = map (λ (row : Bor Row). row.now) items in
    let i = c.loop-row.row-index in
    let row = c.row-item.result.now in
    let first = c.args.first in
    let address = number_of c.args.address in
    let few : length rows ≡ length items = length-map items (λ (row : Bor Row). row.now) in
    let below : i < length items = c.loop-row-test.true in
    let done = take i rows in
    let here = get_or-map (λ (row : Bor Row). row.now) items i c.row-item.result row below ∙ ap (λ (row : Bor Row). row.now) (sym c.row-item.is) in
    let next : take (i + 1) rows ≡ done ++ row ∷ [] = take_more rows i row (omega arith) ∙ ap (λ (r : Row). done ++ r ∷ []) here in
    let brought : c.in_ok-brought.brought ≡ brings done row = c.in_ok-brought.ensures.brings done c.loop-row.invariant.listed in
    let number : c.deref.result.now.line ≡ row.entry.line = ap (λ (entry : Entry). entry.line) c.deref.ensures in
    let look : ℕ → Bool → Look = λ n b. record { line = n; first = first; address = address; brought = b } in
    record {
      marks = λ looks are.
          let before = looks_among first address [] done in
          subst (λ (ls : List Look). AreMarks ls c.add_look.new.marks)
          (append_assoc looks before (look c.deref.result.now.line c.in_ok-brought.brought ∷ [])
          ∙ ap (λ (ls : List Look). looks ++ ls)
          (ap (λ (n : ℕ). before ++ look n c.in_ok-brought.brought ∷ []) number ∙ ap (λ b. before ++ look row.entry.line b ∷ []) brought ∙ sym (look_more first address [] done row) ∙ ap (looks_among first address []) (sym next)))
          (c.in_ok-add_look.ensures (looks ++ before) (c.loop-row.invariant.marks looks are));
      listed = subst (IsListedBy c.add.new.self) (sym next) (c.in_ok-brought.ensures.adds done c.loop-row.invariant.listed);
    }

pub returns : goal.returns
returns c = λ looks are.
    let items = c.args.rows.now in
    let rows = map (λ (row : Bor Row). row.now) items in
    let few : length rows ≡ length items = length-map items (λ (row : Bor Row). row.now) in
    let past : length items ≤ c.loop-row.row-index = c.loop-row-test.false in
    subst (λ (rs : List Row). AreMarks (looks ++ looks_among c.args.first (number_of c.args.address) [] rs) c.loop-row.marks) (take_all c.loop-row.row-index rows (omega arith)) (c.loop-row.invariant.marks looks are)

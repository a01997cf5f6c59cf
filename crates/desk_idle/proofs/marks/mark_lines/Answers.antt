use Rattle.std.proofs.Common.{◌≡◌, ◌<◌, ◌^◌, ◌++◌, ◌∷◌, ◌∙◌, [], Bor, ℕ, List, ap, arith, map, subst, sym}
use Rattle.desk_text.specs.Address.{number_of}
use Rattle.desk_policy.specs.Weights.{selected}
use Rattle.desk_policy.specs.declared.row.Row.{Row}
use Rattle.desk_idle.specs.PrivateMarks.{AreMarks, HaveLooked, Look, looks_at, looks_by}
use Rattle.desk_idle.proofs.Marking.{on_ok}
use Rattle.desk_idle.proofs.Skipping.{looks_more}
use Rattle.desk_idle.proofs.Together.{all_selected, look_again, look_at_lines}
use Rattle.desk_idle.proofs.marks.mark_lines.Goals as goal

pub returns-then-not-branch : goal.returns-then-not-branch
returns-then-not-branch c = λ before have.
    let rows = c.args.rows.now in
    let address = number_of c.args.address in
    let marks = c.args.marks.now in
    let lists = c.args.lists.now in
    let small : address < 2 ^ 32 = (let e = c.number-number.ensures in omega (arith, c.number-number.type_inv)) in
    let known = c.in_ok-add_lines.ensures.known c.if-not-branch.true in
    look_at_lines rows before address marks marks lists c.add_lines.new.lists c.args.lines.now small c.requires.lines c.in_ok-add_lines.ensures.adds
    (look_again rows before address c.requires.ascending marks lists c.args.lines small c.requires.lines known have) have

pub returns : goal.returns
returns c =
    let rows = c.args.rows.now in
    let address = number_of c.args.address in
    let chosen = selected rows address in
    let old = c.args.marks.now in
    let new = c.mark_rows.new.marks in
    let more = c.add_lines.new.lists in
    let small : address < 2 ^ 32 = (let e = c.number-number.ensures in omega (arith, c.number-number.type_inv)) in
    let are_chosen : map (λ (row : Bor Row). row.now) c.as_slice.result.now ≡ chosen =
    ap (map (λ (row : Bor Row). row.now)) c.as_slice.ensures.value ∙ c.in_ok-chosen.ensures chosen c.requires.lines (all_selected rows address) in
    on_ok _
    ((before : List ℕ) → HaveLooked rows before old c.args.lists.now → HaveLooked rows (before ++ address ∷ []) new more)
    (λ added before have.
    look_at_lines rows before address old new c.args.lists.now more c.args.lines.now small c.requires.lines c.in_ok-add_lines.ensures.adds
    (subst (λ (looks : List Look). AreMarks looks new) (ap (λ (rs : List Row). looks_at rows before ++ looks_by address rs) are_chosen ∙ sym (looks_more rows before address)) (added (looks_at rows before) have.tell)) have)
    c.mark_rows.result c.mark_rows.ensures

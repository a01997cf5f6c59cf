use Rattle.std.proofs.Common.{◌≡◌, ◌∙◌, ◌&&◌, true, false, Some, None, ap, nat_cmp, sym}
use Rattle.std.specs.BTreeMap as tree
use Rattle.std.specs.Option.{is_some}
use Rattle.desk_exports.specs.declared.entry.Entry.{Entry}
use Rattle.desk_policy.specs.declared.row.Row.{Row}
use Rattle.desk_idle.specs.PrivateMarks.{are_known, has_one_key}
use Rattle.desk_idle.proofs.Front.{front}
use Rattle.desk_idle.proofs.marks.are_known.Goals as goal

pub returns-then-has_one_key : goal.returns-then-has_one_key
returns-then-has_one_key c = λ chosen are all.
    let marks = c.args.marks.now in
    let f = front c.args.rows.now chosen c.args.lines.now c.in-Some.line.now are all c.in-Some.ensures.value in
    let same : c.in-Some-row_numbered.row.now ≡ f.first = (let e : Some c.in-Some-row_numbered.row.now ≡ Some f.first = c.in-Some-row_numbered.ensures f.first f.has f.number in cc) in
    let one : has_one_key f.first.entry.clients ≡ true = ap (λ (row : Row). has_one_key row.entry.clients) (sym same) ∙ sym (ap (λ (entry : Entry). has_one_key entry.clients) c.deref.ensures) ∙ sym c.has_one_key.ensures ∙ c.if-has_one_key.true in
    c.contains_key.ensures ∙ ap (λ line. is_some (tree.get nat_cmp marks line)) (sym f.number) ∙ ap (λ b. b && is_some (tree.get nat_cmp marks f.first.entry.line)) (sym one) ∙ ap (are_known marks) (sym f.are)

pub returns-else-has_one_key : goal.returns-else-has_one_key
returns-else-has_one_key c = λ chosen are all.
    let marks = c.args.marks.now in
    let f = front c.args.rows.now chosen c.args.lines.now c.in-Some.line.now are all c.in-Some.ensures.value in
    let same : c.in-Some-row_numbered.row.now ≡ f.first = (let e : Some c.in-Some-row_numbered.row.now ≡ Some f.first = c.in-Some-row_numbered.ensures f.first f.has f.number in cc) in
    let not_one : has_one_key f.first.entry.clients ≡ false = ap (λ (row : Row). has_one_key row.entry.clients) (sym same) ∙ sym (ap (λ (entry : Entry). has_one_key entry.clients) c.deref.ensures) ∙ sym c.has_one_key.ensures ∙ c.if-has_one_key.false in
    c.if-has_one_key.false ∙ ap (λ b. b && is_some (tree.get nat_cmp marks f.first.entry.line)) (sym not_one) ∙ ap (are_known marks) (sym f.are)

pub returns-in-None : goal.returns-in-None
returns-in-None c = λ chosen are all.
    let f = front c.args.rows.now chosen c.args.lines.now c.in-Some.line.now are all c.in-Some.ensures.value in
    let wrong : None ≡ Some f.first = c.in-None.ensures f.first f.has f.number in
    absurd (cc)

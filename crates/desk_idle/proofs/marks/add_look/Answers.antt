use Rattle.std.proofs.Common.{◌≡◌, ◌∙◌, ℕ, Some, ap, arith, cond, eqb, nat_cmp}
use Rattle.std.specs.BTreeMap as tree
use Rattle.std.specs.Ordering.{is_eq}
use Rattle.std.proofs.lemmas.Bool.Decides.{nat_tests}
use Rattle.desk_text.specs.Address.{number_of}
use Rattle.desk_idle.specs.PrivateMarks.{Look, with_look}
use Rattle.desk_idle.proofs.Looking.{marks_more}
use Rattle.desk_idle.proofs.marks.add_look.Goals as goal

same_key : (key other : ℕ) → is_eq (nat_cmp key other) ≡ eqb key other
same_key key other = grind (arith, nat_tests)

pub returns : goal.returns
returns c = λ looks are.
    let look : Look = record { line = c.args.line; first = c.args.first; address = number_of c.args.address; brought = c.args.brought } in
    let mark = c.with_look.result in
    marks_more looks look c.args.marks.now c.insert.new.self mark are
    (λ line. c.in_ok-insert.ensures.updates.0 line ∙ ap (λ b. cond b (Some mark) (tree.get nat_cmp c.args.marks.now line)) (same_key c.args.line line))
    (c.with_look.ensures c.args.line ∙ ap (λ o. with_look o look) (c.copied-known.ensures ∙ c.get.ensures.value))

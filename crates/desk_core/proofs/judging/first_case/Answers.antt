use Rattle.std.proofs.Common.{◌≡◌, ◌∙◌, ap, sym, refl, Bool, true, false, cond, List, [], ◌∷◌, ◌++◌, Option, Some, None}
use Rattle.std.specs.Option.{option_copied}
use Rattle.desk_tables.specs.declared.filesystems.Mount.{Mount}
use Rattle.desk_core.specs.Edit.{Edit, asked}
use Rattle.desk_core.specs.Head.{Revision}
use Rattle.desk_core.specs.Judging.{as_cases, conflicts, first_held, is_pending, is_repeat, objections}
use Rattle.desk_core.specs.declared.edit.Refusal.{Refusal}
use Rattle.desk_core.specs.declared.judging.Case.{Case}
use Rattle.desk_core.specs.declared.judging.Case.TheVariants as case
use Rattle.desk_core.specs.declared.proposal.Proposal.{Proposal}
use Rattle.desk_core.proofs.judging.first_case.Goals as goal

some_is : {x y : Refusal} → Some x ≡ Some y → x ≡ y
some_is e = cc

-- the first reason that holds is the first case
step_refused : (holds : Bool) (x refused : Refusal) (rest : Option Refusal) (more : Option Case) → (rest ≡ Some refused → more ≡ Some (case.Refused refused)) → cond holds (Some x) rest ≡ Some refused → cond holds (Some (case.Refused x)) more ≡ Some (case.Refused refused)
step_refused true x refused rest more later e = ap (λ r. Some (case.Refused r)) (some_is e)
step_refused false x refused rest more later e = later e

refused_first : (reasons : List (Bool × Refusal)) (more : List (Bool × Case)) (refused : Refusal) → first_held reasons ≡ Some refused → first_held (as_cases reasons ++ more) ≡ Some (case.Refused refused)
refused_first [] more refused e = cc
refused_first ((holds, x) ∷ reasons) more refused e =
    step_refused holds x refused (first_held reasons) (first_held (as_cases reasons ++ more)) (refused_first reasons more refused) e

-- if no reason holds, the first of the other cases is
step_passed : (holds : Bool) (x : Refusal) (rest : Option Refusal) (more other : Option Case) → (rest ≡ None → more ≡ other) → cond holds (Some x) rest ≡ None → cond holds (Some (case.Refused x)) more ≡ other
step_passed true x rest more other later e = cc
step_passed false x rest more other later e = later e

none_refused : (reasons : List (Bool × Refusal)) (more : List (Bool × Case)) → first_held reasons ≡ None → first_held (as_cases reasons ++ more) ≡ first_held more
none_refused [] more e = refl
none_refused ((holds, x) ∷ reasons) more e =
    step_passed holds x (first_held reasons) (first_held (as_cases reasons ++ more)) (first_held more) (none_refused reasons more) e

abbrev after : List Mount → Option Revision → Option Proposal → Edit → List (Bool × Case)
after table newest proposal e = (is_repeat e newest, case.Already) ∷ (is_pending table e proposal, case.Pending) ∷ as_cases (conflicts newest e)

pub returns-in-Some : goal.returns-in-Some
returns-in-Some c =
    let e = asked c.args.edit.now in
    let reasons = objections c.args.custodians.now c.args.table.now e in
    let held : first_held reasons ≡ Some c.in-Some.refusal = sym c.objection.ensures ∙ c.in-Some.is in
    sym (refused_first reasons (after c.args.table.now (option_copied c.args.newest) (option_copied c.args.proposal) e) c.in-Some.refusal held)

pub returns-then-is_repeat : goal.returns-then-is_repeat
returns-then-is_repeat c =
    let e = asked c.args.edit.now in
    let newest = option_copied c.args.newest in
    let proposal = option_copied c.args.proposal in
    let reasons = objections c.args.custodians.now c.args.table.now e in
    let none : first_held reasons ≡ None = sym c.objection.ensures ∙ c.in_default.is in
    let again : is_repeat e newest ≡ true = cc (c.is_repeat.ensures, c.if-is_repeat.true) in
    sym (none_refused reasons (after c.args.table.now newest proposal e) none
    ∙ ap (λ b. cond b (Some case.Already) (first_held ((is_pending c.args.table.now e proposal, case.Pending) ∷ as_cases (conflicts newest e)))) again)

pub returns-in-Some-conflict : goal.returns-in-Some-conflict
returns-in-Some-conflict c =
    let e = asked c.args.edit.now in
    let newest = option_copied c.args.newest in
    let proposal = option_copied c.args.proposal in
    let reasons = objections c.args.custodians.now c.args.table.now e in
    let none : first_held reasons ≡ None = sym c.objection.ensures ∙ c.in_default.is in
    let other : is_repeat e newest ≡ false = cc (c.is_repeat.ensures, c.if-is_repeat.false) in
    let fresh : is_pending c.args.table.now e proposal ≡ false = cc (c.is_pending.ensures, c.if-is_pending.false) in
    let held : first_held (conflicts newest e) ≡ Some c.in-Some-conflict.refusal = sym c.conflict.ensures ∙ c.in-Some-conflict.is in
    sym (none_refused reasons (after c.args.table.now newest proposal e) none
    ∙ ap (λ b. cond b (Some case.Already) (first_held ((is_pending c.args.table.now e proposal, case.Pending) ∷ as_cases (conflicts newest e)))) other
    ∙ ap (λ b. cond b (Some case.Pending) (first_held (as_cases (conflicts newest e)))) fresh
    ∙ refused_first (conflicts newest e) [] c.in-Some-conflict.refusal held)

use Rattle.std.proofs.Common.{◌≡◌, ◌==◌, ℕ, List, [], Some, None, ap, sym, ◌∙◌, length, lit<, arith}
use Rattle.std.specs.List.{after_first, before_first}
use Rattle.std.proofs.lemmas.Bool.Decides.{nat_tests}
use Rattle.std.proofs.lemmas.Str.Pattern.{split_once_first}
use Rattle.desk_tables.specs.CredentialText.{elements, elements_answer}
use Rattle.desk_tables.specs.PrivateCredentialText.{user_and_groups_answer}
use Rattle.desk_tables.proofs.CredentialTextLemmas.{alone, with_others, without_others}
use Rattle.desk_tables.proofs.credential_text.credential.Goals as goal

pub returns-in-None : goal.returns-in-None
returns-in-None c =
    c.lone_user.ensures ∙ ap (elements_answer c.args.users.now c.args.groups.now) (sym (alone c.args.text.now (split_once_first 58 c.args.text.now None c.in-None.ensures.cases (lit< tt))))

pub returns-then-is_empty : goal.returns-then-is_empty
returns-then-is_empty c =
    let text = c.args.text.now in
    let cut = split_once_first 58 text (Some (c.in-Some.user, c.in-Some.others)) c.in-Some.ensures.cases (lit< tt) in
    let empty : length (after_first (λ b. b == 58) text) ≡ 0 = ap length (sym cut.2) ∙ grind (arith, nat_tests, c.is_empty.ensures, c.if-is_empty.true) in
    c.without_groups.ensures ∙ ap (λ (user : List ℕ). user_and_groups_answer c.args.users.now c.args.groups.now user []) cut.1
    ∙ ap (elements_answer c.args.users.now c.args.groups.now) (sym (without_others text cut.0 empty))

pub returns-else-is_empty : goal.returns-else-is_empty
returns-else-is_empty c =
    let text = c.args.text.now in
    let cut = split_once_first 58 text (Some (c.in-Some.user, c.in-Some.others)) c.in-Some.ensures.cases (lit< tt) in
    let some : length c.in-Some.others.now ≡ 0 → ⊥ = λ empty. grind (arith, nat_tests, c.is_empty.ensures, c.if-is_empty.false) in
    c.with_groups.ensures ∙ ap (λ (user : List ℕ). user_and_groups_answer c.args.users.now c.args.groups.now user (elements c.in-Some.others.now)) cut.1
    ∙ ap (λ (others : List ℕ). user_and_groups_answer c.args.users.now c.args.groups.now (before_first (λ b. b == 58) text) (elements others)) cut.2
    ∙ sym (with_others c.args.users.now c.args.groups.now text cut.0 (λ empty. some (ap length cut.2 ∙ empty)))

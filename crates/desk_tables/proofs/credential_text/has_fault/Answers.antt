use Rattle.std.proofs.Common.{◌≡◌, ◌==◌, ℕ, List, [], Some, None, ap, sym, ◌∙◌, length, lit<, arith}
use Rattle.std.specs.List.{after_first, before_first}
use Rattle.std.proofs.lemmas.Bool.Decides.{nat_tests}
use Rattle.std.proofs.lemmas.Str.Pattern.{split_once_first}
use Rattle.desk_tables.specs.CredentialText.{cred_breaks, elements, user_and_groups_breaks}
use Rattle.desk_tables.proofs.CredentialTextLemmas.{alone, breaks_with_others, without_others}
use Rattle.desk_tables.proofs.credential_text.has_fault.Goals as goal

pub returns-in-None : goal.returns-in-None
returns-in-None c =
    c.lone_user_breaks.ensures
    ∙ ap (λ es. cred_breaks c.args.users.now c.args.groups.now es c.args.fault) (sym (alone c.args.text.now (split_once_first 58 c.args.text.now None c.in-None.ensures.cases (lit< tt))))

pub returns-then-is_empty : goal.returns-then-is_empty
returns-then-is_empty c =
    let text = c.args.text.now in
    let cut = split_once_first 58 text (Some (c.in-Some.user, c.in-Some.others)) c.in-Some.ensures.cases (lit< tt) in
    let empty : length (after_first (λ b. b == 58) text) ≡ 0 = ap length (sym cut.2) ∙ grind (arith, nat_tests, c.is_empty.ensures, c.if-is_empty.true) in
    c.without_groups_breaks.ensures c.args.groups.now ∙ ap (λ (user : List ℕ). user_and_groups_breaks c.args.users.now c.args.groups.now user [] c.args.fault) cut.1
    ∙ ap (λ es. cred_breaks c.args.users.now c.args.groups.now es c.args.fault) (sym (without_others text cut.0 empty))

pub returns-else-is_empty : goal.returns-else-is_empty
returns-else-is_empty c =
    let text = c.args.text.now in
    let cut = split_once_first 58 text (Some (c.in-Some.user, c.in-Some.others)) c.in-Some.ensures.cases (lit< tt) in
    let some : length c.in-Some.others.now ≡ 0 → ⊥ = λ empty. grind (arith, nat_tests, c.is_empty.ensures, c.if-is_empty.false) in
    c.user_and_groups_breaks.ensures ∙ ap (λ (user : List ℕ). user_and_groups_breaks c.args.users.now c.args.groups.now user (elements c.in-Some.others.now) c.args.fault) cut.1
    ∙ ap (λ (others : List ℕ). user_and_groups_breaks c.args.users.now c.args.groups.now (before_first (λ b. b == 58) text) (elements others) c.args.fault) cut.2
    ∙ sym (breaks_with_others c.args.users.now c.args.groups.now text c.args.fault cut.0 (λ empty. some (ap length cut.2 ∙ empty)))

use Rattle.std.proofs.Common.{◌≡◌, ◌∙◌, ◌++◌, [], ◌∷◌, List, ℕ, ap, refl}
use Rattle.std.specs.Prelude.{None, Result, Ok, Err}
use Rattle.std.specs.String.{string_bytes}
use Rattle.std.proofs.lemmas.List.{append-nil, append_assoc}
use Rattle.desk_text.specs.Address.{addr_text, number_of}
use Rattle.desk_policy.specs.Prints.{acting_text, verdict_line}
use Rattle.desk_policy.specs.Verdict.{Grant, verdict_result}
use Rattle.desk_policy.specs.declared.verdict.Denial.{Denial}
use Rattle.desk_expect.specs.ReportText.{by_text}
use Rattle.desk_expect.proofs.report_text.push_range.Goals as goal

-- a text that gains a line in five steps
line_added : (start span verdict by a b c d e : List ℕ) → a ≡ start ++ span → b ≡ a ++ 32 ∷ [] → c ≡ b ++ verdict → d ≡ c ++ by → e ≡ d ++ 10 ∷ [] → e ≡ start ++ (((span ++ 32 ∷ verdict) ++ by) ++ 10 ∷ [])
line_added start span verdict by a b c d e p q r s t =
    let words = span ++ 32 ∷ verdict in
    t
    ∙ ap (λ x. x ++ 10 ∷ [])
    (s
    ∙ ap (λ x. x ++ by) (r ∙ ap (λ x. x ++ verdict) (q ∙ ap (λ x. x ++ 32 ∷ []) p ∙ append_assoc start span (32 ∷ [])) ∙ append_assoc start (span ++ 32 ∷ []) verdict ∙ ap (λ x. start ++ x) (append_assoc span (32 ∷ []) verdict))
    ∙ append_assoc start words by)
    ∙ append_assoc start (words ++ by) (10 ∷ [])

-- no credential is given
nobody_acts : (verdict : Result Grant Denial) → acting_text verdict None ≡ []
nobody_acts (Ok grant) = refl
nobody_acts (Err denial) = refl

pub returns : goal.returns
returns c =
    let text = string_bytes c.args.text.now in
    let range = c.args.range.now in
    let value = verdict_result range.value.verdict in
    let verdict = verdict_line c.args.policy.now value in
    let by = by_text range.value.by_server in
    let spanned = string_bytes c.push_str.new.self in
    let behind = string_bytes c.push_str-2.new.self in
    let told = string_bytes c.push_str-3.new.self in
    line_added text (addr_text (number_of range.first) ++ 45 ∷ addr_text (number_of range.last)) verdict by spanned behind told (string_bytes c.push_str-4.new.self) (string_bytes c.push_str-5.new.self)
    (c.in_ok-push_str.ensures.bytes ∙ ap (λ t. text ++ t) (c.as_str.ensures.value ∙ c.in_ok-span.ensures))
    c.in_ok-push_str-2.ensures.bytes
    (c.in_ok-push_str-3.ensures.bytes ∙ ap (λ t. behind ++ t) (c.as_str-2.ensures.value ∙ c.in_ok-verdict.ensures ∙ ap (λ t. verdict ++ t) (nobody_acts value) ∙ append-nil verdict))
    (c.in_ok-push_str-4.ensures.bytes ∙ ap (λ t. told ++ t) c.by_text.ensures)
    c.in_ok-push_str-5.ensures.bytes

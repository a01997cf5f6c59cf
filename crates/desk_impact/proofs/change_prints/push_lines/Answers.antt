use Rattle.std.proofs.Common.{◌≡◌, ◌∙◌, ◌++◌, [], ◌∷◌, List, ℕ, ap}
use Rattle.std.specs.String.{string_bytes}
use Rattle.std.proofs.lemmas.List.{append_assoc}
use Rattle.desk_impact.specs.Impact.{change_value}
use Rattle.desk_impact.specs.ImpactPrints.{with_verdict}
use Rattle.desk_who.specs.WhoPrints.{range_line}
use Rattle.desk_impact.proofs.change_prints.push_lines.Goals as goal

-- a text that gains two lines in four steps
lines_added : (start goes comes a b c d : List ℕ) → a ≡ start ++ 45 ∷ 32 ∷ [] → b ≡ a ++ goes → c ≡ b ++ 43 ∷ 32 ∷ [] → d ≡ c ++ comes → d ≡ start ++ ((45 ∷ 32 ∷ goes) ++ (43 ∷ 32 ∷ comes))
lines_added start goes comes a b c d p q r s =
    let first : b ≡ start ++ (45 ∷ 32 ∷ goes) = q ∙ ap (λ t. t ++ goes) p ∙ append_assoc start (45 ∷ 32 ∷ []) goes in
    s ∙ ap (λ t. t ++ comes) (r ∙ ap (λ t. t ++ 43 ∷ 32 ∷ []) first)
    ∙ append_assoc (start ++ (45 ∷ 32 ∷ goes)) (43 ∷ 32 ∷ []) comes ∙ append_assoc start (45 ∷ 32 ∷ goes) (43 ∷ 32 ∷ comes)

pub returns : goal.returns
returns c =
    let change = change_value c.args.change.now in
    lines_added (string_bytes c.args.text.now)
    (range_line c.args.before.now (with_verdict change change.value.before)) (range_line c.args.after.now (with_verdict change change.value.after))
    (string_bytes c.push_str.new.self) (string_bytes c.push_range.new.text) (string_bytes c.push_str-2.new.self) (string_bytes c.push_range-2.new.text)
    c.in_ok-push_str.ensures.bytes c.in_ok-push_range.ensures c.in_ok-push_str-2.ensures.bytes c.in_ok-push_range-2.ensures

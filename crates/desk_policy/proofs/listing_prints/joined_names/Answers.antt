use Rattle.std.proofs.Common.{◌≡◌, ℕ, List, ◌∷◌, ◌++◌, take, take_all, map, sym, ap, ◌∙◌}
use Rattle.std.specs.List.{flat_map, join_with_byte}
use Rattle.std.specs.String.{string_bytes}
use Rattle.desk_origins.specs.Origins.{line_name}
use Rattle.desk_policy.proofs.Commas.{with_commas}
use Rattle.desk_policy.proofs.listing_prints.joined_names.Goals as goal

pub returns : goal.returns
returns c =
    let name : ℕ → List ℕ = line_name c.args.origins.now in
    let behind_comma : ℕ → List ℕ = λ number. 44 ∷ name number in
    let first : ℕ = c.in-Some.first.now in
    let others : List ℕ = c.in-Some.others.now in
    let start : string_bytes c.push_name.new.text ≡ name first = c.in_ok-push_name.ensures ∙ ap (λ t. t ++ name first) c.new-text.ensures.bytes in
    c.loop-number.invariant
    ∙ ap (λ t. t ++ flat_map behind_comma (take c.loop-number.number-index others)) start
    ∙ ap (λ ns. name first ++ flat_map behind_comma ns) (take_all c.loop-number.number-index others c.loop-number-test.false)
    ∙ with_commas name first others
    ∙ ap (λ ns. join_with_byte 44 (map name ns)) (sym c.in-Some.ensures.cases.0)

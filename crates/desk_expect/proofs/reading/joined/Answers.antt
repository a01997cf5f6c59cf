use Rattle.std.proofs.Common.{◌∙◌, ◌++◌, ◌∷◌, List, ℕ, ap, sym}
use Rattle.std.specs.List.{flat_map, join_with_byte}
use Rattle.desk_expect.proofs.Joined.{joined_after}
use Rattle.desk_expect.proofs.reading.joined.Goals as goal

pub returns : goal.returns
returns c =
    let rest = flat_map (λ (word : List ℕ). 32 ∷ word) c.in-Some.others.now in
    c.from_string-2.ensures ∙ c.in_ok-push_words.ensures
    ∙ ap (λ t. t ++ rest) (c.in_ok-push_str.ensures.bytes ∙ ap (λ t. t ++ c.as_str.result.now) c.new-text.ensures.bytes ∙ c.as_str.ensures)
    ∙ sym (joined_after 32 c.in-Some.first.now c.in-Some.others.now) ∙ ap (join_with_byte 32) (sym c.in-Some.ensures.cases.0)

use Rattle.std.proofs.Common.{◌∙◌, ◌++◌, ◌∷◌, [], List, ℕ, ap}
use Rattle.std.specs.List.{flat_map}
use Rattle.std.specs.String.{string_bytes}
use Rattle.std.proofs.lemmas.List.{append_assoc, take_all}
use Rattle.desk_expect.proofs.Written.{writes_next}
use Rattle.desk_expect.proofs.reading.push_words.Goals as goal

pub loop-word-preserved : goal.loop-word-preserved
loop-word-preserved c =
    let old = string_bytes c.loop-word.text in
    writes_next (λ (word : List ℕ). 32 ∷ word) c.args.words.now c.loop-word.word-index c.word-item.result c.loop-word-test.true c.word-item.is
    (string_bytes c.args.text.now) old (string_bytes c.push_str-in-loop-word.new.self) c.loop-word.invariant
    (c.in_ok-push_str-2.ensures.bytes ∙ ap (λ t. t ++ c.as_str.result.now) c.in_ok-push_str.ensures.bytes ∙ append_assoc old (32 ∷ []) c.as_str.result.now ∙ ap (λ t. old ++ 32 ∷ t) c.as_str.ensures)

pub returns : goal.returns
returns c =
    c.loop-word.invariant
    ∙ ap (λ words. string_bytes c.args.text.now ++ flat_map (λ (word : List ℕ). 32 ∷ word) words) (take_all c.loop-word.word-index c.args.words.now c.loop-word-test.false)

use Rattle.std.proofs.Common.{◌≡◌, ℕ, ◌-◌, ◌<◌, ◌∙◌, List, ap, length, rules, take, arith}
use Rattle.std.specs.List.{prefix_len}
use Rattle.std.specs.Str.{IsUtf8}
use Rattle.std.proofs.lemmas.Bool.Decides.{nat_tests}
use Rattle.std.proofs.lemmas.Str.{IsCharBoundary-after_ascii}
use Rattle.desk_netgroup.specs.Token as spec
use Rattle.desk_netgroup.proofs.TokenLemmas.{first_is_ascii, next_word, word_boundary}
use Rattle.desk_netgroup.proofs.token.push_tokens.Goals as goal

pub range-requires-clause-end_boundary : goal.range-requires-clause-end_boundary
range-requires-clause-end_boundary c = word_boundary c.loop-rest.rest.now c.word_len-len.result c.word_len-len.ensures

pub range_from-rest-requires : goal.range_from-rest-requires
range_from-rest-requires c = λ _. word_boundary c.loop-rest.rest.now c.word_len-len.result c.word_len-len.ensures

pub loop-rest-preserved-then-len-gt0 : goal.loop-rest-preserved-then-len-gt0
loop-rest-preserved-then-len-gt0 c =
    let rest : List ℕ = c.loop-rest.rest.now in
    let n : ℕ = c.word_len-len.result in
    let none_off : n - 0 ≡ n = omega arith in
    let word : c.range.result.now ≡ take n rest = c.range.ensures.value ∙ ap (λ k. take k rest) none_off in
    record {
      text = search rules;
      so_far = next_word _ c.loop-rest.tokens.items c.push.new.self.items rest c.in_ok-word.word c.range_from-rest.result.now n c.word_len-len.ensures c.if-len-gt0.true
          (c.in_ok-word.ensures ∙ word) c.range_from-rest.ensures.value c.in_ok-push.ensures.items c.loop-rest.invariant.so_far;
    }

pub range_from-rest-requires-else-len-gt0 : goal.range_from-rest-requires-else-len-gt0
range_from-rest-requires-else-len-gt0 c =
    let rest : List ℕ = c.loop-rest.rest.now in
    let some : 0 < length rest = first_of (search rules, grind (arith, nat_tests)) in
    let none : prefix_len spec.is_of_word rest ≡ 0 = omega (arith, c.word_len-len.ensures, c.if-len-gt0.false) in
    let text : IsUtf8 rest = search rules in
    λ _. IsCharBoundary-after_ascii rest 0 text some (first_is_ascii rest some none)

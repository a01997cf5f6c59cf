use Rattle.std.proofs.Common.{◌≡◌, List, ℕ, arith, rules}
use Rattle.std.specs.List.{prefix_len}
use Rattle.std.specs.Str.{IsUtf8}
use Rattle.std.proofs.lemmas.Str.{IsCharBoundary-after_ascii}
use Rattle.desk_netgroup.specs.Token as spec
use Rattle.desk_netgroup.proofs.TokenLemmas.{first_is_ascii, word_boundary}
use Rattle.desk_netgroup.proofs.slices.token_len.Goals as goal

pub returns-then-len-gt0-clause-boundary : goal.returns-then-len-gt0-clause-boundary
returns-then-len-gt0-clause-boundary c = word_boundary c.args.text.now c.word_len-len.result c.word_len-len.ensures

pub returns-clause-boundary : goal.returns-clause-boundary
returns-clause-boundary c =
    let text : List ℕ = c.args.text.now in
    let none : prefix_len spec.is_of_word text ≡ 0 = omega (arith, c.word_len-len.ensures, c.if-len-gt0.false) in
    let utf8 : IsUtf8 text = search rules in
    IsCharBoundary-after_ascii text 0 utf8 c.requires.some (first_is_ascii text c.requires.some none)

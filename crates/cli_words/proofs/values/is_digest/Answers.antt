use Rattle.std.proofs.Common.{◌≡◌, rules, tests, arith}
use Rattle.std.proofs.lemmas.Grind.{common_steps}
use Rattle.std.specs.List.{list_all}
use Rattle.std.proofs.lemmas.Iterator.{YieldsList-from_slice}
use Rattle.std.proofs.lemmas.Iterator.Search.{all_from_yields_List}
use Rattle.cli_words.specs.Values.{is_small_digit}
use Rattle.cli_words.proofs.values.is_digest.Goals as goal

pub returns-then-word-eq64 : goal.returns-then-word-eq64
returns-then-word-eq64 c =
    let each : c.all.result ≡ list_all is_small_digit c.args.word.now = all_from_yields_List is_small_digit _ _ _ c.all.ensures.ran (YieldsList-from_slice c.args.word.now cc) (λ x b q k. search (rules, tests)) in
    grind (arith, common_steps)

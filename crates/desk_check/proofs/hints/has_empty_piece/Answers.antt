use Rattle.std.proofs.Common.{rules, lit<, ◌==◌, length}
use borrow.Author.Tests.{tests}
use Rattle.std.proofs.lemmas.Iterator.Search.{any_from_yields_List}
use Rattle.std.proofs.lemmas.Iterator.Splits.{YieldsList-from_str_split}
use Rattle.desk_check.proofs.hints.has_empty_piece.Goals as goal

pub returns : goal.returns
returns c =
    any_from_yields_List (λ option. length option == 0) _ _ _ c.any.ensures.ran
    (YieldsList-from_str_split 44 c.args.options.now (lit< tt) c.split.ensures.text c.split.ensures.has_more c.split.ensures.pattern)
    (λ x b q k. search (rules, tests))

use Rattle.std.proofs.Common.{rules, tests, lit<, ◌==◌, length}
use Rattle.std.proofs.lemmas.Iterator.Splits.{YieldsList-from_str_split}
use Rattle.std.proofs.lemmas.Iterator.Search.{any_from_yields_List}
use Rattle.desk_tables.proofs.credential_text.any_empty.Goals as goal

pub returns : goal.returns
returns c =
    any_from_yields_List (λ e. length e == 0) _ _ _ c.any.ensures.ran (YieldsList-from_str_split 58 c.args.others.now (lit< tt) c.split.ensures.text c.split.ensures.has_more c.split.ensures.pattern) (λ x b q k. search (rules, tests))

use Rattle.std.proofs.Common.{rules, tests, lit<}
use Rattle.std.proofs.lemmas.Iterator.Splits.{YieldsList-from_str_split}
use Rattle.std.proofs.lemmas.Iterator.Search.{any_from_yields_List}
use Rattle.desk_tables.specs.CredentialText.{is_out_of_range}
use Rattle.desk_tables.proofs.credential_text.any_out_of_range.Goals as goal

pub returns : goal.returns
returns c =
    any_from_yields_List (is_out_of_range) _ _ _ c.any.ensures.ran (YieldsList-from_str_split 58 c.args.others.now (lit< tt) c.split.ensures.text c.split.ensures.has_more c.split.ensures.pattern) (λ x b q k. search (rules, tests))

use Rattle.std.proofs.Common.{◌≡◌, ◌∙◌, ap, refl, lit<}
use Rattle.std.specs.Prelude.{slice_get}
use Rattle.std.specs.Option.{option_map}
use Rattle.std.proofs.lemmas.Iterator.Consumers.{nth_from_yields_List}
use Rattle.std.proofs.lemmas.Iterator.Splits.{YieldsList-from_str_split}
use Rattle.desk_tables.specs.ColonLines.{fields}
use Rattle.desk_tables.proofs.ColonLineLemmas.{part_or_empty}
use Rattle.desk_tables.proofs.colon_lines.field.Goals as goal

pub returns : goal.returns
returns c =
    let found : option_map (λ x. x.now) c.nth.result ≡ slice_get (fields c.args.line.now) c.args.place =
    nth_from_yields_List _ _ c.args.place c.nth.ensures.ran (YieldsList-from_str_split 58 c.args.line.now (lit< tt) c.split.ensures.text c.split.ensures.has_more c.split.ensures.pattern) in
    ap (λ x. x.now) c.unwrap_or.ensures ∙ part_or_empty c.nth.result _ (fields c.args.line.now) c.args.place found refl

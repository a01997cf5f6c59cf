use Rattle.std.proofs.Common.{◌∙◌, ap}
use Rattle.std.specs.Option.{unwrap_or}
use Rattle.desk_exports.specs.Options.{keyword_of}
use Rattle.desk_exports.specs.declared.options.Keyword.TheVariants.{Unknown}
use Rattle.desk_exports.proofs.options.Keyword.of.Goals as goal

pub returns : goal.returns
unfolding keyword_of
returns c = c.unwrap_or.ensures ∙ ap (λ found. unwrap_or found Unknown) c.find_option.ensures

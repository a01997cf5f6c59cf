use Rattle.std.proofs.Common.{ap, ◌∙◌, lit<}
use Rattle.std.proofs.lemmas.Str.Pattern.{strip_prefix_char}
use Rattle.desk_check.proofs.HintLemmas.{stripped}
use Rattle.desk_check.proofs.hints.after_dash.Goals as goal

pub returns : goal.returns
returns c =
    ap (λ x. x.now) c.unwrap_or.ensures ∙ stripped c.strip_prefix.result c.args.word (strip_prefix_char 45 c.args.word.now c.strip_prefix.result c.strip_prefix.ensures.cases (lit< tt))

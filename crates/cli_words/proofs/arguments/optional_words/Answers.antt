-- There is a range for how many words there are.
use Rattle.std.proofs.Common.{ap, ap₂, ◌∙◌}
use Rattle.clap.specs.Words.{Rule, rule_of}
use Rattle.cli_words.proofs.Additions.{range_is}
use Rattle.cli_words.proofs.arguments.optional_words.Goals as goal

pub returns : goal.returns
returns c =
    record {
      is = ap rule_of c.num_args.ensures.0 ∙ ap₂ (λ (rule : Rule) range. record rule { range = range }) c.optional_word.ensures.is (range_is _ _ c.num_args.ensures.1);
      local = ap (λ argument. argument.global) c.num_args.ensures.0 ∙ c.optional_word.ensures.local;
    }

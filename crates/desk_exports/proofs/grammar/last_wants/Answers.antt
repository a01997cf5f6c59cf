use Rattle.std.proofs.Common.{◌∙◌, ◌==◌, ap, sym, Some, None}
use Rattle.std.specs.List.{slice_split}
use Rattle.desk_exports.specs.Grammar.{last_wants}
use Rattle.desk_exports.proofs.PieceLemmas.{cut_last}
use Rattle.desk_exports.proofs.WordLemmas.{last_wants-last}
use Rattle.desk_exports.proofs.grammar.last_wants.Goals as goal

pub returns-in-Some : goal.returns-in-Some
returns-in-Some c =
    c.wants_value.ensures
    ∙ sym (last_wants-last (slice_split (λ b. b == 44) c.in-Some.field-0-0.now) c.in-Some.last.now)
    ∙ ap last_wants (sym (cut_last c.args.text (Some (c.in-Some.field-0-0, c.in-Some.last)) c.in-Some.ensures.cases))

pub returns-in-None : goal.returns-in-None
returns-in-None c =
    c.wants_value-in-None.ensures
    ∙ ap last_wants (sym (cut_last c.args.text None c.in-None.ensures.cases))

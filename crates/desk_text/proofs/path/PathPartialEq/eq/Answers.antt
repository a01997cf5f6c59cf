use Rattle.std.proofs.Common.{◌∙◌, ap, eqb}
use Rattle.std.specs.Cmp.Lexicographic.{pointwise}
use Rattle.desk_text.specs.Path.{path_text}
use Rattle.desk_text.proofs.PathLaws.{same_printed}
use Rattle.desk_text.proofs.path.PathPartialEq.eq.Goals as goal

pub returns-clause-same : goal.returns-clause-same
returns-clause-same c =
    same_printed c.args.self.now c.args.other.now c.eq.result c.text.ensures.path c.text-2.ensures.path
    (c.eq.ensures ∙ ap (λ t. pointwise eqb t c.text-2.result.now) c.text.ensures.printed ∙ ap (pointwise eqb (path_text c.args.self.now)) c.text-2.ensures.printed)

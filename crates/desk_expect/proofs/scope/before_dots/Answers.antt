use Rattle.desk_expect.proofs.Dots.{stripped}
use Rattle.desk_expect.proofs.scope.before_dots.Goals as goal

pub returns : goal.returns
returns c = stripped c.args.text.now c.strip_suffix.result c.strip_suffix.ensures.cases

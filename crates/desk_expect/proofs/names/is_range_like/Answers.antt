use Rattle.std.proofs.Common.{None, lit<, sym}
use Rattle.std.specs.Prelude.{◌==◌}
use Rattle.std.proofs.lemmas.Bool.{cond-false}
use Rattle.std.proofs.lemmas.Str.Pattern.{split_once_first}
use Rattle.desk_expect.proofs.Ranges.{none_passes}
use Rattle.desk_expect.proofs.names.is_range_like.Goals as goal

pub returns-in-None : goal.returns-in-None
returns-in-None c =
    let name = c.args.name.now in
    sym (cond-false _ _ _ (none_passes (λ b. b == 45) name (split_once_first 45 name None c.in-None.ensures.cases (lit< tt))))

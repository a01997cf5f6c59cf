-- Verdicts and contradictions are those of the table and the lines.
use Rattle.std.proofs.Common.{refl}
use Rattle.desk_policy.specs.Verdict.{verdict_of}
use Rattle.desk_policy.proofs.laws.warnings_change_no_answer.Goals as goal

pub returns : goal.returns
unfolding verdict_of
returns c = λ content warnings. record {
  verdicts = λ address path. refl;
  consistent = (λ other. other, λ own. own);
  least = λ fault. (
    λ found. record { fs = found.fs; found = found.found; named = found.named; here = found.here; before = found.before },
    λ found. record { fs = found.fs; found = found.found; named = found.named; here = found.here; before = found.before },
  );
}

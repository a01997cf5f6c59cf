use Rattle.std.proofs.Common.{refl}
use Rattle.desk_policy.proofs.Steps.{all_ascend}
use Rattle.desk_policy.proofs.policy.are_ascending.Goals as goal

pub returns : goal.returns
returns c = (λ _. all_ascend c.args.rows.now c.loop-place.place c.loop-place-test.false c.loop-place.invariant, λ _. refl)

use Rattle.std.proofs.Common.{◌∙◌, ap}
use Rattle.std.specs.Prelude.{◌+◌}
use Rattle.std.proofs.lemmas.Result.{IfOk-weaker}
use Rattle.desk_policy.specs.Verdict.{verdict_of}
use Rattle.desk_who.specs.Starts.{AreJoined}
use Rattle.desk_impact.specs.Impact.{AreStartsOfBoth}
use Rattle.desk_impact.proofs.changes.starts_of_both.Goals as goal

pub returns : goal.returns
returns c =
    let before = c.args.before.now in
    let after = c.args.after.now in
    let old = c.in_ok-old.old in
    let new = c.in_ok-new.new in
    IfOk-weaker c.joined.result (AreJoined old new) (AreStartsOfBoth before after c.args.path.now)
    (λ all joined other same same'.
    let was = c.in_ok-old.ensures other same in
    let will = c.in_ok-new.ensures other same' in
    record {
      ascend = joined.ascend;
      behind = joined.behind was.behind will.behind;
      steady = λ address fits none.
          ap (λ verdict. record { before = verdict; after = verdict_of after (address + 1) other }) (was.steady address fits (joined.own (address + 1) none))
          ∙ ap (λ verdict. record { before = verdict_of before address other; after = verdict }) (will.steady address fits (joined.other (address + 1) none));
    })
    c.joined.ensures

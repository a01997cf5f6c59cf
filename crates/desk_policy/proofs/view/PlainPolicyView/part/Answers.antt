use Rattle.std.proofs.Common.{refl, subst}
use Rattle.desk_policy.specs.Contradiction.{AreConsistent}
use Rattle.desk_policy.proofs.view.PlainPolicyView.part.Goals as goal

pub returns-in-None : goal.returns-in-None
returns-in-None c = (
  refl,
  record {
    file_system = c.requires.fs;
    ascending = c.requires.ascending;
    consistent = subst AreConsistent c.as_slice.ensures (rw c.in-None.is at c.in_ok-fault.ensures);
  },
)

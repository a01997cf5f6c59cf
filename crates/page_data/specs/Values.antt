-- Runs of some function of addresses. (this project's own)
use Rattle.std.specs.Prelude.{ℕ, List}
use Rattle.desk_who.specs.Runs.{AreRuns, Run}

-- these are the runs of some function of addresses
pub record AreRunsOfSome {A : Type 0} (runs : List (Run A)) : Type 0 where
  pub value_at : ℕ → A
  pub are : AreRuns value_at runs

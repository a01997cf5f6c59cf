-- What the private contracts of counts cite.
use Rattle.std.specs.Prelude.{ℕ, ◌+◌, ◌-◌, List, max, min, sum_by, if◌then◌else◌}
use Rattle.desk_who.specs.Runs.{Run}
use Rattle.page_data.specs.Class.{same_class}
use Rattle.page_data.specs.declared.class.Class.{Class}

-- how many addresses a run shares with a range
abbrev pub shared : {A : Type 0} → ℕ → ℕ → Run A → ℕ
shared first last run = min last run.last + 1 - max first run.first

-- those of runs of this class
abbrev pub shared_by_class : Class → ℕ → ℕ → List (Run Class) → ℕ
shared_by_class class first last runs = sum_by (λ run. if same_class run.value class then shared first last run else 0) runs

-- How many addresses of a range are of which class. (this project's own)
use Rattle.std.specs.Prelude.{◌≡◌, ℕ, ◌+◌, ◌-◌, Bool, List, count_by}
use Rattle.std.specs.List.{range_with_len}
use Rattle.desk_who.specs.Runs.{AreRuns, Run}
use Rattle.page_data.specs.Class.{same_class}
use Rattle.page_data.specs.declared.class.Class.{Class}
use Rattle.page_data.specs.declared.class.Class.TheVariants.{Denied, ReadOnly, ReadWrite, RootKept}
use Rattle.page_data.specs.declared.counts.Counts.{Counts}

-- how many of the addresses from the first to the last pass a test
unfoldable pub count_within : (ℕ → Bool) → ℕ → ℕ → ℕ
count_within test first last = count_by test (range_with_len first (last + 1 - first))

-- how many of them are of this class
abbrev pub class_count : (ℕ → Class) → Class → ℕ → ℕ → ℕ
class_count class_at class first last = count_within (λ address. same_class (class_at address) class) first last

-- how many of them are of each class
pub record AreCounts (class_at : ℕ → Class) (first last : ℕ) (counts : Counts) : Type 0 where
  pub denied : counts.denied ≡ class_count class_at Denied first last
  pub read_only : counts.read_only ≡ class_count class_at ReadOnly first last
  pub read_write : counts.read_write ≡ class_count class_at ReadWrite first last
  pub root_kept : counts.root_kept ≡ class_count class_at RootKept first last

-- how many of them may mount something: those of each class but that of denial
abbrev pub granted_of : Counts → ℕ
granted_of counts = counts.read_only + counts.read_write + counts.root_kept

-- Given the runs of a function, how many addresses of a range are of each class.
abbrev pub AreCountsFrom : List (Run Class) → ℕ → ℕ → Counts → Type 0
AreCountsFrom runs first last counts = (class_at : ℕ → Class) → AreRuns class_at runs → AreCounts class_at first last counts

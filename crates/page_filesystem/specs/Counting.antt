-- How many addresses of some ranges are of which class. (this project's own)
use Rattle.std.specs.Prelude.{◌≡◌, ℕ, ◌+◌, List, ◌∷◌, [], sum_by}
use Rattle.desk_who.specs.Runs.{AreRuns, Run}
use Rattle.page_data.specs.Counts.{class_count}
use Rattle.page_data.specs.declared.class.Class.{Class}
use Rattle.page_data.specs.declared.class.Class.TheVariants.{Denied, ReadOnly, ReadWrite, RootKept}
use Rattle.page_data.specs.declared.counts.Counts.{Counts}
use Rattle.page_html.specs.Ranges.{Ends}

-- the addresses from the first to the last
abbrev pub between : ℕ → ℕ → Ends
between first last = record { first = first; last = last }

-- the ranges of addresses that are in no private network (RFC 1918): below 10.0.0.0, from 11.0.0.0 to 172.15.255.255, from 172.32.0.0
-- to 192.167.255.255, and from 192.169.0.0 on
abbrev pub outside_private : List Ends
outside_private = between 0 167772159 ∷ between 184549376 2886729727 ∷ between 2887778304 3232235519 ∷ between 3232301056 4294967295 ∷ []

-- how many addresses of ranges, which share none, are of a class
abbrev pub count_over : (ℕ → Class) → Class → List Ends → ℕ
count_over class_at class ranges = sum_by (λ range. class_count class_at class range.first range.last) ranges

-- how many of them are of each class
pub record AreCountsOver (class_at : ℕ → Class) (ranges : List Ends) (counts : Counts) : Type 0 where
  pub denied : counts.denied ≡ count_over class_at Denied ranges
  pub read_only : counts.read_only ≡ count_over class_at ReadOnly ranges
  pub read_write : counts.read_write ≡ count_over class_at ReadWrite ranges
  pub root_kept : counts.root_kept ≡ count_over class_at RootKept ranges

-- Given the runs of a function, how many addresses of some ranges are of each class.
abbrev pub AreCountsOverFrom : List (Run Class) → List Ends → Counts → Type 0
AreCountsOverFrom runs ranges counts = (class_at : ℕ → Class) → AreRuns class_at runs → AreCountsOver class_at ranges counts

-- both counts together
abbrev pub added : Counts → Counts → Counts
added counts others = record {
  denied = counts.denied + others.denied;
  read_only = counts.read_only + others.read_only;
  read_write = counts.read_write + others.read_write;
  root_kept = counts.root_kept + others.root_kept;
}

-- The most that a client may: at a place, on a file system, and on the whole site. (this project's own)
use Rattle.std.specs.Prelude.{◌≡◌, ℕ, ◌<◌, ◌≤◌, ◌^◌, Bool, true, List, Result}
use Rattle.desk_tables.specs.FileSystems.{fs_of}
use Rattle.desk_policy.specs.Policy.{Content}
use Rattle.desk_policy.specs.Verdict.{Grant, is_in, verdict_of}
use Rattle.desk_policy.specs.declared.verdict.Denial.{Denial}
use Rattle.desk_who.specs.Runs.{AreRuns, Run, run_value}
use Rattle.desk_who.specs.declared.runs.Run.{Run as KeptRun}
use Rattle.page_data.specs.Class.{class_of, most_of, rank_of}
use Rattle.page_data.specs.declared.class.Class.{Class}

-- a run of classes by value
abbrev pub class_run : KeptRun Class → Run Class
class_run run = run_value (λ class. class) run

-- Given the ranges of verdicts, the runs of what they come to.
abbrev pub AreClassesFrom : List (Run (Result Grant Denial)) → List (Run Class) → Type 0
AreClassesFrom ranges runs = (verdict_at : ℕ → Result Grant Denial) → AreRuns verdict_at ranges → AreRuns (λ address. class_of (verdict_at address)) runs

-- The most that a client may on some paths: no verdict on one of them comes to more, and the one on this path comes to it.
pub record IsMostOn (content : Content) (is_here : List (List ℕ) → Bool) (address : ℕ) (class : Class) : Type 0 where
  pub none_more : (path : List (List ℕ)) → is_here path ≡ true → rank_of (class_of (verdict_of content address path)) ≤ rank_of class
  pub path : List (List ℕ)
  pub here : is_here path ≡ true
  pub comes_to : class_of (verdict_of content address path) ≡ class

-- The runs of the most that clients may on some paths.
pub record AreClassesOn (content : Content) (is_here : List (List ℕ) → Bool) (runs : List (Run Class)) : Type 0 where
  pub class_at : ℕ → Class
  pub most : (address : ℕ) → address < 2 ^ 32 → IsMostOn content is_here address (class_at address)
  pub are : AreRuns class_at runs

-- Those of the most that clients may on the paths of a file system.
abbrev pub AreClassesIn : Content → ℕ → List (Run Class) → Type 0
AreClassesIn content fs runs = AreClassesOn content (λ path. is_in (fs_of content.table path) fs) runs

-- Those of the most that clients may on any path.
abbrev pub AreClassesOfSite : Content → List (Run Class) → Type 0
AreClassesOfSite content runs = AreClassesOn content (λ path. true) runs

-- Given the runs of two functions, those of the greater value of both.
abbrev pub AreMostOfBoth : List (Run Class) → List (Run Class) → List (Run Class) → Type 0
AreMostOfBoth runs others both =
    (class_at other_at : ℕ → Class) → AreRuns class_at runs → AreRuns other_at others → AreRuns (λ address. most_of (class_at address) (other_at address)) both

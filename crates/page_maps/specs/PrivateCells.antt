-- What the private contracts of cells cite.
use Rattle.std.specs.Prelude.{ℕ, ◌≤◌, nat_lt, Contains, List, fold, if◌then◌else◌}
use Rattle.std.specs.List.Sorted.{IsNonDecreasingBy}
use Rattle.desk_text.specs.Address.{number_of}
use Rattle.desk_who.specs.Runs.{HasValue}
use Rattle.desk_who.specs.declared.runs.Run.{Run as KeptRun}
use Rattle.page_data.specs.Class.{most_of, rank_of}
use Rattle.page_data.specs.Classes.{class_run}
use Rattle.page_data.specs.declared.class.Class.{Class}
use Rattle.page_data.specs.declared.class.Class.TheVariants.{Denied, RootKept}
use Rattle.page_maps.specs.declared.cells.Cell.{Cell}

-- one of the runs holds the address
pub record IsHeld (runs : List (KeptRun Class)) (address : ℕ) : Type 0 where
  pub run : KeptRun Class
  pub has : Contains runs run
  pub from : number_of run.first ≤ address
  pub to : address ≤ number_of run.last

-- runs ascend, give each of their addresses its class, and leave out no address from the first to the last
pub record TellClasses (class_at : ℕ → Class) (first last : ℕ) (runs : List (KeptRun Class)) : Type 0 where
  pub firsts : IsNonDecreasingBy (λ run. number_of run.first) runs
  pub lasts : IsNonDecreasingBy (λ run. number_of run.last) runs
  pub values : (run : KeptRun Class) → Contains runs run → HasValue class_at (class_run run)
  pub complete : (address : ℕ) → first ≤ address → address ≤ last → IsHeld runs address

-- and each of them has an address from the first to the last
pub record AreMet (class_at : ℕ → Class) (first last : ℕ) (runs : List (KeptRun Class)) : Type 0 where
  pub tell : TellClasses class_at first last runs
  pub begins : (run : KeptRun Class) → Contains runs run → number_of run.first ≤ last
  pub ends : (run : KeptRun Class) → Contains runs run → first ≤ number_of run.last

-- the less of two classes
abbrev pub least_of : Class → Class → Class
least_of class other = if nat_lt (rank_of other) (rank_of class) then other else class

-- a cell that has the addresses of one more run
abbrev pub with_run : Cell → KeptRun Class → Cell
with_run cell run = record { least = least_of cell.least run.value; most = most_of cell.most run.value }

-- the least and the most of the classes of runs
abbrev pub spread_of : List (KeptRun Class) → Cell
spread_of runs = fold with_run (record { least = RootKept; most = Denied }) runs

-- How far file systems reach: the most that an address may, and how many addresses may something. (this project's own)
use Rattle.std.specs.Prelude.{◌≡◌, ℕ, ◌-◌, ◌^◌, List, map}
use Rattle.std.specs.List.{fold}
use Rattle.desk_who.specs.Runs.{Run}
use Rattle.page_data.specs.Class.{most_of}
use Rattle.page_data.specs.Counts.{AreCountsFrom, granted_of}
use Rattle.page_data.specs.declared.class.Class.{Class}
use Rattle.page_data.specs.declared.class.Class.TheVariants.{Denied}
use Rattle.page_data.specs.declared.counts.Counts.{Counts}
use Rattle.page_maps.specs.Figures.{images_of}
use Rattle.page_summary.specs.declared.overview.Reach.{Reach}

-- the greatest class of runs
abbrev pub most_among : List (Run Class) → Class
most_among runs = fold most_of Denied (map (λ run. run.value) runs)

-- Given the runs of what addresses may, so many of all addresses may something.
pub record MaySomething (runs : List (Run Class)) (count : ℕ) : Type 0 where
  pub counts : Counts
  pub are : AreCountsFrom runs 0 (2 ^ 32 - 1) counts
  pub count_is : count ≡ granted_of counts

-- How far these runs reach, with the images of their maps.
pub record IsReachOf (runs : List (Run Class)) (maps : List (List ℕ)) (reach : Reach) : Type 0 where
  pub most : reach.most ≡ most_among runs
  pub maps_are : images_of reach.maps.now ≡ maps
  pub addresses : MaySomething runs reach.addresses

-- What the server grants to those of the ranges so far.
use Rattle.std.proofs.Common.{◌≡◌, ◌++◌, map, take}
use Rattle.desk_who.specs.Runs.{run_value}
use Rattle.desk_impact.specs.Places.{place_of}
use Rattle.page_data.specs.Opening as openings
use Rattle.page_places.specs.Openings.{opening_value}
use Rattle.page_places.specs.ListedOpenings.{opened_by}
use Rattle.page_places.proofs.listed_openings.push_opened.Given as goal

abbrev pub invariant-loop-run : goal.invariant-loop-run
invariant-loop-run l =
    map opening_value l.all.items ≡ map opening_value l.fn.all.items ++ map (λ run. opened_by (place_of l.place) (run_value openings.opening_value run)) (take l.run-index l.ranges)

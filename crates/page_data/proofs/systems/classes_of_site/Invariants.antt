-- The file systems so far.
use Rattle.std.proofs.Common.{ℕ, List, map, take}
use Rattle.std.specs.List.{AllZip}
use Rattle.desk_who.specs.Runs.{AreRuns}
use Rattle.page_data.specs.Classes.{class_run}
use Rattle.page_data.specs.PrivateClasses.{most_among}
use Rattle.page_data.specs.Systems.{SystemValue, system_value}
use Rattle.page_data.specs.declared.class.Class.{Class}
use Rattle.page_data.proofs.systems.classes_of_site.Given as goal

abbrev pub invariant-loop-system : goal.invariant-loop-system
invariant-loop-system l =
    (each : List (ℕ → Class)) → AllZip (λ class_at (system : SystemValue). AreRuns class_at system.classes) each (map system_value l.systems)
    → AreRuns (most_among (take l.system-index each)) (map class_run l.most.items)

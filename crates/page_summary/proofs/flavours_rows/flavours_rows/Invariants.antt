-- The rows so far.
use Rattle.std.proofs.Common.{◌≡◌, List, map, take}
use Rattle.desk_tables.specs.declared.filesystems.Mount.{Mount}
use Rattle.page_findings.specs.Flavours.{use_value}
use Rattle.page_summary.specs.FlavoursRows.{all_mentioned, row_of, row_value, systems_of}
use Rattle.page_summary.proofs.flavours_rows.flavours_rows.Given as goal

abbrev pub invariant-loop-place : goal.invariant-loop-place
invariant-loop-place l =
    (table : List Mount) → map all_mentioned l.mentions ≡ map (systems_of table) (map use_value l.uses)
    → map row_value l.rows.items ≡ map (λ one. row_of table (use_value one)) (take l.place l.uses)

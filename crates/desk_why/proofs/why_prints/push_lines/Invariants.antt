-- The lines so far are written.
use Rattle.std.proofs.Common.{◌≡◌, ◌++◌, map, take}
use Rattle.std.specs.List.{flat_map}
use Rattle.std.specs.String.{string_bytes}
use Rattle.desk_text.specs.Address.{number_of}
use Rattle.desk_why.specs.WhyPrints.{row_line}
use Rattle.desk_why.proofs.why_prints.push_lines.Given as goal

abbrev pub invariant-loop-row : goal.invariant-loop-row
invariant-loop-row l =
    string_bytes l.text ≡ string_bytes l.initial.text ++ flat_map (row_line l.asked.netgroups.now l.asked.hosts.now (number_of l.asked.address) l.asked.path.now l.named.origins.now l.named.line l.greatest) (take l.row-index (map (λ row. row.now) l.rows))

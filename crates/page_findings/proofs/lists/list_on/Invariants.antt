-- The lines that verdicts name at the addresses so far.
use Rattle.std.proofs.Common.{◌≡◌, map, take}
use Rattle.std.specs.List.{flat_map}
use Rattle.desk_text.specs.Address.{number_of}
use Rattle.desk_impact.specs.Sections.{section_value}
use Rattle.page_findings.specs.PrivateDeciding.{lines_between}
use Rattle.page_findings.proofs.lists.list_on.Given as goal

abbrev pub invariant-loop-address : goal.invariant-loop-address
invariant-loop-address l = l.lines.items ≡ flat_map (λ address. lines_between (number_of address) (number_of address) (map section_value l.sections)) (take l.address-index l.addresses)

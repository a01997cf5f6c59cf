-- What the private contracts of the sections cite.
use Rattle.std.specs.Prelude.{All, map}
use Rattle.page_findings.specs.Deciding.{AreInLineOrder, deciding_value}
use Rattle.page_findings.specs.Lines.{line_value}
use Rattle.page_data.specs.Laws.{IsSoundSite}
use Rattle.page_data.specs.Systems.{system_value}
use Rattle.page_maps.specs.Figures.{images_of}
use Rattle.page_summary.specs.Proposals.{proposal_value}
use Rattle.page_site.specs.FoundInSite.{Found, IsFound}
use Rattle.page_site.specs.declared.sections.Parts.{Parts}

-- what is found of a site, by value
abbrev pub parts_found : Parts → Found
parts_found parts = record {
  systems = map system_value parts.systems.now;
  reasons = parts.reasons.now;
  decided = map deciding_value parts.deciding.now;
  lines = map line_value parts.lines.now;
  maps = map images_of parts.maps.now;
  widening = map proposal_value parts.widening.now;
}

-- It is found of a sound policy, and the lines that decide are told in the order of those for which they do.
pub record CanBeWritten (parts : Parts) : Type 0 where
  pub sound : IsSoundSite parts.policy.now
  pub found : IsFound parts.policy.now (parts_found parts)
  pub order : All AreInLineOrder (map deciding_value parts.deciding.now)

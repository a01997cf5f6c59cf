-- What the private contracts of the page cite.
use Rattle.std.specs.Prelude.{All, List, map}
use Rattle.desk_core.specs.Head.{CanBeKept}
use Rattle.page_findings.specs.Deciding.{AreInLineOrder, DecidedFor, deciding_value}
use Rattle.page_findings.specs.Lines.{AreReasonsOfSite, LineValue}
use Rattle.page_data.specs.Laws.{IsSoundSite}
use Rattle.page_data.specs.Systems.{SystemValue}
use Rattle.page_maps.specs.Figures.{images_of}
use Rattle.page_summary.specs.Proposals.{proposal_value}
use Rattle.page_site.specs.SystemParts.{TellingValue}
use Rattle.page_site.specs.FoundInSite.{AreDecidedOfSite, AreSmallMaps, Found, Source}
use Rattle.page_site.specs.Given.{HasReadableText}
use Rattle.page_site.specs.Page.{IsSource}
use Rattle.page_site.specs.WideningProposals.{AreWidening}
use Rattle.page_site.specs.declared.page.FoundOfSite.{FoundOfSite}

-- what the page is made of is of a site, which is sound, and its texts are not too long to be read
pub record IsGiven (source : Source) : Type 0 where
  pub kept : All CanBeKept source.heads
  pub readable : All HasReadableText source.waiting
  pub is : IsSource source
  pub sound : IsSoundSite source.content

-- what is told of each file system is made of it, of these lines, and of these that decide
abbrev pub told_of : Source → List LineValue → List (List DecidedFor) → TellingValue
told_of source lines decided = record {
  content = source.content;
  heads = source.heads;
  waiting = source.waiting;
  lines = lines;
  decided = decided;
  openings = source.openings;
}

-- what is found of a site, with what is found of each file system, and the lines
abbrev pub found_by : List SystemValue → FoundOfSite → List LineValue → Found
found_by systems found lines = record {
  systems = systems;
  reasons = found.reasons.now;
  decided = map deciding_value found.deciding.now;
  lines = lines;
  maps = map images_of found.maps.now;
  widening = map proposal_value found.widening.now;
}

-- This is found beside the lines, given what is found of each file system.
pub record IsFoundOfSite (source : Source) (systems : List SystemValue) (found : FoundOfSite) : Type 0 where
  pub reasons : AreReasonsOfSite source.content found.reasons.now
  pub decided : AreDecidedOfSite source.content found.reasons.now (map deciding_value found.deciding.now)
  pub order : All AreInLineOrder (map deciding_value found.deciding.now)
  pub maps : AreSmallMaps source.content systems (map images_of found.maps.now)
  pub widening : AreWidening source.content source.waiting (map proposal_value found.widening.now)

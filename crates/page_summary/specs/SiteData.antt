-- What is given of a site, to make the overview of. (this project's own)
use Rattle.std.specs.Prelude.{◌≡◌, ◌+◌, length, map}
use Rattle.page_data.specs.Laws.{IsSoundSite}
use Rattle.page_data.specs.Systems.{AreSystems, system_value}
use Rattle.page_maps.specs.Figures.{images_of}
use Rattle.page_summary.specs.SystemRows.{SiteParts}
use Rattle.page_summary.specs.declared.system_rows.SystemsData.{SystemsData}

-- the same by value
abbrev pub site_parts : SystemsData → SiteParts
site_parts given = record {
  content = given.policy.now;
  systems = map system_value given.systems.now;
  reasons = given.reasons.now;
  heads = given.heads.now;
  proposals = given.proposals.now;
  maps = map images_of given.maps.now;
}

-- the policy is sound, each of its file systems has what is found of it, and each has some reasons and some maps
pub record HasParts (given : SystemsData) : Type 0 where
  pub sound : IsSoundSite given.policy.now
  pub systems : AreSystems given.policy.now (map system_value given.systems.now)
  pub reasons : length given.reasons.now ≡ length given.policy.now.table
  pub maps : length given.maps.now ≡ length given.policy.now.table + 1

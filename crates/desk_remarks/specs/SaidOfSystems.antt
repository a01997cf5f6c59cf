-- What is said of each file system. (this project's own)
use Rattle.std.specs.Prelude.{◌≡◌, ℕ, List, [], Option, None, Some}
use Rattle.std.specs.List.{AllZip}
use Rattle.desk_tables.specs.FileSystems.{fs_of}
use Rattle.desk_policy.specs.Policy.{Content, rows_of}
use Rattle.desk_idle.specs.Idle.{AreIdle}
use Rattle.desk_server.specs.RepeatedClients.{AreRepeatedClients}
use Rattle.desk_server.specs.WiderGrants.{AreWiderGrants}
use Rattle.desk_remarks.specs.declared.said_of_systems.Said.{Said}

-- just the lines of a file system that decide nothing, those to whose clients the server grants more, and those that have a client of
-- an earlier one
pub record IsSaidOf (content : Content) (fs : ℕ) (said : Said) : Type 0 where
  pub idle : AreIdle content fs said.idle
  pub wider : AreWiderGrants content fs said.wider
  pub repeated : AreRepeatedClients (rows_of content fs) said.repeated

-- nothing is said
pub record SaysNothing (said : Said) : Type 0 where
  pub idle : said.idle ≡ []
  pub wider : said.wider ≡ []
  pub repeated : said.repeated ≡ []

-- that is said of this file system, if there is one
abbrev pub IsSaidIn : Content → Option ℕ → Said → Type 0
IsSaidIn content None said = SaysNothing said
IsSaidIn content (Some fs) said = IsSaidOf content fs said

-- that is said of the file system of each mount point, one after the other
abbrev pub AreSaid : Content → List Said → Type 0
AreSaid content saids = AllZip (λ mount said. IsSaidIn content (fs_of content.table mount.path) said) content.table saids

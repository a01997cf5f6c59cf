-- What mountd(8) does otherwise than this desk, of each file system of a site. (this project's own, over mountd(8))
use Rattle.std.specs.Prelude.{◌≡◌, ℕ, ◌<◌, List, length, slice_index_or}
use Rattle.desk_policy.specs.Policy.{Content}
use Rattle.page_data.specs.Server.{AreServerFindings}
use Rattle.page_data.specs.declared.server.ServerFindings.{ServerFindings}

-- What is found of each file system, in the order of their table.
pub record AreServerOfSite (content : Content) (found : List ServerFindings) : Type 0 where
  pub count : length found ≡ length content.table
  pub each : (fs : ℕ) (default : ServerFindings) → fs < length content.table → AreServerFindings content fs (slice_index_or found fs default)

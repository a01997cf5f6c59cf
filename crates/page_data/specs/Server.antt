-- What is told of lines because mountd(8) does something else than this desk. (this project's own, over mountd(8))
use Rattle.std.specs.Prelude.{◌≡◌, ℕ, ◌++◌, List, Option, None, Some}
use Rattle.std.specs.Option.{option_map, option_to_list}
use Rattle.desk_policy.specs.Keys.{LineKey}
use Rattle.desk_policy.specs.Policy.{Content, rows_of}
use Rattle.desk_policy.specs.declared.row.Row.{Row}
use Rattle.desk_server.specs.RepeatedClients.{AreRepeatedClients, IsRepeatedClient, SharesClient}
use Rattle.desk_server.specs.WiderGrants.{AreWiderGrants, IsWiderAt, IsWiderGrant}
use Rattle.desk_server.specs.declared.repeated_client.RepeatedClient.{RepeatedClient as Repeated}
use Rattle.desk_server.specs.declared.wider_grant.WiderGrant.{WiderGrant}
use Rattle.page_data.specs.declared.reasons.Reason.{Reason}
use Rattle.page_data.specs.declared.reasons.Reason.TheVariants.{ServerGrantsMore, RepeatedClient}
use Rattle.page_data.specs.declared.server.ServerFindings.{ServerFindings}

-- just the lines of a file system where the server grants more, and just those that have a client of an earlier one
pub record AreServerFindings (content : Content) (fs : ℕ) (found : ServerFindings) : Type 0 where
  pub wider : AreWiderGrants content fs found.wider
  pub repeated : AreRepeatedClients (rows_of content fs) found.repeated

-- what the server grants more where a line is the first that is selected, or that it never does
abbrev pub IsWiderOf : Content → ℕ → ℕ → Option WiderGrant → Type 0
IsWiderOf content fs line None = (address : ℕ) → IsWiderAt content fs line address → ⊥
IsWiderOf content fs line (Some found) = (found.line ≡ line) × IsWiderGrant content fs found

-- the client of a line that an earlier one has, or that none has one
abbrev pub IsRepeatedOf : List Row → Row → Option Repeated → Type 0
IsRepeatedOf rows row None = (other : Row) (client : LineKey) → SharesClient rows row other client → ⊥
IsRepeatedOf rows row (Some found) = (found.line ≡ row.entry.line) × IsRepeatedClient rows found

-- both as reasons why a line stands out
abbrev pub server_reasons : Option WiderGrant → Option Repeated → List Reason
server_reasons wider repeated = option_to_list (option_map ServerGrantsMore wider) ++ option_to_list (option_map RepeatedClient repeated)

-- Why a line stands out by what the server does: since it grants more where the line is the first that is selected, and since an earlier
-- line has one of its clients.
pub record AreServerReasons (content : Content) (fs : ℕ) (row : Row) (reasons : List Reason) : Type 0 where
  pub wider : Option WiderGrant
  pub is_wider : IsWiderOf content fs row.entry.line wider
  pub repeated : Option Repeated
  pub is_repeated : IsRepeatedOf (rows_of content fs) row repeated
  pub are : reasons ≡ server_reasons wider repeated

-- Reasons why a line stands out, by value. (this project's own)
use Rattle.std.specs.Prelude.{ℕ, List, Option, map}
use Rattle.std.specs.Option.{option_copied}
use Rattle.desk_text.specs.declared.address.Addr.{Addr}
use Rattle.desk_server.specs.declared.wider_grant.WiderGrant.{WiderGrant}
use Rattle.page_data.specs.declared.lines.LineReasons.{LineReasons}
use Rattle.page_data.specs.declared.reasons.Reason.{Reason}
use Rattle.page_data.specs.declared.reasons.Reason.TheVariants.{ServerGrantsMore}

-- what the server grants more, with the path of the directory, wherever that is kept
pub record WiderValue : Type 0 where
  pub line : ℕ
  pub address : Addr
  pub other : ℕ
  pub directory : Option (List (List ℕ))

abbrev pub wider_value : WiderGrant → WiderValue
wider_value found = record { line = found.line; address = found.address; other = found.other; directory = option_copied found.directory }

-- a reason by value: what the server grants more, or another reason, which lends nothing
pub data ReasonValue : Type 0 where
  GrantsMore : WiderValue → ReasonValue
  Another : Reason → ReasonValue

abbrev pub reason_value : Reason → ReasonValue
reason_value (ServerGrantsMore found) = GrantsMore (wider_value found)
reason_value reason = Another reason

-- a line with its reasons, by value
pub record ReasonsValue : Type 0 where
  pub line : ℕ
  pub reasons : List ReasonValue

abbrev pub reasons_value : LineReasons → ReasonsValue
reasons_value one = record { line = one.line; reasons = map reason_value one.reasons }

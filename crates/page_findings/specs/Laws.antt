-- What the counts of a site's lines tell. (this project's own)
use Rattle.std.specs.Prelude.{◌≡◌, ◌↔◌, ℕ, ◌<◌, ◌^◌, true}
use Rattle.desk_policy.specs.Policy.{Content}
use Rattle.page_data.specs.Grants.{GrantsTo}
use Rattle.page_findings.specs.Lines.{IsLineOf, LineValue, grants}

-- a line of a file system grants something to this address
pub record GrantsSomething (content : Content) (fs line : ℕ) : Type 0 where
  pub address : ℕ
  pub is_address : address < 2 ^ 32
  pub granted : GrantsTo content fs line address

-- A line is counted among those that grant something exactly if some address is granted something by it.
abbrev pub CountedLinesGrant : Type 0
CountedLinesGrant = (content : Content) (line : LineValue) → IsLineOf content line → (grants line ≡ true) ↔ GrantsSomething content line.fs line.row.entry.line

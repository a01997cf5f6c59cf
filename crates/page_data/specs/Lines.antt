-- Why each line of a file system stands out. (this project's own)
use Rattle.std.specs.Prelude.{◌≡◌, ℕ, ◌∷◌, ◌++◌, [], All, Contains, List, map}
use Rattle.desk_policy.specs.Policy.{Content, rows_of}
use Rattle.desk_policy.specs.declared.row.Row.{Row}
use Rattle.desk_idle.specs.Idle.{DecidesNothing, IsNamed, MatchesNobody}
use Rattle.page_data.specs.Grants.{GrantsTo, HoldsOf}
use Rattle.page_data.specs.Reasons.{reasons_on}
use Rattle.page_data.specs.Server.{AreServerReasons}
use Rattle.page_data.specs.declared.lines.LineReasons.{LineReasons}
use Rattle.page_data.specs.declared.reasons.Reason.{Reason}
use Rattle.page_data.specs.declared.reasons.Reason.TheVariants.{NoClient, NeverDecides}

-- Why a line stands out: if it decides nothing, that alone, and whether it matches anybody; and else what its words and the number
-- of addresses say to which it grants something. Behind this stands what the server does otherwise, of either line.
pub record IsToldOf (content : Content) (fs : ℕ) (one : LineReasons) : Type 0 where
  pub row : Row
  pub has : Contains (rows_of content fs) row
  pub line : row.entry.line ≡ one.line
  pub count : ℕ
  pub counts : HoldsOf (GrantsTo content fs one.line) count
  pub own : List Reason
  pub nobody : DecidesNothing content fs one.line → MatchesNobody row → own ≡ NoClient ∷ []
  pub never : DecidesNothing content fs one.line → (MatchesNobody row → ⊥) → own ≡ NeverDecides ∷ []
  pub decides : IsNamed content fs one.line → own ≡ reasons_on row count
  pub server : List Reason
  pub are_server : AreServerReasons content fs row server
  pub reasons : one.reasons ≡ own ++ server

-- The lines of a file system, in their order, each with why it stands out.
pub record AreLineReasons (content : Content) (fs : ℕ) (found : List LineReasons) : Type 0 where
  pub lines : map (λ one. one.line) found ≡ map (λ row. row.entry.line) (rows_of content fs)
  pub each : All (IsToldOf content fs) found

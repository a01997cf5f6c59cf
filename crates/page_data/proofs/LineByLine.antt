-- Why a line stands out, by the number of addresses to which it grants something.
use Rattle.std.proofs.Common.{◌≡◌, ℕ, ◌++◌, ◌∙◌, Bool, List, true, false, cond, [], ◌∷◌, ap}
use Rattle.std.specs.Prelude.{◌==◌, Contains}
use Rattle.std.specs.Bool.{Decides}
use Rattle.std.proofs.lemmas.Bool.{eq-eqb, false_from_ne_true, ne_eqb}
use Rattle.desk_policy.specs.Policy.{Content, rows_of}
use Rattle.desk_policy.specs.declared.row.Row.{Row}
use Rattle.desk_idle.specs.Idle.{DecidesNothing, IsNamed, MatchesNobody}
use Rattle.page_data.specs.Grants.{GrantsTo, HoldsOf}
use Rattle.page_data.specs.Laws.{IsSound}
use Rattle.page_data.specs.Lines.{IsToldOf}
use Rattle.page_data.specs.PrivateLines.{reasons_by}
use Rattle.page_data.specs.Reasons.{reasons_on}
use Rattle.page_data.specs.Server.{AreServerReasons}
use Rattle.page_data.specs.declared.lines.LineReasons.{LineReasons}
use Rattle.page_data.specs.declared.reasons.Reason.{Reason}
use Rattle.page_data.specs.declared.reasons.Reason.TheVariants.{NoClient, NeverDecides}
use Rattle.page_data.proofs.GrantsNothing.{idle_lines_grant_nothing}

module _ (content : Content) (fs : ℕ) (sound : IsSound content fs) (row : Row) (has : Contains (rows_of content fs) row) (count : ℕ)
    (one : LineReasons) (line : row.entry.line ≡ one.line) (counts : HoldsOf (GrantsTo content fs one.line) count) (nobody : Bool) (decides : Decides nobody (MatchesNobody row)) where
  none : DecidesNothing content fs one.line → (count == 0) ≡ true
  none nothing = eq-eqb count 0 ((idle_lines_grant_nothing content fs one.line count sound counts).0 nothing)

  some : IsNamed content fs one.line → (count == 0) ≡ false
  some named = ne_eqb count 0 (λ is. (idle_lines_grant_nothing content fs one.line count sound counts).1 is named)

  pub told_of : (server : List Reason) → AreServerReasons content fs row server → one.reasons ≡ reasons_by row count nobody ++ server → IsToldOf content fs one
  told_of server served reasons = record {
    row = row;
    has = has;
    line = line;
    count = count;
    counts = counts;
    own = reasons_by row count nobody;
    nobody = λ nothing matches.
        ap (λ b. cond b (cond nobody (NoClient ∷ []) (NeverDecides ∷ [])) (reasons_on row count)) (none nothing) ∙ ap (λ b. cond b (NoClient ∷ []) (NeverDecides ∷ [])) (decides.1 matches);
    never = λ nothing matches.
        ap (λ b. cond b (cond nobody (NoClient ∷ []) (NeverDecides ∷ [])) (reasons_on row count)) (none nothing)
        ∙ ap (λ b. cond b (NoClient ∷ []) (NeverDecides ∷ [])) (false_from_ne_true nobody (λ is. matches (decides.0 is)));
    decides = λ named. ap (λ b. cond b (cond nobody (NoClient ∷ []) (NeverDecides ∷ [])) (reasons_on row count)) (some named);
    server = server;
    are_server = served;
    reasons = reasons;
  }

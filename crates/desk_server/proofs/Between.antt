-- Between starts nothing changes: what widens at an address widens at the last start before it.
use Rattle.std.proofs.Common.{◌≡◌, ◌∙◌, ℕ, zero, suc, ◌+◌, ◌<◌, ◌≤◌, ◌^◌, true, eqb, List, [], ◌∷◌, ap, arith, inl, inr, refl, subst, sym}
use Rattle.std.specs.Prelude.{slice_get}
use Rattle.std.specs.List.{AllByRecursion}
use Rattle.std.specs.Option.{option_map}
use Rattle.std.proofs.lemmas.Bool.{cases_Bool, or_right}
use Rattle.std.proofs.lemmas.List.Elements.{All-contains, All-from_recursion}
use Rattle.desk_text.specs.AddrSet.{is_among}
use Rattle.desk_policy.specs.Weights.{selected, weight_of}
use Rattle.desk_policy.specs.declared.row.Row.{Row}
use Rattle.desk_who.specs.Starts.{AreStarts, IsSteadyLine}
use Rattle.desk_idle.specs.Idle.{first_selected}
use Rattle.desk_idle.specs.Laws.{brings}
use Rattle.desk_idle.proofs.Steady.{selected_alike}
use Rattle.desk_server.specs.PrivateWiderGrants.{Widened}

-- the line matches two addresses alike
abbrev pub IsSame : ℕ → ℕ → Row → Type 0
IsSame address other row = weight_of row address ≡ weight_of row other

each : (P : Row → Type 0) → ((row : Row) → P row) → (rows : List Row) → AllByRecursion P rows
each P h [] = tt
each P h (row ∷ rows) = (h row, each P h rows)

both : (P Q R : Row → Type 0) → ((row : Row) → P row → Q row → R row) → (rows : List Row) → AllByRecursion P rows → AllByRecursion Q rows → AllByRecursion R rows
both P Q R h [] all other = tt
both P Q R h (row ∷ rows) all other = (h row all.0 other.0, both P Q R h rows all.1 other.1)

-- the last start before an address, or at it: all lines match alike there
pub record LastWeights (rows : List Row) (starts : List ℕ) (address : ℕ) : Type 0 where
  pub at : ℕ
  pub among : is_among at (0 ∷ starts) ≡ true
  pub before : at ≤ address
  pub same : AllByRecursion (IsSame address at) rows

module _ (rows : List Row) (starts : List ℕ) (are : AreStarts rows starts) where
  pub last_weights : (address : ℕ) → address < 2 ^ 32 → LastWeights rows starts address
  last_weights zero below = record { at = 0; among = refl; before = omega arith; same = each (IsSame 0 0) (λ row. refl) rows }
  last_weights (suc address) below =
      elim (cases_Bool (is_among (suc address) starts)) [
        | inl start ↦ record {
          at = suc address;
          among = or_right (eqb 0 (suc address)) (is_among (suc address) starts) start;
          before = omega arith;
          same = each (IsSame (suc address) (suc address)) (λ row. refl) rows;
        }
        | inr none ↦
            let last = last_weights address (omega arith) in
            let next : address + 1 ≡ suc address = omega arith in
            record {
              at = last.at;
              among = last.among;
              before = (let b = last.before in omega arith);
              same = both (IsSteadyLine starts) (IsSame address last.at) (IsSame (suc address) last.at)
                  (λ row steady same. sym (ap (weight_of row) next) ∙ steady address (subst (λ n. n < 2 ^ 32) (sym next) below) (ap (λ n. is_among n starts) next ∙ none) ∙ same) rows are.steady last.same;
            }
      ]

-- what is selected at an address
pub same_selected : (rows : List Row) (address other : ℕ) → AllByRecursion (IsSame address other) rows → selected rows address ≡ selected rows other
same_selected rows address other same = selected_alike address other rows same

pub same_widened : (rows : List Row) (address other : ℕ) → AllByRecursion (IsSame address other) rows → Widened rows address → Widened rows other
same_widened rows address other same w = record {
  row = w.row;
  weight = w.weight;
  widens = record {
    has = w.widens.has;
    matches = sym (All-contains (IsSame address other) rows w.row (All-from_recursion (IsSame address other) rows same) w.widens.has) ∙ w.widens.matches;
    names = w.widens.names;
    brought = ap (λ (ys : List Row). brings ys w.row) (sym (same_selected rows address other same)) ∙ w.widens.brought;
  };
}

pub same_first : (rows : List Row) (address other : ℕ) → AllByRecursion (IsSame address other) rows → first_selected rows address ≡ first_selected rows other
same_first rows address other same = ap (λ (ys : List Row). option_map (λ (row : Row). row.entry.line) (slice_get ys 0)) (same_selected rows address other same)

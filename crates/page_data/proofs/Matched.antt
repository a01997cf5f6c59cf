-- An address that a line matches.
use Rattle.std.proofs.Common.{◌≡◌, ◌<◌, ◌≤◌, ◌^◌, ◌∙◌, ℕ, cond, List, [], ◌∷◌, Option, Some, None, ap, arith, get_or, length, map, refl, subst, sym}
use Rattle.std.specs.Prelude.{IsSome}
use Rattle.std.proofs.lemmas.Bool.{cond-true, eq-eqb, or_left}
use Rattle.desk_text.specs.Address.{number_of}
use Rattle.desk_text.specs.AddrSet.{is_among}
use Rattle.desk_text.specs.declared.address.Addr.{Addr}
use Rattle.desk_exports.specs.declared.entry.Clients.{Clients}
use Rattle.desk_exports.specs.declared.entry.Clients.TheVariants.{Hosts}
use Rattle.desk_policy.specs.Weights.{name_weight, weight_by}
use Rattle.desk_policy.specs.declared.row.Row.{Row}
use Rattle.page_data.specs.PrivateLines.{IsFirstOf, IsMatchOf, IsOneOf}

pub named : (row : Row) (names : List (List ℕ)) → row.entry.clients ≡ Hosts names → (o : Option Addr) → IsFirstOf row.addrs o → IsMatchOf row o
named row names is None none = λ address below.
    ap (λ (w : Clients). weight_by w row.addrs address) is ∙ ap (λ (addresses : List ℕ). cond (is_among address addresses) (Some name_weight) None) none
named row names is (Some address) one = record {
  is_address = one.is_address;
  matches = subst IsSome (sym (ap (λ (w : Clients). weight_by w row.addrs (number_of address)) is ∙ cond-true (is_among (number_of address) row.addrs) (Some name_weight) None one.among)) refl;
}

pub first_among : (items : List Addr) (addresses : List ℕ) (number : ℕ) (other : Addr) → map number_of items ≡ addresses → 1 ≤ length items → number ≡ number_of (get_or items 0 other) → number < 2 ^ 32
    → IsOneOf addresses number
first_among [] addresses number other are some is below = absurd (omega arith)
first_among (first ∷ others) addresses number other are some is below = record {
  is_address = below;
  among = ap (is_among number) (sym are) ∙ or_left _ _ (eq-eqb (number_of first) number (sym is));
}

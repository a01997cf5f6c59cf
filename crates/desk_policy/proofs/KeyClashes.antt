-- The least clash of a line at one key, and at one address more.
use Rattle.std.proofs.Common.{◌≡◌, ◌≢◌, ◌⊎◌, ℕ, ◌<◌, ◌^◌, ◌||◌, Bool, true, false, cond, eqb, List, [], ◌∷◌, ◌++◌, Option, Some, None, ap, arith, inl, inr, length, refl, subst, sym, ◌∙◌}
use Rattle.std.specs.Prelude.{find, nat_lt, option_and_then, slice_get, unwrap_or}
use Rattle.std.specs.List.{position}
use Rattle.std.proofs.lemmas.Bool.{and_parts, cases_lt, cond-true, cond-false, eq-eqb, eqb-true, le-ltb, lt-ltb, or_cases, or_left, or_right, true≢false}
use Rattle.std.proofs.lemmas.List.Folds.{list_any-append}
use Rattle.desk_text.specs.Address.{number_of}
use Rattle.desk_text.specs.AddrSet.{is_among}
use Rattle.desk_text.specs.Network.{Block}
use Rattle.desk_exports.specs.declared.entry.Terms.{Terms}
use Rattle.desk_policy.specs.declared.first_lines.Clash.{Clash}
use Rattle.desk_policy.specs.declared.row.Row.{Row}
use Rattle.desk_policy.specs.Keys.{Everybody, Host, has_key, IsLineKey, is_everybody, is_host_among, is_network, least_of, LineKey, Network, same_block}
use Rattle.desk_policy.specs.PrivateFirstLines.{ClashesAt, earlier_clash, IsClashAmong, IsClashWith, IsUpTo, LeastClash}
use Rattle.desk_policy.proofs.Places.{found_there, there_or_past}

pub same_blocks : (net other : Block) → same_block net other ≡ true → net ≡ other
same_blocks net other e =
    let p = and_parts (eqb net.first other.first) (eqb net.prefix other.prefix) e in
    ap (λ (first : ℕ). let b : Block = record { first = first; prefix = net.prefix } in b) (eqb-true net.first other.first p.0)
    ∙ ap (λ (prefix : ℕ). let b : Block = record { first = other.first; prefix = prefix } in b) (eqb-true net.prefix other.prefix p.1)

pub only_network : (net : Block) (key : LineKey) → is_network net key ≡ true → key ≡ Network net
only_network net (Host address) e = absurd (true≢false (sym e))
only_network net (Network other) e = ap Network (sym (same_blocks net other e))
only_network net Everybody e = absurd (true≢false (sym e))

pub only_everybody : (key : LineKey) → is_everybody key ≡ true → key ≡ Everybody
only_everybody (Host address) e = absurd (true≢false (sym e))
only_everybody (Network other) e = absurd (true≢false (sym e))
only_everybody Everybody e = refl

-- the line at the place under a key, or past the lines if there is none, is the first that has the key
pub first_there : (earlier : List Row) (key : LineKey) (place : Option ℕ) → place ≡ position (has_key key) earlier
    → slice_get earlier (unwrap_or place (length earlier)) ≡ find (has_key key) earlier
first_there earlier key place is = there_or_past earlier place ∙ ap (option_and_then (slice_get earlier)) is ∙ found_there (has_key key) earlier

none_at : (terms : Terms) (address : ℕ) (first : Option Row) → IsClashWith terms address first None → (other : Row) → first ≡ Some other → terms ≢ other.entry.terms → ⊥
none_at terms address None h other e apart = cc
none_at terms address (Some x) h other e apart = let is : x ≡ other = cc in apart (h ∙ ap (λ (row : Row). row.entry.terms) is)

some_at : (terms : Terms) (address : ℕ) (first : Option Row) (found : Clash) → IsClashWith terms address first (Some found)
    → (other : Row) × (first ≡ Some other) × (terms ≢ other.entry.terms) × (found.line ≡ other.entry.line) × (number_of found.address ≡ address)
some_at terms address None found h = cc
some_at terms address (Some x) found h = (x, refl, h.0, h.1, h.2)

-- two first lines under one key are one
one_first : (earlier : List Row) (key : LineKey) (row other : Row) → find (has_key key) earlier ≡ Some row → find (has_key key) earlier ≡ Some other → row ≡ other
one_first earlier key row other e f = cc

module _ (earlier : List Row) (terms : Terms) (passes : LineKey → Bool) where
  -- at the one key that passes
  pub at_one_key : (key : LineKey) → IsLineKey key → passes key ≡ true → ((k : LineKey) → passes k ≡ true → k ≡ key)
      → (first : Option Row) → first ≡ find (has_key key) earlier → (address : ℕ) → address ≡ least_of key
      → (found : Option Clash) → IsClashWith terms address first found → IsClashAmong earlier terms passes found
  at_one_key key is_key has only first is address least None h =
      λ k o c. none_at terms address first h o (is ∙ ap (λ n. find (has_key n) earlier) (sym (only k c.has)) ∙ c.first) c.apart
  at_one_key key is_key has only first is address least (Some found) h =
      let s = some_at terms address first found h in
      record {
        key = key;
        other = s.0;
        clashes = record { is_key = is_key; has = has; first = sym is ∙ s.1; apart = s.2 };
        line_is = sym s.3;
        address_is = sym least ∙ sym s.4;
        least = λ k o c.
            let same : k ≡ key = only k c.has in
            let other : s.0 ≡ o = one_first earlier key s.0 o (sym is ∙ s.1) (ap (λ n. find (has_key n) earlier) (sym same) ∙ c.first) in
            inr (s.3 ∙ ap (λ (row : Row). row.entry.line) other, (let e = ap least_of same in omega (arith, s.4)));
      }

module _ (earlier : List Row) (terms : Terms) (xs : List ℕ) (address : ℕ) (small : address < 2 ^ 32) (above : (other : ℕ) → is_among other xs ≡ true → other < address)
    (first : Option Row) (is : first ≡ find (has_key (Host address)) earlier) where
  abbrev before : LineKey → Bool
  before = is_host_among xs

  abbrev with_it : LineKey → Bool
  with_it = is_host_among (xs ++ address ∷ [])

  among_more : (n : ℕ) → is_among n (xs ++ address ∷ []) ≡ (is_among n xs || (eqb address n || false))
  among_more n = list_any-append (λ other. eqb other n) xs (address ∷ [])

  -- a key that passes then did so before, or is the address
  cases : (key : LineKey) → with_it key ≡ true → (before key ≡ true) ⊎ (key ≡ Host address)
  cases (Host n) e =
      elim (or_cases _ _ (sym (among_more n) ∙ e)) [
        | inl h ↦ inl h
        | inr h ↦ elim (or_cases (eqb address n) false h) [
          | inl g ↦ inr (ap Host (sym (eqb-true address n g)))
          | inr g ↦ absurd (true≢false (sym g))
        ]
      ]
  cases (Network net) e = absurd (true≢false (sym e))
  cases Everybody e = absurd (true≢false (sym e))

  passes_more : (key : LineKey) → before key ≡ true → with_it key ≡ true
  passes_more (Host n) e = among_more n ∙ or_left (is_among n xs) _ e
  passes_more (Network net) e = absurd (true≢false (sym e))
  passes_more Everybody e = absurd (true≢false (sym e))

  -- a host before it is less
  least_less : (key : LineKey) → before key ≡ true → least_of key < address
  least_less (Host n) e = above n e
  least_less (Network net) e = absurd (true≢false (sym e))
  least_less Everybody e = absurd (true≢false (sym e))

  it_passes : with_it (Host address) ≡ true
  it_passes = among_more address ∙ or_right (is_among address xs) _ (or_left (eqb address address) false (eq-eqb address address refl))

  at_before : (key : LineKey) (other : Row) → before key ≡ true → ClashesAt earlier terms with_it key other → ClashesAt earlier terms before key other
  at_before key other e c = record { is_key = c.is_key; has = e; first = c.first; apart = c.apart }

  at_more : (key : LineKey) (other : Row) → ClashesAt earlier terms before key other → ClashesAt earlier terms with_it key other
  at_more key other c = record { is_key = c.is_key; has = passes_more key c.has; first = c.first; apart = c.apart }

  found_at : (key : LineKey) (other : Row) → key ≡ Host address → find (has_key key) earlier ≡ Some other → first ≡ Some other
  found_at key other e f = is ∙ ap (λ n. find (has_key n) earlier) (sym e) ∙ f

  stays : (found : Clash) → LeastClash earlier terms before found.line (number_of found.address)
      → ((key : LineKey) (other : Row) → key ≡ Host address → ClashesAt earlier terms with_it key other → IsUpTo found.line (number_of found.address) other.entry.line (least_of key))
      → LeastClash earlier terms with_it found.line (number_of found.address)
  stays found least here = record {
    key = least.key;
    other = least.other;
    clashes = at_more least.key least.other least.clashes;
    line_is = least.line_is;
    address_is = least.address_is;
    least = λ k o c. elim (cases k c.has) [
      | inl e ↦ least.least k o (at_before k o e c)
      | inr e ↦ here k o e c
    ];
  }

  -- the clash at the address is the least if each one before it is with a later line
  comes : (found : Clash) → IsClashWith terms address first (Some found)
      → ((key : LineKey) (other : Row) → ClashesAt earlier terms before key other → found.line < other.entry.line)
      → LeastClash earlier terms with_it found.line (number_of found.address)
  comes found h later =
      let s = some_at terms address first found h in
      record {
        key = Host address;
        other = s.0;
        clashes = record { is_key = small; has = it_passes; first = sym is ∙ s.1; apart = s.2 };
        line_is = sym s.3;
        address_is = sym s.4;
        least = λ k o c. elim (cases k c.has) as (λ _. IsUpTo found.line (number_of found.address) o.entry.line (least_of k)) [
          | inl e ↦ inl (later k o (at_before k o e c))
          | inr e ↦
              let other : s.0 ≡ o = (let f = found_at k o e c.first in let g = s.1 in cc) in
              inr (s.3 ∙ ap (λ (row : Row). row.entry.line) other, (let t = ap least_of e in omega (arith, s.4)))
        ];
      }

  pub one_more : (found other : Option Clash) → IsClashAmong earlier terms before found → IsClashWith terms address first other → IsClashAmong earlier terms with_it (earlier_clash found other)
  one_more None None none h = λ k o c. elim (cases k c.has) [
    | inl e ↦ none k o (at_before k o e c)
    | inr e ↦ none_at terms address first h o (found_at k o e c.first) c.apart
  ]
  one_more None (Some other) none h = comes other h (λ k o c. absurd (none k o c))
  one_more (Some found) None least h = stays found least (λ k o e c. absurd (none_at terms address first h o (found_at k o e c.first) c.apart))
  one_more (Some found) (Some other) least h =
      elim (cases_lt other.line found.line) as (λ _. IsClashAmong earlier terms with_it (cond (nat_lt other.line found.line) (Some other) (Some found))) [
        | inl lt ↦ subst (IsClashAmong earlier terms with_it) (sym (cond-true (nat_lt other.line found.line) (Some other) (Some found) (lt-ltb _ _ lt)))
            (comes other h (λ k o c. elim (least.least k o c) [ inl l ↦ omega arith | inr l ↦ (let e = l.0 in omega arith) ]))
        | inr ge ↦ subst (IsClashAmong earlier terms with_it) (sym (cond-false (nat_lt other.line found.line) (Some other) (Some found) (le-ltb _ _ ge)))
            (stays found least (λ k o e c.
            let s = some_at terms address first other h in
            let same : s.0 ≡ o = (let f = found_at k o e c.first in let g = s.1 in cc) in
            let line : other.line ≡ o.entry.line = s.3 ∙ ap (λ (row : Row). row.entry.line) same in
            let below : number_of found.address < address = (let l = least_less least.key least.clashes.has in let a = least.address_is in omega arith) in
            let t : least_of k ≡ address = ap least_of e in
            elim (cases_lt found.line other.line) as (λ _. IsUpTo found.line (number_of found.address) o.entry.line (least_of k)) [
              | inl lt ↦ inl (omega arith)
              | inr le ↦ inr (omega arith, omega arith)
            ]))
      ]

-- The least conflict of a line with earlier ones is the least clash of its keys with the first line under each.
use Rattle.std.proofs.Common.{◌≡◌, ◌≢◌, ℕ, zero, suc, ◌+◌, ◌-◌, ◌*◌, ◌/◌, ◌<◌, ◌≤◌, ◌^◌, Bool, true, cond, eqb, List, [], ◌∷◌, length, get_or, Option, Some, None, IsSome, sym, ◌∙◌, ap, subst, refl, inl, inr, ◌⊎◌, arith}
use Rattle.std.specs.Prelude.{find}
use Rattle.std.specs.Option.{is_some}
use Rattle.std.specs.List.{Contains, All, list_any}
use Rattle.std.proofs.lemmas.Bool.{cases_order, eqb-true, eq-eqb, ne_eqb, and_parts, and_from, cases_Bool, cond-true, cond-false, true≢false}
use Rattle.std.proofs.Math.Nat.{div-mul-le_self}
use Rattle.std.proofs.lemmas.Option.{cond_some}
use Rattle.std.proofs.lemmas.List.{get_or_default}
use Rattle.desk_text.specs.Network.{Block, IsBlock, block_of, block_size, covers}
use Rattle.desk_exports.specs.declared.entry.Clients.{Clients}
use Rattle.desk_exports.specs.declared.entry.Clients.TheVariants as clients
use Rattle.desk_policy.specs.declared.first_lines.Clash.{Clash}
use Rattle.desk_policy.specs.declared.row.Row.{Row}
use Rattle.desk_policy.specs.Policy.{AreAscending}
use Rattle.desk_policy.specs.Weights.{weight_by, weight_of}
use Rattle.desk_policy.specs.Contradiction.{Contradicts}
use Rattle.desk_policy.proofs.Conflicts.{Conflict, IsLeastConflict}
use Rattle.desk_policy.specs.Keys.{LineKey, Host, Network, Everybody, IsLineKey, key_weight, least_of, same_block, has_key_by, has_key, HasBlock}
use Rattle.desk_policy.specs.PrivateFirstLines.{ClashesAt, IsUpTo, IsLeastClash}
use Rattle.desk_policy.proofs.Contradicting.{line_of, lines_rise}

-- ---- keys and weights

same_blocks : (net other : Block) → same_block net other ≡ true → net ≡ other
same_blocks net other e =
    let p = and_parts (eqb net.first other.first) (eqb net.prefix other.prefix) e in
    ap (λ (first : ℕ). let b : Block = record { first = first; prefix = net.prefix } in b) (eqb-true net.first other.first p.0)
    ∙ ap (λ (prefix : ℕ). let b : Block = record { first = other.first; prefix = prefix } in b) (eqb-true net.prefix other.prefix p.1)

block_self : (net : Block) → same_block net net ≡ true
block_self net = and_from _ _ (eq-eqb net.first net.first refl) (eq-eqb net.prefix net.prefix refl)

-- a network without host bits that covers an address is that of its prefix
covers_only : (net : Block) (address : ℕ) → IsBlock net → covers net address ≡ true → net ≡ block_of address net.prefix
covers_only net address ok e =
    let s = block_size net.prefix in
    let q : address / s ≡ net.first / s = eqb-true (address / s) (net.first / s) e in
    ap (λ (first : ℕ). let b : Block = record { first = first; prefix = net.prefix } in b) (sym (ap (λ (n : ℕ). n * s) q ∙ ok.no_host_bits))

-- the one key that matches the address with a weight
abbrev pub key_for : ℕ → ℕ → LineKey
key_for address weight = cond (eqb weight 34) (Host address) (cond (eqb weight 0) Everybody (Network (block_of address (weight - 1))))

module _ (address : ℕ) where
  pub key_is : (key : LineKey) (weight : ℕ) → IsLineKey key → key_weight address key ≡ Some weight → key ≡ key_for address weight
  key_is (Host host) weight ok e =
      let s = cond_some (eqb host address) 34 weight e in
      ap Host (eqb-true host address s.0) ∙ sym (cond-true (eqb weight 34) (Host address) (cond (eqb weight 0) Everybody (Network (block_of address (weight - 1)))) (eq-eqb weight 34 (sym s.1)))
  key_is (Network net) weight ok e =
      let s = cond_some (covers net address) (net.prefix + 1) weight e in
      let before : net.prefix ≡ weight - 1 = (let w = s.1 in omega arith) in
      ap Network (covers_only net address ok s.0 ∙ ap (block_of address) before)
      ∙ sym (cond-false (eqb weight 34) (Host address) (cond (eqb weight 0) Everybody (Network (block_of address (weight - 1)))) (ne_eqb weight 34 (λ is. let w = s.1 in absurd (omega (arith, ok.prefix))))
      ∙ cond-false (eqb weight 0) Everybody (Network (block_of address (weight - 1))) (ne_eqb weight 0 (λ is. let w = s.1 in absurd (omega arith))))
  key_is Everybody weight ok e =
      let z : 0 ≡ weight = (let f : Some 0 ≡ Some weight = e in cc) in
      sym (cond-false (eqb weight 34) (Host address) (cond (eqb weight 0) Everybody (Network (block_of address (weight - 1)))) (ne_eqb weight 34 (λ is. absurd (omega arith)))
      ∙ cond-true (eqb weight 0) Everybody (Network (block_of address (weight - 1))) (eq-eqb weight 0 (sym z)))

  -- a line that matches the address has a key that does so with its weight
  pub key_of : (who : Clients) (addresses : List ℕ) (weight : ℕ) → address < 2 ^ 32 → HasBlock who → weight_by who addresses address ≡ Some weight
      → (key : LineKey) × IsLineKey key × (has_key_by who addresses key ≡ true) × (key_weight address key ≡ Some weight)
  key_of (clients.Hosts names) addresses weight small ok e =
      let s = cond_some (list_any (λ other. eqb other address) addresses) 34 weight e in
      (Host address, small, s.0, cond-true (eqb address address) (Some 34) None (eq-eqb address address refl) ∙ ap (λ (n : ℕ). Some n) s.1)
  key_of (clients.Net net noted) addresses weight small ok e = (Network net, ok, block_self net, e)
  key_of (clients.Net6 value) addresses weight small ok e = cc
  key_of clients.World addresses weight small ok e = (Everybody, tt, refl, e)

  -- a line with a key matches the address as the key does
  pub weight_from : (who : Clients) (addresses : List ℕ) (key : LineKey) (weight : ℕ) → has_key_by who addresses key ≡ true → key_weight address key ≡ Some weight → weight_by who addresses address ≡ Some weight
  weight_from (clients.Hosts names) addresses (Host host) weight h e =
      let s = cond_some (eqb host address) 34 weight e in
      cond-true (list_any (λ other. eqb other address) addresses) (Some 34) None (ap (λ n. list_any (λ other. eqb other n) addresses) (sym (eqb-true host address s.0)) ∙ h) ∙ ap (λ (n : ℕ). Some n) s.1
  weight_from (clients.Hosts names) addresses (Network net) weight h e = absurd (true≢false (sym h))
  weight_from (clients.Hosts names) addresses Everybody weight h e = absurd (true≢false (sym h))
  weight_from (clients.Net net noted) addresses (Host host) weight h e = absurd (true≢false (sym h))
  weight_from (clients.Net net noted) addresses (Network other) weight h e =
      ap (λ (n : Block). cond (covers n address) (Some (n.prefix + 1)) None) (same_blocks net other h) ∙ e
  weight_from (clients.Net net noted) addresses Everybody weight h e = absurd (true≢false (sym h))
  weight_from (clients.Net6 value) addresses key weight h e = absurd (true≢false (sym h))
  weight_from clients.World addresses (Host host) weight h e = absurd (true≢false (sym h))
  weight_from clients.World addresses (Network net) weight h e = absurd (true≢false (sym h))
  weight_from clients.World addresses Everybody weight h e = e

  -- a key that matches the address has no greater least address
  pub least_up_to : (key : LineKey) (weight : ℕ) → IsLineKey key → key_weight address key ≡ Some weight → least_of key ≤ address
  least_up_to (Host host) weight ok e = (let s = cond_some (eqb host address) 34 weight e in let h = eqb-true host address s.0 in omega arith)
  least_up_to (Network net) weight ok e =
      let s = cond_some (covers net address) (net.prefix + 1) weight e in
      let c = covers_only net address ok s.0 in
      let f : net.first ≡ address / block_size net.prefix * block_size net.prefix = ap (λ (b : Block). b.first) c in
      below net.first (address / block_size net.prefix * block_size net.prefix) f (div-mul-le_self address (block_size net.prefix))
    where
      below : (a b : ℕ) → a ≡ b → b ≤ address → a ≤ address
      below a b e l = omega arith
  least_up_to Everybody weight ok e = omega arith

-- a key matches its own least address
pub weight_at_least : (key : LineKey) → (weight : ℕ) × (key_weight (least_of key) key ≡ Some weight)
weight_at_least (Host host) = (34, cond-true (eqb host host) (Some 34) None (eq-eqb host host refl))
weight_at_least (Network net) = (net.prefix + 1, cond-true (covers net net.first) (Some (net.prefix + 1)) None (eq-eqb (net.first / block_size net.prefix) (net.first / block_size net.prefix) refl))
weight_at_least Everybody = (0, refl)

pub least_small : (key : LineKey) → IsLineKey key → least_of key < 2 ^ 32
least_small (Host host) ok = ok
least_small (Network net) ok = ok.first
least_small Everybody ok = omega arith

-- ---- the first line of a list that passes

pub some_is : (o : Option ℕ) → IsSome o → (w : ℕ) × (o ≡ Some w)
some_is None h = absurd (true≢false (sym h))
some_is (Some w) h = (w, refl)

pub first_up_to : (p : Row → Bool) (xs : List Row) (j : ℕ) (d : Row) → j < length xs → p (get_or xs j d) ≡ true
    → (i : ℕ) × (i ≤ j) × (find p xs ≡ Some (get_or xs i d)) × (p (get_or xs i d) ≡ true)
first_up_to p [] j d l e = absurd (omega arith)
first_up_to p (x ∷ xs) zero d l e = (0, omega arith, cond-true (p x) (Some x) (find p xs) e, e)
first_up_to p (x ∷ xs) (suc j) d l e =
    elim (cases_Bool (p x)) [
      | inl here ↦ (0, omega arith, cond-true (p x) (Some x) (find p xs) here, here)
      | inr later ↦ (let r = first_up_to p xs j d (omega arith) e in (suc r.0, (let h = r.1 in omega arith), cond-false (p x) (Some x) (find p xs) later ∙ r.2, r.3))
    ]

pub found_is : (p : Row → Bool) (xs : List Row) (x : Row) → find p xs ≡ Some x → Contains xs x × (p x ≡ true)
found_is p [] x e = cc
found_is p (y ∷ ys) x e =
    elim (cases_Bool (p y)) [
      | inl here ↦ (let is : y ≡ x = (let f : Some y ≡ Some x = sym (cond-true (p y) (Some y) (find p ys) here) ∙ e in cc) in ((0, omega arith, is), ap p (sym is) ∙ here))
      | inr later ↦ (let r = found_is p ys x (sym (cond-false (p y) (Some y) (find p ys) later) ∙ e) in ((suc r.0.0, (let h = r.0.1 in omega arith), r.0.2), r.1))
    ]

-- ---- by keys as by pairs

module _ (earlier : List Row) (row : Row) (ascending : AreAscending earlier) (consistent : (later before address : ℕ) → Contradicts earlier later before address → ⊥)
    (blocks : All (λ (other : Row). HasBlock other.entry.clients) earlier) (block : HasBlock row.entry.clients) where
  -- a clash is a conflict at the least address of its key
  clash_conflicts : (key : LineKey) (other : Row) → ClashesAt earlier row.entry.terms (λ k. has_key k row) key other → Contains earlier other × Conflict row other (least_of key)
  clash_conflicts key other c =
      let f = found_is (has_key key) earlier other c.first in
      let w = weight_at_least key in
      let own = weight_from (least_of key) row.entry.clients row.addrs key w.0 c.has w.1 in
      let its = weight_from (least_of key) other.entry.clients other.addrs key w.0 f.1 w.1 in
      (f.0, record { is_address = least_small key c.is_key; alike = (ap is_some own, its ∙ sym own); apart = c.apart })

  -- before a conflict, or at it, there is a clash
  conflict_clashes : (o : Row) (a : ℕ) → Contains earlier o → Conflict row o a
      → (key : LineKey) × (other : Row) × ClashesAt earlier row.entry.terms (λ k. has_key k row) key other × IsUpTo (line_of other) (least_of key) (line_of o) a
  conflict_clashes o a there c =
      let w = some_is (weight_of row a) c.alike.0 in
      let mine = key_of a row.entry.clients row.addrs w.0 c.is_address block w.1 in
      let its_block : HasBlock o.entry.clients = subst (λ (r : Row). HasBlock r.entry.clients) there.2 (blocks there.0 o there.1) in
      let its = key_of a o.entry.clients o.addrs w.0 c.is_address its_block (c.alike.1 ∙ w.1) in
      let one : its.0 ≡ mine.0 = key_is a its.0 w.0 its.1 its.3 ∙ sym (key_is a mine.0 w.0 mine.1 mine.3) in
      let has_it : has_key mine.0 (get_or earlier there.0 o) ≡ true = ap (has_key mine.0) there.2 ∙ ap (λ k. has_key k o) (sym one) ∙ its.2 in
      let first = first_up_to (has_key mine.0) earlier there.0 o there.1 has_it in
      let other = get_or earlier first.0 o in
      let il : first.0 < length earlier = (let h = first.1 in let k = there.1 in omega arith) in
      let order : (line_of other < line_of o) ⊎ (other ≡ o) = elim (cases_order first.0 there.0) [
        | inl same ↦ inr (ap (λ n. get_or earlier n o) same ∙ there.2)
        | inr s ↦ elim s [
          | inl lt ↦ inl (lines_rise earlier ascending first.0 there.0 other o lt there.1 (get_or_default earlier first.0 other o il) there.2)
          | inr gt ↦ absurd (let h = first.1 in omega arith)
        ]
      ] in
      let apart : row.entry.terms ≢ other.entry.terms = λ same. elim order [
        | inl lt ↦
            let v = weight_at_least mine.0 in
            consistent (line_of o) (line_of other) (least_of mine.0) (record {
              row = o;
              other = other;
              has_row = there;
              has_other = (first.0, il, get_or_default earlier first.0 other o il);
              is_later = refl;
              is_earlier = refl;
              order = lt;
              is_address = least_small mine.0 mine.1;
              alike = (
                  let x = weight_from (least_of mine.0) o.entry.clients o.addrs mine.0 v.0 (ap (λ k. has_key k o) (sym one) ∙ its.2) v.1 in
                  let y = weight_from (least_of mine.0) other.entry.clients other.addrs mine.0 v.0 first.3 v.1 in
                  (ap is_some x, y ∙ sym x));
              apart = λ same2. c.apart (same ∙ sym same2);
            })
        | inr is ↦ c.apart (same ∙ ap (λ (r : Row). r.entry.terms) is)
      ] in (
        mine.0,
        other,
        record { is_key = mine.1; has = mine.2; first = first.2; apart = apart },
        elim order [
          | inl lt ↦ inl lt
          | inr is ↦ inr (ap line_of is, least_up_to a mine.0 w.0 mine.1 mine.3)
        ],
      )

  up_to_up_to : (l a m b n c : ℕ) → IsUpTo l a m b → IsUpTo m b n c → IsUpTo l a n c
  up_to_up_to l a m b n c (inl x) (inl y) = inl (omega arith)
  up_to_up_to l a m b n c (inl x) (inr y) = inl (let h = y.0 in omega arith)
  up_to_up_to l a m b n c (inr x) (inl y) = inl (let h = x.0 in omega arith)
  up_to_up_to l a m b n c (inr x) (inr y) = inr (x.0 ∙ y.0, (let h = x.1 in let k = y.1 in omega arith))

  pub by_keys : (found : Option Clash) → IsLeastClash earlier row found → IsLeastConflict earlier row found
  by_keys None none = λ o a there c. (let r = conflict_clashes o a there c in none r.0 r.1 r.2)
  by_keys (Some found) least =
      let c = clash_conflicts least.key least.other least.clashes in
      record {
        other = least.other;
        has_other = c.0;
        line_is = least.line_is;
        conflict = subst (λ a. Conflict row least.other a) least.address_is c.1;
        least = λ o a there conflict. (let r = conflict_clashes o a there conflict in up_to_up_to _ _ _ _ _ _ (least.least r.0 r.1 r.2) r.3);
      }

-- Where a line for a network or for everybody is selected, the same lines are selected with it.
use Rattle.std.proofs.Common.{◌≡◌, ◌∙◌, ℕ, ◌+◌, ◌<◌, ◌≤◌, ◌^◌, Bool, true, cond, eqb, List, [], ◌∷◌, Option, Some, None, IfSome, ap, arith, inl, inr, refl, sym}
use Rattle.std.specs.Prelude.{filter}
use Rattle.std.specs.List.{All, Contains, list_all, list_any}
use Rattle.std.proofs.lemmas.Bool.{and_from, and_parts, cond-true, eq-eqb, eqb-true, leb-true, or_cases, true≢false}
use Rattle.std.proofs.lemmas.List.Elements.{All-contains, filter_passes}
use Rattle.std.proofs.lemmas.List.Folds.{list_any_at}
use Rattle.std.proofs.lemmas.Option.{cond_some}
use Rattle.desk_text.specs.Network.{Block, covers}
use Rattle.desk_exports.specs.declared.entry.Clients.{Clients}
use Rattle.desk_exports.specs.declared.entry.Clients.TheVariants as clients
use Rattle.desk_policy.specs.Keys.{Everybody, HasBlock, Host, IsLineKey, LineKey, LinesAreSelectedByKeys, Network, has_key, has_key_by, is_used, key_weight, same_block}
use Rattle.desk_policy.specs.Weights.{is_at_most, is_greatest, selected, weight_by, weight_of}
use Rattle.desk_policy.specs.declared.row.Row.{Row}
use Rattle.desk_idle.specs.PrivateMarks.{has_one_key}

-- ---- weights of keys

same_blocks : (net other : Block) → same_block net other ≡ true → net ≡ other
same_blocks net other e =
    let p = and_parts (eqb net.first other.first) (eqb net.prefix other.prefix) e in
    ap (λ (first : ℕ). let b : Block = record { first = first; prefix = net.prefix } in b) (eqb-true net.first other.first p.0)
    ∙ ap (λ (prefix : ℕ). let b : Block = record { first = other.first; prefix = prefix } in b) (eqb-true net.prefix other.prefix p.1)

-- a line with a key matches the address as the key does
weight_from : (address : ℕ) (who : Clients) (addresses : List ℕ) (key : LineKey) (weight : ℕ) → has_key_by who addresses key ≡ true → key_weight address key ≡ Some weight → weight_by who addresses address ≡ Some weight
weight_from address (clients.Hosts names) addresses (Host host) weight h e =
    let s = cond_some (eqb host address) 34 weight e in
    cond-true (list_any (λ other. eqb other address) addresses) (Some 34) None (ap (λ n. list_any (λ other. eqb other n) addresses) (sym (eqb-true host address s.0)) ∙ h) ∙ ap (λ (n : ℕ). Some n) s.1
weight_from address (clients.Hosts names) addresses (Network net) weight h e = absurd (true≢false (sym h))
weight_from address (clients.Hosts names) addresses Everybody weight h e = absurd (true≢false (sym h))
weight_from address (clients.Net net noted) addresses (Host host) weight h e = absurd (true≢false (sym h))
weight_from address (clients.Net net noted) addresses (Network other) weight h e =
    ap (λ (n : Block). cond (covers n address) (Some (n.prefix + 1)) None) (same_blocks net other h) ∙ e
weight_from address (clients.Net net noted) addresses Everybody weight h e = absurd (true≢false (sym h))
weight_from address (clients.Net6 value) addresses key weight h e = absurd (true≢false (sym h))
weight_from address clients.World addresses (Host host) weight h e = absurd (true≢false (sym h))
weight_from address clients.World addresses (Network net) weight h e = absurd (true≢false (sym h))
weight_from address clients.World addresses Everybody weight h e = e

-- the one key of a line, and the weight of it
pub record OneKey (who : Clients) (addresses : List ℕ) : Type 0 where
  pub key : LineKey
  pub is_key : IsLineKey key
  pub has : has_key_by who addresses key ≡ true
  pub weighs : (address : ℕ) → key_weight address key ≡ weight_by who addresses address

one_key : (who : Clients) (addresses : List ℕ) → HasBlock who → has_one_key who ≡ true → OneKey who addresses
one_key (clients.Hosts names) addresses block e = absurd (true≢false (sym e))
one_key (clients.Net net noted) addresses block e = record {
  key = Network net;
  is_key = block;
  has = and_from (eqb net.first net.first) (eqb net.prefix net.prefix) (eq-eqb net.first net.first refl) (eq-eqb net.prefix net.prefix refl);
  weighs = λ address. refl;
}
one_key (clients.Net6 value) addresses block e = absurd (true≢false (sym e))
one_key clients.World addresses block e = record { key = Everybody; is_key = tt; has = refl; weighs = λ address. refl }

-- ---- the greatest weight

-- a line has the greatest weight at an address
pub record Weighs (rows : List Row) (address : ℕ) (row : Row) : Type 0 where
  pub weight : ℕ
  pub is : weight_of row address ≡ Some weight
  pub most : list_all (λ other. is_at_most (weight_of other address) weight) rows ≡ true

weighs_by : (rows : List Row) (address : ℕ) (row : Row) (o : Option ℕ) → weight_of row address ≡ o → is_greatest rows address o ≡ true → Weighs rows address row
weighs_by rows address row None is e = absurd (true≢false (sym e))
weighs_by rows address row (Some weight) is e = record { weight = weight; is = is; most = e }

pub weighs : (rows : List Row) (address : ℕ) (row : Row) → Contains (selected rows address) row → Weighs rows address row
unfolding selected
weighs rows address row has =
    let test : Row → Bool = λ other. is_greatest rows address (weight_of other address) in
    weighs_by rows address row (weight_of row address) refl (All-contains (λ (other : Row). test other ≡ true) (filter test rows) row (filter_passes test rows) has)

at_most_is : (o : Option ℕ) (weight other : ℕ) → is_at_most o weight ≡ true → o ≡ Some other → other ≤ weight
at_most_is None weight other e is = let wrong : None ≡ Some other = is in cc
at_most_is (Some own) weight other e is = let same : own ≡ other = (let f : Some own ≡ Some other = is in cc) in let le = leb-true own weight e in omega arith

-- of lines that all have at most this weight, one with a key does not match with more than that
no_more : (rows : List Row) (address weight : ℕ) (key : LineKey) (other : ℕ) → list_all (λ row. is_at_most (weight_of row address) weight) rows ≡ true → list_any (has_key key) rows ≡ true
    → key_weight address key ≡ Some other → other ≤ weight
no_more [] address weight key other most used e = absurd (true≢false (sym used))
no_more (row ∷ rows) address weight key other most used e =
    let s = and_parts _ _ most in
    elim (or_cases (has_key key row) (list_any (has_key key) rows) used) [
      | inl here ↦ at_most_is (weight_of row address) weight other s.0 (weight_from address row.entry.clients row.addrs key other here e)
      | inr later ↦ no_more rows address weight key other s.1 later e
    ]

if_some_by : (o : Option ℕ) (P : ℕ → Type 0) → ((w : ℕ) → o ≡ Some w → P w) → IfSome o P
if_some_by None P h = tt
if_some_by (Some w) P h = h w refl

module _ (law : LinesAreSelectedByKeys) (rows : List Row) (blocks : All (λ (row : Row). HasBlock row.entry.clients) rows) (row : Row) (has : Contains rows row) (one : has_one_key row.entry.clients ≡ true) where
  own : OneKey row.entry.clients row.addrs
  own = one_key row.entry.clients row.addrs (All-contains (λ (r : Row). HasBlock r.entry.clients) rows row blocks has) one

  used : is_used own.key rows ≡ true
  used = list_any_at (has_key own.key) rows has.0 row has.1 (ap (has_key own.key) has.2 ∙ own.has)

  by_key : (address : ℕ) → address < 2 ^ 32 → Contains (selected rows address) row → selected rows address ≡ filter (has_key own.key) rows
  by_key address below chosen =
      let w = weighs rows address row chosen in
      (law rows address below blocks).some own.key (record {
        weight = w.weight;
        is_key = own.is_key;
        used = used;
        matches = own.weighs address ∙ w.is;
        most = λ other is_key is_used. if_some_by (key_weight address other) (λ v. v ≤ w.weight) (λ v e. no_more rows address w.weight other v w.most is_used e);
      })

  -- where the line is selected, the same lines are
  pub same_lines : (address other : ℕ) → address < 2 ^ 32 → other < 2 ^ 32 → Contains (selected rows address) row → Contains (selected rows other) row → selected rows address ≡ selected rows other
  same_lines address other below below' chosen chosen' = by_key address below chosen ∙ sym (by_key other below' chosen')

-- Where a line for a network or for everybody is the first that is selected, the same lines widen.
use Rattle.std.proofs.Common.{◌≡◌, ◌∙◌, ℕ, ◌+◌, ◌-◌, ◌*◌, ◌/◌, ◌<◌, ◌≤◌, ◌^◌, true, List, Option, Some, None, ap, arith, sym}
use Rattle.std.specs.List.{All, Contains}
use Rattle.std.proofs.lemmas.Bool.{cond-true, eq-eqb, eqb-true, leb-true, true≢false}
use Rattle.std.proofs.lemmas.List.Elements.{All-contains}
use Rattle.std.proofs.lemmas.Nat.{pow-add}
use Rattle.std.proofs.lemmas.Option.{cond_some}
use Rattle.std.proofs.Math.Nat.{div-div-eq-div-mul}
use Rattle.desk_text.specs.AddrSet.{is_among}
use Rattle.desk_text.specs.Network.{Block, IsBlock, block_size, covers}
use Rattle.desk_exports.specs.declared.entry.Clients.{Clients}
use Rattle.desk_exports.specs.declared.entry.Clients.TheVariants as clients
use Rattle.desk_policy.specs.Keys.{HasBlock, LinesAreSelectedByKeys}
use Rattle.desk_policy.specs.Weights.{is_at_most, name_weight, selected, weight_by, weight_of}
use Rattle.desk_policy.specs.declared.row.Row.{Row}
use Rattle.desk_idle.specs.Laws.{brings}
use Rattle.desk_idle.specs.PrivateMarks.{has_one_key}
use Rattle.desk_idle.proofs.OneKey.{same_lines, weighs}
use Rattle.desk_idle.proofs.Matching.{all_of}
use Rattle.desk_server.specs.PrivateWiderGrants.{Widened}

-- ---- networks

-- addresses of one network are in one wider network
same_wider : (prefix other address another : ℕ) → prefix ≤ other → other ≤ 32 → address / block_size other ≡ another / block_size other → address / block_size prefix ≡ another / block_size prefix
same_wider prefix other address another le few same =
    let bits : (32 - other) + (other - prefix) ≡ 32 - prefix = omega arith in
    let size : block_size other * 2 ^ (other - prefix) ≡ block_size prefix = sym (pow-add 2 (32 - other) (other - prefix)) ∙ ap (λ (n : ℕ). 2 ^ n) bits in
    ap (λ (n : ℕ). address / n) (sym size) ∙ sym (div-div-eq-div-mul address (block_size other) (2 ^ (other - prefix)))
    ∙ ap (λ (n : ℕ). n / 2 ^ (other - prefix)) same ∙ div-div-eq-div-mul another (block_size other) (2 ^ (other - prefix)) ∙ ap (λ (n : ℕ). another / n) size

-- a network covers what a narrower one does that has an address in common with it
nested : (net inner : Block) (address other : ℕ) → net.prefix ≤ inner.prefix → inner.prefix ≤ 32 → covers net address ≡ true → covers inner address ≡ true → covers inner other ≡ true → covers net other ≡ true
nested net inner address other le few own here there =
    let a = eqb-true (address / block_size net.prefix) (net.first / block_size net.prefix) own in
    let b = eqb-true (address / block_size inner.prefix) (inner.first / block_size inner.prefix) here in
    let c = eqb-true (other / block_size inner.prefix) (inner.first / block_size inner.prefix) there in
    eq-eqb (other / block_size net.prefix) (net.first / block_size net.prefix) (same_wider net.prefix inner.prefix other address le few (c ∙ sym b) ∙ a)

-- ---- lines

some_same : (a b : ℕ) → Some a ≡ Some b → a ≡ b
some_same a b e = cc

module _ (address other : ℕ) where
  by_network : (who : Clients) (addresses : List ℕ) (weight : ℕ) (inner : Block) → 0 < weight → weight ≤ inner.prefix + 1 → IsBlock inner → covers inner address ≡ true → covers inner other ≡ true
      → weight_by who addresses address ≡ Some weight → weight_by who addresses other ≡ Some weight
  by_network (clients.Hosts names) addresses weight inner names_it le block here there e =
      let s = cond_some (is_among address addresses) name_weight weight e in
      absurd (let same : 34 ≡ weight = s.1 in let few = block.prefix in omega arith)
  by_network (clients.Net net noted) addresses weight inner names_it le block here there e =
      let s = cond_some (covers net address) (net.prefix + 1) weight e in
      cond-true (covers net other) (Some (net.prefix + 1)) None (nested net inner address other (let same = s.1 in omega arith) block.prefix s.0 here there) ∙ ap (λ (n : ℕ). Some n) s.1
  by_network (clients.Net6 value) addresses weight inner names_it le block here there e = let wrong : None ≡ Some weight = e in cc
  by_network clients.World addresses weight inner names_it le block here there e = absurd (let same : 0 ≡ weight = some_same 0 weight e in omega arith)

  -- where a line with one key has at least the weight of another, that one matches wherever this one does
  carries : (key : Clients) (own : List ℕ) (greatest there : ℕ) → HasBlock key → has_one_key key ≡ true → weight_by key own address ≡ Some greatest → weight_by key own other ≡ Some there
      → (who : Clients) (addresses : List ℕ) (weight : ℕ) → 0 < weight → weight ≤ greatest → weight_by who addresses address ≡ Some weight → weight_by who addresses other ≡ Some weight
  carries (clients.Hosts names) own greatest there block one e f who addresses weight names_it le g = absurd (true≢false (sym one))
  carries (clients.Net net noted) own greatest there block one e f who addresses weight names_it le g =
      let s = cond_some (covers net address) (net.prefix + 1) greatest e in
      let t = cond_some (covers net other) (net.prefix + 1) there f in
      by_network who addresses weight net names_it (let same = s.1 in omega arith) block s.0 t.0 g
  carries (clients.Net6 value) own greatest there block one e f who addresses weight names_it le g = absurd (true≢false (sym one))
  carries clients.World own greatest there block one e f who addresses weight names_it le g = absurd (let same : 0 ≡ greatest = some_same 0 greatest e in omega arith)

at_most_is : (o : Option ℕ) (weight other : ℕ) → is_at_most o weight ≡ true → o ≡ Some other → other ≤ weight
at_most_is None weight other e is = let wrong : None ≡ Some other = is in cc
at_most_is (Some own) weight other e is = let same : own ≡ other = some_same own other is in let le = leb-true own weight e in omega arith

module _ (law : LinesAreSelectedByKeys) (rows : List Row) (blocks : All (λ (row : Row). HasBlock row.entry.clients) rows) (row : Row) (has : Contains rows row) (one : has_one_key row.entry.clients ≡ true) where
  -- where something widens that a line with one key is selected with, so it does wherever that line is selected
  pub same_wide : (address other : ℕ) → address < 2 ^ 32 → other < 2 ^ 32 → Contains (selected rows address) row → Contains (selected rows other) row → Widened rows address → Widened rows other
  same_wide address other below below' chosen chosen' wide =
      let here = weighs rows address row chosen in
      let there = weighs rows other row chosen' in
      let block = All-contains (λ (r : Row). HasBlock r.entry.clients) rows row blocks has in
      let w = wide.widens in
      let le = at_most_is (weight_of wide.row address) here.weight wide.weight (all_of (λ (r : Row). is_at_most (weight_of r address) here.weight) rows wide.row here.most w.has) w.matches in
      record {
        row = wide.row;
        weight = wide.weight;
        widens = record {
          has = w.has;
          matches = carries address other row.entry.clients row.addrs here.weight there.weight block one here.is there.is wide.row.entry.clients wide.row.addrs wide.weight w.names le w.matches;
          names = w.names;
          brought = ap (λ (ys : List Row). brings ys wide.row) (sym (same_lines law rows blocks row has one address other below below' chosen chosen')) ∙ w.brought;
        };
      }

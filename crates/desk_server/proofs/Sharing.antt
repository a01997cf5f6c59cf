-- The first line that has one of some clients, key by key.
use Rattle.std.proofs.Common.{◌≡◌, ◌⊎◌, ℕ, suc, ◌<◌, ◌≤◌, ◌||◌, ◌++◌, ◌∙◌, Bool, true, false, cond, eqb, List, [], ◌∷◌, Option, Some, None, ap, arith, inl, inr, refl, subst, sym}
use Rattle.std.specs.Prelude.{filter, nat_lt, slice_get}
use Rattle.std.specs.List.{All, Contains}
use Rattle.std.proofs.lemmas.Bool.{and_from, cases_Bool, cases_lt, cond-true, cond-false, eq-eqb, eqb-true, le-ltb, lt-ltb, or_cases, or_left, or_right, true≢false}
use Rattle.std.proofs.lemmas.List.Elements.{All-cons, All-contains, All-nil, All-weaker}
use Rattle.std.proofs.lemmas.List.Folds.{list_any-append}
use Rattle.desk_text.specs.Address.{number_of}
use Rattle.desk_text.specs.AddrSet.{is_among}
use Rattle.desk_text.specs.declared.address.Addr.{Addr}
use Rattle.desk_policy.specs.Keys.{Everybody, Host, LineKey, Network, has_key, is_host_among, least_of}
use Rattle.desk_policy.specs.Policy.{AreAscending}
use Rattle.desk_policy.specs.declared.row.Row.{Row}
use Rattle.desk_policy.proofs.KeyClashes.{only_everybody, only_network}
use Rattle.desk_index.specs.Keys.{lines_with, numbers}
use Rattle.desk_server.specs.PrivateRepeatedClients.{HasClient, IsFirstSharing, IsSharing, earlier_of, is_key}
use Rattle.desk_server.specs.declared.repeated_client.Sharing.{Sharing}

-- ---- the first line under a key

-- of the lines that pass this one is the first, by its number
pub record FirstPasses (passes : Row → Bool) (rows : List Row) (line : ℕ) : Type 0 where
  pub row : Row
  pub has : Contains rows row
  pub passed : passes row ≡ true
  pub number : row.entry.line ≡ line
  pub least : All (λ (other : Row). passes other ≡ true → line ≤ other.entry.line) rows

others_ascend : (row : Row) (rows : List Row) → AreAscending (row ∷ rows) → AreAscending rows
others_ascend row rows up i j d less below = up (suc i) (suc j) d (omega arith) (omega arith)

above : (row : Row) (rows : List Row) → AreAscending (row ∷ rows) → All (λ (later : Row). row.entry.line < later.entry.line) rows
above row rows up k d inside = up 0 (suc k) d (omega arith) (omega arith)

module _ (passes : Row → Bool) where
  taken : (row : Row) (rows : List Row) → passes row ≡ true → slice_get (numbers (filter passes (row ∷ rows))) 0 ≡ Some row.entry.line
  taken row rows t = ap (λ b. slice_get (numbers (cond b (row ∷ filter passes rows) (filter passes rows))) 0) t

  skipped : (row : Row) (rows : List Row) → passes row ≡ false → slice_get (numbers (filter passes (row ∷ rows))) 0 ≡ slice_get (numbers (filter passes rows)) 0
  skipped row rows f = ap (λ b. slice_get (numbers (cond b (row ∷ filter passes rows) (filter passes rows))) 0) f

  pub none_passes : (rows : List Row) → None ≡ slice_get (numbers (filter passes rows)) 0 → All (λ (other : Row). passes other ≡ true → ⊥) rows
  none_passes [] e = All-nil (λ (other : Row). passes other ≡ true → ⊥)
  none_passes (row ∷ rows) e =
      elim (cases_Bool (passes row)) [
        | inl t ↦ (let wrong : None ≡ Some row.entry.line = e ∙ taken row rows t in cc)
        | inr f ↦ All-cons (λ (other : Row). passes other ≡ true → ⊥) row rows (λ t. true≢false (sym t ∙ f)) (none_passes rows (e ∙ skipped row rows f))
      ]

  pub first_passes : (rows : List Row) (line : ℕ) → AreAscending rows → Some line ≡ slice_get (numbers (filter passes rows)) 0 → FirstPasses passes rows line
  first_passes [] line up e = let wrong : Some line ≡ None = e in cc
  first_passes (row ∷ rows) line up e =
      elim (cases_Bool (passes row)) [
        | inl t ↦
            let same : line ≡ row.entry.line = (let f : Some line ≡ Some row.entry.line = e ∙ taken row rows t in cc) in
            record {
              row = row;
              has = (0, omega arith, refl);
              passed = t;
              number = sym same;
              least = All-cons (λ (other : Row). passes other ≡ true → line ≤ other.entry.line) row rows (λ _. omega arith)
                  (All-weaker (λ (later : Row). row.entry.line < later.entry.line) (λ (other : Row). passes other ≡ true → line ≤ other.entry.line) (λ other lt _. omega arith) rows (above row rows up));
            }
        | inr f ↦
            let later = first_passes rows line (others_ascend row rows up) (e ∙ skipped row rows f) in
            let at = later.has in
            record {
              row = later.row;
              has = (suc at.0, (let h = at.1 in omega arith), at.2);
              passed = later.passed;
              number = later.number;
              least = All-cons (λ (other : Row). passes other ≡ true → line ≤ other.entry.line) row rows (λ t. absurd (true≢false (sym t ∙ f))) later.least;
            }
      ]

-- ---- one key

pub only_key : (key other : LineKey) → is_key key other ≡ true → other ≡ key
only_key (Host address) (Host other) e =
    elim (or_cases (eqb address other) false e) [
      | inl same ↦ ap Host (sym (eqb-true address other same))
      | inr wrong ↦ absurd (true≢false (sym wrong))
    ]
only_key (Host address) (Network net) e = absurd (true≢false (sym e))
only_key (Host address) Everybody e = absurd (true≢false (sym e))
only_key (Network net) other e = only_network net other e
only_key Everybody other e = only_everybody other e

pub key_itself : (key : LineKey) → is_key key key ≡ true
key_itself (Host address) = or_left (eqb address address) false (eq-eqb address address refl)
key_itself (Network net) = and_from _ _ (eq-eqb net.first net.first refl) (eq-eqb net.prefix net.prefix refl)
key_itself Everybody = refl

module _ (rows : List Row) (line : ℕ) (key : LineKey) where
  -- a client that passes is the key
  has_it : (other : Row) (client : LineKey) → HasClient rows line (is_key key) other client → has_key key other ≡ true
  has_it other client has = subst (λ k. has_key k other ≡ true) (only_key key client has.own) has.theirs

  pub none_under : None ≡ slice_get (lines_with rows key) 0 → IsSharing rows line (is_key key) None
  none_under e = λ other client has. All-contains (λ (row : Row). has_key key row ≡ true → ⊥) rows other (none_passes (has_key key) rows e) has.has (has_it other client has)

  module _ (ascending : AreAscending rows) (first : ℕ) (e : Some first ≡ slice_get (lines_with rows key) 0) where
    up_to : (other : Row) (client : LineKey) → HasClient rows line (is_key key) other client → first ≤ other.entry.line
    up_to other client has =
        All-contains (λ (row : Row). has_key key row ≡ true → first ≤ row.entry.line) rows other (first_passes (has_key key) rows first ascending e).least has.has (has_it other client has)

    pub none_earlier : line ≤ first → IsSharing rows line (is_key key) None
    none_earlier le = λ other client has. (let a = up_to other client has in let b = has.earlier in absurd (omega arith))

    pub first_earlier : first < line → (address : Addr) → least_of key ≡ number_of address → IsFirstSharing rows line (is_key key) (record { other = first; address = address })
    first_earlier lt address least =
        let it = first_passes (has_key key) rows first ascending e in
        let number = it.number in
        record {
          other_row = it.row;
          client = key;
          shares = record { has = it.has; earlier = omega arith; own = key_itself key; theirs = it.passed };
          other = it.number;
          address = least;
          least = λ another theirs has.
              let a = up_to another theirs has in
              let same = ap least_of (only_key key theirs has.own) in
              elim (cases_lt first another.entry.line) as (λ _. (first < another.entry.line) ⊎ ((first ≡ another.entry.line) × (number_of address ≤ least_of theirs))) [
                | inl below ↦ inl below
                | inr past ↦ inr (omega arith, omega arith)
              ];
        }

-- ---- clients that pass this test or that

module _ (rows : List Row) (line : ℕ) (this that both : LineKey → Bool)
    (cases : (key : LineKey) → both key ≡ true → (this key ≡ true) ⊎ (that key ≡ true))
    (from_this : (key : LineKey) → this key ≡ true → both key ≡ true) (from_that : (key : LineKey) → that key ≡ true → both key ≡ true)
    (before : (key other : LineKey) → this key ≡ true → that other ≡ true → least_of key ≤ least_of other) where
  by : (passes : LineKey → Bool) (other : Row) (client : LineKey) (test : LineKey → Bool) → test client ≡ true → HasClient rows line passes other client → HasClient rows line test other client
  by passes other client test e has = record { has = has.has; earlier = has.earlier; own = e; theirs = has.theirs }

  abbrev UpTo : Sharing → (LineKey → Bool) → Type 0
  UpTo found test =
      (another : Row) (theirs : LineKey) → HasClient rows line test another theirs
      → (found.other < another.entry.line) ⊎ ((found.other ≡ another.entry.line) × (number_of found.address ≤ least_of theirs))

  up_to_both : (found : Sharing) → UpTo found this → UpTo found that → UpTo found both
  up_to_both found one other = λ another theirs has. elim (cases theirs has.own) [
    | inl e ↦ one another theirs (by both another theirs this e has)
    | inr e ↦ other another theirs (by both another theirs that e has)
  ]

  stays : (found : Sharing) → IsFirstSharing rows line this found → UpTo found that → IsFirstSharing rows line both found
  stays found is upto = record {
    other_row = is.other_row;
    client = is.client;
    shares = by this is.other_row is.client both (from_this is.client is.shares.own) is.shares;
    other = is.other;
    address = is.address;
    least = up_to_both found is.least upto;
  }

  comes : (found : Sharing) → IsFirstSharing rows line that found → UpTo found this → IsFirstSharing rows line both found
  comes found is upto = record {
    other_row = is.other_row;
    client = is.client;
    shares = by that is.other_row is.client both (from_that is.client is.shares.own) is.shares;
    other = is.other;
    address = is.address;
    least = up_to_both found upto is.least;
  }

  pub earlier_of_both : (found other : Option Sharing) → IsSharing rows line this found → IsSharing rows line that other → IsSharing rows line both (earlier_of found other)
  earlier_of_both None None none nothing = λ another theirs has. elim (cases theirs has.own) [
    | inl e ↦ none another theirs (by both another theirs this e has)
    | inr e ↦ nothing another theirs (by both another theirs that e has)
  ]
  earlier_of_both None (Some other) none is = comes other is (λ another theirs has. absurd (none another theirs has))
  earlier_of_both (Some found) None is nothing = stays found is (λ another theirs has. absurd (nothing another theirs has))
  earlier_of_both (Some found) (Some other) is its =
      elim (cases_lt other.other found.other) as (λ _. IsSharing rows line both (cond (nat_lt other.other found.other) (Some other) (Some found))) [
        | inl lt ↦ subst (IsSharing rows line both) (sym (cond-true (nat_lt other.other found.other) (Some other) (Some found) (lt-ltb _ _ lt)))
            (comes other its (λ another theirs has. elim (is.least another theirs has) [ inl l ↦ inl (omega arith) | inr l ↦ (let e = l.0 in inl (omega arith)) ]))
        | inr ge ↦ subst (IsSharing rows line both) (sym (cond-false (nat_lt other.other found.other) (Some other) (Some found) (le-ltb _ _ ge)))
            (stays found is (λ another theirs has.
            let near : number_of found.address ≤ least_of theirs = (let b = before is.client theirs is.shares.own has.own in let a = is.address in omega arith) in
            let upto : other.other ≤ another.entry.line = elim (its.least another theirs has) [ inl l ↦ omega arith | inr l ↦ (let e = l.0 in omega arith) ] in
            elim (cases_lt found.other another.entry.line) as (λ _. (found.other < another.entry.line) ⊎ ((found.other ≡ another.entry.line) × (number_of found.address ≤ least_of theirs))) [
              | inl lt ↦ inl lt
              | inr le ↦ inr (omega arith, near)
            ]))
      ]

-- ---- one address more

module _ (xs : List ℕ) (address : ℕ) (above_all : (other : ℕ) → is_among other xs ≡ true → other < address) where
  among_more : (n : ℕ) → is_among n (xs ++ address ∷ []) ≡ (is_among n xs || (eqb address n || false))
  among_more n = list_any-append (λ other. eqb other n) xs (address ∷ [])

  host_cases : (key : LineKey) → is_host_among (xs ++ address ∷ []) key ≡ true → (is_host_among xs key ≡ true) ⊎ (is_key (Host address) key ≡ true)
  host_cases (Host n) e = or_cases _ _ (sym (among_more n) ∙ e)
  host_cases (Network net) e = absurd (true≢false (sym e))
  host_cases Everybody e = absurd (true≢false (sym e))

  host_before : (key : LineKey) → is_host_among xs key ≡ true → is_host_among (xs ++ address ∷ []) key ≡ true
  host_before (Host n) e = among_more n ∙ or_left (is_among n xs) _ e
  host_before (Network net) e = absurd (true≢false (sym e))
  host_before Everybody e = absurd (true≢false (sym e))

  host_it : (key : LineKey) → is_key (Host address) key ≡ true → is_host_among (xs ++ address ∷ []) key ≡ true
  host_it (Host n) e = among_more n ∙ or_right (is_among n xs) _ e
  host_it (Network net) e = absurd (true≢false (sym e))
  host_it Everybody e = absurd (true≢false (sym e))

  host_less : (key other : LineKey) → is_host_among xs key ≡ true → is_key (Host address) other ≡ true → least_of key ≤ least_of other
  host_less (Host n) other e f = let a = above_all n e in let same = ap least_of (only_key (Host address) other f) in omega arith
  host_less (Network net) other e f = absurd (true≢false (sym e))
  host_less Everybody other e f = absurd (true≢false (sym e))

  pub one_host : (rows : List Row) (line : ℕ) (found other : Option Sharing) → IsSharing rows line (is_host_among xs) found → IsSharing rows line (is_key (Host address)) other
      → IsSharing rows line (is_host_among (xs ++ address ∷ [])) (earlier_of found other)
  one_host rows line = earlier_of_both rows line (is_host_among xs) (is_key (Host address)) (is_host_among (xs ++ address ∷ [])) host_cases host_before host_it host_less

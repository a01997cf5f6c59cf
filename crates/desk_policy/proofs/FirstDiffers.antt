-- The least clash of a line's keys is with the first lines than which it has other terms, and one line more.
use Rattle.std.proofs.Common.{◌≡◌, ℕ, ◌+◌, ◌<◌, ◌≤◌, ◌^◌, Bool, true, false, eqb, List, [], ◌∷◌, ◌++◌, length, length-take, get_or, take, Option, Some, None, sym, ◌∙◌, ap, subst, refl, inl, inr, ◌⊎◌, arith}
use Rattle.std.specs.Prelude.{find}
use Rattle.std.specs.Option.{is_some}
use Rattle.std.specs.List.{All, Contains, list_any}
use Rattle.std.proofs.lemmas.Bool.{cases_lt, cases_order, eq-eqb, or_left, or_right}
use Rattle.std.proofs.lemmas.List.{append-nil, get_or_default, take_more}
use Rattle.std.proofs.lemmas.List.Elements.{All-push, Contains-push_cases}
use Rattle.std.proofs.lemmas.List.Folds.{list_any-append}
use Rattle.std.proofs.lemmas.List.Quantifiers.{all_pairs_push}
use Rattle.desk_text.specs.Address.{number_of}
use Rattle.desk_policy.specs.declared.contradiction.Contradiction.{Contradiction}
use Rattle.desk_policy.specs.declared.first_lines.Clash.{Clash}
use Rattle.desk_policy.specs.declared.row.Row.{Row}
use Rattle.desk_policy.specs.Contradiction.{AreContradictions, DiffersFromFirst, IsContradictionOf, IsOfLine}
use Rattle.desk_policy.specs.Policy.{AreAscending}
use Rattle.desk_policy.specs.Keys.{HasBlock, has_key, IsLineKey, key_weight, least_of, LineKey}
use Rattle.desk_policy.specs.PrivateFirstLines.{ClashesAt, contradiction_of, IsLeastClash}
use Rattle.desk_policy.specs.Weights.{weight_of}
use Rattle.desk_policy.proofs.ByKeys.{first_up_to, found_is, key_is, key_of, least_small, least_up_to, some_is, weight_at_least, weight_from}
use Rattle.desk_policy.proofs.Contradicting.{ascending_take, Contains_below, Contains_whole, line_of, lines_rise, same_at}

-- what is found is at or before each line that passes
found_before : (p : Row → Bool) (xs : List Row) (first : Row) → find p xs ≡ Some first → (j : ℕ) (o : Row) → j < length xs → get_or xs j o ≡ o → p o ≡ true
    → (i : ℕ) × (i ≤ j) × (get_or xs i o ≡ first)
found_before p xs first found j o below here passes =
    let r = first_up_to p xs j o below (ap p here ∙ passes) in
    let same : Some (get_or xs r.0 o) ≡ Some first = sym r.2 ∙ found in
    (r.0, r.1, (cc))

-- in ascending lines what is found has no greater line than another that passes
pub at_or_before : (xs : List Row) → AreAscending xs → (p : Row → Bool) (first : Row) → find p xs ≡ Some first → (o : Row) → Contains xs o → p o ≡ true → line_of first ≤ line_of o
at_or_before xs up p first found o there passes =
    let r = found_before p xs first found there.0 o there.1 there.2 passes in
    let il : r.0 < length xs = (let h = r.1 in let k = there.1 in omega arith) in
    elim (cases_order r.0 there.0) [
      | inl same ↦ (let l : line_of first ≡ line_of o = ap line_of (sym r.2 ∙ ap (λ n. get_or xs n o) same ∙ there.2) in omega arith)
      | inr s ↦ elim s [
        | inl lt ↦ (let h = lines_rise xs up r.0 there.0 first o lt there.1 (get_or_default xs r.0 first o il ∙ r.2) there.2 in omega arith)
        | inr gt ↦ absurd (let h = r.1 in omega arith)
      ]
    ]

module _ (rows : List Row) (ascending : AreAscending rows) (i : ℕ) (row : Row) (below : i < length rows) (is : row ≡ get_or rows i row) where
  abbrev earlier : List Row
  earlier = take i rows

  abbrev up_to_it : List Row
  up_to_it = take (i + 1) rows

  up : AreAscending earlier
  up = ascending_take rows ascending i (omega arith)

  -- a place of the earlier lines
  early : (o : Row) (c : Contains earlier o) → c.0 < i
  early o c = (let h : c.0 < length earlier = c.1 in let e = length-take i rows in omega arith)

  module _ (blocks : All (λ (other : Row). HasBlock other.entry.clients) earlier) (block : HasBlock row.entry.clients) where
    abbrev Clashes : LineKey → Row → Type 0
    Clashes key other = ClashesAt earlier row.entry.terms (λ k. has_key k row) key other

    block_of_earlier : (o : Row) → Contains earlier o → HasBlock o.entry.clients
    block_of_earlier o there = subst (λ (r : Row). HasBlock r.entry.clients) there.2 (blocks there.0 o there.1)

    -- an earlier line that matches an address with the weight of a key has that key
    has_that_key : (key : LineKey) (address weight : ℕ) (o : Row) → address < 2 ^ 32 → IsLineKey key → key_weight address key ≡ Some weight → Contains earlier o → weight_of o address ≡ Some weight → has_key key o ≡ true
    has_that_key key address weight o small ok matches there own =
        let its = key_of address o.entry.clients o.addrs weight small (block_of_earlier o there) own in
        let one : its.0 ≡ key = key_is address its.0 weight its.1 its.3 ∙ sym (key_is address key weight ok matches) in
        ap (λ k. has_key k o) (sym one) ∙ its.2

    clash_differs : (key : LineKey) (other : Row) → Clashes key other → DiffersFromFirst rows row other (least_of key)
    unfolding Contains_whole
    clash_differs key other c =
        let a = least_of key in
        let small = least_small key c.is_key in
        let f = found_is (has_key key) earlier other c.first in
        let w = weight_at_least key in
        let own = weight_from a row.entry.clients row.addrs key w.0 c.has w.1 in
        let its = weight_from a other.entry.clients other.addrs key w.0 f.1 w.1 in
        let there = Contains_whole rows ascending i other (omega arith) f.0 in
        record {
          is_address = small;
          has_first = there;
          alike = (ap is_some own, its ∙ sym own);
          is_first = λ o at alike. elim (cases_lt at.0 i) [
            | inl lt ↦
                let here = Contains_below rows ascending i at.0 o lt (omega arith) at.2 in
                at_or_before earlier up (has_key key) other c.first o here (has_that_key key a w.0 o small c.is_key w.1 here (alike.1 ∙ own))
            | inr ge ↦ (let e = early other f.0 in let h = lines_rise rows ascending there.0 at.0 other o (omega arith) at.1 there.2 at.2 in omega arith)
          ];
          apart = c.apart;
        }

    differs_clash : (first : Row) (a : ℕ) → DiffersFromFirst rows row first a → (key : LineKey) × Clashes key first × (least_of key ≤ a)
    differs_clash first a d =
        let w = some_is (weight_of row a) d.alike.0 in
        let mine = key_of a row.entry.clients row.addrs w.0 d.is_address block w.1 in
        let not_after = d.is_first row (i, below, sym is) (d.alike.0, refl) in
        let at = d.has_first in
        let before : at.0 < i = elim (cases_order at.0 i) [
          | inl same ↦ absurd (d.apart (ap (λ (r : Row). r.entry.terms) (same_at rows ascending i row first below (sym is) (subst (λ n. get_or rows n first ≡ first) same at.2))))
          | inr s ↦ elim s [
            | inl lt ↦ lt
            | inr gt ↦ absurd (let h = lines_rise rows ascending i at.0 row first gt at.1 (sym is) at.2 in omega arith)
          ]
        ] in
        let here = Contains_below rows ascending i at.0 first before (omega arith) at.2 in
        let has_it = has_that_key mine.0 a w.0 first d.is_address mine.1 mine.3 here (d.alike.1 ∙ w.1) in
        let r = first_up_to (has_key mine.0) earlier here.0 first here.1 (ap (has_key mine.0) here.2 ∙ has_it) in
        let x = get_or earlier r.0 first in
        let fx = found_is (has_key mine.0) earlier x r.2 in
        let its = weight_from a x.entry.clients x.addrs mine.0 w.0 r.3 mine.3 in
        let up_to_x = d.is_first x (Contains_whole rows ascending i x (omega arith) fx.0) (d.alike.0, its ∙ sym w.1) in
        let same : x ≡ first = elim (cases_order r.0 here.0) [
          | inl e ↦ ap (λ n. get_or earlier n first) e ∙ here.2
          | inr s ↦ elim s [
            | inl lt ↦ absurd (let h = lines_rise earlier up r.0 here.0 x first lt here.1 (get_or_default earlier r.0 x first (let k = here.1 in omega arith)) here.2 in omega arith)
            | inr gt ↦ absurd (let h = r.1 in omega arith)
          ]
        ] in
        (mine.0, record { is_key = mine.1; has = mine.2; first = r.2 ∙ ap (λ (o : Row). Some o) same; apart = d.apart }, least_up_to a mine.0 w.0 mine.1 mine.3)

    some_contradiction : (found : Clash) → IsLeastClash earlier row (Some found) → IsContradictionOf rows row found.line (number_of found.address)
    some_contradiction found least = record {
      first = least.other;
      differs = subst (λ a. DiffersFromFirst rows row least.other a) least.address_is (clash_differs least.key least.other least.clashes);
      is_earlier = least.line_is;
      least = λ o a d.
          let r = differs_clash o a d in
          elim (least.least r.0 o r.1) as (λ _. (found.line < o.entry.line) ⊎ ((found.line ≡ o.entry.line) × (number_of found.address ≤ a))) [
            | inl lt ↦ inl lt
            | inr e ↦ inr (e.0, (let h = e.1 in let k = r.2 in omega arith))
          ];
    }

    no_contradiction : IsLeastClash earlier row None → (first : Row) (a : ℕ) → DiffersFromFirst rows row first a → ⊥
    no_contradiction none first a d = (let r = differs_clash first a d in none r.0 first r.1)

    -- ---- one line more

    widen : (one : Contradiction) → IsOfLine rows earlier one → IsOfLine rows up_to_it one
    unfolding Contains_whole
    widen one of_line =
        let whole = Contains_whole rows ascending i of_line.row (omega arith) of_line.has_row in
        let e = early of_line.row of_line.has_row in
        record { row = of_line.row; has_row = Contains_below rows ascending (i + 1) whole.0 of_line.row (omega arith) (omega arith) whole.2; is_later = of_line.is_later; is = of_line.is }

    cases_next : (r : Row) → Contains up_to_it r → Contains earlier r ⊎ (row ≡ r)
    cases_next r there = Contains-push_cases earlier row r (subst (λ ys. Contains ys r) (take_more rows i row below ∙ ap (λ x. earlier ++ x ∷ []) (sym is)) there)

    pub next : (found : List Contradiction) (clash : Option Clash) → AreContradictions rows earlier found → IsLeastClash earlier row clash
        → AreContradictions rows up_to_it (found ++ contradiction_of row.entry.line clash)
    unfolding Contains_whole
    next found None listed none = subst (AreContradictions rows up_to_it) (sym (append-nil found)) (record {
      each = λ k d l. widen (get_or found k d) (listed.each k d l);
      all = λ r first a there d. elim (cases_next r there) [
        | inl before ↦ listed.all r first a before d
        | inr same ↦ absurd (no_contradiction none first a (subst (λ (x : Row). DiffersFromFirst rows x first a) (sym same) d))
      ];
      ascending = listed.ascending;
    })
    next found (Some clash) listed least =
        let one : Contradiction = record { line = line_of row; other = clash.line; address = clash.address } in
        record {
          each = All-push (IsOfLine rows up_to_it) found one (λ k d l. widen (get_or found k d) (listed.each k d l))
              (record { row = row; has_row = Contains_below rows ascending (i + 1) i row (omega arith) (omega arith) (sym is); is_later = refl; is = some_contradiction clash least });
          all = λ r first a there d.
              let named : Contradiction → Bool = λ other. eqb other.line (line_of r) in
              list_any-append named found (one ∷ []) ∙ elim (cases_next r there) [
                | inl before ↦ or_left (list_any named found) _ (listed.all r first a before d)
                | inr same ↦ or_right (list_any named found) _ (or_left (eqb (line_of row) (line_of r)) false (eq-eqb _ _ (ap line_of same)))
              ];
          ascending = all_pairs_push (λ one later. one.line < later.line) found one listed.ascending (λ k d l.
              let of_line = listed.each k d l in
              let whole = Contains_whole rows ascending i of_line.row (omega arith) of_line.has_row in
              let e = early of_line.row of_line.has_row in
              let h = lines_rise rows ascending whole.0 i of_line.row row (omega arith) below whole.2 (sym is) in
              omega (arith, of_line.is_later));
        }

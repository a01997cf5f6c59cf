-- The starts at which one of some lines matches.
use Rattle.std.proofs.Common.{◌≡◌, ℕ, zero, suc, ◌+◌, ◌<◌, ◌^◌, ◌||◌, true, false, cond, eqb, List, [], ◌∷◌, ◌++◌, sym, ◌∙◌, ap, subst, refl, inl, inr, arith}
use Rattle.std.specs.Prelude.{Some, None, filter}
use Rattle.std.specs.List.{AllByRecursion, flat_map}
use Rattle.std.proofs.lemmas.Bool.{and_from, cases_Bool, eqb-true, false_from_ne_true, le-leb, or_left, or_parts, or_right, true≢false}
use Rattle.std.proofs.lemmas.List.Folds.{list_any-append}
use Rattle.desk_text.specs.AddrSet.{is_among, sorted_set}
use Rattle.desk_text.specs.Laws.{CoversBetweenFirstAndLast, IsSetOf, SortedSetsAreUnique}
use Rattle.desk_text.specs.Network.{covers, last_of}
use Rattle.desk_exports.specs.declared.entry.Clients.{Clients}
use Rattle.desk_exports.specs.declared.entry.Clients.TheVariants.{Hosts, Net, Net6, World}
use Rattle.desk_policy.specs.Keys.{HasBlock}
use Rattle.desk_policy.specs.Weights.{name_weight, weight_by, weight_of}
use Rattle.desk_policy.specs.declared.row.Row.{Row}
use Rattle.desk_who.specs.MostlySame.{AreStartsWithin}
use Rattle.desk_who.specs.PrivateStarts.{is_between, starts_by, starts_of, within, within_by}
use Rattle.desk_who.proofs.Steady.{absent, neither, not_here, not_there, steady_among, zero_not_by}

-- what is not among numbers is not among those that pass
not_filtered : (n first last : ℕ) (xs : List ℕ) → is_among n xs ≡ false → is_among n (filter (is_between first last) xs) ≡ false
not_filtered n first last [] none = refl
not_filtered n first last (x ∷ xs) none =
    let rest = not_filtered n first last xs (not_there n x xs none) in
    elim (cases_Bool (is_between first last x)) as (λ _. is_among n (filter (is_between first last) (x ∷ xs)) ≡ false) [
      | inl is ↦ ap (λ b. is_among n (cond b (x ∷ filter (is_between first last) xs) (filter (is_between first last) xs))) is ∙ absent n x (filter (is_between first last) xs) (not_here n x xs none) rest
      | inr not ↦ ap (λ b. is_among n (cond b (x ∷ filter (is_between first last) xs) (filter (is_between first last) xs))) not ∙ rest
    ]

-- and what is among them, and passes, is
filtered : (n first last : ℕ) (xs : List ℕ) → is_between first last n ≡ true → is_among n xs ≡ true → is_among n (filter (is_between first last) xs) ≡ true
filtered n first last [] passes there = absurd (true≢false (sym there))
filtered n first last (x ∷ xs) passes there =
    elim (cases_Bool (eqb x n)) as (λ _. is_among n (filter (is_between first last) (x ∷ xs)) ≡ true) [
      | inl same ↦
          let e = eqb-true x n same in
          ap (λ b. is_among n (cond b (x ∷ filter (is_between first last) xs) (filter (is_between first last) xs))) (ap (is_between first last) e ∙ passes) ∙ or_left _ _ same
      | inr apart ↦
          let rest = filtered n first last xs passes (sym (ap (λ b. b || is_among n xs) apart) ∙ there) in
          elim (cases_Bool (is_between first last x)) as (λ _. is_among n (filter (is_between first last) (x ∷ xs)) ≡ true) [
            | inl is ↦ ap (λ b. is_among n (cond b (x ∷ filter (is_between first last) xs) (filter (is_between first last) xs))) is ∙ or_right _ _ rest
            | inr not ↦ ap (λ b. is_among n (cond b (x ∷ filter (is_between first last) xs) (filter (is_between first last) xs))) not ∙ rest
          ]
    ]

-- those of a line
abbrev pub found_by : List ℕ → Row → List ℕ
found_by starts row = starts_of row ++ within starts row

zero_not_within : (starts : List ℕ) (clients : Clients) → is_among 0 starts ≡ false → is_among 0 (within_by clients starts) ≡ false
zero_not_within starts (Hosts names) behind = refl
zero_not_within starts (Net net noted) behind = not_filtered 0 net.first (last_of net) starts behind
zero_not_within starts (Net6 value) behind = refl
zero_not_within starts World behind = behind

-- a line that matches at a start has it
module _ (law : CoversBetweenFirstAndLast) (starts : List ℕ) (address : ℕ) (fits : address + 1 < 2 ^ 32) (there : is_among (address + 1) starts ≡ true) where
  apart_by : (clients : Clients) (addresses : List ℕ) → HasBlock clients → is_among (address + 1) (starts_by clients addresses) ≡ false → is_among (address + 1) (within_by clients starts) ≡ false
      → weight_by clients addresses (address + 1) ≡ None
  apart_by (Hosts names) addresses block none none' = ap (λ b. cond b (Some name_weight) None) (neither address fits addresses none).0
  apart_by (Net net noted) addresses block none none' =
      let away : covers net (address + 1) ≡ false = false_from_ne_true _ (λ is.
      let b = (law net block (address + 1)).0 is in
      true≢false (sym (filtered (address + 1) net.first (last_of net) starts (and_from _ _ (le-leb net.first (address + 1) (omega arith)) (le-leb (address + 1) (last_of net) (omega arith))) there) ∙ none')) in
      ap (λ b. cond b (Some (net.prefix + 1)) None) away
  apart_by (Net6 value) addresses block none none' = refl
  apart_by World addresses block none none' = absurd (true≢false (sym there ∙ none'))

  apart_all : (rows : List Row) → AllByRecursion (λ (row : Row). HasBlock row.entry.clients) rows → is_among (address + 1) (flat_map (found_by starts) rows) ≡ false
      → AllByRecursion (λ row. weight_of row (address + 1) ≡ None) rows
  apart_all [] blocks none = tt
  apart_all (row ∷ rows) blocks none =
      let p = or_parts (is_among (address + 1) (found_by starts row)) (is_among (address + 1) (flat_map (found_by starts) rows))
      (sym (list_any-append (λ other. eqb other (address + 1)) (found_by starts row) (flat_map (found_by starts) rows)) ∙ none) in
      let q = or_parts (is_among (address + 1) (starts_of row)) (is_among (address + 1) (within starts row))
      (sym (list_any-append (λ other. eqb other (address + 1)) (starts_of row) (within starts row)) ∙ p.0) in
      (apart_by row.entry.clients row.addrs blocks.0 q.0 q.1, apart_all rows blocks.1 p.1)

module _ (starts : List ℕ) where
  not_found : (n : ℕ) (rows : List Row) → is_among n (flat_map (found_by starts) rows) ≡ false → is_among n (flat_map starts_of rows) ≡ false
  not_found n [] none = refl
  not_found n (row ∷ rows) none =
      let p = or_parts (is_among n (found_by starts row)) (is_among n (flat_map (found_by starts) rows)) (sym (list_any-append (λ other. eqb other n) (found_by starts row) (flat_map (found_by starts) rows)) ∙ none) in
      let q = or_parts (is_among n (starts_of row)) (is_among n (within starts row)) (sym (list_any-append (λ other. eqb other n) (starts_of row) (within starts row)) ∙ p.0) in
      list_any-append (λ other. eqb other n) (starts_of row) (flat_map starts_of rows) ∙ ap (λ b. b || is_among n (flat_map starts_of rows)) q.0 ∙ not_found n rows p.1

  zero_not_found : is_among 0 starts ≡ false → (rows : List Row) → is_among 0 (flat_map (found_by starts) rows) ≡ false
  zero_not_found behind [] = refl
  zero_not_found behind (row ∷ rows) =
      list_any-append (λ other. eqb other 0) (found_by starts row) (flat_map (found_by starts) rows)
      ∙ ap (λ b. b || is_among 0 (flat_map (found_by starts) rows))
      (list_any-append (λ other. eqb other 0) (starts_of row) (within starts row) ∙ ap (λ b. b || is_among 0 (within starts row)) (zero_not_by row.entry.clients row.addrs) ∙ zero_not_within starts row.entry.clients behind)
      ∙ zero_not_found behind rows

pub starts_are_within : CoversBetweenFirstAndLast → SortedSetsAreUnique → (starts : List ℕ) (rows : List Row) (numbers set : List ℕ) → is_among 0 starts ≡ false
    → AllByRecursion (λ (row : Row). HasBlock row.entry.clients) rows → numbers ≡ flat_map (found_by starts) rows → set ≡ sorted_set numbers → AreStartsWithin starts rows set
starts_are_within covering sets starts rows numbers set behind blocks are is =
    let made : IsSetOf numbers set = (sets numbers set).1 is in
    let among : (n : ℕ) → is_among n set ≡ is_among n (flat_map (found_by starts) rows) = λ n. made.each n ∙ ap (is_among n) are in
    record {
      behind = among 0 ∙ zero_not_found starts behind rows;
      steady = steady_among covering set rows blocks (λ n none. not_found starts n rows (sym (among n) ∙ none));
      apart = λ address fits there away. at address fits there (sym (among address) ∙ away);
    }
  where
    at : (address : ℕ) → address < 2 ^ 32 → is_among address starts ≡ true → is_among address (flat_map (found_by starts) rows) ≡ false → AllByRecursion (λ row. weight_of row address ≡ None) rows
    at zero fits there away = absurd (true≢false (sym there ∙ behind))
    at (suc address) fits there away =
        let e : suc address ≡ address + 1 = omega arith in
        subst (λ n. AllByRecursion (λ row. weight_of row n ≡ None) rows) (sym e)
        (apart_all covering starts address (omega arith) (ap (λ n. is_among n starts) (sym e) ∙ there) rows blocks (ap (λ n. is_among n (flat_map (found_by starts) rows)) (sym e) ∙ away))

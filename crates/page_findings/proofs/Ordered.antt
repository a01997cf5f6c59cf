-- Lines that never decide, in the order of the lines, and one of them found.
use Rattle.std.proofs.Common.{◌≡◌, ℕ, zero, suc, ◌<◌, ◌≤◌, ◌∙◌, Bool, true, false, cond, List, [], ◌∷◌, Option, None, Some, ap, arith, get_or, inl, inr, length, map, refl, subst, sym}
use Rattle.std.specs.Prelude.{◌==◌, filter, find, nat_lt, option_map, slice_get, unwrap_or}
use Rattle.std.specs.List.{AllPairs}
use Rattle.std.specs.List.Sorted.{IsPartitionPoint, IsPartitionedBy}
use Rattle.std.proofs.lemmas.Bool.{cases_eq, eq-eqb, lt-ltb, ltb-false, ltb-true, ne_eqb}
use Rattle.std.proofs.lemmas.List.{get_or-map, length-map}
use Rattle.std.proofs.lemmas.List.Kept.{AllPairs-filter}
use Rattle.desk_policy.specs.Policy.{AreAscending}
use Rattle.desk_policy.specs.declared.row.Row.{Row}
use Rattle.page_data.specs.declared.lines.LineReasons.{LineReasons}
use Rattle.page_findings.specs.Deciding.{AreInLineOrder, DecidedFor, deciding_of, never_decides}
use Rattle.page_findings.specs.PrivateDeciding.{Ascend, if_line, is_line}
use Rattle.page_findings.specs.declared.deciding.NeverDecides.{NeverDecides}
use Rattle.page_findings.proofs.Told.{with_list}

-- ---- values in the order of their numbers
module _ {X : Type 0} (number : X → ℕ) where
  pub down : (xs : List X) → AllPairs (λ x later. number x < number later) xs → AllPairs (λ n later. n < later) (map number xs)
  down [] rise i j d less within = absurd (let lt : j < 0 = within in omega arith)
  down (x ∷ xs) rise i j d less within =
      let few = length-map (x ∷ xs) number in
      let up = rise i j x less (omega arith) in
      let left = get_or-map number (x ∷ xs) i x d (omega arith) in
      let right = get_or-map number (x ∷ xs) j x d (omega arith) in
      omega arith

  pub up : (xs : List X) → AllPairs (λ n later. n < later) (map number xs) → AllPairs (λ x later. number x < number later) xs
  up xs rise i j d less within =
      let few = length-map xs number in
      let is = rise i j (number d) less (omega arith) in
      let left = get_or-map number xs i d (number d) (omega arith) in
      let right = get_or-map number xs j d (number d) within in
      omega arith

abbrev pub found_line : DecidedFor → ℕ
found_line one = one.line

abbrev pub told_line : LineReasons → ℕ
told_line one = one.line

abbrev pub row_line : Row → ℕ
row_line row = row.entry.line

abbrev Rise : List ℕ → Type 0
Rise numbers = AllPairs (λ n later. n < later) numbers

pub in_line_order : (found : List DecidedFor) (reasons : List LineReasons) (rows : List Row) → map found_line found ≡ map told_line (filter (λ (one : LineReasons). never_decides one.reasons) reasons)
    → map told_line reasons ≡ map row_line rows → AreAscending rows → AreInLineOrder found
in_line_order found reasons rows lines told ascending =
    up found_line found
    (subst Rise (sym lines) (
    down told_line (filter (λ (one : LineReasons). never_decides one.reasons) reasons)
    (AllPairs-filter (λ (one later : LineReasons). one.line < later.line) (λ (one : LineReasons). never_decides one.reasons) reasons (up told_line reasons (subst Rise (sym told) (down row_line rows ascending))))
    ))

pub by_value : (lists : List (List ℕ)) (lines : List NeverDecides) → AreInLineOrder (map (with_list lists) lines) → Ascend lines
by_value lists lines order i j d less within =
    let few = length-map lines (with_list lists) in
    let is = order i j (with_list lists d) less (omega arith) in
    let left = ap found_line (get_or-map (with_list lists) lines i d (with_list lists d) (omega arith)) in
    let right = ap found_line (get_or-map (with_list lists) lines j d (with_list lists d) within) in
    omega arith

-- ---- one of them
abbrev pub is_before : ℕ → NeverDecides → Bool
is_before line one = nat_lt one.line line

pub parted : (lines : List NeverDecides) → Ascend lines → (line : ℕ) → IsPartitionedBy (is_before line) lines
parted lines ascend line i j d le within passes =
    let below = ltb-true (get_or lines j d).line line passes in
    elim (cases_eq i j) as (λ _. is_before line (get_or lines i d) ≡ true) [
      | inl same ↦ lt-ltb (get_or lines i d).line line (let e = ap (λ n. (get_or lines n d).line) same in omega arith)
      | inr apart ↦ lt-ltb (get_or lines i d).line line (let less = ascend i j d (omega arith) within in omega arith)
    ]

none_above : (line : ℕ) (lines : List NeverDecides) → ((k : ℕ) (d : NeverDecides) → k < length lines → line < (get_or lines k d).line) → find (is_line line) lines ≡ None
none_above line [] above = refl
none_above line (one ∷ lines) above =
    let own = above 0 one (omega arith) in
    ap (λ b. cond b (Some one) (find (is_line line) lines)) (ne_eqb one.line line (λ is. omega arith)) ∙ none_above line lines (λ k d within. above (suc k) d (omega arith))

pub found_is : (line : ℕ) (lines : List NeverDecides) → Ascend lines → (k : ℕ) → IsPartitionPoint (λ one. is_before line one ≡ true) (λ one. is_before line one ≡ false) lines k → k ≤ length lines
    → if_line line (slice_get lines k) ≡ find (is_line line) lines
found_is line [] ascend k point le = refl
found_is line (one ∷ lines) ascend zero point le =
    let over = ltb-false one.line line (point.1 0 one (omega arith) (omega arith)) in
    elim (cases_eq one.line line) as (λ _. if_line line (Some one) ≡ find (is_line line) (one ∷ lines)) [
      | inl is ↦
          ap (λ b. cond b (Some one) None) (eq-eqb one.line line is) ∙ sym (ap (λ b. cond b (Some one) (find (is_line line) lines)) (eq-eqb one.line line is))
      | inr apart ↦
          ap (λ b. cond b (Some one) None) (ne_eqb one.line line apart)
          ∙ sym (
          ap (λ b. cond b (Some one) (find (is_line line) lines)) (ne_eqb one.line line apart)
          ∙ none_above line lines (λ k d within. (let less = ascend 0 (suc k) d (omega arith) (omega arith) in omega arith))
          )
    ]
found_is line (one ∷ lines) ascend (suc k) point le =
    let below = ltb-true one.line line (point.0 0 one (omega arith) (omega arith)) in
    found_is line lines (λ i j d less within. ascend (suc i) (suc j) d (omega arith) (omega arith)) k
    (λ i d low high. point.0 (suc i) d (omega arith) (omega arith), λ i d low high. point.1 (suc i) d (omega arith) (omega arith)) (omega arith)
    ∙ sym (ap (λ b. cond b (Some one) (find (is_line line) lines)) (ne_eqb one.line line (λ is. omega arith)))

find_value : (lists : List (List ℕ)) (line : ℕ) (lines : List NeverDecides) → find (λ (one : DecidedFor). one.line == line) (map (with_list lists) lines) ≡ option_map (with_list lists) (find (is_line line) lines)
find_value lists line [] = refl
find_value lists line (one ∷ lines) = by (is_line line one) (find_value lists line lines)
  where
    by : (b : Bool) → find (λ (other : DecidedFor). other.line == line) (map (with_list lists) lines) ≡ option_map (with_list lists) (find (is_line line) lines)
        → cond b (Some (with_list lists one)) (find (λ (other : DecidedFor). other.line == line) (map (with_list lists) lines)) ≡ option_map (with_list lists) (cond b (Some one) (find (is_line line) lines))
    by true rest = refl
    by false rest = rest

pub deciding_is : (lists : List (List ℕ)) (line : ℕ) (lines : List NeverDecides) (found : Option NeverDecides) → found ≡ find (is_line line) lines
    → deciding_of line (map (with_list lists) lines) ≡ unwrap_or (option_map (λ (one : NeverDecides). get_or lists one.list []) found) []
deciding_is lists line lines found is =
    ap (λ o. unwrap_or (option_map (λ (one : DecidedFor). one.deciding) o) []) (find_value lists line lines ∙ ap (option_map (with_list lists)) (sym is)) ∙ by found
  where
    by : (o : Option NeverDecides) → unwrap_or (option_map (λ (one : DecidedFor). one.deciding) (option_map (with_list lists) o)) [] ≡ unwrap_or (option_map (λ (one : NeverDecides). get_or lists one.list []) o) []
    by None = refl
    by (Some one) = refl

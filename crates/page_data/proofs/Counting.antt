-- The pieces of a line, after all pieces were sorted by their first addresses and then stably by their lines.
use Rattle.std.proofs.Common.{◌≡◌, ℕ, ◌+◌, ◌-◌, ◌<◌, ◌^◌, ◌++◌, ◌∙◌, Bool, true, false, List, [], ◌∷◌, ap, arith, get_or, inl, inr, length, map, refl, subst, sym, take}
use Rattle.std.specs.Prelude.{◌==◌, filter}
use Rattle.std.specs.List.{count_by, list_any, range_with_len}
use Rattle.std.specs.List.Sorted.{IsNonDecreasingBy, IsPermutation, IsStableByKey, ties}
use Rattle.std.specs.Ordering.{is_lt, nat_cmp}
use Rattle.std.proofs.lemmas.Bool.{cases_Bool, eq-eqb, ne_eqb, true≢false}
use Rattle.std.proofs.lemmas.List.{get_or-map, length-map, map-append}
use Rattle.std.proofs.lemmas.List.Elements.{filter_agree}
use Rattle.std.proofs.lemmas.List.Kept.{IsNonDecreasingBy-filter}
use Rattle.std.proofs.lemmas.List.Sums.{length-filter}
use Rattle.std.proofs.lemmas.List.Sorted.{Contains-permutation, IsPermutation-sym}
use Rattle.desk_text.specs.Address.{number_of}
use Rattle.desk_policy.specs.declared.row.Row.{Row}
use Rattle.desk_impact.proofs.Telling.{map-filter}
use Rattle.page_data.specs.Counts.{count_within}
use Rattle.page_data.specs.PrivateGrants.{AreByLine, Ascend, PieceValue, counts_of, covered, has, is_of_line, line_count, piece_value}
use Rattle.page_data.specs.declared.grants.LineGrants.{LineGrants}
use Rattle.page_data.specs.declared.grants.Piece.{Piece}
use Rattle.page_data.proofs.AllRows.{same_tie, tie_same}
use Rattle.page_data.proofs.Filtered.{both_in, some_in}
use Rattle.page_data.proofs.Gathered.{take_next}

abbrev pub line_key : Piece → ℕ
line_key piece = piece.line

abbrev pub first_key : Piece → ℕ
first_key piece = number_of piece.first

-- ---- in order
-- a piece of a line
of_line : ℕ → Piece
of_line line = record { line = line; first = record { number = 0 }; last = record { number = 0 } }

tie_line : (line : ℕ) (piece : Piece) → (piece.line == line) ≡ ties (λ a b. is_lt (nat_cmp (line_key a) (line_key b))) (of_line line) piece
unfolding of_line
tie_line line piece = by (ties (λ a b. is_lt (nat_cmp (line_key a) (line_key b))) (of_line line) piece) refl
  where
    by : (b : Bool) → ties (λ a b. is_lt (nat_cmp (line_key a) (line_key b))) (of_line line) piece ≡ b → (piece.line == line) ≡ b
    by true e = eq-eqb piece.line line (sym (tie_same line piece.line e))
    by false e = ne_eqb piece.line line (λ is. true≢false (sym (same_tie line piece.line (sym is)) ∙ e))

module _ (firsts sorted : List Piece) (rise : IsNonDecreasingBy first_key firsts) (stable : IsStableByKey line_key nat_cmp firsts sorted) (line : ℕ) where
  same_pieces : filter (λ (p : Piece). p.line == line) sorted ≡ filter (λ (p : Piece). p.line == line) firsts
  same_pieces =
      filter_agree (λ (p : Piece). p.line == line) (ties (λ a b. is_lt (nat_cmp (line_key a) (line_key b))) (of_line line)) (tie_line line) sorted
      ∙ stable (of_line line)
      ∙ sym (filter_agree (λ (p : Piece). p.line == line) (ties (λ a b. is_lt (nat_cmp (line_key a) (line_key b))) (of_line line)) (tie_line line) firsts)

  up : (pieces : List Piece) → IsNonDecreasingBy first_key pieces → Ascend (map piece_value pieces)
  up pieces rises i j d less within =
      let few = length-map pieces piece_value in
      let kept = of_line line in
      let h = rises i j kept (omega arith) (omega arith) in
      let left = ap (λ (p : PieceValue). p.first) (get_or-map piece_value pieces i kept d (omega arith)) in
      let right = ap (λ (p : PieceValue). p.first) (get_or-map piece_value pieces j kept d (omega arith)) in
      omega arith

  -- those of a line ascend by their first addresses
  pub line_ascends : Ascend (filter (is_of_line line) (map piece_value sorted))
  line_ascends =
      subst Ascend (ap (map piece_value) (sym same_pieces) ∙ map-filter piece_value (is_of_line line) sorted)
      (up (filter (λ (p : Piece). p.line == line) firsts) (IsNonDecreasingBy-filter first_key (λ (p : Piece). p.line == line) firsts rise))

pub by_line : (pieces : List Piece) → IsNonDecreasingBy line_key pieces → AreByLine (map piece_value pieces)
by_line pieces rises i j d less within =
    let few = length-map pieces piece_value in
    let kept = of_line 0 in
    let h = rises i j kept (omega arith) (omega arith) in
    let left = ap (λ (p : PieceValue). p.line) (get_or-map piece_value pieces i kept d (omega arith)) in
    let right = ap (λ (p : PieceValue). p.line) (get_or-map piece_value pieces j kept d (omega arith)) in
    omega arith

-- ---- the count does not rest on the order
within_agree : (test other : ℕ → Bool) → ((address : ℕ) → test address ≡ other address) → (first last : ℕ) → count_within test first last ≡ count_within other first last
unfolding count_within
within_agree test other agree first last = counted (range_with_len first (last + 1 - first))
  where
    counted : (xs : List ℕ) → count_by test xs ≡ count_by other xs
    counted xs = sym (length-filter test xs) ∙ ap length (filter_agree test other agree xs) ∙ length-filter other xs

some_there : (test : PieceValue → Bool) (address : ℕ) (pieces others : List PieceValue) → IsPermutation pieces others → list_any (has address) (filter test pieces) ≡ true → list_any (has address) (filter test others) ≡ true
some_there test address pieces others moved is =
    let both = both_in test (has address) pieces is in
    some_in test (has address) others both.value (Contains-permutation pieces others both.value moved both.has) both.tested both.passed

pub same_count : (test : PieceValue → Bool) (pieces others : List PieceValue) → IsPermutation pieces others → covered (filter test pieces) ≡ covered (filter test others)
same_count test pieces others moved =
    within_agree (λ address. list_any (has address) (filter test pieces)) (λ address. list_any (has address) (filter test others)) each 0 (2 ^ 32 - 1)
  where
    each : (address : ℕ) → list_any (has address) (filter test pieces) ≡ list_any (has address) (filter test others)
    each address =
        elim (cases_Bool (list_any (has address) (filter test pieces))) as (λ _. list_any (has address) (filter test pieces) ≡ list_any (has address) (filter test others)) [
          | inl is ↦ is ∙ sym (some_there test address pieces others moved is)
          | inr not ↦
              elim (cases_Bool (list_any (has address) (filter test others))) as (λ _. list_any (has address) (filter test pieces) ≡ list_any (has address) (filter test others)) [
                | inl is' ↦ absurd (true≢false (sym (some_there test address others pieces (IsPermutation-sym pieces others moved) is') ∙ not))
                | inr not' ↦ not ∙ sym not'
              ]
        ]

-- one more line
pub one_count : (rows : List Row) (i : ℕ) (row : Row) → i < length rows → row ≡ get_or rows i row → (pieces : List PieceValue) (old new : List LineGrants) (one : LineGrants) → new ≡ old ++ one ∷ [] → one.line ≡ row.entry.line
    → one.count ≡ covered (filter (is_of_line row.entry.line) pieces) → map line_count old ≡ counts_of (take i rows) pieces → map line_count new ≡ counts_of (take (i + 1) rows) pieces
one_count rows i row below is pieces old new one pushed line count so_far =
    let value : line_count one ≡ record { line = row.entry.line; count = covered (filter (is_of_line row.entry.line) pieces) } = ap (λ n. record { line = n; count = one.count }) line ∙ ap (λ n. record { line = row.entry.line; count = n }) count in
    ap (map line_count) pushed ∙ map-append line_count old (one ∷ []) ∙ ap (λ cs. cs ++ line_count one ∷ []) so_far ∙ ap (λ c. counts_of (take i rows) pieces ++ c ∷ []) value
    ∙ sym (map-append (λ (r : Row). record { line = r.entry.line; count = covered (filter (is_of_line r.entry.line) pieces) }) (take i rows) (row ∷ []))
    ∙ sym (ap (λ rs. counts_of rs pieces) (take_next rows i row below is))

pub all_counts : (rows : List Row) (pieces others : List PieceValue) → IsPermutation pieces others → counts_of rows pieces ≡ counts_of rows others
all_counts [] pieces others moved = refl
all_counts (row ∷ rows) pieces others moved =
    ap (λ n. record { line = row.entry.line; count = n } ∷ counts_of rows pieces) (same_count (is_of_line row.entry.line) pieces others moved)
    ∙ ap (λ cs. record { line = row.entry.line; count = covered (filter (is_of_line row.entry.line) others) } ∷ cs) (all_counts rows pieces others moved)

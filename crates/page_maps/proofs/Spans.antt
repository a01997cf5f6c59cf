-- The longest pieces of a list: one has a place that is meant, and none another one.
use Rattle.std.proofs.Common.{◌≡◌, ℕ, zero, suc, ◌+◌, ◌-◌, ◌<◌, ◌≤◌, ◌∙◌, Bool, true, false, List, ap, arith, cond, drop, eqb, get_or, inl, inr, length, leb, ltb, refl, subst, sym, ◌&&◌}
use Rattle.std.specs.Prelude.{not}
use Rattle.std.proofs.lemmas.Bool.{and_from, and_parts, cases_Bool, cases_eq, cases_lt, cond-false, cond-true, eq-eqb, leb-true, le-leb, lt-ltb, ltb-true, ne_eqb, not-false, not-true, true≢false}
use Rattle.std.proofs.lemmas.List.{get_or-drop, length-drop}
use Rattle.std.proofs.lemmas.List.Sums.{fails_before_first, passes_at_first}
use Rattle.page_maps.specs.Grounds.{is_from}
use Rattle.page_maps.specs.Paths.{begins_at, is_meant, is_meant_before, length_from}

-- the piece that begins at a place has another one
abbrev pub covers : List Bool → ℕ → ℕ → Bool
covers which place other = begins_at which place && is_from place (length_from which place) other

module _ (which : List Bool) where
  -- where the piece begins that a place is in, or would be
  abbrev pub start : ℕ → ℕ
  start zero = zero
  start (suc place) = cond (is_meant which place) (start place) (suc place)

  -- what a piece has is meant
  all_meant : (place other k : ℕ) → other < place + length_from which place → place ≤ k → k ≤ other → is_meant which k ≡ true
  all_meant place other k within from to =
      let at : place + (k - place) ≡ k = omega arith in
      let is = fails_before_first not (drop place which) (k - place) false (omega arith) in
      ap (λ n. get_or which n false) (sym at) ∙ sym (get_or-drop place which (k - place) false) ∙ not-false (get_or (drop place which) (k - place) false) is

  -- it has all that are meant one behind another
  has_all : (place other : ℕ) → place ≤ other → other < length which → ((k : ℕ) → place ≤ k → k ≤ other → is_meant which k ≡ true) → other < place + length_from which place
  has_all place other from within all =
      elim (cases_lt other (place + length_from which place)) as (λ _. other < place + length_from which place) [
        | inl less ↦ less
        | inr more ↦
            let rest = length-drop place which in
            let end = length_from which place in
            let stops = passes_at_first not (drop place which) false (omega arith) in
            absurd (true≢false (sym (all (place + end) (omega arith) (omega arith)) ∙ sym (get_or-drop place which end false) ∙ not-true (get_or (drop place which) end false) stops))
      ]

  behind : (place : ℕ) → 0 < place → is_meant_before which place ≡ is_meant which (place - 1)
  behind place some = cond-false (eqb place 0) false (is_meant which (place - 1)) (ne_eqb place 0 (λ e. omega arith))

  record IsStart (other from : ℕ) : Type 0 where
    pub le : from ≤ other
    pub meant : (k : ℕ) → from ≤ k → k < other → is_meant which k ≡ true
    pub before : is_meant_before which from ≡ false

  is_start : (other : ℕ) → IsStart other (start other)
  is_start zero = record { le = omega arith; meant = λ k from to. absurd (omega arith); before = refl }
  is_start (suc place) =
      elim (cases_Bool (is_meant which place)) as (λ _. IsStart (suc place) (start (suc place))) [
        | inl meant ↦
            let own = is_start place in
            let le = own.le in
            subst (IsStart (suc place)) (sym (cond-true (is_meant which place) (start place) (suc place) meant)) (record {
              le = omega arith;
              meant = λ k from to.
                  elim (cases_lt k place) as (λ _. is_meant which k ≡ true) [
                    | inl less ↦ own.meant k from less
                    | inr more ↦ (let same : place ≡ k = omega arith in ap (is_meant which) (sym same) ∙ meant)
                  ];
              before = own.before;
            })
        | inr none ↦
            subst (IsStart (suc place)) (sym (cond-false (is_meant which place) (start place) (suc place) none)) (record {
              le = omega arith;
              meant = λ k from to. absurd (omega arith);
              before = (let same : suc place - 1 ≡ place = omega arith in behind (suc place) (omega arith) ∙ ap (is_meant which) same ∙ none);
            })
      ]

  record Covers (place other : ℕ) : Type 0 where
    pub meant : is_meant which place ≡ true
    pub before : is_meant_before which place ≡ false
    pub from : place ≤ other
    pub to : other < place + length_from which place

  covers_parts : (place other : ℕ) → covers which place other ≡ true → Covers place other
  covers_parts place other is =
      let both = and_parts (begins_at which place) (is_from place (length_from which place) other) is in
      let begins = and_parts (is_meant which place) (not (is_meant_before which place)) both.0 in
      let ends = and_parts (leb place other) (ltb other (place + length_from which place)) both.1 in
      record {
        meant = begins.0;
        before = not-true (is_meant_before which place) begins.1;
        from = leb-true place other ends.0;
        to = ltb-true other (place + length_from which place) ends.1;
      }

  pub start_le : (other : ℕ) → start other ≤ other
  start_le other = (is_start other).le

  pub start_meant : (other : ℕ) → is_meant which other ≡ true → is_meant which (start other) ≡ true
  start_meant other meant =
      let own = is_start other in
      let le = own.le in
      elim (cases_eq (start other) other) as (λ _. is_meant which (start other) ≡ true) [
        | inl same ↦ ap (is_meant which) same ∙ meant
        | inr apart ↦ own.meant (start other) (omega arith) (let no = apart in omega arith)
      ]

  covers_start : (other : ℕ) → other < length which → is_meant which other ≡ true → covers which (start other) other ≡ true
  covers_start other within meant =
      let own = is_start other in
      let le = own.le in
      let to = has_all (start other) other le within
      (λ k from to. elim (cases_lt k other) as (λ _. is_meant which k ≡ true) [
        | inl less ↦ own.meant k from less
        | inr more ↦ (let same : other ≡ k = omega arith in ap (is_meant which) (sym same) ∙ meant)
      ]) in
      and_from (begins_at which (start other)) (is_from (start other) (length_from which (start other)) other)
      (and_from (is_meant which (start other)) (not (is_meant_before which (start other))) (start_meant other meant) (ap not own.before))
      (and_from (leb (start other) other) (ltb other (start other + length_from which (start other))) (le-leb (start other) other le) (lt-ltb other (start other + length_from which (start other)) to))

  only_start : (place other : ℕ) → covers which place other ≡ true → place ≡ start other
  only_start place other is =
      let own = is_start other in
      let parts = covers_parts place other is in
      let from = parts.from in
      let le = own.le in
      elim (cases_eq place (start other)) as (λ _. place ≡ start other) [
        | inl same ↦ same
        | inr apart ↦
            elim (cases_lt place (start other)) as (λ _. place ≡ start other) [
              | inl less ↦
                  absurd (true≢false (sym (all_meant place other (start other - 1) parts.to (omega arith) (omega arith)) ∙ sym (behind (start other) (omega arith)) ∙ own.before))
              | inr more ↦
                  let above : start other < place = (let no = apart in omega arith) in
                  absurd (true≢false (sym (own.meant (place - 1) (omega arith) (omega arith)) ∙ sym (behind place (omega arith)) ∙ parts.before))
            ]
      ]

  -- of a place that is meant just one piece, which begins at its start
  pub covered : (place other : ℕ) → other < length which → is_meant which other ≡ true → covers which place other ≡ eqb place (start other)
  covered place other within meant =
      elim (cases_eq place (start other)) as (λ _. covers which place other ≡ eqb place (start other)) [
        | inl same ↦ ap (λ n. covers which n other) same ∙ covers_start other within meant ∙ sym (eq-eqb place (start other) same)
        | inr apart ↦
            elim (cases_Bool (covers which place other)) as (λ _. covers which place other ≡ eqb place (start other)) [
              | inl is ↦ absurd (apart (only_start place other is))
              | inr not_it ↦ not_it ∙ sym (ne_eqb place (start other) apart)
            ]
      ]

  -- of another one none
  pub not_covered : (place other : ℕ) → is_meant which other ≡ false → covers which place other ≡ false
  not_covered place other none =
      elim (cases_Bool (covers which place other)) as (λ _. covers which place other ≡ false) [
        | inl is ↦ (let parts = covers_parts place other is in let from = parts.from in absurd (true≢false (sym (all_meant place other other parts.to from (omega arith)) ∙ none)))
        | inr not_it ↦ not_it
      ]

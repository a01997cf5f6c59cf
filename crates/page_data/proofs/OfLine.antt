-- The pieces of a line, where pieces ascend by their lines.
use Rattle.std.proofs.Common.{◌≡◌, ℕ, ◌<◌, ◌≤◌, ◌&&◌, ◌∙◌, Bool, true, false, cond, List, [], ◌∷◌, ap, arith, drop, get_or, inl, inr, length, map, refl, sym, take}
use Rattle.std.specs.Prelude.{◌==◌, filter, nat_le, nat_lt, not}
use Rattle.std.specs.List.Sorted.{IsPartitionPoint, IsPartitionedBy}
use Rattle.std.proofs.lemmas.Bool.{and_from, cases_order, eq-eqb, le-leb, le-ltb, leb-true, lt-leb, lt-ltb, ltb-true, ne_eqb}
use Rattle.std.proofs.lemmas.List.{get_or-map, get_or-take, length-map, length-take}
use Rattle.std.proofs.lemmas.List.Elements.{filter_agree}
use Rattle.desk_who.proofs.Slices.{first_pass, last_pass}
use Rattle.desk_impact.proofs.Telling.{map-filter}
use Rattle.page_data.specs.PrivateGrants.{AreByLine, PieceValue, is_of_line, piece_value}
use Rattle.page_data.specs.declared.grants.Piece.{Piece}

-- what passes two tests passes one of what passes the other
pub filter_both : {X : Type 0} (p q : X → Bool) (xs : List X) → filter (λ x. p x && q x) xs ≡ filter p (filter q xs)
filter_both p q [] = refl
filter_both p q (x ∷ xs) = by (p x) (q x) refl (filter_both p q xs)
  where
    by : (a b : Bool) → p x ≡ a → filter (λ y. p y && q y) xs ≡ filter p (filter q xs)
        → cond (a && b) (x ∷ filter (λ y. p y && q y) xs) (filter (λ y. p y && q y) xs) ≡ filter p (cond b (x ∷ filter q xs) (filter q xs))
    by true true e rest = ap (λ ys. x ∷ ys) rest ∙ sym (ap (λ b. cond b (x ∷ filter p (filter q xs)) (filter p (filter q xs))) e)
    by true false e rest = rest
    by false true e rest = rest ∙ sym (ap (λ b. cond b (x ∷ filter p (filter q xs)) (filter p (filter q xs))) e)
    by false false e rest = rest

abbrev pub up_to : ℕ → Piece → Bool
up_to line piece = nat_le piece.line line

abbrev pub is_before : ℕ → Piece → Bool
is_before line piece = nat_lt piece.line line

one_line : (line number : ℕ) → (number == line) ≡ (not (nat_lt number line) && nat_le number line)
one_line line number =
    elim (cases_order number line) as (λ _. (number == line) ≡ (not (nat_lt number line) && nat_le number line)) [
      | inl same ↦ eq-eqb number line same ∙ sym (and_from (not (nat_lt number line)) (nat_le number line) (ap not (le-ltb number line (omega arith))) (le-leb number line (omega arith)))
      | inr apart ↦ elim apart as (λ _. (number == line) ≡ (not (nat_lt number line) && nat_le number line)) [
        | inl less ↦ ne_eqb number line (λ is. omega arith) ∙ sym (ap (λ b. not b && nat_le number line) (lt-ltb number line less))
        | inr more ↦ ne_eqb number line (λ is. omega arith) ∙ sym (ap (λ b. not (nat_lt number line) && b) (lt-leb number line more) ∙ ap (λ b. not b && false) (le-ltb number line (omega arith)))
      ]
    ]

module _ (pieces : List Piece) (by_line : AreByLine (map piece_value pieces)) (line : ℕ) where
  rises : (i j : ℕ) (d : Piece) → i ≤ j → j < length pieces → (get_or pieces i d).line ≤ (get_or pieces j d).line
  rises i j d le within =
      let few = length-map pieces piece_value in
      let value = piece_value d in
      let left = ap (λ (p : PieceValue). p.line) (get_or-map piece_value pieces i d value (omega arith)) in
      let right = ap (λ (p : PieceValue). p.line) (get_or-map piece_value pieces j d value within) in
      elim (cases_order i j) as (λ _. (get_or pieces i d).line ≤ (get_or pieces j d).line) [
        | inl same ↦ omega (arith, ap (λ n. (get_or pieces n d).line) same)
        | inr apart ↦ elim apart as (λ _. (get_or pieces i d).line ≤ (get_or pieces j d).line) [
          | inl less ↦ (let up = by_line i j value less (omega arith) in omega arith)
          | inr more ↦ absurd (omega arith)
        ]
      ]

  pub up_to_parted : IsPartitionedBy (up_to line) pieces
  up_to_parted i j d le within passes =
      let up = rises i j d le within in
      let l = leb-true (get_or pieces j d).line line passes in
      le-leb (get_or pieces i d).line line (omega arith)

  pub before_parted : (end : ℕ) → IsPartitionedBy (is_before line) (take end pieces)
  before_parted end i j d le within passes =
      let few = length-take end pieces in
      let up = rises i j d le (omega arith) in
      let left = ap (λ (p : Piece). p.line) (get_or-take end pieces i d (omega arith)) in
      let right = ap (λ (p : Piece). p.line) (get_or-take end pieces j d (omega arith)) in
      let l = ltb-true (get_or (take end pieces) j d).line line passes in
      lt-ltb (get_or (take end pieces) i d).line line (omega arith)

  -- the part between two binary searches
  pub of_line_is : (end begin : ℕ) → end ≤ length pieces → begin ≤ length (take end pieces) → IsPartitionPoint (λ p. up_to line p ≡ true) (λ p. up_to line p ≡ false) pieces end
      → IsPartitionPoint (λ p. is_before line p ≡ true) (λ p. is_before line p ≡ false) (take end pieces) begin → map piece_value (drop begin (take end pieces)) ≡ filter (is_of_line line) (map piece_value pieces)
  of_line_is end begin le le' upper lower =
      ap (map piece_value) (sym (last_pass (λ p. not (is_before line p)) (take end pieces) begin (λ i d low high. ap not (lower.0 i d low high), λ i d low high. ap not (lower.1 i d low high)) le')
      ∙ ap (filter (λ p. not (is_before line p))) (sym (first_pass (up_to line) pieces end upper le))
      ∙ sym (filter_both (λ p. not (is_before line p)) (up_to line) pieces)
      ∙ sym (filter_agree (λ (p : Piece). p.line == line) (λ p. not (is_before line p) && up_to line p) (λ p. one_line line p.line) pieces))
      ∙ map-filter piece_value (is_of_line line) pieces

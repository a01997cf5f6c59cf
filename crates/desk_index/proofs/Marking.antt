-- Directories marked one by one.
use Rattle.std.proofs.Common.{◌≡◌, ℕ, ◌+◌, ◌<◌, ◌≤◌, ◌++◌, List, [], ◌∷◌, length, length-append, get_or, sym, ◌∙◌, ap, subst, refl, inl, inr, arith}
use Rattle.std.proofs.lemmas.Bool.{cases_lt}
use Rattle.std.proofs.lemmas.List.{get_or_append_left, get_or_default, get_or_push}
use Rattle.std.proofs.lemmas.List.Elements.{All-push}
use Rattle.std.proofs.lemmas.List.Quantifiers.{all_pairs_push}
use Rattle.desk_policy.specs.declared.row.Row.{Row}
use Rattle.desk_index.specs.PrivateMarks.{AreMarked, IsMarkedAt, IsWritten, group_of, mark_of, steps, step, text_at}
use Rattle.desk_index.specs.declared.marks.Spot.{Spot}

pub none_yet : (rows : List Row) → AreMarked [] [] rows 0 0
none_yet rows = record {
  each = refl;
  numbers = λ k d l. absurd (omega arith);
  rising = λ i j d lt l. absurd (omega arith);
  below = λ k d l. absurd (omega arith);
  all = λ place dir d l written before. elim before [ inl lt ↦ absurd (omega arith) | inr at ↦ (let h = at.1 in absurd (omega arith)) ];
}

abbrev spot_at : ℕ → ℕ → Spot
spot_at row dir = record { row = row; dir = dir }

module _ (pairs : List (ℕ × ℕ)) (spots : List Spot) (rows : List Row) (row dirs : ℕ) (d : Row) (marked : AreMarked pairs spots rows row dirs) where
  -- the line at a place, whatever stands for one that is not there
  same_row : (place : ℕ) (other : Row) → place < length rows → place ≡ row → get_or rows place other ≡ get_or rows row d
  same_row place other l e = get_or_default rows place other d l ∙ ap (λ n. get_or rows n d) e

  module _ (mark : ℕ) (spot : Spot) where
    stays : (m place dir : ℕ) → IsMarkedAt pairs spots m place dir → IsMarkedAt (pairs ++ (mark, length spots) ∷ []) (spots ++ spot ∷ []) m place dir
    stays m place dir at = record {
      number = at.number;
      within = (let a = at.within in let b = length-append spots (spot ∷ []) in omega arith);
      pair = λ q. get_or_append_left pairs ((mark, length spots) ∷ []) q at.number (let a = at.within in let b = marked.each in omega arith) ∙ at.pair q;
      spot = λ q. get_or_append_left spots (spot ∷ []) q at.number at.within ∙ at.spot q;
    }

  pub one_marked : row < length rows → (mark : ℕ) → mark ≡ mark_of (group_of (get_or rows row d)) (text_at (get_or rows row d) dirs)
      → AreMarked (pairs ++ (mark, length spots) ∷ []) (spots ++ spot_at row dirs ∷ []) rows row (dirs + 1)
  one_marked there mark is = record {
    each = (let a = length-append pairs ((mark, length spots) ∷ []) in let b = length-append spots (spot_at row dirs ∷ []) in let c = marked.each in omega arith);
    numbers = λ k q l. elim (cases_lt k (length pairs)) [
      | inl lt ↦ ap (λ (p : ℕ × ℕ). p.1) (get_or_append_left pairs ((mark, length spots) ∷ []) q k lt) ∙ marked.numbers k q lt
      | inr ge ↦
          let e : length pairs ≡ k = (let a = length-append pairs ((mark, length spots) ∷ []) in omega arith) in
          ap (λ (p : ℕ × ℕ). p.1) (get_or_push pairs (mark, length spots) q k e) ∙ sym marked.each ∙ e
    ];
    rising = all_pairs_push (λ (one later : Spot). one.row ≤ later.row) spots (spot_at row dirs) marked.rising marked.below;
    below = All-push (λ (spot : Spot). spot.row ≤ row) spots (spot_at row dirs) marked.below (omega arith);
    all = λ place dir other l written before. elim before [
      | inl lt ↦ stays mark (spot_at row dirs) _ place dir (marked.all place dir other l written (inl lt))
      | inr at ↦ elim (cases_lt dir dirs) [
        | inl lt ↦ stays mark (spot_at row dirs) _ place dir (marked.all place dir other l written (inr (at.0, lt)))
        | inr ge ↦
            let last : dir ≡ dirs = (let h = at.1 in omega arith) in
            let line = same_row place other l at.0 in
            record {
              number = length spots;
              within = (let b = length-append spots (spot_at row dirs ∷ []) in omega arith);
              pair = λ q.
                  get_or_push pairs (mark, length spots) q (length spots) marked.each
                  ∙ ap (λ (m : ℕ). let p : ℕ × ℕ = (m, length spots) in p) (is ∙ ap (λ (r : Row). mark_of (group_of r) (text_at r dirs)) (sym line) ∙ ap (λ n. mark_of (group_of (get_or rows place other)) (text_at (get_or rows place other) n)) (sym last));
              spot = λ q. get_or_push spots (spot_at row dirs) q (length spots) refl ∙ ap (λ n. spot_at n dirs) (sym at.0) ∙ ap (λ n. spot_at place n) (sym last);
            }
      ]
    ];
  }

  pub row_marked : ((dir : ℕ) → IsWritten (get_or rows row d) dir → dir < dirs) → AreMarked pairs spots rows (row + 1) 0
  row_marked done = record {
    each = marked.each;
    numbers = marked.numbers;
    rising = marked.rising;
    below = λ k q l. (let h = marked.below k q l in omega arith);
    all = λ place dir other l written before. elim before [
      | inl lt ↦ elim (cases_lt place row) [
        | inl less ↦ marked.all place dir other l written (inl less)
        | inr ge ↦
            let e : place ≡ row = omega arith in
            marked.all place dir other l written (inr (e, done dir (subst (λ r. IsWritten r dir) (same_row place other l e) written)))
      ]
      | inr at ↦ (let h = at.1 in absurd (omega arith))
    ];
  }

-- one more byte
pub steps_more : (mark : ℕ) (text : List ℕ) (byte : ℕ) → steps mark (text ++ byte ∷ []) ≡ step (steps mark text) byte
steps_more mark [] byte = refl
steps_more mark (x ∷ xs) byte = steps_more (step mark x) xs byte

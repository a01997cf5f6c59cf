-- The places of rows by the texts that tell them, as one more line comes; and that each line is in one row.
use Rattle.std.proofs.Common.{◌≡◌, ℕ, suc, ◌+◌, ◌<◌, ◌++◌, ◌∙◌, Bool, true, false, cond, List, [], ◌∷◌, Option, None, Some, ap, arith, get_or, inl, inr, length, refl, set, subst, sym}
use Rattle.std.specs.List.{position_from}
use Rattle.std.specs.Prelude.{Contains}
use Rattle.std.specs.Str.{bytes_eq}
use Rattle.std.proofs.lemmas.Bool.{cases_Bool, true≢false}
use Rattle.std.proofs.lemmas.List.{get_or_default}
use Rattle.std.proofs.lemmas.Slice.Eq.{bytes_eq-Decides}
use Rattle.page_data.proofs.Grouped.{added, one_group}
use Rattle.page_summary.specs.Laws.{AlikeLinesShareARow, IsInOneRow}
use Rattle.page_summary.specs.PrivateSharedRows.{is_told, with_line}
use Rattle.page_summary.specs.SharedRows.{AreSharedRows, are_told_alike, told}
use Rattle.page_summary.specs.declared.findings.FindingRow.{FindingRow}

-- ---- lines that are told alike
pub same : (line other : FindingRow) → are_told_alike line other ≡ true → told line ≡ told other
same line other = (bytes_eq-Decides (told line) (told other)).0

pub alike : (line other : FindingRow) → told line ≡ told other → are_told_alike line other ≡ true
alike line other = (bytes_eq-Decides (told line) (told other)).1

pub itself : (line : FindingRow) → are_told_alike line line ≡ true
itself line = alike line line refl

pub back : (line other : FindingRow) → are_told_alike line other ≡ true → are_told_alike other line ≡ true
back line other is = alike other line (sym (same line other is))

pub along : (line other third : FindingRow) → are_told_alike line other ≡ true → are_told_alike other third ≡ true → are_told_alike line third ≡ true
along line other third is is' = alike line third (same line other is ∙ same other third is')

-- one more line in the rows
pub same_added : (line : FindingRow) (rows : List (List FindingRow)) → with_line line rows ≡ added are_told_alike itself back along line rows
same_added line [] = refl
same_added line ([] ∷ rows) = ap (λ rs. [] ∷ rs) (same_added line rows)
same_added line ((first ∷ others) ∷ rows) = ap (λ rs. cond (are_told_alike first line) ((first ∷ others ++ line ∷ []) ∷ rows) ((first ∷ others) ∷ rs)) (same_added line rows)

in_one_row : (lines : List FindingRow) (rows : List (List FindingRow)) → AreSharedRows lines rows → (line : FindingRow) → Contains lines line → IsInOneRow lines rows line
in_one_row lines rows are line has =
    let one = one_group are_told_alike itself back along lines rows are line has in
    record {
      row = one.group;
      listed = one.listed;
      has = one.has;
      only = one.only;
      alike = λ other. (
        λ has_other. (let both = (one.same other).0 has_other in (both.0, same line other both.1)),
        λ both. (one.same other).1 (both.0, alike line other both.1),
      );
    }

pub share_a_row : AlikeLinesShareARow
share_a_row lines rows are k d within = in_one_row lines rows are (get_or lines k d) (k, within, get_or_default lines k (get_or lines k d) d within)

-- ---- a list with one more element
module _ {A : Type 0} (test : A → Bool) where
  still : (i : ℕ) (xs : List A) (x : A) (place : ℕ) → position_from test i xs ≡ Some place → position_from test i (xs ++ x ∷ []) ≡ Some place
  still i [] x place is = absurd (cc)
  still i (first ∷ xs) x place is =
      elim (cases_Bool (test first)) as (λ _. position_from test i (first ∷ xs ++ x ∷ []) ≡ Some place) [
        | inl passes ↦ ap (λ b. cond b (Some i) (position_from test (i + 1) (xs ++ x ∷ []))) passes ∙ sym (ap (λ b. cond b (Some i) (position_from test (i + 1) xs)) passes) ∙ is
        | inr fails ↦
            ap (λ b. cond b (Some i) (position_from test (i + 1) (xs ++ x ∷ []))) fails
            ∙ still (i + 1) xs x place (sym (ap (λ b. cond b (Some i) (position_from test (i + 1) xs)) fails) ∙ is)
      ]

  at_end : (i : ℕ) (xs : List A) (x : A) → position_from test i xs ≡ None → position_from test i (xs ++ x ∷ []) ≡ cond (test x) (Some (i + length xs)) None
  at_end i [] x none = ap (λ n. cond (test x) (Some n) None) (plus_none i)
    where
      plus_none : (n : ℕ) → n ≡ n + 0
      plus_none n = omega arith
  at_end i (first ∷ xs) x none =
      elim (cases_Bool (test first)) as (λ _. position_from test i (first ∷ xs ++ x ∷ []) ≡ cond (test x) (Some (i + length (first ∷ xs))) None) [
        | inl passes ↦ absurd (some_none (sym (ap (λ b. cond b (Some i) (position_from test (i + 1) xs)) passes) ∙ none))
        | inr fails ↦
            ap (λ b. cond b (Some i) (position_from test (i + 1) (xs ++ x ∷ []))) fails
            ∙ at_end (i + 1) xs x (sym (ap (λ b. cond b (Some i) (position_from test (i + 1) xs)) fails) ∙ none)
            ∙ ap (λ n. cond (test x) (Some n) None) (omega arith)
      ]
    where
      some_none : {n : ℕ} → Some n ≡ None → ⊥
      some_none e = cc

-- ---- a row that is told by the text
abbrev pub grown : FindingRow → List (List FindingRow) → ℕ → List (List FindingRow)
grown line rows place = set rows place (get_or rows place [] ++ line ∷ [])

-- the first row that is told like a line stands here, and grows by it
pub record Grows (line : FindingRow) (i : ℕ) (rows : List (List FindingRow)) (place : ℕ) : Type 0 where
  pub at : ℕ
  pub is : place ≡ i + at
  pub within : at < length rows
  pub grows : with_line line rows ≡ grown line rows at
  pub keeps : (text : List ℕ) (j : ℕ) → position_from (is_told text) j (grown line rows at) ≡ position_from (is_told text) j rows

module _ (line : FindingRow) where
  abbrev own : List ℕ
  own = told line

  same_first : (row : List FindingRow) → is_told own row ≡ true → (text : List ℕ) → is_told text (row ++ line ∷ []) ≡ is_told text row
  same_first [] has text = absurd (true≢false (sym has))
  same_first (first ∷ others) has text = refl

  pub grows : (i : ℕ) (rows : List (List FindingRow)) (place : ℕ) → position_from (is_told own) i rows ≡ Some place → Grows line i rows place
  grows i [] place is = absurd (cc)
  grows i (row ∷ rows) place is =
      elim (cases_Bool (is_told own row)) as (λ _. Grows line i (row ∷ rows) place) [
        | inl passes ↦ record {
          at = 0;
          is = sym (same_place (sym (ap (λ b. cond b (Some i) (position_from (is_told own) (i + 1) rows)) passes) ∙ is));
          within = omega arith;
          grows = ap (λ b. cond b ((row ++ line ∷ []) ∷ rows) (row ∷ with_line line rows)) passes;
          keeps = λ text j. ap (λ b. cond b (Some j) (position_from (is_told text) (j + 1) rows)) (same_first row passes text);
        }
        | inr fails ↦
            let rest = grows (i + 1) rows place (sym (ap (λ b. cond b (Some i) (position_from (is_told own) (i + 1) rows)) fails) ∙ is) in
            record {
              at = suc rest.at;
              is = (let e = rest.is in omega arith);
              within = (let lt = rest.within in omega arith);
              grows = ap (λ b. cond b ((row ++ line ∷ []) ∷ rows) (row ∷ with_line line rows)) fails ∙ ap (λ rs. row ∷ rs) rest.grows;
              keeps = λ text j. ap (λ o. cond (is_told text row) (Some j) o) (rest.keeps text (j + 1));
            }
      ]
    where
      same_place : {n m : ℕ} → Some n ≡ Some m → n + 0 ≡ m
      same_place {n} {m} e = (let is : n ≡ m = cc in omega arith)

  pub new_row : (i : ℕ) (rows : List (List FindingRow)) → position_from (is_told own) i rows ≡ None → with_line line rows ≡ rows ++ (line ∷ []) ∷ []
  new_row i [] none = refl
  new_row i (row ∷ rows) none =
      elim (cases_Bool (is_told own row)) as (λ _. with_line line (row ∷ rows) ≡ row ∷ rows ++ (line ∷ []) ∷ []) [
        | inl passes ↦ absurd (some_none (sym (ap (λ b. cond b (Some i) (position_from (is_told own) (i + 1) rows)) passes) ∙ none))
        | inr fails ↦
            ap (λ b. cond b ((row ++ line ∷ []) ∷ rows) (row ∷ with_line line rows)) fails
            ∙ ap (λ rs. row ∷ rs) (new_row (i + 1) rows (sym (ap (λ b. cond b (Some i) (position_from (is_told own) (i + 1) rows)) fails) ∙ none))
      ]
    where
      some_none : {n : ℕ} → Some n ≡ None → ⊥
      some_none e = cc

-- ---- the places, with that of a new row
module _ (before after : List ℕ → Option ℕ) (rows : List (List FindingRow)) (line : FindingRow) (text : List ℕ) (is : text ≡ told line)
    (placed : (other : List ℕ) → before other ≡ position_from (is_told other) 0 rows) (none : position_from (is_told text) 0 rows ≡ None)
    (kept : (other : List ℕ) → after other ≡ cond (bytes_eq text other) (Some (length rows)) (before other)) where
  abbrev more : List (List FindingRow)
  more = rows ++ (line ∷ []) ∷ []

  at_other : (other : List ℕ) → bytes_eq text other ≡ false → (found : Option ℕ) → position_from (is_told other) 0 rows ≡ found → position_from (is_told other) 0 more ≡ found
  at_other other apart None there = at_end (is_told other) 0 rows (line ∷ []) there ∙ ap (λ b. cond b (Some (0 + length rows)) None) (ap (λ t. bytes_eq t other) (sym is) ∙ apart)
  at_other other apart (Some place) there = still (is_told other) 0 rows (line ∷ []) place there

  pub placed_more : (other : List ℕ) → after other ≡ position_from (is_told other) 0 more
  placed_more other =
      kept other
      ∙ elim (cases_Bool (bytes_eq text other)) as (λ _. cond (bytes_eq text other) (Some (length rows)) (before other) ≡ position_from (is_told other) 0 more) [
        | inl passes ↦
            let same_text : text ≡ other = (bytes_eq-Decides text other).0 passes in
            ap (λ b. cond b (Some (length rows)) (before other)) passes
            ∙ sym (at_end (is_told other) 0 rows (line ∷ []) (subst (λ t. position_from (is_told t) 0 rows ≡ None) same_text none)
            ∙ ap (λ b. cond b (Some (0 + length rows)) None) (ap (λ t. bytes_eq t other) (sym is) ∙ passes) ∙ ap Some (omega arith))
        | inr fails ↦
            ap (λ b. cond b (Some (length rows)) (before other)) fails ∙ placed other
            ∙ sym (at_other other fails (position_from (is_told other) 0 rows) refl)
      ]

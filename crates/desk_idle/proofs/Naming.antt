-- Which line a verdict among selected lines names.
use Rattle.std.proofs.Common.{◌≡◌, ◌⊎◌, ℕ, ◌++◌, ◌∙◌, Bool, true, false, List, [], ◌∷◌, Option, Some, None, ap, inl, inr, refl, sym}
use Rattle.std.specs.Prelude.{find}
use Rattle.std.specs.List.{list_any}
use Rattle.std.proofs.lemmas.Bool.{cases_Bool, cond-true, cond-false, eq-eqb, eqb-true, or_parts, or_from, true≢false}
use Rattle.desk_tables.specs.declared.filesystems.FsId.{FsId}
use Rattle.desk_policy.specs.Verdict.{granted_by, verdict_among}
use Rattle.desk_policy.specs.declared.row.Row.{Row}
use Rattle.desk_idle.specs.Idle.{names_line}

-- the first element that passes, and those around it
pub record Found {X : Type 0} (p : X → Bool) (xs : List X) (x : X) : Type 0 where
  pub earlier : List X
  pub later : List X
  pub are : xs ≡ earlier ++ x ∷ later
  pub passes : p x ≡ true
  pub before : list_any p earlier ≡ false

pub split_at_found : {X : Type 0} (p : X → Bool) (xs : List X) (y : X) → find p xs ≡ Some y → Found p xs y
split_at_found p [] y e = let wrong : None ≡ Some y = e in cc
split_at_found p (x ∷ xs) y e =
    elim (cases_Bool (p x)) [
      | inl here ↦
          let same : x ≡ y = (let f : Some x ≡ Some y = sym (cond-true (p x) (Some x) (find p xs) here) ∙ e in cc) in
          record { earlier = []; later = xs; are = ap (λ z. z ∷ xs) same; passes = sym (ap p same) ∙ here; before = refl }
      | inr later ↦
          let rest = split_at_found p xs y (sym (cond-false (p x) (Some x) (find p xs) later) ∙ e) in
          record { earlier = x ∷ rest.earlier; later = rest.later; are = ap (λ ys. x ∷ ys) rest.are; passes = rest.passes; before = or_from (p x) (list_any p rest.earlier) later rest.before }
    ]

pub found_at_split : {X : Type 0} (p : X → Bool) (earlier : List X) (y : X) (later : List X) → list_any p earlier ≡ false → p y ≡ true → find p (earlier ++ y ∷ later) ≡ Some y
found_at_split p [] y later before passes = cond-true (p y) (Some y) (find p later) passes
found_at_split p (x ∷ earlier) y later before passes =
    let s = or_parts (p x) (list_any p earlier) before in
    cond-false (p x) (Some x) (find p (earlier ++ y ∷ later)) s.0 ∙ found_at_split p earlier y later s.1 passes

grants : (fs : FsId) (listing : Row → Bool) (rows : List Row) (row : Row) → find listing rows ≡ Some row → names_line row.entry.line (verdict_among fs listing rows) ≡ true
grants fs listing [] row e = let wrong : None ≡ Some row = e in cc
grants fs listing (first ∷ others) row e = ap (λ o. names_line row.entry.line (granted_by fs first o)) e ∙ eq-eqb row.entry.line row.entry.line refl

-- the line that is the first to list the path is named
pub first_to_list : (fs : FsId) (listing : Row → Bool) (earlier : List Row) (row : Row) (later : List Row) → list_any listing earlier ≡ false → listing row ≡ true
    → names_line row.entry.line (verdict_among fs listing (earlier ++ row ∷ later)) ≡ true
first_to_list fs listing earlier row later before passes = grants fs listing (earlier ++ row ∷ later) row (found_at_split listing earlier row later before passes)

-- the first of all lines
pub record Foremost (rows : List Row) (line : ℕ) : Type 0 where
  pub row : Row
  pub others : List Row
  pub are : rows ≡ row ∷ others
  pub number : row.entry.line ≡ line

-- the first to list the path
pub record Lister (listing : Row → Bool) (rows : List Row) (line : ℕ) : Type 0 where
  pub row : Row
  pub found : Found listing rows row
  pub number : row.entry.line ≡ line

named_by : (fs : FsId) (listing : Row → Bool) (first : Row) (others : List Row) (line : ℕ) (o : Option Row) → find listing (first ∷ others) ≡ o → names_line line (granted_by fs first o) ≡ true
    → Lister listing (first ∷ others) line ⊎ Foremost (first ∷ others) line
named_by fs listing first others line None e names = inr (record { row = first; others = others; are = refl; number = eqb-true first.entry.line line names })
named_by fs listing first others line (Some row) e names = inl (record { row = row; found = split_at_found listing (first ∷ others) row e; number = eqb-true row.entry.line line names })

-- a line that is named is the first to list the path, or the first of all
pub named : (fs : FsId) (listing : Row → Bool) (rows : List Row) (line : ℕ) → names_line line (verdict_among fs listing rows) ≡ true → Lister listing rows line ⊎ Foremost rows line
named fs listing [] line e = absurd (true≢false (sym e))
named fs listing (first ∷ others) line e = named_by fs listing first others line (find listing (first ∷ others)) refl e

-- The first of some lines, by its number.
use Rattle.std.proofs.Common.{◌≡◌, ◌∙◌, ℕ, List, [], ◌∷◌, Some, None, ap, refl}
use Rattle.std.specs.Prelude.{slice_get}
use Rattle.std.specs.List.{All, Contains}
use Rattle.std.proofs.lemmas.List.Elements.{All-head}
use Rattle.desk_policy.specs.declared.row.Row.{Row}
use Rattle.desk_index.specs.Keys.{listed, numbers}

-- lines begin with this one, which has this number, and is among others
pub record Front (rows chosen : List Row) (line : ℕ) : Type 0 where
  pub first : Row
  pub others : List Row
  pub are : chosen ≡ first ∷ others
  pub number : first.entry.line ≡ line
  pub has : Contains rows first

pub front : (rows chosen : List Row) (lines : List ℕ) (line : ℕ) → lines ≡ numbers chosen → All (Contains rows) chosen → Some line ≡ slice_get lines 0 → Front rows chosen line
front rows [] lines line are all e = let wrong : Some line ≡ None = e ∙ ap (λ (ns : List ℕ). slice_get ns 0) are in cc
front rows (first ∷ others) lines line are all e = record {
  first = first;
  others = others;
  are = refl;
  number = (let f : Some line ≡ Some first.entry.line = e ∙ ap (λ (ns : List ℕ). slice_get ns 0) are in cc);
  has = All-head (Contains rows) first others all;
}

-- no lines are listed only if there are none
pub none_listed : (rows : List Row) → None ≡ listed (numbers rows) → rows ≡ []
none_listed [] e = refl
none_listed (row ∷ rows) e = let wrong : None ≡ Some (row.entry.line ∷ numbers rows) = e in cc

pub some_listed : (lines found : List ℕ) → Some found ≡ listed lines → found ≡ lines
some_listed [] found e = let wrong : Some found ≡ None = e in cc
some_listed (line ∷ lines) found e = cc

-- The lines of a text in a set, and the rows of a proposed text, each with one more.
use Rattle.std.proofs.Common.{◌≡◌, ◌<◌, ◌+◌, ◌++◌, ◌∙◌, ◌||◌, ℕ, Bool, true, false, List, [], ◌∷◌, Bor, ap, append_assoc, arith, cond, get_or, length, refl, sym, take}
use Rattle.std.specs.BTreeMap.{is_at}
use Rattle.std.specs.BTreeSet.{BTreeSet, contains}
use Rattle.std.specs.List.{list_any}
use Rattle.std.specs.Str.{bytes_eq}
use Rattle.std.proofs.lemmas.Bool.Decides.{same_from_decides}
use Rattle.std.proofs.lemmas.List.{append-nil, length-take-le, take_more}
use Rattle.std.proofs.lemmas.List.Folds.{list_any-append}
use Rattle.std.proofs.lemmas.Map.Text.{is_eq-slice_cmp}
use Rattle.std.proofs.lemmas.Slice.Eq.{bytes_eq-Decides}
use Rattle.page_filesystem.specs.Proposals.{HasLines, is_among, order, proposed_row, proposed_rows}

either : (a b : Bool) → cond a true b ≡ (b || (a || false))
either true true = refl
either true false = refl
either false true = refl
either false false = refl

-- lines are compared alike from both sides
turned : (line other : List ℕ) → bytes_eq line other ≡ bytes_eq other line
turned line other =
    same_from_decides (bytes_eq line other) (bytes_eq other line) (bytes_eq-Decides line other)
    (λ e. sym ((bytes_eq-Decides other line).0 e), λ e. (bytes_eq-Decides other line).1 (sym e))

pub one_more : (old new : BTreeSet (Bor (List ℕ))) (line : Bor (List ℕ)) (given : List (List ℕ)) (k : ℕ) → k < length given → line.now ≡ get_or given
    k line.now
    → ((other : Bor (List ℕ)) → contains order new other ≡ cond (is_at (order line) other) true (contains order old other))
    → HasLines (take k given) old → HasLines (take (k + 1) given) new
one_more old new line given k within is updates before = λ other.
    updates other
    ∙ ap (λ b. cond b true (contains order old other)) (is_eq-slice_cmp line.now other.now ∙ turned line.now other.now)
    ∙ ap (λ b. cond (bytes_eq other.now line.now) true b) (before other)
    ∙ either (bytes_eq other.now line.now) (is_among (take k given) other.now)
    ∙ sym (list_any-append (bytes_eq other.now) (take k given) (line.now ∷ []))
    ∙ ap (λ l. list_any (bytes_eq other.now) (take k given ++ l ∷ [])) is
    ∙ ap (list_any (bytes_eq other.now)) (sym (take_more given k line.now within))

module _ (in_force : List (List ℕ)) where
  rows_push : (before : ℕ) (xs : List (List ℕ)) (x : List ℕ) → proposed_rows in_force before (xs ++ x ∷ []) ≡ proposed_rows in_force before xs
      ++ proposed_row in_force (before + length xs + 1) x
  rows_push before [] x =
      append-nil (proposed_row in_force (before + 1) x) ∙ ap (λ n. proposed_row in_force n x)
      (let e : before + 1 ≡ before + 0 + 1 = omega arith in e)
  rows_push before (y ∷ xs) x =
      let first = proposed_row in_force (before + 1) y in
      let others = proposed_rows in_force (before + 1) xs in
      ap (λ t. first ++ t) (rows_push (before + 1) xs x)
      ∙ ap (λ n. first ++ (others ++ proposed_row in_force n x))
      (let e : before + 1 + length xs + 1 ≡ before + length (y ∷ xs) + 1 = omega arith in e)
      ∙ sym (append_assoc first others (proposed_row in_force (before + length (y ∷ xs) + 1) x))

  pub proposed_more : (ls : List (List ℕ)) (k number : ℕ) (line : List ℕ) (start now next : List ℕ) → k < length ls → line ≡ get_or ls k line → number
      ≡ k
      → now ≡ start ++ proposed_rows in_force 0 (take k ls) → next ≡ now ++ proposed_row in_force (number + 1) line → next ≡ start
      ++ proposed_rows in_force 0 (take (k + 1) ls)
  proposed_more ls k number line start now next within is counted before added =
      let here : 0 + length (take k ls) + 1 ≡ number + 1 = omega (arith, length-take-le k ls) in
      let row = λ (n : ℕ). proposed_row in_force n line in
      let others = proposed_rows in_force 0 (take k ls) in
      added ∙ ap (λ t. t ++ row (number + 1)) before ∙ append_assoc start others (row (number + 1))
      ∙ ap (λ n. start ++ (others ++ row n)) (sym here)
      ∙ ap (λ t. start ++ t) (sym (rows_push 0 (take k ls) line)) ∙ ap (λ l. start ++ proposed_rows in_force 0 (take k ls ++ l ∷ [])) is
      ∙ ap (λ xs. start ++ proposed_rows in_force 0 xs) (sym (take_more ls k line within))

-- No two ids are the same: each is compared with those after it.
use Rattle.std.proofs.Common.{◌≡◌, ◌&&◌, ◌||◌, Bool, List, [], ◌∷◌, ℕ, bytes_eq, false, map, not, refl, true}
use Rattle.std.specs.Fmt.{digits}
use Rattle.std.specs.List.{AllByRecursion, IsDistinct, list_any}
use Rattle.desk_sarif.specs.SarifRules.{log_rules, rule_id}
use Rattle.desk_sarif.proofs.sarif_rules.ids_differ.Goals as goal

abbrev all_differ : List (List ℕ) → Bool
all_differ [] = true
all_differ (x ∷ xs) = not (list_any (bytes_eq x) xs) && all_differ xs

second : (a b : Bool) → (a || b) ≡ false → b ≡ false
second false b none = none
second true b none = cc

first : (a b : Bool) → (a || b) ≡ false → a ≡ false
first false b none = refl
first true b none = cc

apart : (x : List ℕ) (xs : List (List ℕ)) → list_any (bytes_eq x) xs ≡ false → AllByRecursion (λ y. bytes_eq x y ≡ false) xs
apart x [] none = tt
apart x (y ∷ ys) none = (first (bytes_eq x y) (list_any (bytes_eq x) ys) none, apart x ys (second (bytes_eq x y) (list_any (bytes_eq x) ys) none))

both_first : (a b : Bool) → (not a && b) ≡ true → a ≡ false
both_first false b both = refl
both_first true b both = cc

both_second : (a b : Bool) → (not a && b) ≡ true → b ≡ true
both_second false b both = both
both_second true b both = cc

are_distinct : (xs : List (List ℕ)) → all_differ xs ≡ true → IsDistinct bytes_eq xs
unfolding IsDistinct
are_distinct [] differ = tt
are_distinct (x ∷ xs) differ = (apart x xs (both_first (list_any (bytes_eq x) xs) (all_differ xs) differ), are_distinct xs (both_second (list_any (bytes_eq x) xs) (all_differ xs) differ))

pub returns : goal.returns
unfolding digits
returns c = are_distinct (map rule_id log_rules) refl

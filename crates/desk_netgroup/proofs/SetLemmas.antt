-- A set of texts with one more.
use Rattle.std.proofs.Common.{◌≡◌, ◌||◌, Bool, true, false, cond, ℕ, List, refl, sym}
use Rattle.std.specs.Str.{bytes_eq}
use Rattle.std.proofs.lemmas.Slice.Eq.{bytes_eq-Decides}
use Rattle.desk_netgroup.proofs.Walking.{both_true, same_name}

pub added : (a b : Bool) → cond b true a ≡ (a || b)
added true true = refl
added true false = refl
added false true = refl
added false false = refl

pub flip : (a b : List ℕ) → bytes_eq a b ≡ bytes_eq b a
flip a b = both_true (bytes_eq a b) (bytes_eq b a) (λ e. (bytes_eq-Decides b a).1 (sym (same_name a b e))) (λ e. (bytes_eq-Decides a b).1 (sym (same_name b a e)))

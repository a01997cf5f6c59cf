-- Where the greater of two functions changes, and the greatest of some.
use Rattle.std.proofs.Common.{◌≡◌, ℕ, zero, suc, ◌+◌, ◌<◌, ◌∙◌, List, [], ◌∷◌, ap, arith, get_or, length, refl, take}
use Rattle.std.specs.List.{AllZip}
use Rattle.std.proofs.lemmas.List.Sums.{fold_more}
use Rattle.desk_who.specs.Runs.{AreRuns, AreStartsOf, Run}
use Rattle.desk_who.specs.Starts.{AreJoined}
use Rattle.page_data.specs.Class.{most_of}
use Rattle.page_data.specs.PrivateClasses.{most_among}
use Rattle.page_data.specs.declared.class.Class.{Class}
use Rattle.page_data.specs.declared.class.Class.TheVariants.{Denied}
use Rattle.page_data.proofs.Agreeing.{runs_agree}

-- what is made of a value changes only where that does
pub made_starts : {A B : Type 0} (made : A → B) (value_at : ℕ → A) (starts : List ℕ) → AreStartsOf value_at starts → AreStartsOf (λ address. made (value_at address)) starts
made_starts made value_at starts are = record { ascend = are.ascend; behind = are.behind; steady = λ address fits none. ap made (are.steady address fits none) }

pub both_starts : (class_at other_at : ℕ → Class) (starts others all : List ℕ) → AreStartsOf class_at starts → AreStartsOf other_at others → AreJoined starts others all
    → AreStartsOf (λ address. most_of (class_at address) (other_at address)) all
both_starts class_at other_at starts others all are are' joined = record {
  ascend = joined.ascend;
  behind = joined.behind are.behind are'.behind;
  steady = λ address fits none.
      ap (λ class. most_of class (other_at (address + 1))) (are.steady address fits (joined.own (address + 1) none))
      ∙ ap (λ class. most_of (class_at address) class) (are'.steady address fits (joined.other (address + 1) none));
}

abbrev most_step : ℕ → Class → (ℕ → Class) → Class
most_step address most class_at = most_of (class_at address) most

pub one_more : (each : List (ℕ → Class)) (i : ℕ) (d : ℕ → Class) (runs : List (Run Class)) → i < length each
    → AreRuns (λ address. most_of ((get_or each i d) address) (most_among (take i each) address)) runs → AreRuns (most_among (take (i + 1) each)) runs
one_more each i d runs within are =
    runs_agree (λ address. most_of ((get_or each i d) address) (most_among (take i each) address)) (most_among (take (i + 1) each))
    (λ address fits. fold_more (most_step address) Denied each i d within) runs are

-- what holds of two lists place by place
pub zip_long : {A B : Type 0} (R : A → B → Type 0) (xs : List A) (ys : List B) → AllZip R xs ys → length xs ≡ length ys
zip_long R [] [] zip = refl
zip_long R [] (y ∷ ys) zip = absurd zip
zip_long R (x ∷ xs) [] zip = absurd zip
zip_long R (x ∷ xs) (y ∷ ys) zip = (let rest = zip_long R xs ys zip.1 in omega arith)

pub zip_at : {A B : Type 0} (R : A → B → Type 0) (xs : List A) (ys : List B) (i : ℕ) (d : A) (e : B) → AllZip R xs ys → i < length xs → R (get_or xs i d) (get_or ys i e)
zip_at R [] ys i d e zip within = absurd (omega arith)
zip_at R (x ∷ xs) [] i d e zip within = absurd zip
zip_at R (x ∷ xs) (y ∷ ys) zero d e zip within = zip.0
zip_at R (x ∷ xs) (y ∷ ys) (suc i) d e zip within = zip_at R xs ys i d e zip.1 (omega arith)

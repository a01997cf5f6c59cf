-- The most that clients may is one function of addresses, and so it has one list of runs; and the counts of classes add up.
use Rattle.std.proofs.Common.{◌≡◌, ℕ, suc, zero, ◌+◌, ◌-◌, ◌<◌, ◌≤◌, ◌^◌, ◌∙◌, Bool, cond, List, [], ◌∷◌, ap, arith, refl, sym}
use Rattle.std.specs.List.{AllByRecursion, count_by, range_with_len}
use Rattle.std.proofs.lemmas.List.FromFn.{length-range_with_len}
use Rattle.std.proofs.lemmas.List.Sums.{sum_by-cons}
use Rattle.std.specs.Prelude.{length}
use Rattle.desk_policy.specs.Policy.{Content}
use Rattle.desk_who.specs.Runs.{AreRuns, HasValue, Run, RunsAreUnique}
use Rattle.page_data.specs.Class.{rank_of, same_class}
use Rattle.page_data.specs.Classes.{IsMostOn}
use Rattle.page_data.specs.Counts.{count_within}
use Rattle.page_data.specs.Laws.{ClassesAreUnique, CountsAddUp}
use Rattle.page_data.specs.declared.class.Class.{Class}
use Rattle.page_data.specs.declared.class.Class.TheVariants.{Denied, ReadOnly, ReadWrite, RootKept}

-- classes of one rank are the same
class_at_rank : ℕ → Class
class_at_rank n = elim n [ zero ↦ Denied | suc a ↦ elim a [ zero ↦ ReadOnly | suc b ↦ elim b [ zero ↦ ReadWrite | suc c ↦ RootKept ] ] ]

back : (class : Class) → class_at_rank (rank_of class) ≡ class
unfolding class_at_rank
back Denied = refl
back ReadOnly = refl
back ReadWrite = refl
back RootKept = refl

pub same_rank : (class other : Class) → rank_of class ≡ rank_of other → class ≡ other
same_rank class other same = sym (back class) ∙ ap class_at_rank same ∙ back other

-- two that are the most are the same
pub one_most : (content : Content) (is_here : List (List ℕ) → Bool) (address : ℕ) (class other : Class) → IsMostOn content is_here address class → IsMostOn content is_here address other → class ≡ other
one_most content is_here address class other most most' =
    let up : rank_of other ≤ rank_of class = (let h = most.none_more most'.path most'.here in omega (arith, ap rank_of most'.comes_to)) in
    let down : rank_of class ≤ rank_of other = (let h = most'.none_more most.path most.here in omega (arith, ap rank_of most.comes_to)) in
    same_rank class other (omega arith)

-- functions that say the same at each address have the same runs
module _ {A : Type 0} (value_at other_at : ℕ → A) (agree : (address : ℕ) → address < 2 ^ 32 → other_at address ≡ value_at address) where
  values_agree : (runs : List (Run A)) → AllByRecursion (HasValue value_at) runs → AllByRecursion (HasValue other_at) runs
  values_agree [] values = tt
  values_agree (run ∷ runs) values =
      let fits = values.0.addresses in (
        record {
          proper = values.0.proper;
          addresses = values.0.addresses;
          values = λ address low high. agree address (omega arith) ∙ values.0.values address low high;
        },
        values_agree runs values.1,
      )

  pub runs_agree : (runs : List (Run A)) → AreRuns value_at runs → AreRuns other_at runs
  runs_agree runs are = record { values = values_agree runs are.values; complete = are.complete; ascend = are.ascend; apart = are.apart }

pub classes_are_unique : RunsAreUnique Class → ClassesAreUnique
classes_are_unique unique content is_here runs other are are' =
    unique are.class_at runs other are.are
    (runs_agree are'.class_at are.class_at (λ address fits. one_most content is_here address (are.class_at address) (are'.class_at address) (are.most address fits) (are'.most address fits)) other are'.are)

-- ---- counts
module _ (class_at : ℕ → Class) where
  abbrev is_of : Class → ℕ → Bool
  is_of class address = same_class (class_at address) class

  abbrev all_four : List ℕ → ℕ
  all_four xs = count_by (is_of Denied) xs + count_by (is_of ReadOnly) xs + count_by (is_of ReadWrite) xs + count_by (is_of RootKept) xs

  one_of_four : (class : Class) → cond (same_class class Denied) 1 0 + cond (same_class class ReadOnly) 1 0 + cond (same_class class ReadWrite) 1 0 + cond (same_class class RootKept) 1 0 ≡ 1
  one_of_four Denied = refl
  one_of_four ReadOnly = refl
  one_of_four ReadWrite = refl
  one_of_four RootKept = refl

  add_up : (xs : List ℕ) → all_four xs ≡ length xs
  add_up [] = refl
  add_up (x ∷ xs) =
      let rest = add_up xs in
      let one = one_of_four (class_at x) in
      omega (
        arith,
        sum_by-cons (λ y. cond (is_of Denied y) 1 0) x xs,
        sum_by-cons (λ y. cond (is_of ReadOnly y) 1 0) x xs,
        sum_by-cons (λ y. cond (is_of ReadWrite y) 1 0) x xs,
        sum_by-cons (λ y. cond (is_of RootKept y) 1 0) x xs,
      )

pub counts_add_up : CountsAddUp
unfolding count_within
counts_add_up class_at first last counts are =
    let all = add_up class_at (range_with_len first (last + 1 - first)) in
    let few = length-range_with_len first (last + 1 - first) in
    let d = are.denied in
    let o = are.read_only in
    let w = are.read_write in
    let r = are.root_kept in
    omega arith

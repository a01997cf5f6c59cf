-- Of the proposals that are pending no two are of one file, so that it does not matter in which order they are.
use Rattle.std.proofs.Common.{◌≡◌, ◌≢◌, ◌∙◌, sym, ap, subst, refl, ℕ, zero, suc, ◌+◌, ◌<◌, ◌++◌, ◌||◌, Bool, true, false, cond, not, take, List, [], ◌∷◌, Option, Some, None, find, get_or, length, map, arith}
use Rattle.std.specs.Prelude.{All, AllPairs, Contains, IsPermutation}
use Rattle.std.specs.List.{cons_option, list_all, list_any}
use Rattle.std.specs.Str.{bytes_eq}
use Rattle.std.proofs.Math.Path.{fun_ext}
use Rattle.std.proofs.lemmas.Bool.{false≢true}
use Rattle.std.proofs.lemmas.List.{get_or-take, length-take-le, take_more}
use Rattle.std.proofs.lemmas.List.Kept.{AllPairs-cons}
use Rattle.std.proofs.lemmas.List.Sums.{AllPass-from_list_all, list_all-from_AllPass}
use Rattle.std.proofs.lemmas.List.Sorted.{IsPermutation-cons, IsPermutation-middle, IsPermutation-refl, IsPermutation-trans}
use Rattle.std.proofs.lemmas.Slice.Eq.{bytes_eq-Decides}
use Rattle.sqlite_trees.proofs.ListLemmas.{along_permutation}
use Rattle.desk_core.specs.History.{entry_file, pending_in}
use Rattle.desk_core.specs.Standing.{proposals_in}
use Rattle.desk_core.specs.declared.entry.Entry.{Entry}
use Rattle.desk_core.specs.declared.entry.Entry.TheVariants.{Proposed, Revised}
use Rattle.desk_core.specs.declared.proposal.Proposal.{Proposal}
use Rattle.desk_store.proofs.LongerHistory.{none_pending}
use Rattle.desk_store.proofs.Members.{AllPairs-permutation, AllPairs-push, default}

abbrev pub Apart : Proposal → Proposal → Type 0
Apart p later = p.file ≢ later.file

apart_back : (p q : Proposal) → Apart p q → Apart q p
apart_back p q h e = h (sym e)

pub apart_permutation : (ps qs : List Proposal) → IsPermutation ps qs → AllPairs Apart ps → AllPairs Apart qs
apart_permutation ps qs same all = AllPairs-permutation Apart apart_back ps qs same all

-- an entry is of a file
abbrev is_of : List ℕ → Entry → Bool
is_of file stored = bytes_eq (entry_file stored) file

-- ---- of each file one

or_true : (b c : Bool) → c ≡ true → (b || c) ≡ true
or_true true c h = refl
or_true false c h = h

first_true : (b c : Bool) → b ≡ true → (b || c) ≡ true
first_true true c h = refl
first_true false c h = absurd (cc)

pend_step : (b : Bool) (p : Proposal) (rest : List Proposal) (own : Bool) (tests : Bool) (q : Proposal) → (p ≡ q → own ≡ true) → (Contains rest q → tests ≡ true)
    → Contains (cons_option (cond b None (Some p)) rest) q → (own || tests) ≡ true
pend_step true p rest own tests q first more h = or_true own tests (more h)
pend_step false p rest own tests q first more (zero, below, is) = first_true own tests (first is)
pend_step false p rest own tests q first more (suc k, below, is) = or_true own tests (more (k, omega arith, is))

-- a proposal that is pending is among the entries
in_later : (xs : List Entry) (q : Proposal) → Contains (pending_in xs) q → list_any (is_of q.file) xs ≡ true
in_later [] q (k, below, is) = absurd (omega arith)
in_later (Revised r ∷ xs) q h =
    let rest = in_later xs q (let P : List Proposal → Type 0 = λ ps. Contains ps q in subst P (none_pending (list_any (is_of r.file) xs) (pending_in xs)) h) in
    or_true (bytes_eq r.file q.file) (list_any (is_of q.file) xs) rest
in_later (Proposed p ∷ xs) q h =
    pend_step (list_any (is_of p.file) xs) p (pending_in xs) (bytes_eq p.file q.file) (list_any (is_of q.file) xs) q
    (λ same. (bytes_eq-Decides p.file q.file).1 (ap (λ (x : Proposal). x.file) same)) (in_later xs q) h

pub pending_apart : (history : List Entry) → AllPairs Apart (pending_in history)
pending_apart [] = λ i j d lt within. absurd (omega arith)
pending_apart (Revised r ∷ xs) = let P : List Proposal → Type 0 = λ ps. AllPairs Apart ps in subst P (sym (none_pending (list_any (is_of r.file) xs) (pending_in xs))) (pending_apart xs)
pending_apart (Proposed p ∷ xs) = step (list_any (is_of p.file) xs) refl (pending_apart xs)
  where
    step : (b : Bool) → list_any (is_of p.file) xs ≡ b → AllPairs Apart (pending_in xs) → AllPairs Apart (cons_option (cond b None (Some p)) (pending_in xs))
    step true e rest = rest
    step false e rest = AllPairs-cons Apart p (pending_in xs)
        (λ k d below same. let q : Proposal = get_or (pending_in xs) k d in
        false≢true (sym e ∙ ap (λ file. list_any (is_of file) xs) same ∙ in_later xs q (k, below, default (pending_in xs) k q d below))) rest

-- ---- in any order

abbrev found : List ℕ → List Proposal → Option Proposal
found file ps = find (λ (p : Proposal). bytes_eq p.file file) ps

swapped : (b c : Bool) (p q : Proposal) (rest : Option Proposal) → (b ≡ true → c ≡ true → ⊥) → cond b (Some p) (cond c (Some q) rest) ≡ cond c (Some q) (cond b (Some p) rest)
swapped true true p q rest apart = absurd (apart refl refl)
swapped true false p q rest apart = refl
swapped false true p q rest apart = refl
swapped false false p q rest apart = refl

abbrev SameFound : List ℕ → List Proposal → List Proposal → Type 0
SameFound file ps qs = IsPermutation ps qs × (AllPairs Apart ps → found file ps ≡ found file qs)

same_found : (file : List ℕ) (ps qs : List Proposal) → IsPermutation ps qs → AllPairs Apart ps → found file ps ≡ found file qs
same_found file ps qs same =
    (along_permutation (SameFound file)
    (λ xs. (IsPermutation-refl xs, λ all. refl))
    (λ x xs ys h. (IsPermutation-cons x xs ys h.0, λ all. ap (cond (bytes_eq x.file file) (Some x)) (h.1 (λ i j d lt within. all (suc i) (suc j) d (omega arith) (omega arith)))))
    (λ x y xs. (
      IsPermutation-middle (x ∷ []) y xs,
      λ all.
          swapped (bytes_eq x.file file) (bytes_eq y.file file) x y (found file xs)
          (λ h k. all 0 1 x (omega arith) (omega arith) ((bytes_eq-Decides x.file file).0 h ∙ sym ((bytes_eq-Decides y.file file).0 k))),
    ))
    (λ xs ys zs h k. (IsPermutation-trans xs ys zs h.0 k.0, λ all. h.1 all ∙ k.1 (apart_permutation xs ys h.0 all)))
    ps qs same).1

pub same_pending : (ps qs : List Proposal) → IsPermutation ps qs → AllPairs Apart ps → proposals_in ps ≡ proposals_in qs
unfolding proposals_in
same_pending ps qs same all = fun_ext (λ file. same_found file ps qs same all)

-- ---- of a history of these alone

none_of : (p : Proposal) (ps : List Proposal) → All (Apart p) ps → list_any (is_of p.file) (map Proposed ps) ≡ false
none_of p [] all = refl
none_of p (q ∷ ps) all = step (bytes_eq q.file p.file) refl (none_of p ps (λ k d below. all (suc k) d (omega arith)))
  where
    step : (b : Bool) → bytes_eq q.file p.file ≡ b → list_any (is_of p.file) (map Proposed ps) ≡ false → (b || list_any (is_of p.file) (map Proposed ps)) ≡ false
    step true e rest = absurd (all 0 q (omega arith) (sym ((bytes_eq-Decides q.file p.file).0 e)))
    step false e rest = rest

pub all_pending : (ps : List Proposal) → AllPairs Apart ps → pending_in (map Proposed ps) ≡ ps
all_pending [] all = refl
all_pending (p ∷ ps) all =
    ap (λ b. cons_option (cond b None (Some p)) (pending_in (map Proposed ps))) (none_of p ps (λ k d below. all 0 (suc k) d (omega arith) (omega arith)))
    ∙ ap (λ qs. p ∷ qs) (all_pending ps (λ i j d lt within. all (suc i) (suc j) d (omega arith) (omega arith)))

-- ---- one proposal after another

test_true : (a b : List ℕ) → a ≢ b → not (bytes_eq a b) ≡ true
test_true a b apart = step (bytes_eq a b) refl
  where
    step : (c : Bool) → bytes_eq a b ≡ c → not c ≡ true
    step true e = absurd (apart ((bytes_eq-Decides a b).0 e))
    step false e = refl

from_test : (a b : List ℕ) → not (bytes_eq a b) ≡ true → a ≢ b
from_test a b h same = let e : bytes_eq a b ≡ true = (bytes_eq-Decides a b).1 same in false≢true (sym (ap not e) ∙ h)

abbrev first_test : Proposal → Proposal → Bool
first_test p other = not (bytes_eq other.file p.file)

module _ (ps : List Proposal) (i : ℕ) (p : Proposal) (below : i < length ps) (is : p ≡ get_or ps i p) where
  -- no earlier one is of its file
  pub one_more_apart : list_all (first_test p) (take i ps) ≡ true → AllPairs Apart (take i ps) → AllPairs Apart (take (i + 1) ps)
  one_more_apart first all =
      let passes = AllPass-from_list_all (first_test p) (take i ps) first in
      subst (AllPairs Apart) (sym (take_more ps i p below ∙ ap (λ x. take i ps ++ x ∷ []) (sym is)))
      (AllPairs-push Apart (take i ps) p all (λ k d within. from_test (get_or (take i ps) k d).file p.file (passes k d within)))

  pub not_apart : list_all (first_test p) (take i ps) ≡ false → AllPairs Apart ps → ⊥
  not_apart first all =
      false≢true (sym first ∙ list_all-from_AllPass (first_test p) (take i ps) (λ k d within.
      let k_below : k < i = omega (arith, within, length-take-le i ps (omega arith)) in
      let q : Proposal = get_or (take i ps) k d in
      let there : q ≡ get_or ps k d = get_or-take i ps k d k_below in
      test_true q.file p.file (λ same. all k i d k_below below (ap (λ (x : Proposal). x.file) (sym there) ∙ same ∙ ap (λ (x : Proposal). x.file) (is ∙ default ps i p d below)))))

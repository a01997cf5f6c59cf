-- Lists by which files stand in one way: they are as long, their revisions are as many, and the same files wait.
use Rattle.std.proofs.Common.{◌≡◌, ◌≢◌, ◌∙◌, ◌+◌, ◌-◌, ◌^◌, ◌||◌, ℕ, suc, Bool, true, false, List, [], ◌∷◌, Option, Some, None, ap, arith, cond, is_some, length, min, not, refl, subst, sym}
use Rattle.std.specs.Prelude.{All, find}
use Rattle.std.specs.List.{AllPairs, filter, list_any, sum_by}
use Rattle.std.specs.Str.{bytes_eq}
use Rattle.std.proofs.lemmas.List.Kept.{AllPairs-filter}
use Rattle.std.proofs.lemmas.List.Sums.{sum_by-cons}
use Rattle.std.proofs.lemmas.Slice.Eq.{bytes_eq-Decides}
use Rattle.desk_core.specs.Head.{Newest, StandOnce, newest_in}
use Rattle.desk_core.specs.Standing.{PendOnce, Proposals, proposals_in}
use Rattle.desk_core.specs.declared.head.Head.{Head}
use Rattle.desk_core.specs.declared.proposal.Proposal.{Proposal}
use Rattle.page_summary.specs.Amounts.{revisions_of}
use Rattle.page_summary.specs.Files.{has_proposal}

-- what stands behind a test that fails for what is gone
hidden : {X : Type 0} (b : Bool) (x : X) (o : Option X) → cond b None o ≡ cond b None (cond b (Some x) o)
hidden true x o = refl
hidden false x o = refl

same_test : (a b c : List ℕ) → bytes_eq a b ≡ true → bytes_eq a c ≡ bytes_eq b c
same_test a b c h = ap (λ t. bytes_eq t c) ((bytes_eq-Decides a b).0 h)

both_same : (a b c : List ℕ) → bytes_eq a c ≡ true → bytes_eq b c ≡ true → bytes_eq a b ≡ true
both_same a b c h k = (bytes_eq-Decides a b).1 ((bytes_eq-Decides a c).0 h ∙ sym ((bytes_eq-Decides b c).0 k))

itself : (a : List ℕ) → bytes_eq a a ≡ true
itself a = (bytes_eq-Decides a a).1 refl

by_tests : {X : Type 0} (g f b : Bool) (x : X) (l o : Option X) → l ≡ cond b None o → (g ≡ true → f ≡ b) → (f ≡ true → b ≡ true → g ≡ true)
    → cond (not g) (cond f (Some x) l) l ≡ cond b None (cond f (Some x) o)
by_tests true true true x l o e same back = e
by_tests true true false x l o e same back = let apart = same refl in cc
by_tests true false true x l o e same back = let apart = same refl in cc
by_tests true false false x l o e same back = e
by_tests false true true x l o e same back = let apart = back refl refl in cc
by_tests false true false x l o e same back = refl
by_tests false false true x l o e same back = e
by_tests false false false x l o e same back = e

-- ---- lists in which no two have one key
module _ {X : Type 0} (key : X → List ℕ) (weight : X → ℕ) where
  abbrev Apart : X → X → Type 0
  Apart x later = key x ≢ key later

  abbrev found : List ℕ → List X → Option X
  found file xs = find (λ x. bytes_eq (key x) file) xs

  abbrev others : List ℕ → List X → List X
  others gone xs = filter (λ x. not (bytes_eq (key x) gone)) xs

  pushed : (c : Bool) (x : X) (xs : List X) (file : List ℕ)
      → found file (cond c (x ∷ xs) xs) ≡ cond c (cond (bytes_eq (key x) file) (Some x) (found file xs)) (found file xs)
  pushed true x xs file = refl
  pushed false x xs file = refl

  -- what is found of the others: nothing for the key that is gone
  found_others : (xs : List X) (gone file : List ℕ) → found file (others gone xs) ≡ cond (bytes_eq gone file) None (found file xs)
  found_others [] gone file = nothing (bytes_eq gone file)
    where
      nothing : (b : Bool) → found file [] ≡ cond b None (found file [])
      nothing true = refl
      nothing false = refl
  found_others (x ∷ xs) gone file =
      pushed (not (bytes_eq (key x) gone)) x (others gone xs) file
      ∙ by_tests (bytes_eq (key x) gone) (bytes_eq (key x) file) (bytes_eq gone file) x (found file (others gone xs)) (found file xs)
      (found_others xs gone file)
      (same_test (key x) gone file) (both_same (key x) gone file)

  -- if none has this key, all are the others
  all_others : (gone : List ℕ) (xs : List X) → All (λ x. gone ≢ key x) xs → others gone xs ≡ xs
  all_others gone [] apart = refl
  all_others gone (x ∷ xs) apart =
      step (bytes_eq (key x) gone) refl (all_others gone xs (λ k d within. apart (suc k) d (omega (arith, within))))
    where
      step : (b : Bool) → bytes_eq (key x) gone ≡ b → others gone xs ≡ xs → cond (not b) (x ∷ others gone xs) (others gone xs) ≡ x ∷ xs
      step true is rest = absurd (apart 0 x (omega arith) (sym ((bytes_eq-Decides (key x) gone).0 is)))
      step false is rest = ap (λ l. x ∷ l) rest

  rest_apart : (x : X) (xs : List X) → AllPairs Apart (x ∷ xs) → AllPairs Apart xs
  rest_apart x xs apart i j d less within = apart (suc i) (suc j) d (omega (arith, less)) (omega (arith, within))

  -- the others of the first are those behind it
  behind_first : (x : X) (xs : List X) → AllPairs Apart (x ∷ xs) → others (key x) xs ≡ xs
  behind_first x xs apart = all_others (key x) xs (λ k d within. apart 0 (suc k) d (omega arith) (omega (arith, within)))

  -- a list weighs as much as what is found for a key and the others together
  weighed : (file : List ℕ) (xs : List X) (y : X) → AllPairs Apart xs → found file xs ≡ Some y
      → sum_by weight xs ≡ weight y + sum_by weight (others file xs)
  weighed file [] y apart is = cc
  weighed file (x ∷ xs) y apart is =
      sum_by-cons weight x xs ∙ step (bytes_eq (key x) file) refl is (λ e. weighed file xs y (rest_apart x xs apart) e)
    where
      step : (b : Bool) → bytes_eq (key x) file ≡ b → cond b (Some x) (found file xs) ≡ Some y
          → (found file xs ≡ Some y → sum_by weight xs ≡ weight y + sum_by weight (others file xs))
          → weight x + sum_by weight xs ≡ weight y + sum_by weight (cond (not b) (x ∷ others file xs) (others file xs))
      step true same e rest =
          let first : x ≡ y = cc in
          let left : others file xs ≡ xs =
          subst (λ f. others f xs ≡ xs) ((bytes_eq-Decides (key x) file).0 same) (behind_first x xs apart) in
          ap (λ z. weight z + sum_by weight xs) first ∙ ap (λ l. weight y + sum_by weight l) (sym left)
      step false same e rest =
          let more = rest e in
          let cons = sum_by-cons weight x (others file xs) in
          omega arith

  abbrev FindTheSame : List X → List X → Type 0
  FindTheSame xs ys = (file : List ℕ) → found file xs ≡ found file ys

  found_first : (x : X) (xs : List X) → found (key x) (x ∷ xs) ≡ Some x
  found_first x xs = ap (λ b. cond b (Some x) (found (key x) xs)) (itself (key x))

  -- what is behind the first finds what the others of another list find
  rest_finds : (x : X) (xs ys : List X) → AllPairs Apart (x ∷ xs) → FindTheSame (x ∷ xs) ys → FindTheSame xs (others (key x) ys)
  rest_finds x xs ys apart same file =
      ap (found file) (sym (behind_first x xs apart)) ∙ found_others xs (key x) file ∙ hidden (bytes_eq (key x) file) x (found file xs)
      ∙ ap (cond (bytes_eq (key x) file) None) (same file) ∙ sym (found_others ys (key x) file)

  pub as_heavy : (xs ys : List X) → AllPairs Apart xs → AllPairs Apart ys → FindTheSame xs ys → sum_by weight xs ≡ sum_by weight ys
  as_heavy [] [] apart apart' same = refl
  as_heavy [] (y ∷ ys) apart apart' same = absurd (let none = same (key y) ∙ found_first y ys in cc)
  as_heavy (x ∷ xs) ys apart apart' same =
      let rest = as_heavy xs (others (key x) ys) (rest_apart x xs apart)
      (AllPairs-filter Apart (λ y. not (bytes_eq (key y) (key x))) ys apart') (rest_finds x xs ys apart same) in
      sum_by-cons weight x xs ∙ ap (λ n. weight x + n) rest ∙ sym (weighed (key x) ys x apart' (sym (same (key x)) ∙ found_first x xs))

long : {X : Type 0} (xs : List X) → sum_by (λ (x : X). 1) xs ≡ length xs
long [] = refl
long {X = X} (x ∷ xs) = sum_by-cons (λ (y : X). 1) x xs ∙ (let rest = long xs in omega arith)

any_found : {X : Type 0} (p : X → Bool) (xs : List X) → list_any p xs ≡ is_some (find p xs)
any_found p [] = refl
any_found p (x ∷ xs) = step (p x) (any_found p xs)
  where
    step : (b : Bool) → list_any p xs ≡ is_some (find p xs) → (b || list_any p xs) ≡ is_some (cond b (Some x) (find p xs))
    step true rest = refl
    step false rest = rest

-- ---- the newest revisions
abbrev file_of : Head → List ℕ
file_of head = head.file

abbrev one_head : Head → ℕ
one_head head = 1

heads_find : (heads others : List Head) → newest_in heads ≡ newest_in others → (file : List ℕ)
    → find (λ head. bytes_eq (file_of head) file) heads ≡ find (λ head. bytes_eq (file_of head) file) others
unfolding newest_in
heads_find heads others same file = ap (λ (f : Newest). f file) same

pub as_many_heads : (heads others : List Head) → StandOnce heads → StandOnce others → newest_in heads ≡ newest_in others
    → length heads ≡ length others
as_many_heads heads others once once' same =
    sym (long heads) ∙ as_heavy file_of one_head heads others once once' (heads_find heads others same) ∙ long others

pub same_revisions : (heads others : List Head) → StandOnce heads → StandOnce others → newest_in heads ≡ newest_in others
    → revisions_of heads ≡ revisions_of others
same_revisions heads others once once' same =
    ap (λ n. min n (2 ^ 64 - 1)) (as_heavy file_of (λ head. head.rev) heads others once once' (heads_find heads others same))

-- ---- the proposals
abbrev proposed_file : Proposal → List ℕ
proposed_file proposal = proposal.file

abbrev one_proposal : Proposal → ℕ
one_proposal proposal = 1

abbrev is_of : List ℕ → Proposal → Bool
is_of file proposal = bytes_eq proposal.file file

proposals_find : (proposals others : List Proposal) → proposals_in proposals ≡ proposals_in others → (file : List ℕ)
    → find (is_of file) proposals ≡ find (is_of file) others
unfolding proposals_in
proposals_find proposals others same file = ap (λ (f : Proposals). f file) same

pub as_many_proposals : (proposals others : List Proposal) → PendOnce proposals → PendOnce others → proposals_in proposals ≡ proposals_in others
    → length proposals ≡ length others
as_many_proposals proposals others once once' same =
    sym (long proposals)
    ∙ as_heavy proposed_file one_proposal proposals others once once' (proposals_find proposals others same)
    ∙ long others

pub same_waits : (proposals others : List Proposal) → proposals_in proposals ≡ proposals_in others → (file : List ℕ)
    → has_proposal proposals file ≡ has_proposal others file
same_waits proposals others same file =
    any_found (is_of file) proposals ∙ ap is_some (proposals_find proposals others same file)
    ∙ sym (any_found (is_of file) others)

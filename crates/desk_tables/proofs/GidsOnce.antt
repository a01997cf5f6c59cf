-- Lemmas on numbers without duplicates.
use Rattle.std.proofs.Common.{◌≡◌, ◌<◌, ◌≤◌, ◌+◌, ◌==◌, ◌||◌, ℕ, Bool, true, false, not, cond, List, [], ◌∷◌, ◌++◌, Some, None, take, drop, get_or, length, length-append, map, filter, ap, sym, subst, refl, ◌∙◌, append_assoc, inl, inr, arith}
use Rattle.std.specs.Prelude.{nat_lt, if◌then◌else◌}
use Rattle.std.proofs.lemmas.Bool.{cases_Bool}
use Rattle.std.proofs.lemmas.Bool.Decides.{nat_tests}
use Rattle.std.proofs.lemmas.List.{append-nil, take_more, take-append-drop}
use Rattle.std.proofs.lemmas.List.Elements.{filter-append}
use Rattle.std.specs.List.{flat_map, list_any}
use Rattle.std.specs.Str.{bytes_eq}
use Rattle.std.proofs.lemmas.List.Folds.{list_any-append}
use Rattle.desk_tables.specs.PrivateCredentials.{AddsOnce, is_among}
use Rattle.desk_tables.specs.PrivateIndex.{gids_under, under}
use Rattle.desk_tables.specs.Credentials.{at_most_16}
use Rattle.desk_tables.specs.Groups.{distinct, gids_of, has_member}
use Rattle.desk_tables.specs.declared.groups.Group.{Group}
use Rattle.desk_tables.specs.declared.users.User.{User}

abbrev others : ℕ → List ℕ → List ℕ
others x ms = filter (λ m. not (m == x)) ms

swapped : (x n : ℕ) (b : Bool) → (x == n) ≡ b → (n == x) ≡ b
swapped x n true is = grind (arith, nat_tests)
swapped x n false is = grind (arith, nat_tests)

-- a number is among those that differ from another one where it is among all
among_others : (x n : ℕ) (ms : List ℕ) → (x == n) ≡ false → is_among n (others x ms) ≡ is_among n ms
among_others x n [] differ = refl
among_others x n (m ∷ ms) differ =
    elim (cases_Bool (m == x)) [
      | inl same ↦ let not_n : (m == n) ≡ false = grind (arith, nat_tests) in
          ap (λ b. is_among n (cond (not b) (m ∷ others x ms) (others x ms))) same ∙ among_others x n ms differ ∙ ap (λ b. b || is_among n ms) (sym not_n)
      | inr other ↦ ap (λ b. is_among n (cond (not b) (m ∷ others x ms) (others x ms))) other ∙ ap (λ b. (m == n) || b) (among_others x n ms differ)
    ]

abbrev with_one : Bool → List ℕ → ℕ → List ℕ
with_one here ms n = if here then ms else ms ++ n ∷ []

more_at : (x n : ℕ) (ms : List ℕ) (here same : Bool) → is_among n ms ≡ here → (x == n) ≡ same
    → x ∷ others x (with_one here ms n) ≡ with_one (is_among n (x ∷ others x ms)) (x ∷ others x ms) n
more_at x n ms true true in_ms is = ap (λ b. with_one (b || is_among n (others x ms)) (x ∷ others x ms) n) (sym is)
more_at x n ms false true in_ms is =
    ap (λ t. x ∷ t) (filter-append (λ m. not (m == x)) ms (n ∷ []) ∙ ap (λ b. others x ms ++ cond (not b) (n ∷ []) []) (swapped x n true is) ∙ append-nil (others x ms))
    ∙ ap (λ b. with_one (b || is_among n (others x ms)) (x ∷ others x ms) n) (sym is)
more_at x n ms true false in_ms is =
    let test : is_among n (x ∷ others x ms) ≡ true = ap (λ b. b || is_among n (others x ms)) is ∙ among_others x n ms is ∙ in_ms in
    ap (λ b. with_one b (x ∷ others x ms) n) (sym test)
more_at x n ms false false in_ms is =
    let test : is_among n (x ∷ others x ms) ≡ false = ap (λ b. b || is_among n (others x ms)) is ∙ among_others x n ms is ∙ in_ms in
    ap (λ t. x ∷ t) (filter-append (λ m. not (m == x)) ms (n ∷ []) ∙ ap (λ b. others x ms ++ cond (not b) (n ∷ []) []) (swapped x n false is))
    ∙ ap (λ b. with_one b (x ∷ others x ms) n) (sym test)

-- one more number stands at the end, unless it is among them
once_more : (ns : List ℕ) (n : ℕ) → distinct (ns ++ n ∷ []) ≡ with_one (is_among n (distinct ns)) (distinct ns) n
once_more [] n = refl
once_more (x ∷ ns) n = ap (λ t. x ∷ others x t) (once_more ns n) ∙ more_at x n (distinct ns) (is_among n (distinct ns)) (x == n) refl refl

no_shorter : (here : Bool) (ms : List ℕ) (n : ℕ) → length ms ≤ length (with_one here ms n)
no_shorter true ms n = omega arith
no_shorter false ms n = simp length-append (omega arith)

once_longer : (ns more : List ℕ) → length (distinct ns) ≤ length (distinct (ns ++ more))
once_longer ns [] = let e : ns ++ [] ≡ ns = append-nil ns in omega (arith, ap (λ t. length (distinct t)) e)
once_longer ns (n ∷ more) =
    let step : length (distinct ns) ≤ length (distinct (ns ++ n ∷ [])) = subst (λ t. length (distinct ns) ≤ length t) (sym (once_more ns n)) (no_shorter (is_among n (distinct ns)) (distinct ns) n) in
    let all : length (distinct (ns ++ n ∷ [])) ≤ length (distinct ((ns ++ n ∷ []) ++ more)) = once_longer (ns ++ n ∷ []) more in
    omega (arith, ap (λ t. length (distinct t)) (append_assoc ns (n ∷ []) more))

-- what stands behind numbers counts by those of them that are there
same_front : (xs ys more : List ℕ) → distinct xs ≡ distinct ys → distinct (xs ++ more) ≡ distinct (ys ++ more)
same_front xs ys [] same = ap distinct (append-nil xs) ∙ same ∙ sym (ap distinct (append-nil ys))
same_front xs ys (n ∷ more) same =
    ap distinct (sym (append_assoc xs (n ∷ []) more))
    ∙ same_front (xs ++ n ∷ []) (ys ++ n ∷ []) more (once_more xs n ∙ ap (λ ms. with_one (is_among n ms) ms n) same ∙ sym (once_more ys n))
    ∙ ap distinct (append_assoc ys (n ∷ []) more)

here_now : (here : Bool) (ms : List ℕ) (n : ℕ) → is_among n ms ≡ here → is_among n (with_one here ms n) ≡ true
here_now true ms n is = is
here_now false ms n is = list_any-append (λ g. g == n) ms (n ∷ []) ∙ ap (λ b. b || ((n == n) || false)) is ∙ grind (arith, nat_tests)

-- a number that stands twice counts once
twice : (xs : List ℕ) (n : ℕ) → distinct ((xs ++ n ∷ []) ++ n ∷ []) ≡ distinct (xs ++ n ∷ [])
twice xs n =
    let there : is_among n (distinct (xs ++ n ∷ [])) ≡ true = ap (is_among n) (once_more xs n) ∙ here_now (is_among n (distinct xs)) (distinct xs) n refl in
    once_more (xs ++ n ∷ []) n ∙ ap (λ b. with_one b (distinct (xs ++ n ∷ [])) n) there

abbrev given : Bool → ℕ → List ℕ
given b n = if b then n ∷ [] else []

one_or_more : (any : Bool) (xs : List ℕ) (n : ℕ) → distinct ((xs ++ n ∷ []) ++ given any n) ≡ distinct (xs ++ n ∷ [])
one_or_more true xs n = twice xs n
one_or_more false xs n = ap distinct (append-nil (xs ++ n ∷ []))

module _ (name : List ℕ) where
  -- a group counts once, however often it lists the member
  members_once : (xs : List ℕ) (gid : ℕ) (members : List (List ℕ)) → distinct (xs ++ flat_map (under name gid) members) ≡ distinct (xs ++ given (list_any (bytes_eq name) members) gid)
  members_once xs gid [] = refl
  members_once xs gid (m ∷ members) =
      let rest : List ℕ = flat_map (under name gid) members in
      elim (cases_Bool (bytes_eq name m)) [
        | inl same ↦
            ap (λ b. distinct (xs ++ (given b gid ++ rest))) same
            ∙ ap distinct (sym (append_assoc xs (gid ∷ []) rest))
            ∙ members_once (xs ++ gid ∷ []) gid members
            ∙ one_or_more (list_any (bytes_eq name) members) xs gid
            ∙ ap (λ b. distinct (xs ++ given (b || list_any (bytes_eq name) members) gid)) (sym same)
        | inr other ↦
            ap (λ b. distinct (xs ++ (given b gid ++ rest))) other
            ∙ members_once xs gid members
            ∙ ap (λ b. distinct (xs ++ given (b || list_any (bytes_eq name) members) gid)) (sym other)
      ]

  abbrev of_groups : List Group → List ℕ
  of_groups groups = map (λ g. g.gid) (filter (has_member name) groups)

  one_group : (lists : Bool) (g : Group) (groups : List Group) → given lists g.gid ++ of_groups groups ≡ map (λ g. g.gid) (cond lists (g ∷ filter (has_member name) groups) (filter (has_member name) groups))
  one_group true g groups = refl
  one_group false g groups = refl

  groups_once : (xs : List ℕ) (groups : List Group) → distinct (xs ++ gids_under name groups) ≡ distinct (xs ++ of_groups groups)
  groups_once xs [] = refl
  groups_once xs (g ∷ groups) =
      let here : List ℕ = flat_map (under name g.gid) g.members in
      let one : List ℕ = given (has_member name g) g.gid in
      ap distinct (sym (append_assoc xs here (gids_under name groups)))
      ∙ groups_once (xs ++ here) groups
      ∙ same_front (xs ++ here) (xs ++ one) (of_groups groups) (members_once xs g.gid g.members)
      ∙ ap distinct (append_assoc xs one (of_groups groups))
      ∙ ap (λ gids. distinct (xs ++ gids)) (one_group (has_member name g) g groups)

-- the gids under a user's name, behind its own, are those of the user
pub gids_listed : (groups : List Group) (user : User) → distinct (user.gid ∷ gids_under user.name groups) ≡ gids_of groups user
gids_listed groups user = groups_once user.name (user.gid ∷ []) groups

module _ (own : ℕ) (ns : List ℕ) (i : ℕ) (below : i < length ns) (old new : List ℕ) (so_far : old ≡ distinct (own ∷ take i ns)) where
  up : take (i + 1) ns ≡ take i ns ++ get_or ns i 0 ∷ []
  up = take_more ns i 0 below

  -- one more number is added, or there is no room for all
  pub gid_added : AddsOnce true old (get_or ns i 0) new → new ≡ distinct (own ∷ take (i + 1) ns)
  gid_added adds = adds ∙ ap (λ gids. with_one (is_among (get_or ns i 0) gids) gids (get_or ns i 0)) so_far ∙ sym (once_more (own ∷ take i ns) (get_or ns i 0)) ∙ ap (λ ms. distinct (own ∷ ms)) (sym up)

  pub gid_refused : AddsOnce false old (get_or ns i 0) new → None ≡ at_most_16 (distinct (own ∷ ns))
  gid_refused adds =
      let here : distinct ((own ∷ take i ns) ++ (get_or ns i 0) ∷ []) ≡ old ++ (get_or ns i 0) ∷ [] = once_more (own ∷ take i ns) (get_or ns i 0) ∙ ap (λ gids. with_one (is_among (get_or ns i 0) gids) gids (get_or ns i 0)) (sym so_far) ∙ ap (λ b. with_one b old (get_or ns i 0)) adds.0 in
      let longer : length (distinct ((own ∷ take i ns) ++ (get_or ns i 0) ∷ [])) ≤ length (distinct (((own ∷ take i ns) ++ (get_or ns i 0) ∷ []) ++ drop (i + 1) ns)) = once_longer ((own ∷ take i ns) ++ (get_or ns i 0) ∷ []) (drop (i + 1) ns) in
      let whole : ((own ∷ take i ns) ++ (get_or ns i 0) ∷ []) ++ drop (i + 1) ns ≡ own ∷ ns = ap (λ ms. own ∷ (ms ++ drop (i + 1) ns)) (sym up) ∙ ap (λ ms. own ∷ ms) (take-append-drop (i + 1) ns) in
      let many : 16 < length (distinct (own ∷ ns)) = omega (arith, ap length here, length-append old ((get_or ns i 0) ∷ []), adds.1, ap (λ ms. length (distinct ms)) whole) in
      let test : nat_lt 16 (length (distinct (own ∷ ns))) ≡ true = grind (arith, nat_tests) in
      ap (λ b. if b then None else Some (distinct (own ∷ ns))) (sym test)

-- All maps that are needed are drawn or counted by prefix.
use Rattle.std.proofs.Common.{◌≡◌, ◌⊎◌, ℕ, ◌+◌, ◌*◌, ◌/◌, ◌%◌, ◌<◌, ◌^◌, ◌∙◌, Bool, true, List, [], ◌∷◌, ap, arith, cond, drop, eqb, get_or, inl, inr, length, refl, subst, sym, take}
use Rattle.std.specs.Prelude.{All, Contains, filter, not}
use Rattle.std.proofs.lemmas.Bool.{and_parts, cases_Bool, cond-false, cond-true, cond_both, eqb-true, not_from_false, true≢false}
use Rattle.std.proofs.lemmas.List.{get_or-drop, length-drop, take-append-drop}
use Rattle.std.proofs.lemmas.List.Elements.{All-cons, All-drop, All-from_get_or, All-get_or, All-head, All-nil, All-tail, Contains-append_cases, Contains-append_left, Contains-append_right, Contains-get_or}
use Rattle.std.proofs.lemmas.List.Folds.{Any-from_list_any}
use Rattle.std.proofs.lemmas.List.Sums.{sum_by-cons}
use Rattle.desk_text.specs.Network.{Block, block_of}
use Rattle.desk_who.specs.Runs.{AreRuns, Run}
use Rattle.page_data.specs.declared.class.Class.{Class}
use Rattle.page_maps.specs.Maps.{AreMaps, IsNeeded, all_addresses, fixed_maps, is_listed, map_at, maps_with_fixed, same_network}
use Rattle.page_maps.proofs.Mapped.{all_filter, contains_filter}
use Rattle.page_maps.specs.Figures.{GainsFileSystemMaps, GainsGroupMaps, GainsMaps, count_of, most_of_file_system, most_of_group}
use Rattle.page_maps.specs.Laws.{AreCountedByPrefix, AreDrawnOrCounted, NeededMapsAreTold}

-- a prefix that is counted
abbrev IsCounted : Block → Type 0
IsCounted network = (network.prefix ≡ 8) ⊎ ((network.prefix ≡ 16) ⊎ (network.prefix ≡ 24))

abbrev ones : ℕ → ℕ
ones prefix = cond (eqb prefix 8) 1 0 + cond (eqb prefix 16) 1 0 + cond (eqb prefix 24) 1 0

one : (network : Block) → IsCounted network → ones network.prefix ≡ 1
one network is =
    elim is as (λ _. ones network.prefix ≡ 1) [
      | inl e ↦ ap ones e
      | inr more ↦ elim more as (λ _. ones network.prefix ≡ 1) [
        | inl e ↦ ap ones e
        | inr e ↦ ap ones e
      ]
    ]

counted : (networks : List Block) → All IsCounted networks → AreCountedByPrefix networks
counted [] all = refl
counted (network ∷ networks) all =
    let own = one network (All-head IsCounted network networks all) in
    let rest = counted networks (All-tail IsCounted network networks all) in
    let eight : count_of 8 (network ∷ networks) ≡ cond (eqb network.prefix 8) 1 0 + count_of 8 networks = sum_by-cons (λ (n : Block). cond (eqb n.prefix 8) 1 0) network networks in
    let sixteen : count_of 16 (network ∷ networks) ≡ cond (eqb network.prefix 16) 1 0 + count_of 16 networks = sum_by-cons (λ (n : Block). cond (eqb n.prefix 16) 1 0) network networks in
    let last : count_of 24 (network ∷ networks) ≡ cond (eqb network.prefix 24) 1 0 + count_of 24 networks = sum_by-cons (λ (n : Block). cond (eqb n.prefix 24) 1 0) network networks in
    omega arith

-- a map is that of all addresses, or its prefix is counted
abbrev IsEither : Block → Type 0
IsEither network = (network ≡ all_addresses) ⊎ IsCounted network

either_at : (address : ℕ) → address < 2 ^ 32 → IsEither (map_at address)
either_at address fits =
    let whole : address / 2 ^ 32 * 2 ^ 32 ≡ 0 = omega arith in
    cond_both (eqb (address % 2 ^ 24) 0) 0 (cond (eqb (address % 2 ^ 16) 0) 8 (cond (eqb (address % 2 ^ 8) 0) 16 24)) (λ prefix. IsEither (block_of address prefix))
    (λ e. inl (ap (λ n. record { first = n; prefix = 0 }) whole))
    (λ off. cond_both (eqb (address % 2 ^ 16) 0) 8 (cond (eqb (address % 2 ^ 8) 0) 16 24) (λ prefix. IsEither (block_of address prefix)) (λ e. inr (inl refl))
    (λ off'. cond_both (eqb (address % 2 ^ 8) 0) 16 24 (λ prefix. IsEither (block_of address prefix)) (λ e. inr (inr (inl refl))) (λ off''. inr (inr (inr refl)))))

module _ (class_at : ℕ → Class) where
  either : (network : Block) → IsNeeded class_at network → IsEither network
  either network need =
      elim need as (λ _. IsEither network) [
        | inl is ↦ inl is
        | inr of ↦ subst IsEither of.map (either_at of.seam of.is.address)
      ]

  -- that of all addresses comes first
  later : (maps : List Block) → AreMaps class_at maps → (i : ℕ) → 0 < i → i < length maps → IsCounted (get_or maps i all_addresses)
  later maps are i some within =
      let network = get_or maps i all_addresses in
      elim (either network (are.only network (Contains-get_or maps i all_addresses within))) as (λ _. IsCounted network) [
        | inl is ↦
            let prefix : network.prefix ≡ 0 = ap (λ (n : Block). n.prefix) is in
            let first : network.first ≡ 0 = ap (λ (n : Block). n.first) is in
            elim (are.order 0 i all_addresses some within) as (λ _. IsCounted network) [
              | inl less ↦ absurd (omega arith)
              | inr same ↦ absurd (let less = same.1 in omega arith)
            ]
        | inr is ↦ is
      ]

  counted_of_group : (maps : List Block) → AreMaps class_at maps → All IsCounted (drop 6 maps)
  counted_of_group maps are =
      All-from_get_or IsCounted (drop 6 maps) all_addresses
      (λ i within. subst IsCounted (sym (get_or-drop 6 maps i all_addresses)) (later maps are (6 + i) (omega arith) (let rest = length-drop 6 maps in omega arith)))

abbrev is_other : Block → Bool
is_other network = not (is_listed fixed_maps network)

others : (maps : List Block) → All IsEither maps → All IsCounted (filter is_other maps)
others [] all = All-nil IsCounted
others (network ∷ maps) all =
    let rest = others maps (All-tail IsEither network maps all) in
    elim (cases_Bool (is_other network)) as (λ _. All IsCounted (filter is_other (network ∷ maps))) [
      | inl e ↦
          subst (All IsCounted) (sym (cond-true (is_other network) (network ∷ filter is_other maps) (filter is_other maps) e))
          (All-cons IsCounted network (filter is_other maps)
          (elim (All-head IsEither network maps all) as (λ _. IsCounted network) [
            | inl is ↦ absurd (true≢false (sym e ∙ ap is_other is))
            | inr is ↦ is
          ]) rest)
      | inr e ↦ subst (All IsCounted) (sym (cond-false (is_other network) (network ∷ filter is_other maps) (filter is_other maps) e)) rest
    ]

are_same : (network other : Block) → same_network network other ≡ true → network ≡ other
are_same network other is =
    let p = and_parts _ _ is in
    let first = eqb-true network.first other.first p.0 in
    let prefix = eqb-true network.prefix other.prefix p.1 in
    ap (λ n. record { first = n; prefix = network.prefix }) first ∙ ap (λ n. record { first = other.first; prefix = n }) prefix

in_fixed : (network : Block) → is_listed fixed_maps network ≡ true → Contains fixed_maps network
in_fixed network listed =
    let any = Any-from_list_any (same_network network) fixed_maps listed in
    subst (Contains fixed_maps) (sym (are_same network any.1 any.4)) (any.0, any.2, any.3)

with_fixed : (maps : List Block) (network : Block) → Contains maps network → Contains (maps_with_fixed maps) network
with_fixed maps network has =
    elim (cases_Bool (is_listed fixed_maps network)) as (λ _. Contains (maps_with_fixed maps) network) [
      | inl listed ↦ Contains-append_left fixed_maps (filter is_other maps) network (in_fixed network listed)
      | inr other ↦ Contains-append_right fixed_maps (filter is_other maps) network (contains_filter is_other maps network has (not_from_false (is_listed fixed_maps network) other))
    ]

-- of a list the first so many have its elements, or the rest has them
in_either : (most : ℕ) (networks : List Block) (network : Block) → Contains networks network → Contains (take most networks) network ⊎ Contains (drop most networks) network
in_either most networks network has =
    Contains-append_cases (take most networks) (drop most networks) network
    (subst (λ (all : List Block). Contains all network) (sym (take-append-drop most networks)) has)

module _ (class_at : ℕ → Class) (runs : List (Run Class)) where
  -- a page that gains maps of networks among which are all that are needed
  drawn_or_counted : (most : ℕ) (networks : List Block) (page gained : List ℕ) → GainsMaps runs most networks page gained
      → ((network : Block) → IsNeeded class_at network → Contains networks network) → All (IsNeeded class_at) (drop most networks)
      → All IsCounted (drop most networks) → AreDrawnOrCounted class_at runs page gained
  drawn_or_counted most networks page gained maps all only prefixes = record {
    drawn = maps.drawn;
    others = drop most networks;
    text = maps.text;
    each = maps.are.each;
    needed = λ network need.
        subst (λ (some : List Block). Contains some network ⊎ Contains (drop most networks) network) (sym maps.are.of)
        (in_either most networks network (all network need));
    only = only;
    counted = counted (drop most networks) prefixes;
  }

  needed_all : (maps : List Block) → AreMaps class_at maps → All (IsNeeded class_at) maps
  needed_all maps are =
      All-from_get_or (IsNeeded class_at) maps all_addresses
      (λ i within. are.only (get_or maps i all_addresses) (Contains-get_or maps i all_addresses within))

  of_group : AreRuns class_at runs → (page gained : List ℕ) → GainsGroupMaps runs page gained → AreDrawnOrCounted class_at runs page gained
  of_group of page gained own =
      let maps = own.needed in
      let are = own.are class_at of in
      drawn_or_counted most_of_group maps page gained own.maps are.all (All-drop (IsNeeded class_at) most_of_group maps (needed_all maps are))
      (counted_of_group class_at maps are)

  of_file_system : AreRuns class_at runs → (page gained : List ℕ) → GainsFileSystemMaps runs page gained → AreDrawnOrCounted class_at runs page gained
  of_file_system of page gained own =
      let maps = own.needed in
      let are = own.are class_at of in
      let needs = needed_all maps are in
      let either_all : All IsEither maps = All-from_get_or IsEither maps all_addresses
      (λ i within. either class_at (get_or maps i all_addresses) (All-get_or (IsNeeded class_at) maps i all_addresses within needs)) in
      let behind : drop most_of_file_system (maps_with_fixed maps) ≡ drop 8 (filter is_other maps) = refl in
      drawn_or_counted most_of_file_system (maps_with_fixed maps) page gained own.maps
      (λ network need. with_fixed maps network (are.all network need))
      (subst (All (IsNeeded class_at)) (sym behind) (All-drop (IsNeeded class_at) 8 (filter is_other maps) (all_filter (IsNeeded class_at) is_other maps needs)))
      (subst (All IsCounted) (sym behind) (All-drop IsCounted 8 (filter is_other maps) (others maps either_all)))

pub needed_maps_are_told : NeededMapsAreTold
needed_maps_are_told class_at runs of = record {
  of_group = of_group class_at runs of;
  of_file_system = of_file_system class_at runs of;
}

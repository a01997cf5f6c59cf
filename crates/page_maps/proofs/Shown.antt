-- Seams are shown by the maps that are needed, and by those of a file system.
use Rattle.std.proofs.Common.{◌≡◌, Bool, true, List, [], ◌∷◌, ◌∙◌, ap, arith, inl, inr, refl, sym}
use Rattle.std.specs.Prelude.{All, Contains, filter, not}
use Rattle.std.specs.List.{list_any}
use Rattle.std.proofs.lemmas.Bool.{and_parts, cases_Bool, eqb-true, not_from_false, or_cases, true≢false}
use Rattle.std.proofs.lemmas.List.Elements.{All-append, All-cons, All-nil, Contains-append_left, Contains-append_right}
use Rattle.desk_text.specs.Network.{Block}
use Rattle.page_maps.specs.Laws.{SeamsAreShown}
use Rattle.page_maps.specs.Maps.{IsWide, all_addresses, fixed_maps, is_listed, map_at, maps_with_fixed, same_network}
use Rattle.page_data.proofs.Containing.{here, there}
use Rattle.page_maps.proofs.Grids.{is_within}
use Rattle.page_maps.proofs.Mapped.{all_filter, contains_filter}

are_same : (network other : Block) → same_network network other ≡ true → network ≡ other
are_same network other is =
    let p = and_parts _ _ is in
    let first = eqb-true network.first other.first p.0 in
    let prefix = eqb-true network.prefix other.prefix p.1 in
    ap (λ n. record { first = n; prefix = network.prefix }) first ∙ ap (λ n. record { first = other.first; prefix = n }) prefix

is_there : (networks : List Block) (network : Block) → list_any (same_network network) networks ≡ true → Contains networks network
is_there [] network any = absurd (true≢false (sym any))
is_there (first ∷ networks) network any =
    elim (or_cases (same_network network first) (list_any (same_network network) networks) any) as (λ _. Contains (first ∷ networks) network) [
      | inl own ↦ here first network networks (sym (are_same network first own))
      | inr later ↦ there first network networks (is_there networks network later)
    ]

abbrev is_other : Block → Bool
is_other network = not (is_listed fixed_maps network)

with_fixed : (maps : List Block) (network : Block) → Contains maps network → Contains (maps_with_fixed maps) network
with_fixed maps network has =
    elim (cases_Bool (is_listed fixed_maps network)) as (λ _. Contains (maps_with_fixed maps) network) [
      | inl listed ↦ Contains-append_left fixed_maps (filter is_other maps) network (is_there fixed_maps network listed)
      | inr other ↦ Contains-append_right fixed_maps (filter is_other maps) network (contains_filter is_other maps network has (not_from_false (is_listed fixed_maps network) other))
    ]

pub seams_are_shown : SeamsAreShown
seams_are_shown class_at maps are seam is =
    let within = is_within seam is.behind is.address in
    let has : Contains maps (map_at seam) = are.all (map_at seam) (inr (record { seam = seam; is = is; map = refl })) in (
      record { network = map_at seam; listed = has; behind_first = within.behind_first; within = within.within; on_grid = within.on_grid },
      record { network = map_at seam; listed = with_fixed maps (map_at seam) has; behind_first = within.behind_first; within = within.within; on_grid = within.on_grid },
    )

fixed_wide : All IsWide fixed_maps
fixed_wide =
    All-cons IsWide all_addresses (record { first = 167772160; prefix = 8 } ∷ record { first = 2886729728; prefix = 12 } ∷ record { first = 3232235520; prefix = 16 } ∷ []) (omega arith)
    (All-cons IsWide (record { first = 167772160; prefix = 8 }) (record { first = 2886729728; prefix = 12 } ∷ record { first = 3232235520; prefix = 16 } ∷ []) (omega arith)
    (All-cons IsWide (record { first = 2886729728; prefix = 12 }) (record { first = 3232235520; prefix = 16 } ∷ []) (omega arith)
    (All-cons IsWide (record { first = 3232235520; prefix = 16 }) [] (omega arith) (All-nil IsWide))))

pub wide_with_fixed : (maps : List Block) → All IsWide maps → All IsWide (maps_with_fixed maps)
wide_with_fixed maps wide = All-append IsWide fixed_maps (filter is_other maps) fixed_wide (all_filter IsWide is_other maps wide)

-- The runs of a function of addresses leave one list of maps that are needed, and one map of each network.
use Rattle.std.proofs.Common.{◌≡◌, ℕ, ◌++◌, ◌∙◌, List, [], ◌∷◌, ap, arith, drop, get_or, length, map, refl, subst, sym, take}
use Rattle.std.specs.Prelude.{All}
use Rattle.std.proofs.lemmas.List.{ext_get_or}
use Rattle.std.proofs.lemmas.List.Elements.{All-head, All-tail}
use Rattle.desk_text.specs.Network.{Block, last_of}
use Rattle.desk_who.specs.Runs.{AreRuns, Run}
use Rattle.page_data.specs.Class.{rank_of}
use Rattle.page_data.specs.Counts.{AreCounts}
use Rattle.page_data.specs.declared.class.Class.{Class}
use Rattle.page_data.specs.declared.class.Class.TheVariants.{Denied}
use Rattle.page_data.specs.declared.counts.Counts.{Counts}
use Rattle.page_data.proofs.Agreeing.{same_rank}
use Rattle.page_maps.specs.Cells.{AreCells, AreLeastAndMost}
use Rattle.page_maps.specs.Maps.{AreMaps, fixed_maps, maps_with_fixed}
use Rattle.page_maps.specs.declared.cells.Cell.{Cell}
use Rattle.page_maps.proofs.OneOrder.{one_order}
use Rattle.page_maps.specs.Drawing.{small_map}
use Rattle.page_maps.specs.DrawnMaps.{AreDrawnFrom, IsDrawnFrom}
use Rattle.page_maps.specs.Figures.{AreOverviewMaps, GainsFileSystemMaps, GainsGroupMaps, GainsMaps, figures, most_of_file_system, most_of_group}
use Rattle.page_maps.specs.Laws.{MapsAreToldInOneWay}
use Rattle.page_maps.specs.declared.drawn_maps.DrawnMap.{DrawnMap}

module _ (class_at : ℕ → Class) where
  one_list : (maps others : List Block) → AreMaps class_at maps → AreMaps class_at others → maps ≡ others
  one_list maps others are its =
      one_order maps others are.order its.order (λ network has. its.all network (are.only network has)) (λ network has. are.all network (its.only network has))

  one_cell : (first last : ℕ) (cell other : Cell) → AreLeastAndMost class_at first last cell → AreLeastAndMost class_at first last other → cell ≡ other
  one_cell first last cell other are its =
      let own = are.some_least in
      let its_own = its.some_least in
      let low = its.none_less own.address own.from own.to in
      let high = are.none_less its_own.address its_own.from its_own.to in
      let most = are.some_most in
      let its_most = its.some_most in
      let up = its.none_more most.address most.from most.to in
      let down = are.none_more its_most.address its_most.from its_most.to in
      let r1 : rank_of (class_at own.address) ≡ rank_of cell.least = ap rank_of own.is in
      let r2 : rank_of (class_at its_own.address) ≡ rank_of other.least = ap rank_of its_own.is in
      let r3 : rank_of (class_at most.address) ≡ rank_of cell.most = ap rank_of most.is in
      let r4 : rank_of (class_at its_most.address) ≡ rank_of other.most = ap rank_of its_most.is in
      let least : cell.least ≡ other.least = same_rank cell.least other.least (omega arith) in
      let greatest : cell.most ≡ other.most = same_rank cell.most other.most (omega arith) in
      ap (λ (class : Class). record { least = class; most = cell.most }) least ∙ ap (λ (class : Class). record { least = other.least; most = class }) greatest

  one_list_of_cells : (network : Block) (default : Cell) (cells others : List Cell) → AreCells class_at network cells → AreCells class_at network others → cells ≡ others
  one_list_of_cells network default cells others are its =
      ext_get_or default cells others (are.count ∙ sym its.count)
      (λ i within. (let long = are.count in one_cell _ _ (get_or cells i default) (get_or others i default) (are.each i default (omega arith)) (its.each i default (omega arith))))

  one_counts : (first last : ℕ) (counts other : Counts) → AreCounts class_at first last counts → AreCounts class_at first last other → counts ≡ other
  one_counts first last counts other are its =
      ap (λ n. record { denied = n; read_only = counts.read_only; read_write = counts.read_write; root_kept = counts.root_kept }) (are.denied ∙ sym its.denied)
      ∙ ap (λ n. record { denied = other.denied; read_only = n; read_write = counts.read_write; root_kept = counts.root_kept }) (are.read_only ∙ sym its.read_only)
      ∙ ap (λ n. record { denied = other.denied; read_only = other.read_only; read_write = n; root_kept = counts.root_kept }) (are.read_write ∙ sym its.read_write)
      ∙ ap (λ n. record { denied = other.denied; read_only = other.read_only; read_write = other.read_write; root_kept = n }) (are.root_kept ∙ sym its.root_kept)

  module _ (runs : List (Run Class)) (of : AreRuns class_at runs) where
    one_map : (drawn other : DrawnMap) → drawn.network ≡ other.network → IsDrawnFrom runs drawn → IsDrawnFrom runs other → drawn ≡ other
    one_map drawn other same are its =
        let its_cells = subst (λ (n : Block). AreCells class_at n other.cells) (sym same) (its.cells class_at of) in
        let its_counts = subst (λ (n : Block). AreCounts class_at n.first (last_of n) other.counts) (sym same) (its.counts class_at of) in
        ap (λ (n : Block). record { network = n; cells = drawn.cells; counts = drawn.counts }) same
        ∙ ap (λ (cells : List Cell). record { network = other.network; cells = cells; counts = drawn.counts })
        (one_list_of_cells drawn.network (record { least = Denied; most = Denied }) drawn.cells other.cells (are.cells class_at of) its_cells)
        ∙ ap (λ (counts : Counts). record { network = other.network; cells = other.cells; counts = counts })
        (one_counts drawn.network.first (last_of drawn.network) drawn.counts other.counts (are.counts class_at of) its_counts)

    abbrev networks_of : List DrawnMap → List Block
    networks_of drawn = map (λ (one : DrawnMap). one.network) drawn

    each_one : (drawn others : List DrawnMap) → networks_of drawn ≡ networks_of others → All (IsDrawnFrom runs) drawn → All (IsDrawnFrom runs) others → drawn ≡ others
    each_one [] [] same are its = refl
    each_one [] (y ∷ ys) same are its = absurd (let long = ap length same in omega arith)
    each_one (x ∷ xs) [] same are its = absurd (let long = ap length same in omega arith)
    each_one (x ∷ xs) (y ∷ ys) same are its =
        let first = one_map x y (ap (λ (networks : List Block). get_or networks 0 x.network) same) (All-head (IsDrawnFrom runs) x xs are) (All-head (IsDrawnFrom runs) y ys its) in
        let rest = each_one xs ys (ap (λ (networks : List Block). drop 1 networks) same) (All-tail (IsDrawnFrom runs) x xs are) (All-tail (IsDrawnFrom runs) y ys its) in
        ap (λ z. z ∷ xs) first ∙ ap (λ zs. y ∷ zs) rest

    one_drawing : (networks : List Block) (drawn others : List DrawnMap) → AreDrawnFrom runs networks drawn → AreDrawnFrom runs networks others → drawn ≡ others
    one_drawing networks drawn others are its = each_one drawn others (are.of ∙ sym its.of) are.each its.each

    one_text : (most : ℕ) (networks : List Block) (page gained other : List ℕ) → GainsMaps runs most networks page gained → GainsMaps runs most networks page other → gained ≡ other
    one_text most networks page gained other own its =
        own.text ∙ ap (λ drawn. page ++ figures drawn (drop most networks)) (one_drawing (take most networks) own.drawn its.drawn own.are its.are) ∙ sym its.text

    of_file_system : (page gained other : List ℕ) → GainsFileSystemMaps runs page gained → GainsFileSystemMaps runs page other → gained ≡ other
    of_file_system page gained other own its =
        let same = one_list own.needed its.needed (own.are class_at of) (its.are class_at of) in
        one_text most_of_file_system (maps_with_fixed own.needed) page gained other own.maps
        (subst (λ (needed : List Block). GainsMaps runs most_of_file_system (maps_with_fixed needed) page other) (sym same) its.maps)

    of_group : (page gained other : List ℕ) → GainsGroupMaps runs page gained → GainsGroupMaps runs page other → gained ≡ other
    of_group page gained other own its =
        let same = one_list own.needed its.needed (own.are class_at of) (its.are class_at of) in
        one_text most_of_group own.needed page gained other own.maps (subst (λ (needed : List Block). GainsMaps runs most_of_group needed page other) (sym same) its.maps)

    in_overview : (images others : List (List ℕ)) → AreOverviewMaps runs images → AreOverviewMaps runs others → images ≡ others
    in_overview images others own its =
        own.images_are ∙ ap (map small_map) (one_drawing fixed_maps own.drawn its.drawn own.are its.are) ∙ sym its.images_are

pub maps_are_told_in_one_way : MapsAreToldInOneWay
maps_are_told_in_one_way runs some = record {
  of_file_system = record { same = of_file_system some.value_at runs some.are };
  of_group = record { same = of_group some.value_at runs some.are };
  in_overview = in_overview some.value_at runs some.are;
}

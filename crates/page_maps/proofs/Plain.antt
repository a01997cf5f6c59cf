-- The parts that tell of maps, and the cells of the table of networks, have no picture.
use Rattle.std.proofs.Common.{ℕ, ◌==◌, ◌&&◌, ◌||◌, List, [], ◌∷◌, codes, drop, length, refl, take}
use Rattle.desk_policy.specs.Policy.{Content}
use Rattle.desk_text.specs.Network.{Block}
use Rattle.page_findings.specs.declared.badges.Measure.TheVariants.{Share}
use Rattle.page_html.specs.Items.{Item, Nothing, Own, Plural, Words}
use Rattle.page_maps.specs.Figures.{comma_item, count_item, count_of, cut_items, kinds, prefix_item}
use Rattle.page_maps.specs.NetworkCells.{alike, alike_cell, counted, each_or_dash, line_break, mixed_cell, more_systems, semicolon, some_of}
use Rattle.page_maps.specs.NetworkTable.{cells}
use Rattle.page_maps.specs.declared.networks.NetworkRow.{NetworkRow}
use Rattle.page_maps.specs.declared.networks.SystemClass.{SystemClass}
use Rattle.page_maps.specs.declared.networks.SystemCounts.{SystemCounts}
use Rattle.page_html.proofs.Plain.{ArePlain, ArePlainCells, IsPlain, cells_cons, either_plain, part, parts, plain_append, plain_cons, plain_if, some_cells}
use Rattle.page_findings.proofs.Plain.{badge_plain, measured_plain, plain_joined}

-- ---- maps
count_plain : (count : ℕ) → IsPlain (count_item count)
count_plain count = plain_if (count == 0) (part (Own Nothing) refl) (part (Own (Plural count (codes "network") (codes "networks"))) refl)

prefix_plain : (count : ℕ) (prefix : List ℕ) → IsPlain (prefix_item count prefix)
prefix_plain count prefix = plain_if (count == 0) (part (Own Nothing) refl) (part (Own (Words prefix)) refl)

comma_if_plain : (first second count : ℕ) → IsPlain (comma_item first second count)
comma_if_plain first second count = plain_if (count == 0 || (first == 0 && second == 0)) (part (Own Nothing) refl) (part (Own (Words (codes ", "))) refl)

kinds_plain : (wide middle narrow : ℕ) → ArePlain (kinds wide middle narrow)
kinds_plain wide middle narrow =
    plain_cons (count_plain wide) (plain_cons (prefix_plain wide (codes " /8"))
    (plain_cons (comma_if_plain wide 0 middle) (plain_cons (count_plain middle) (plain_cons (prefix_plain middle (codes " /16"))
    (plain_cons (comma_if_plain wide middle narrow) (plain_cons (count_plain narrow) (plain_cons (prefix_plain narrow (codes " /24")) (record { are = refl }))))))))

pub cut_plain : (networks : List Block) → ArePlain (cut_items networks)
cut_plain networks =
    let end : ArePlain (Own (Words (codes ".")) ∷ []) = record { are = refl } in
    record { are = (plain_append (kinds_plain (count_of 8 networks) (count_of 16 networks) (count_of 24 networks)) end).are }

-- ---- networks
each_plain : {X : Type 0} (items : X → List (Item (List ℕ))) (between : Item (List ℕ)) → IsPlain between → ((x : X) → ArePlain (items x)) → (values : List X) → ArePlain (each_or_dash items between values)
each_plain items between is plain [] = record { are = refl }
each_plain items between is plain (first ∷ others) = plain_joined items between is plain (first ∷ others)

more_plain : (between : Item (List ℕ)) → IsPlain between → (count : ℕ) → ArePlain (more_systems between count)
more_plain between is count =
    either_plain (count == 0) (parts [] refl) (plain_cons is (parts (Own (Plural count (codes "more file system") (codes "more file systems")) ∷ []) refl))

some_plain : {X : Type 0} (items : X → List (Item (List ℕ))) (between : Item (List ℕ)) → IsPlain between → ((x : X) → ArePlain (items x)) → (values : List X) → ArePlain (some_of items between values)
some_plain items between is plain values = plain_append (each_plain items between is plain (take 12 values)) (more_plain between is (length (drop 12 values)))

alike_plain : (content : Content) (one : SystemClass) → ArePlain (alike content one)
alike_plain content one = let badge = plain_cons (badge_plain one.class) (parts [] refl) in record { are = badge.are }

counted_plain : (content : Content) (one : SystemCounts) → ArePlain (counted content one)
counted_plain content one = record { are = (measured_plain Share one.counts).are }

pub network_plain : (content : Content) (row : NetworkRow) → ArePlainCells (cells content row)
network_plain content row =
    let alikes : ArePlain (alike_cell content row.alike) = some_plain (alike content) semicolon (record { is = refl }) (alike_plain content) row.alike in
    let mixed : ArePlain (mixed_cell content row.parts) = some_plain (counted content) line_break (record { is = refl }) (counted_plain content) row.parts in
    record { are = (cells_cons alikes (cells_cons mixed (some_cells [] refl))).are }

-- The groups of a file system are told in one way: each has one table, one text of maps, and, by value, one list of what the server grants.
use Rattle.std.proofs.Common.{◌≡◌, ℕ, zero, suc, ◌++◌, ◌∙◌, Bool, true, false, List, [], ◌∷◌, ap, arith, drop, get_or, length, map, refl, subst, sym, take}
use Rattle.std.specs.Prelude.{◌==◌, ◌&&◌, All, Some, None, Result, codes, if◌then◌else◌}
use Rattle.std.specs.Cmp.Lexicographic.{nat_list_cmp_total, slice_cmp}
use Rattle.std.specs.List.{dedup, flat_map}
use Rattle.std.specs.Ordering.{is_lt, nat_cmp}
use Rattle.std.specs.String.{string_bytes}
use Rattle.std.proofs.lemmas.List.{length-map, take-map}
use Rattle.std.proofs.lemmas.List.Elements.{All-head, All-tail, All-take}
use Rattle.std.proofs.lemmas.List.Folds.{flat_map-map}
use Rattle.std.proofs.lemmas.List.Sorted.{ranks_by}
use Rattle.desk_policy.specs.Verdict.{Grant}
use Rattle.desk_policy.specs.declared.verdict.Denial.{Denial}
use Rattle.desk_who.specs.Runs.{Run}
use Rattle.desk_impact.specs.Sections.{PlaceBreaches, PlaceFound}
use Rattle.page_data.specs.Class.{class_of}
use Rattle.page_data.specs.Groups.{group_value}
use Rattle.page_data.specs.Laws.{GroupsCanBeTabled}
use Rattle.page_data.specs.Rows as kept
use Rattle.page_data.specs.Tables as tables
use Rattle.page_data.specs.Tables.{CanBeTabled, ranges_at_first, table_value}
use Rattle.page_data.specs.Unique.{CountsAreUnique, GroupsAreUnique}
use Rattle.page_data.specs.Values.{AreRunsOfSome}
use Rattle.page_data.specs.declared.class.Class.{Class}
use Rattle.page_data.specs.declared.opening.Opening.{Opening}
use Rattle.page_data.specs.declared.tables.Table.{Table}
use Rattle.page_findings.specs.Joining.{comma, joined}
use Rattle.page_findings.proofs.Mapped.{dedup_mapped, map_twice}
use Rattle.page_html.specs.Blocks.{element_html, tag_html}
use Rattle.page_html.specs.Items.{AndMore, Item, LineLink, Own, Range, Words}
use Rattle.page_html.specs.declared.blocks.Element.TheVariants.{Paragraph}
use Rattle.page_html.specs.declared.blocks.Tag.TheVariants.{PlaceStart, SectionEnd}
use Rattle.page_maps.specs.Figures.{GainsGroupMaps}
use Rattle.page_maps.specs.Laws.{MapsAreToldInOneWay}
use Rattle.page_places.specs.Groups.{group_block, group_text, groups_text, who_block}
use Rattle.page_places.specs.ListedGroups.{AreListed, IsPart, PartValue, listed_value, most_listed, part_value}
use Rattle.page_places.specs.ListedOpenings.{AreOpeningsOf}
use Rattle.page_places.specs.Maps.{AreMapsIf, AreMapsOf, AreMapsOfGroup, are_drawn, grants_some}
use Rattle.page_places.specs.Names.{heading, members_in, place_item}
use Rattle.page_places.specs.Openings.{OpeningValue, opening_items, opening_value, openings_text}
use Rattle.page_places.specs.Rows.{RowValue, told_row}
use Rattle.page_places.specs.Tables.{TableValue, others_of, told_value}
use Rattle.page_places.specs.UniqueLaws.{GroupsAreToldInOneWay}
use Rattle.page_places.specs.declared.groups.GroupPart.{GroupPart}
use Rattle.page_places.specs.declared.openings.PlaceOpening.{PlaceOpening}
use Rattle.page_places.proofs.StableSorts.{sorted_in_one_way}

-- ---- what the server grants, by value
abbrev key_of : OpeningValue → List ℕ
key_of value = value.denied ∷ value.address ∷ []

abbrev comes_before : OpeningValue → OpeningValue → Bool
comes_before value other = is_lt (slice_cmp nat_cmp (key_of value) (key_of other))

same_line : OpeningValue → OpeningValue → Bool
same_line value other = value.denied == other.denied

openings_in_one_way : (openings : List (PlaceFound Opening)) (places : List PlaceBreaches) (found others : List PlaceOpening) → AreOpeningsOf openings places found
    → AreOpeningsOf openings places others → map opening_value found ≡ map opening_value others
unfolding same_line
openings_in_one_way openings places found others are its =
    let sorted = sorted_in_one_way opening_value comes_before (ranks_by nat_list_cmp_total key_of) are.all its.all are.sorted its.sorted (are.are_all ∙ sym its.are_all)
    are.order its.order are.stable its.stable in
    ap (map opening_value) are.are ∙ dedup_mapped opening_value same_line are.sorted ∙ ap (dedup same_line) sorted
    ∙ sym (ap (map opening_value) its.are ∙ dedup_mapped opening_value same_line its.sorted)

items_of : ℕ → OpeningValue → List (Item (List ℕ))
items_of fs one =
    place_item one.place ∷ Own (Words (codes " to ")) ∷ Own (Range (record { first = record { number = one.address }; last = record { number = one.address } }))
    ∷ Own (Words (codes " by ")) ∷ Own (LineLink fs one.line) ∷ Own (Words (codes " (denied here by ")) ∷ Own (LineLink fs one.denied)
    ∷ Own (Words (codes ")")) ∷ []

joined_by : {X V : Type 0} (f : X → V) (parts : V → List (Item (List ℕ))) (between : Item (List ℕ)) (xs : List X) → joined (λ x. parts (f x)) between xs ≡ joined parts between (map f xs)
joined_by f parts between [] = refl
joined_by f parts between (x ∷ xs) = ap (λ items. parts (f x) ++ items) (sym (flat_map-map (λ v. between ∷ parts v) f xs))

dropped_by : {X V : Type 0} (f : X → V) (n : ℕ) (xs : List X) → length (drop n xs) ≡ length (drop n (map f xs))
dropped_by f zero xs = sym (length-map xs f)
dropped_by f (suc n) [] = refl
dropped_by f (suc n) (x ∷ xs) = dropped_by f n xs

module _ (fs : ℕ) where
  text_of : List OpeningValue → List ℕ
  text_of values =
      if length values == 0 then []
      else element_html Paragraph
      (Own (Words (codes "mountd(8) grants more: ")) ∷ joined (items_of fs) comma (take 6 values) ++ Own (AndMore (length (drop 6 values))) ∷ [])

  abbrev whole : ℕ → List (Item (List ℕ)) → ℕ → List ℕ
  whole count told more =
      if count == 0 then [] else element_html Paragraph (Own (Words (codes "mountd(8) grants more: ")) ∷ told ++ Own (AndMore more) ∷ [])

  text_by : (openings : List PlaceOpening) → openings_text fs openings ≡ text_of (map opening_value openings)
  unfolding text_of items_of
  text_by openings =
      ap (λ n. whole n (joined (opening_items fs) comma (take 6 openings)) (length (drop 6 openings))) (sym (length-map openings opening_value))
      ∙ ap (λ told. whole (length (map opening_value openings)) told (length (drop 6 openings)))
      (joined_by opening_value (items_of fs) comma (take 6 openings) ∙ ap (joined (items_of fs) comma) (sym (take-map opening_value 6 openings)))
      ∙ ap (λ n. whole (length (map opening_value openings)) (joined (items_of fs) comma (take 6 (map opening_value openings))) n) (dropped_by opening_value 6 openings)

-- ---- tables, by value
told_by : tables.TableValue → TableValue
told_by table = record { rows = map told_row table.rows; others = if table.denials == 0 then None else Some table.others }

told_is : (table : Table) → told_value table ≡ told_by (table_value table)
unfolding told_by
told_is table = ap (λ (rows : List RowValue). record { rows = rows; others = others_of table }) (sym (map_twice kept.row_value told_row table.rows))

-- ---- maps
module _ (counts : CountsAreUnique) (maps_told : MapsAreToldInOneWay) (ranges : List (Run (Result Grant Denial))) (some : AreRunsOfSome ranges) where
  drawn_in_one_way : (maps others : List ℕ) → AreMapsOf ranges maps → AreMapsOf ranges others → maps ≡ others
  drawn_in_one_way maps others are its =
      let runs = counts.classes_from ranges are.runs its.runs some are.are its.are in
      let some_runs : AreRunsOfSome are.runs = record { value_at = λ address. class_of (some.value_at address); are = are.are some.value_at some.are } in
      (maps_told are.runs some_runs).of_group.same [] maps others are.drawn (subst (λ (given : List (Run Class)). GainsGroupMaps given [] others) (sym runs) its.drawn)

  maps_in_one_way : (drawn : Bool) (maps others : List ℕ) → AreMapsIf drawn ranges maps → AreMapsIf drawn ranges others → maps ≡ others
  maps_in_one_way true maps others are its = drawn_in_one_way maps others are its
  maps_in_one_way false maps others are its = are ∙ sym its

-- ---- groups
-- two parts of one group are told alike
record AreAlike (part other : PartValue) : Type 0 where
  sections : part.sections ≡ other.sections
  table : part.table ≡ other.table
  maps : part.maps ≡ other.maps
  openings : map opening_value part.openings ≡ map opening_value other.openings

module _ (fs : ℕ) where
  part_text : List PlaceBreaches → tables.TableValue → List ℕ → List PlaceOpening → List ℕ
  part_text sections table maps openings = group_block fs sections maps (told_by table) openings

  group_by : (part : GroupPart) → group_text fs part ≡ part_text (group_value part.group) (table_value part.table) (string_bytes part.maps) part.openings
  unfolding part_text
  group_by part = ap (λ told. group_block fs (group_value part.group) (string_bytes part.maps) told part.openings) (told_is part.table)

  openings_by : (sections : List PlaceBreaches) (table : tables.TableValue) (maps : List ℕ) (openings others : List PlaceOpening) → map opening_value openings ≡ map opening_value others
      → part_text sections table maps openings ≡ part_text sections table maps others
  unfolding part_text
  openings_by sections table maps openings others same =
      let text : openings_text fs openings ≡ openings_text fs others = text_by fs openings ∙ ap (text_of fs) same ∙ sym (text_by fs others) in
      ap (λ words. tag_html PlaceStart ++ heading (members_in sections) ++ who_block fs (members_in sections) maps (told_by table) ++ words ++ tag_html SectionEnd) text

  same_text : (part other : GroupPart) → AreAlike (part_value part) (part_value other) → group_text fs part ≡ group_text fs other
  same_text part other alike =
      group_by part
      ∙ ap (λ sections. part_text sections (table_value part.table) (string_bytes part.maps) part.openings) alike.sections
      ∙ ap (λ table. part_text (group_value other.group) table (string_bytes part.maps) part.openings) alike.table
      ∙ ap (λ maps. part_text (group_value other.group) (table_value other.table) maps part.openings) alike.maps
      ∙ openings_by (group_value other.group) (table_value other.table) (string_bytes other.maps) part.openings other.openings alike.openings
      ∙ sym (group_by other)

module _ (counts : CountsAreUnique) (groups : GroupsAreUnique) (maps_told : MapsAreToldInOneWay) (drawn : Bool) (openings : List (PlaceFound Opening)) where
  one_part : (part other : PartValue) → part.sections ≡ other.sections → CanBeTabled part.sections → IsPart drawn openings part → IsPart drawn openings other → AreAlike part other
  one_part part other same can is its =
      let table = subst (λ (sections : List PlaceBreaches). tables.IsTableOf sections other.table) (sym same) its.table in
      let maps = subst (λ (sections : List PlaceBreaches). AreMapsOfGroup drawn sections other.maps) (sym same) its.maps in
      let opened = subst (λ (sections : List PlaceBreaches). AreOpeningsOf openings sections other.openings) (sym same) its.opened in
      let ranges = ranges_at_first part.sections in
      record {
        sections = same;
        table = groups.tables ranges part.table other.table is.table table;
        maps = maps_in_one_way counts maps_told ranges can.runs (drawn && grants_some ranges) part.maps other.maps is.maps maps;
        openings = openings_in_one_way openings part.sections part.openings other.openings is.opened opened;
      }

  abbrev places_in_parts : List GroupPart → List (List PlaceBreaches)
  places_in_parts parts = map (λ (part : PartValue). part.sections) (map part_value parts)

  one_text : (fs : ℕ) (parts others : List GroupPart) → places_in_parts parts ≡ places_in_parts others → All CanBeTabled (places_in_parts parts)
      → All (IsPart drawn openings) (map part_value parts) → All (IsPart drawn openings) (map part_value others) → flat_map (group_text fs) parts ≡ flat_map (group_text fs) others
  one_text fs [] [] same can are its = refl
  one_text fs [] (y ∷ ys) same can are its = absurd (let long = ap length same in omega arith)
  one_text fs (x ∷ xs) [] same can are its = absurd (let long = ap length same in omega arith)
  one_text fs (x ∷ xs) (y ∷ ys) same can are its =
      let first : group_value x.group ≡ group_value y.group = ap (λ (all : List (List PlaceBreaches)). get_or all 0 (group_value x.group)) same in
      let others : places_in_parts xs ≡ places_in_parts ys = ap (λ (all : List (List PlaceBreaches)). drop 1 all) same in
      let alike = one_part (part_value x) (part_value y) first (All-head CanBeTabled (group_value x.group) (places_in_parts xs) can)
      (All-head (IsPart drawn openings) (part_value x) (map part_value xs) are) (All-head (IsPart drawn openings) (part_value y) (map part_value ys) its) in
      ap (λ text. text ++ flat_map (group_text fs) xs) (same_text fs x y alike)
      ∙ ap (λ text. group_text fs y ++ text)
      (one_text fs xs ys others (All-tail CanBeTabled (group_value x.group) (places_in_parts xs) can)
      (All-tail (IsPart drawn openings) (part_value x) (map part_value xs) are) (All-tail (IsPart drawn openings) (part_value y) (map part_value ys) its))

pub groups_are_told_in_one_way : CountsAreUnique → GroupsAreUnique → MapsAreToldInOneWay → GroupsCanBeTabled → GroupsAreToldInOneWay
unfolding groups_text
groups_are_told_in_one_way counts unique maps_told can openings sections listed other tell are its =
    let same = unique.sections sections are.groups its.groups are.are its.are in
    let own = are.are_listed in
    let others : AreListed openings are.groups (listed_value other) = subst (λ (groups : List (List PlaceBreaches)). AreListed openings groups (listed_value other)) (sym same) its.are_listed in
    let tabled : All CanBeTabled (take most_listed are.groups) = All-take CanBeTabled most_listed are.groups (can sections are.groups tell are.are) in
    record {
      text = λ fs. one_text counts unique maps_told (are_drawn (length are.groups)) openings fs listed.groups other.groups (own.listed ∙ sym others.listed) (subst (All CanBeTabled) (sym own.listed) tabled)
          own.parts others.parts;
      count = own.count ∙ sym others.count;
      unlisted = own.unlisted ∙ sym others.unlisted;
      others = own.others ∙ sym others.others;
    }

-- Values have one list of groups, and verdicts one table.
use Rattle.std.proofs.Common.{◌≡◌, ◌<◌, ◌∙◌, Bool, List, [], ◌∷◌, Some, ap, arith, inl, inr, length, map, nat_lt, refl, subst, sym}
use Rattle.std.specs.Prelude.{Contains, Result, filter, not, slice_get}
use Rattle.std.proofs.lemmas.List.Elements.{All-contains}
use Rattle.std.proofs.lemmas.Option.{same_Some}
use Rattle.desk_policy.specs.Policy.{Content}
use Rattle.desk_policy.specs.Verdict.{Grant}
use Rattle.desk_policy.specs.declared.verdict.Denial.{Denial}
use Rattle.desk_who.specs.Runs.{Run}
use Rattle.desk_impact.specs.Places.{Place}
use Rattle.desk_impact.specs.Sections.{PlaceBreaches}
use Rattle.page_data.specs.Groups.{AreGrouped, AreGroups, AreSectionGroups}
use Rattle.page_data.specs.Rows.{AreRowsOf, HasRow, IsOfRange, IsRowOf, RowValue, order_of}
use Rattle.page_data.specs.Tables.{IsTableBy, TableValue, denials_among, most_denials, table_by}
use Rattle.page_data.specs.Unique.{GroupsAreUnique}
use Rattle.page_data.proofs.Containing.{here, here_or_there, there}
use Rattle.page_data.proofs.Keyed.{grouped_alike, has_first, same_test}
use Rattle.page_data.proofs.OneOrder.{one_order, those_are_one}

-- ---- groups by one test
module _ {A : Type 0} (alike : A → A → Bool) where
  abbrev apart_from : A → List A → List A
  apart_from first values = filter (λ value. not (alike first value)) values

  none_first : (values : List A) (first : A) → values ≡ [] → slice_get values 0 ≡ Some first → ⊥
  none_first values first none is =
      let has = has_first values first is in
      let lt = subst (λ (some : List A). has.0 < length some) none has.1 in
      omega arith

  one_grouping : (values : List A) (groups others : List (List A)) → AreGrouped alike values groups → AreGrouped alike values others → groups ≡ others
  one_grouping values [] [] are its = refl
  one_grouping values [] ([] ∷ others) are its = absurd its
  one_grouping values [] ((first ∷ rest) ∷ others) are its = absurd (none_first values first are its.0)
  one_grouping values ([] ∷ groups) others are its = absurd are
  one_grouping values ((first ∷ rest) ∷ groups) [] are its = absurd (none_first values first its are.0)
  one_grouping values ((first ∷ rest) ∷ groups) ([] ∷ others) are its = absurd its
  one_grouping values ((first ∷ rest) ∷ groups) ((first' ∷ rest') ∷ others) are its =
      let same : first ≡ first' = same_Some first first' (sym are.0 ∙ its.0) in
      let own : first ∷ rest ≡ first' ∷ rest' = are.1 ∙ ap (λ (x : A). filter (alike x) values) same ∙ sym its.1 in
      let left : AreGrouped alike (apart_from first values) others = subst (λ (x : A). AreGrouped alike (apart_from x values) others) (sym same) its.2 in
      ap (λ group. group ∷ groups) own ∙ ap (λ some. (first' ∷ rest') ∷ some) (one_grouping (apart_from first values) groups others are.2 left)

one_list_of_groups : (content : Content) (places : List Place) (groups others : List (List Place)) → AreGroups content places groups → AreGroups content places others → groups ≡ others
one_list_of_groups content places groups others are its =
    one_grouping are.alike places groups others are.are
    (grouped_alike its.alike are.alike places others
    (λ place other has has'. same_test (its.alike place other) (are.alike place other) (its.decides place other) (are.decides place other)) its.are)

one_list_of_section_groups : (sections : List PlaceBreaches) (groups others : List (List PlaceBreaches)) → AreSectionGroups sections groups → AreSectionGroups sections others → groups ≡ others
one_list_of_section_groups sections groups others are its =
    one_grouping are.alike sections groups others are.are
    (grouped_alike its.alike are.alike sections others
    (λ section other has has'. same_test (its.alike section other) (are.alike section other) (its.decides section other) (are.decides section other)) its.are)

-- ---- what a list of results has comes from what it is made of
record From {X Y : Type 0} (f : X → Y) (xs : List X) (y : Y) : Type 0 where
  value : X
  has : Contains xs value
  is : f value ≡ y

made_from : {X Y : Type 0} (f : X → Y) (xs : List X) (y : Y) → Contains (map f xs) y → From f xs y
made_from f [] y has = absurd (let lt = has.1 in omega arith)
made_from f (x ∷ xs) y has =
    elim (here_or_there (f x) y (map f xs) has) as (λ _. From f (x ∷ xs) y) [
      | inl is ↦ record { value = x; has = here x x xs refl; is = is }
      | inr later ↦ (let rest = made_from f xs y later in record { value = rest.value; has = there x rest.value xs rest.has; is = rest.is })
    ]

-- ---- rows of verdicts
abbrev Verdict : Type 0
Verdict = Result Grant Denial

abbrev row_with : Verdict → List (Run Verdict) → RowValue
row_with verdict ranges = record { verdict = verdict; ranges = ranges }

abbrev Precedes : RowValue → RowValue → Type 0
Precedes row later = order_of row.verdict < order_of later.verdict

one_precedes : (row other : RowValue) → Precedes row other → Precedes other row → ⊥
one_precedes row other before behind =
    let up : order_of row.verdict < order_of other.verdict = before in
    let down : order_of other.verdict < order_of row.verdict = behind in
    omega arith

module _ (ranges : List (Run Verdict)) where
  one_row : (row other : RowValue) → row.verdict ≡ other.verdict → IsRowOf ranges row → IsRowOf ranges other → row ≡ other
  one_row row other same are its =
      ap (λ (verdict : Verdict). row_with verdict row.ranges) same
      ∙ ap (λ (own : List (Run Verdict)). row_with other.verdict own)
      (those_are_one (λ (range : Run Verdict). range.value ≡ other.verdict) ranges row.ranges other.ranges (subst (λ (verdict : Verdict). IsRowOf ranges (row_with verdict row.ranges)) same are) its)

  -- a row of one list of rows is one of the other
  row_among : (rows others : List RowValue) → AreRowsOf ranges rows → AreRowsOf ranges others → (row : RowValue) → Contains rows row → Contains others row
  row_among rows others are its row has =
      let origin : From (λ (range : Run Verdict). range.value) ranges row.verdict =
      made_from (λ (range : Run Verdict). range.value) ranges row.verdict (All-contains (IsOfRange ranges) rows row are.some has) in
      let listed : HasRow others origin.value = All-contains (HasRow others) ranges origin.value its.all origin.has in
      let other : From (λ (one : RowValue). one.verdict) others origin.value.value = made_from (λ (one : RowValue). one.verdict) others origin.value.value listed in
      let same : other.value ≡ row =
      one_row other.value row (other.is ∙ origin.is) (All-contains (IsRowOf ranges) others other.value its.each other.has) (All-contains (IsRowOf ranges) rows row are.each has) in
      subst (Contains others) same other.has

  one_list_of_rows : (rows others : List RowValue) → AreRowsOf ranges rows → AreRowsOf ranges others → rows ≡ others
  one_list_of_rows rows others are its = one_order Precedes one_precedes rows others are.order its.order (row_among rows others are its) (row_among others rows its are)

  one_table : (table other : TableValue) → IsTableBy ranges table → IsTableBy ranges other → table ≡ other
  one_table table other are its =
      are.table
      ∙ ap (λ (rows : List RowValue). table_by (nat_lt most_denials (denials_among rows)) ranges rows) (one_list_of_rows are.rows its.rows are.are its.are)
      ∙ sym its.table

pub groups_are_unique : GroupsAreUnique
groups_are_unique = record { places = one_list_of_groups; sections = one_list_of_section_groups; rows = one_list_of_rows; tables = one_table }

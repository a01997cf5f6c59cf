-- The first of the heaviest lines that widen what is selected, group by group of lighter lines.
use Rattle.std.proofs.Common.{◌≡◌, ◌∙◌, ℕ, suc, ◌+◌, ◌<◌, ◌≤◌, ◌++◌, Bool, true, List, [], ◌∷◌, Some, None, ap, arith, drop, get_or, inl, inr, length, not, refl, subst, sym, take}
use Rattle.std.specs.Prelude.{find, slice_get}
use Rattle.std.specs.List.{All, AllByRecursion, Contains, list_any}
use Rattle.std.specs.Option.{option_map}
use Rattle.std.proofs.lemmas.Bool.{and_parts, cases_Bool, cases_lt, cond-true, cond-false, eq-eqb, not-true, or_cases, true≢false}
use Rattle.std.proofs.lemmas.List.{append_assoc, get_or_default, take-append-drop}
use Rattle.std.proofs.lemmas.List.Elements.{All-contains_itself, All-filter}
use Rattle.std.proofs.lemmas.List.Folds.{list_any_at}
use Rattle.std.proofs.lemmas.List.Kept.{AllPairs-filter}
use Rattle.desk_text.specs.Address.{number_of}
use Rattle.desk_policy.specs.Keys.{HasBlock}
use Rattle.desk_policy.specs.Policy.{AreAscending}
use Rattle.desk_policy.specs.Listings.{written}
use Rattle.desk_policy.specs.Verdict.{is_directory_among}
use Rattle.desk_policy.specs.Weights.{is_greatest, selected, weight_of}
use Rattle.desk_policy.specs.declared.row.Row.{Row}
use Rattle.desk_index.specs.Keys.{numbers}
use Rattle.desk_index.specs.Lighter.{AreHeaviestBelow, IsHeaviestBelow, is_weight, weighing}
use Rattle.desk_index.specs.declared.lighter.Weighed.{Weighed}
use Rattle.desk_idle.specs.Idle.{first_selected}
use Rattle.desk_idle.specs.Laws.{brings}
use Rattle.desk_idle.specs.Selections.{IsSelection}
use Rattle.desk_idle.specs.declared.selections.Selection.{Selection}
use Rattle.desk_idle.proofs.Bringing.{Lacks, each_lacks, witness}
use Rattle.desk_idle.proofs.Directories.{Path}
use Rattle.desk_idle.proofs.Front.{front}
use Rattle.desk_idle.proofs.Heaviest.{are_numbers, at_most_all, filter_from, filter_has, none_heavier, none_there, weight_is}
use Rattle.desk_idle.proofs.Lists.{in_middle}
use Rattle.desk_idle.proofs.Looks.{first_or, none_passes}
use Rattle.desk_server.specs.PrivateWiderGrants.{WidenBelow, Widened}
use Rattle.desk_server.specs.WiderGrants.{Widens, WidensFirst}

-- ---- the first that passes

-- of lines that ascend it has the least number
first_least : (p : Row → Bool) (xs : List Row) (row other : Row) → AreAscending xs → find p xs ≡ Some row → Contains xs other → p other ≡ true → row.entry.line ≤ other.entry.line
first_least p [] row other up e has passes = let wrong : None ≡ Some row = e in cc
first_least p (x ∷ xs) row other up e has passes =
    elim (cases_Bool (p x)) [
      | inl here ↦
          let same : x ≡ row = (let f : Some x ≡ Some row = sym (cond-true (p x) (Some x) (find p xs) here) ∙ e in cc) in
          let line = ap (λ (r : Row). r.entry.line) same in
          elim (first_or x xs other has) [
            | inl own ↦ (let l = ap (λ (r : Row). r.entry.line) own in omega arith)
            | inr later ↦
                let k = later.0 in
                let within : k < length xs = later.1 in
                let less : x.entry.line < (get_or xs k x).entry.line = up 0 (suc k) x (omega arith) (omega arith) in
                let l = ap (λ (r : Row). r.entry.line) (get_or_default xs k x other within ∙ later.2) in
                omega arith
          ]
      | inr later_on ↦ elim (first_or x xs other has) [
        | inl here ↦ absurd (true≢false (sym (ap p here ∙ passes) ∙ later_on))
        | inr later ↦ first_least p xs row other (λ i j d lt inside. up (suc i) (suc j) d (omega arith) (omega arith)) (sym (cond-false (p x) (Some x) (find p xs) later_on) ∙ e) later passes
      ]
    ]

pub found_has : (p : Row → Bool) (xs : List Row) (row : Row) → find p xs ≡ Some row → Contains xs row × (p row ≡ true)
found_has p [] row e = let wrong : None ≡ Some row = e in cc
found_has p (x ∷ xs) row e =
    elim (cases_Bool (p x)) [
      | inl here ↦
          let same : x ≡ row = (let f : Some x ≡ Some row = sym (cond-true (p x) (Some x) (find p xs) here) ∙ e in cc) in
          ((0, omega arith, same), sym (ap p same) ∙ here)
      | inr later_on ↦
          let rest = found_has p xs row (sym (cond-false (p x) (Some x) (find p xs) later_on) ∙ e) in
          ((suc rest.0.0, (let b = rest.0.1 in omega arith), rest.0.2), rest.1)
    ]

-- ---- group by group

module _ (rows : List Row) (address : ℕ) where
  abbrev brings_more : Row → Bool
  brings_more row = brings (selected rows address) row

  -- to lines of which one has -alldirs nothing can be brought
  pub all_listed : list_any (λ (row : Row). row.entry.alldirs) (selected rows address) ≡ true → Widened rows address → ⊥
  all_listed all wide =
      let s = and_parts _ _ wide.widens.brought in
      true≢false (sym all ∙ not-true (list_any (λ (row : Row). row.entry.alldirs) (selected rows address)) s.0)

  pub none_left : (below : ℕ) → WidenBelow rows address below → AreHeaviestBelow rows address below None → Widened rows address → ⊥
  none_left below all none wide = none wide.row wide.weight wide.widens.has wide.widens.matches (all wide.row wide.weight wide.widens)

  module _ (below : ℕ) (all : WidenBelow rows address below) (group : Weighed) (is : IsHeaviestBelow rows address below group) where
    at_most : (row : Row) (own : ℕ) → Widens rows address row own → own ≤ group.weight
    at_most row own w = is.most row own w.has w.matches (all row own w)

    pub none_names : group.weight ≡ 0 → Widened rows address → ⊥
    none_names weightless wide = (let le = at_most wide.row wide.weight wide.widens in let names = wide.widens.names in absurd (omega arith))

    -- a line of this weight is of the group
    own_group : (row : Row) (own : ℕ) → Widens rows address row own → own ≡ group.weight → Contains (weighing rows address group.weight) row
    own_group row own w same = filter_has (λ (r : Row). is_weight group.weight (weight_of r address)) rows row w.has (ap (is_weight group.weight) w.matches ∙ eq-eqb own group.weight same)

    pub lighter : find brings_more (weighing rows address group.weight) ≡ None → WidenBelow rows address group.weight
    lighter none row own w =
        elim (cases_lt own group.weight) [
          | inl lt ↦ lt
          | inr le ↦
              let most = at_most row own w in
              let has = own_group row own w (omega arith) in
              absurd (none_passes brings_more (weighing rows address group.weight) none (list_any_at brings_more (weighing rows address group.weight) has.0 row has.1 (ap brings_more has.2 ∙ w.brought)))
        ]

    pub widest_is : AreAscending rows → 0 < group.weight → (row : Row) → find brings_more (weighing rows address group.weight) ≡ Some row → WidensFirst rows address row
    widest_is ascending names row found =
        let chosen = weighing rows address group.weight in
        let f = found_has brings_more chosen row found in
        let g = filter_from (λ (r : Row). is_weight group.weight (weight_of r address)) rows row f.0 in
        let up : AreAscending chosen = AllPairs-filter (λ (r : Row) (later : Row). r.entry.line < later.entry.line) (λ (r : Row). is_weight group.weight (weight_of r address)) rows ascending in
        record {
          weight = group.weight;
          widens = record { has = g.0; matches = weight_is (weight_of row address) group.weight g.1; names = names; brought = f.1 };
          least = λ other own w. elim (cases_lt own group.weight) [
            | inl lt ↦ inl lt
            | inr le ↦
                let most = at_most other own w in
                let same : own ≡ group.weight = omega arith in
                inr (same, first_least brings_more chosen row other up found (own_group other own w same) w.brought)
          ];
        }

-- ---- the selected lines

-- a line brings nothing to lines that it is one of
pub brings_nothing : (chosen : List Row) (row : Row) → Contains chosen row → brings chosen row ≡ true → ⊥
brings_nothing chosen row has brought =
    let parts = and_parts _ _ brought in
    elim (or_cases row.entry.alldirs (list_any (λ (dir : Path). not (is_directory_among dir (written chosen))) row.entry.dirs) parts.1) [
      | inl all ↦
          let one : list_any (λ (other : Row). other.entry.alldirs) chosen ≡ true =
          list_any_at (λ (other : Row). other.entry.alldirs) chosen has.0 row has.1 (ap (λ (other : Row). other.entry.alldirs) has.2 ∙ all) in
          true≢false (sym one ∙ not-true (list_any (λ (other : Row). other.entry.alldirs) chosen) parts.0)
      | inr some ↦
          let new = witness (λ (dir : Path). Unit {0}) (λ (dir : Path). not (is_directory_among dir (written chosen))) row.entry.dirs (all_units row.entry.dirs) some in
          let lacks : AllByRecursion (Lacks new.dir) chosen = each_lacks new.dir chosen (not-true (is_directory_among new.dir (written chosen)) new.passes) in
          true≢false (sym new.among ∙ lacks_at new.dir chosen row lacks has)
    ]
  where
    all_units : (dirs : List Path) → AllByRecursion (λ (dir : Path). Unit {0}) dirs
    all_units [] = tt
    all_units (dir ∷ dirs) = (tt, all_units dirs)

    lacks_at : (dir : Path) (rs : List Row) (one : Row) → AllByRecursion (Lacks dir) rs → Contains rs one → Lacks dir one
    lacks_at dir [] one all here = absurd (let b = here.1 in omega arith)
    lacks_at dir (r ∷ rs) one all here = elim (first_or r rs one here) [
      | inl own ↦ subst (Lacks dir) own all.0
      | inr later ↦ lacks_at dir rs one all.1 later
    ]

module _ (rows : List Row) (address : ℕ) (greatest : ℕ) (most : (row : Row) (own : ℕ) → Contains rows row → weight_of row address ≡ Some own → own ≤ greatest) where
  -- lines of the greatest weight are selected, and bring nothing more
  pub greatest_bring_nothing : (row : Row) → Contains rows row → weight_of row address ≡ Some greatest → brings (selected rows address) row ≡ true → ⊥
  unfolding selected
  greatest_bring_nothing row has weighs =
      brings_nothing (selected rows address) row
      (filter_has (λ (other : Row). is_greatest rows address (weight_of other address)) rows row has (ap (is_greatest rows address) weighs ∙ at_most_all rows address greatest most rows [] refl))

module _ (rows : List Row) (address : ℕ) (blocks : All (λ (row : Row). HasBlock row.entry.clients) rows) where
  module _ (group : Weighed) (is : IsHeaviestBelow rows address 35 group) where
    -- the first of the numbers is that of the first line
    pub first_is : (line : ℕ) → Some line ≡ slice_get group.lines.now 0 → first_selected rows address ≡ Some line
    first_is line e =
        let chosen = selected rows address in
        let f = front chosen chosen group.lines.now line (are_numbers rows address blocks group is) (All-contains_itself chosen) e in
        ap (λ (rs : List Row). option_map (λ (row : Row). row.entry.line) (slice_get rs 0)) f.are ∙ ap (λ (n : ℕ). Some n) f.number

    -- what widens them is lighter
    pub below_selected : WidenBelow rows address group.weight
    below_selected row own w =
        elim (cases_lt own group.weight) [
          | inl lt ↦ lt
          | inr le ↦
              let up = none_heavier rows address blocks group is row own w.has w.matches in
              let same : own ≡ group.weight = omega arith in
              absurd (greatest_bring_nothing rows address group.weight (none_heavier rows address blocks group is) row w.has (w.matches ∙ ap (λ (n : ℕ). Some n) same) w.brought)
        ]

-- where no line matches, none is the first
pub none_at : (rows : List Row) → All (λ (row : Row). HasBlock row.entry.clients) rows → (selection : Selection) → IsSelection rows selection → selection.group ≡ None
    → first_selected rows (number_of selection.address) ≡ None
none_at rows blocks selection is none = ap (λ (rs : List Row). option_map (λ (row : Row). row.entry.line) (slice_get rs 0)) (none_there rows blocks selection is none)

-- the lines of one weight are lines of the file system
pub weighing_has : (rows : List Row) (address weight : ℕ) → All (Contains rows) (weighing rows address weight)
weighing_has rows address weight = All-filter (λ (r : Row). is_weight weight (weight_of r address)) (Contains rows) rows (All-contains_itself rows)

-- the next line is one of them
pub next_has : (xs : List Row) (i : ℕ) (row : Row) → take (i + 1) xs ≡ take i xs ++ row ∷ [] → Contains xs row
next_has xs i row next =
    subst (λ (ys : List Row). Contains ys row)
    (sym (sym (take-append-drop (i + 1) xs) ∙ ap (λ (ys : List Row). ys ++ drop (i + 1) xs) next ∙ append_assoc (take i xs) (row ∷ []) (drop (i + 1) xs)))
    (in_middle (take i xs) row (drop (i + 1) xs))

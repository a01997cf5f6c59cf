-- Verdicts on the paths of a file system are told apart by their places in a table.
use Rattle.std.proofs.Common.{◌≡◌, ◌≢◌, ℕ, ◌+◌, ◌<◌, ◌^◌, ◌∙◌, Bool, true, List, [], ◌∷◌, Option, None, Some, ap, arith, find, get_or, inl, inr, length, refl, subst, sym}
use Rattle.std.specs.Prelude.{Contains, Result, Ok, Err, filter, not}
use Rattle.std.proofs.lemmas.List.Elements.{All-contains, All-from_recursion, Contains-get_or}
use Rattle.desk_tables.specs.FileSystems.{fs_of}
use Rattle.desk_policy.specs.Policy.{Content, rows_of}
use Rattle.desk_policy.specs.Verdict.{Grant, granted_by, lists, verdict_among, verdict_in, verdict_of}
use Rattle.desk_policy.specs.Weights.{is_greatest, selected, weight_of}
use Rattle.desk_policy.specs.declared.row.Row.{Row}
use Rattle.desk_policy.specs.declared.verdict.Denial.{Denial}
use Rattle.desk_policy.specs.declared.verdict.Denial.TheVariants.{NoLine, NotListed}
use Rattle.desk_who.specs.Runs.{HasValue, Run}
use Rattle.desk_impact.specs.Sections.{PlaceBreaches, PlacesTellScope}
use Rattle.page_data.specs.Groups.{AreGrouped, AreSectionGroups, granted_ranges}
use Rattle.page_data.specs.Laws.{GroupsCanBeTabled, IsSound, OrdersTellVerdicts, TellVerdicts}
use Rattle.page_data.specs.Rows.{ByOrder, order_of}
use Rattle.page_data.specs.Sections.{AreSections, is_section_in}
use Rattle.page_data.specs.Tables.{CanBeTabled}
use Rattle.page_data.specs.Values.{AreRunsOfSome}
use Rattle.page_data.proofs.Containing.{here_or_there}
use Rattle.page_data.proofs.Granted.{from_flat}
use Rattle.page_data.proofs.Grouped.{in_group, one_group}
use Rattle.page_data.proofs.Selecting.{find_in, one_by_number}
use Rattle.page_data.proofs.Standing.{home_path}

abbrev Verdict : Type 0
Verdict = Result Grant Denial

-- what a verdict on a path of a file system can be
data Shape (fs : ℕ) (rows : List Row) (verdict : Verdict) : Type 0 where
  Granting : (row : Row) → Contains rows row → verdict ≡ Ok (record { fs = record { 0 = fs }; line = row.entry.line; terms = row.entry.terms }) → Shape fs rows verdict
  Unlisted : (row : Row) → Contains rows row → verdict ≡ Err (NotListed (record { 0 = fs }) row.entry.line) → Shape fs rows verdict
  Unmatched : verdict ≡ Err (NoLine (record { 0 = fs })) → Shape fs rows verdict

module _ (content : Content) (fs : ℕ) (sound : IsSound content fs) where
  abbrev rows : List Row
  rows = rows_of content fs

  abbrev passes : ℕ → Row → Bool
  passes address row = is_greatest rows address (weight_of row address)

  verdict_here : (address : ℕ) (path : List (List ℕ)) → fs_of content.table path ≡ Some fs → verdict_of content address path ≡ verdict_among (record { 0 = fs }) (lists content fs path) (filter (passes address) rows)
  unfolding verdict_of selected
  verdict_here address path e = ap (verdict_in content address path) e

  shape_among : (address : ℕ) (listing : Row → Bool) (chosen : List Row) → filter (passes address) rows ≡ chosen → Shape fs rows (verdict_among (record { 0 = fs }) listing chosen)
  shape_among address listing [] e = Unmatched refl
  shape_among address listing (first ∷ others) e = by (find listing (first ∷ others)) refl
    where
      by : (found : Option Row) → find listing (first ∷ others) ≡ found → Shape fs rows (granted_by (record { 0 = fs }) first found)
      by None f = Unlisted first (find_in (passes address) (λ row. true) rows first (ap (find (λ (row : Row). true)) e)).0 refl
      by (Some row) f = Granting row (find_in (passes address) listing rows row (ap (find listing) e ∙ f)).0 refl

  shape : (address : ℕ) (path : List (List ℕ)) → fs_of content.table path ≡ Some fs → (verdict : Verdict) → verdict_of content address path ≡ verdict → Shape fs rows verdict
  shape address path home verdict is = subst (Shape fs rows) (sym (verdict_here address path home) ∙ is) (shape_among address (lists content fs path) (filter (passes address) rows) refl)

  small : (row : Row) → Contains rows row → row.entry.line < 2 ^ 32
  small row has = All-contains (λ (one : Row). one.entry.line < 2 ^ 32) rows row sound.numbers has

  -- shapes of one order are the same
  same : (verdict other : Verdict) → Shape fs rows verdict → Shape fs rows other → order_of verdict ≡ order_of other → verdict ≡ other
  same verdict other (Granting row has is) (Granting row' has' is') order =
      let line : row.entry.line ≡ row'.entry.line = sym (ap order_of is) ∙ order ∙ ap order_of is' in
      let one = one_by_number rows sound.ascending row row' has has' line in
      is ∙ ap (λ (r : Row). Ok (record { fs = record { 0 = fs }; line = r.entry.line; terms = r.entry.terms })) one ∙ sym is'
  same verdict other (Granting row has is) (Unlisted row' has' is') order =
      absurd (let lt = small row has in let line : row.entry.line ≡ 2 ^ 32 + row'.entry.line = sym (ap order_of is) ∙ order ∙ ap order_of is' in omega arith)
  same verdict other (Granting row has is) (Unmatched is') order =
      absurd (let lt = small row has in let line : row.entry.line ≡ 2 ^ 33 = sym (ap order_of is) ∙ order ∙ ap order_of is' in omega arith)
  same verdict other (Unlisted row has is) (Granting row' has' is') order =
      absurd (let lt = small row' has' in let line : 2 ^ 32 + row.entry.line ≡ row'.entry.line = sym (ap order_of is) ∙ order ∙ ap order_of is' in omega arith)
  same verdict other (Unlisted row has is) (Unlisted row' has' is') order =
      let line : 2 ^ 32 + row.entry.line ≡ 2 ^ 32 + row'.entry.line = sym (ap order_of is) ∙ order ∙ ap order_of is' in
      let one : row.entry.line ≡ row'.entry.line = omega arith in
      is ∙ ap (λ n. Err (NotListed (record { 0 = fs }) n)) one ∙ sym is'
  same verdict other (Unlisted row has is) (Unmatched is') order =
      absurd (let lt = small row has in let line : 2 ^ 32 + row.entry.line ≡ 2 ^ 33 = sym (ap order_of is) ∙ order ∙ ap order_of is' in omega arith)
  same verdict other (Unmatched is) (Granting row' has' is') order =
      absurd (let lt = small row' has' in let line : 2 ^ 33 ≡ row'.entry.line = sym (ap order_of is) ∙ order ∙ ap order_of is' in omega arith)
  same verdict other (Unmatched is) (Unlisted row' has' is') order =
      absurd (let lt = small row' has' in let line : 2 ^ 33 ≡ 2 ^ 32 + row'.entry.line = sym (ap order_of is) ∙ order ∙ ap order_of is' in omega arith)
  same verdict other (Unmatched is) (Unmatched is') order = is ∙ sym is'

  -- ---- the verdicts at places
  module _ (tells : PlacesTellScope) (all : List PlaceBreaches) (are : AreSections content all) where
    abbrev own : List PlaceBreaches
    own = filter (is_section_in content.table fs) all

    range_shape : (section : PlaceBreaches) → Contains own section → (range : Run Verdict) → Contains section.ranges range → Shape fs rows range.value
    range_shape section listed range has =
        let home = home_path tells content all are fs section listed in
        let value : HasValue (λ address. verdict_of content address home.path) range =
        All-contains (HasValue (λ address. verdict_of content address home.path)) section.ranges range (All-from_recursion (HasValue (λ address. verdict_of content address home.path)) section.ranges home.who.values) has in
        shape range.first home.path home.here range.value (value.values range.first (omega arith) value.proper)

    own_runs : (section : PlaceBreaches) → Contains own section → AreRunsOfSome section.ranges
    own_runs section listed = (let home = home_path tells content all are fs section listed in record { value_at = λ address. verdict_of content address home.path; are = home.who })

    by_order : (section other : PlaceBreaches) → Contains own section → Contains own other → (range range' : Run Verdict) → Contains section.ranges range → Contains other.ranges range'
        → order_of range.value ≡ order_of range'.value → range.value ≡ range'.value
    by_order section other listed listed' range range' has has' order = same range.value range'.value (range_shape section listed range has) (range_shape other listed' range' has') order

    pub tell : TellVerdicts own
    tell = record {
      runs = λ k d within. own_runs (get_or own k d) (Contains-get_or own k d within);
      each = λ k d within. (let listed = Contains-get_or own k d within in λ range range' has has' order. by_order (get_or own k d) (get_or own k d) listed listed range range' has has' order);
      together = λ range range' has has' order.
          (let from = from_flat (λ (s : PlaceBreaches). s.ranges) own range has in
          let from' = from_flat (λ (s : PlaceBreaches). s.ranges) own range' has' in
          by_order from.x from'.x from.listed from'.listed range range' from.own from'.own order);
    }

pub orders_tell_verdicts : PlacesTellScope → OrdersTellVerdicts
orders_tell_verdicts tells content fs all system sound are is = subst TellVerdicts (sym is.sections) (tell content fs sound tells all are)

-- ---- groups of such places
first_can : (sections : List PlaceBreaches) → TellVerdicts sections → (group : List PlaceBreaches) → (group ≢ []) → ((section : PlaceBreaches) → Contains group section → Contains sections section) → CanBeTabled group
first_can sections tell [] some only = absurd (some refl)
first_can sections tell (first ∷ others) some only =
    let listed = only first (0, omega arith, refl) in
    record {
      runs = All-contains (λ (section : PlaceBreaches). AreRunsOfSome section.ranges) sections first tell.runs listed;
      order = All-contains (λ (section : PlaceBreaches). ByOrder section.ranges) sections first tell.each listed;
    }

module _ (sections : List PlaceBreaches) (groups : List (List PlaceBreaches)) (are : AreSectionGroups sections groups) where
  itself : (section : PlaceBreaches) → are.alike section section ≡ true
  itself section = (are.decides section section).1 refl

  back : (section other : PlaceBreaches) → are.alike section other ≡ true → are.alike other section ≡ true
  back section other is = (are.decides other section).1 (sym ((are.decides section other).0 is))

  along : (section other third : PlaceBreaches) → are.alike section other ≡ true → are.alike other third ≡ true → are.alike section third ≡ true
  along section other third is is' = (are.decides section third).1 ((are.decides other third).0 is' ∙ (are.decides section other).0 is)

  pub in_sections : (group : List PlaceBreaches) → Contains groups group → (section : PlaceBreaches) → Contains group section → Contains sections section
  in_sections group listed section has = in_group are.alike itself back along sections groups are.are group listed section has

  -- the sections of a group have the same granted ranges
  pub alike_in_group : (group : List PlaceBreaches) → Contains groups group → (section other : PlaceBreaches) → Contains group section → Contains group other → granted_ranges other.ranges ≡ granted_ranges section.ranges
  alike_in_group group listed section other has has' =
      let one = one_group are.alike itself back along sections groups are.are section (in_sections group listed section has) in
      (are.decides section other).0 ((one.same other).0 (subst (λ (some : List PlaceBreaches). Contains some other) (one.only group listed has) has')).1

  not_empty : (values : List PlaceBreaches) (some : List (List PlaceBreaches)) → AreGrouped are.alike values some → (group : List PlaceBreaches) → Contains some group → group ≢ []
  not_empty values [] grouped group listed none = absurd (let lt = listed.1 in omega arith)
  not_empty values ([] ∷ some) grouped group listed none = absurd grouped
  not_empty values ((first ∷ others) ∷ some) grouped group listed none =
      elim (here_or_there (first ∷ others) group some listed) [
        | inl is ↦ (let wrong : first ∷ others ≡ [] = is ∙ none in let few = ap length wrong in omega arith)
        | inr later ↦ not_empty (filter (λ value. not (are.alike first value)) values) some grouped.2 group later none
      ]

pub groups_can_be_tabled : GroupsCanBeTabled
groups_can_be_tabled sections groups tell are k d within =
    let group = get_or groups k d in
    let listed = Contains-get_or groups k d within in
    first_can sections tell group (not_empty sections groups are sections groups are.are group listed) (in_sections sections groups are group listed)

-- A line decides exactly if it brings something to the selected lines before it.
use Rattle.std.proofs.Common.{◌≡◌, ℕ, ◌<◌, ◌^◌, ◌&&◌, ◌||◌, ◌++◌, ◌∙◌, Bool, true, false, List, [], ◌∷◌, Some, ap, arith, get_or, inl, inr, length, refl, subst, sym}
use Rattle.std.specs.Prelude.{filter}
use Rattle.std.specs.List.{AllByRecursion, Contains, list_any}
use Rattle.std.proofs.lemmas.Bool.{and_from, and_parts, cases_order, eq-eqb, not-true, not_from_false, or_cases, or_from, or_left, or_parts, or_right, true≢false}
use Rattle.std.proofs.lemmas.List.{get_or_default}
use Rattle.std.proofs.lemmas.List.Elements.{All-contains, All-contains_itself, All-filter, recursion_from_All}
use Rattle.std.proofs.lemmas.List.Folds.{list_any-append}
use Rattle.desk_text.specs.Path.{same_path}
use Rattle.desk_tables.specs.FileSystems.{fs_of}
use Rattle.desk_policy.specs.Listings.{written}
use Rattle.desk_policy.specs.Policy.{AreAscending, Content, rows_of}
use Rattle.desk_policy.specs.Verdict.{is_directory_among, is_in, lists, verdict_among, verdict_in, verdict_of}
use Rattle.desk_policy.specs.Weights.{is_greatest, selected, weight_of}
use Rattle.desk_policy.specs.declared.row.Row.{Row}
use Rattle.desk_idle.specs.Idle.{IsNamed, names_line}
use Rattle.desk_idle.specs.Laws.{BringsSomewhere, LinesDecideByWhatTheyBring, WriteDirectories, WritesDirectories, brings}
use Rattle.desk_idle.proofs.Directories.{Path, is_new, passes_among, same_self}
use Rattle.desk_idle.proofs.Lists.{appended, in_middle, kept}
use Rattle.desk_idle.proofs.Naming.{first_to_list, named}
use Rattle.desk_idle.proofs.OtherPaths.{beside}

-- one of these directories passes a test, and all have a property
pub record Witness (P : Path → Type 0) (p : Path → Bool) (dirs : List Path) : Type 0 where
  pub dir : Path
  pub passes : p dir ≡ true
  pub has : P dir
  pub among : is_directory_among dir dirs ≡ true

pub witness : (P : Path → Type 0) (p : Path → Bool) (dirs : List Path) → AllByRecursion P dirs → list_any p dirs ≡ true → Witness P p dirs
witness P p [] all e = absurd (true≢false (sym e))
witness P p (dir ∷ dirs) all e =
    elim (or_cases (p dir) (list_any p dirs) e) [
      | inl here ↦ record { dir = dir; passes = here; has = all.0; among = or_left _ _ (same_self dir) }
      | inr later ↦
          let w = witness P p dirs all.1 later in
          record { dir = w.dir; passes = w.passes; has = w.has; among = or_right _ _ w.among }
    ]

-- ---- lines

pub selected_kept : (P : Row → Type 0) (rows : List Row) (address : ℕ) → AllByRecursion P rows → AllByRecursion P (selected rows address)
unfolding selected
selected_kept P rows address all = kept P (λ row. is_greatest rows address (weight_of row address)) rows all

-- a selected line is one of the lines
pub selected_has : (rows : List Row) (address : ℕ) (row : Row) → Contains (selected rows address) row → Contains rows row
unfolding selected
selected_has rows address row has =
    let test : Row → Bool = λ other. is_greatest rows address (weight_of other address) in
    All-contains (Contains rows) (filter test rows) row (All-filter test (Contains rows) rows (All-contains_itself rows)) has

-- lines of one number are one
pub one_line : (rows : List Row) (row other : Row) → AreAscending rows → Contains rows row → Contains rows other → row.entry.line ≡ other.entry.line → row ≡ other
one_line rows row other ascending has has' same =
    let i = has.0 in
    let j = has'.0 in
    elim (cases_order i j) [
      | inl is ↦ sym has.2 ∙ get_or_default rows i row other has.1 ∙ ap (λ (k : ℕ). get_or rows k other) is ∙ has'.2
      | inr s ↦ elim s [
        | inl lt ↦
            let up = ascending i j row lt has'.1 in
            let first : get_or rows i row ≡ row = has.2 in
            let second : get_or rows j row ≡ other = get_or_default rows j row other has'.1 ∙ has'.2 in
            let a = ap (λ (r : Row). r.entry.line) first in
            let b = ap (λ (r : Row). r.entry.line) second in
            absurd (omega arith)
        | inr gt ↦
            let up = ascending j i row gt has.1 in
            let first : get_or rows i row ≡ row = has.2 in
            let second : get_or rows j row ≡ other = get_or_default rows j row other has'.1 ∙ has'.2 in
            let a = ap (λ (r : Row). r.entry.line) first in
            let b = ap (λ (r : Row). r.entry.line) second in
            absurd (omega arith)
      ]
    ]

-- ---- the directories that no line writes

abbrev pub Lacks : Path → Row → Type 0
Lacks path row = is_directory_among path row.entry.dirs ≡ false

written_split : (path : Path) (row : Row) (rows : List Row) → is_directory_among path (written (row ∷ rows)) ≡ (is_directory_among path row.entry.dirs || is_directory_among path (written rows))
written_split path row rows = list_any-append (λ dir. same_path dir path) row.entry.dirs (written rows)

pub each_lacks : (path : Path) (rows : List Row) → is_directory_among path (written rows) ≡ false → AllByRecursion (Lacks path) rows
each_lacks path [] none = tt
each_lacks path (row ∷ rows) none =
    let s = or_parts _ _ (sym (written_split path row rows) ∙ none) in
    (s.0, each_lacks path rows s.1)

pub all_lack : (path : Path) (rows : List Row) → AllByRecursion (Lacks path) rows → is_directory_among path (written rows) ≡ false
all_lack path [] all = refl
all_lack path (row ∷ rows) all = written_split path row rows ∙ or_from _ _ all.0 (all_lack path rows all.1)

-- ---- what a line brings

abbrev any_alldirs : List Row → Bool
any_alldirs rows = list_any (λ (other : Row). other.entry.alldirs) rows

module _ (content : Content) (fs : ℕ) where
  -- on a path of the file system the lines with -alldirs and those that write it list it
  pub lists_is : (path : Path) → fs_of content.table path ≡ Some fs → (row : Row) → lists content fs path row ≡ (is_directory_among path row.entry.dirs || row.entry.alldirs)
  lists_is path here row =
      ap (λ o. is_directory_among path row.entry.dirs || (row.entry.alldirs && is_in o fs)) here
      ∙ ap (λ b. is_directory_among path row.entry.dirs || (row.entry.alldirs && b)) (eq-eqb fs fs refl)
      ∙ ap (λ b. is_directory_among path row.entry.dirs || b) (and_true row.entry.alldirs)
    where
      and_true : (b : Bool) → (b && true) ≡ b
      and_true true = refl
      and_true false = refl

  -- of lines without -alldirs none lists a path that none of them writes
  pub none_lists : (path : Path) → fs_of content.table path ≡ Some fs → (rows : List Row) → any_alldirs rows ≡ false → is_directory_among path (written rows) ≡ false → list_any (lists content fs path) rows ≡ false
  none_lists path here [] a b = refl
  none_lists path here (row ∷ rows) a b =
      let s = or_parts _ _ a in
      let t = or_parts _ _ (sym (written_split path row rows) ∙ b) in
      or_from _ _ (lists_is path here row ∙ or_from _ _ t.0 s.0) (none_lists path here rows s.1 t.1)

  -- and where no line lists a path of the file system, none has -alldirs, and none writes it
  none_of_both : (path : Path) → fs_of content.table path ≡ Some fs → (rows : List Row) → list_any (lists content fs path) rows ≡ false
      → (any_alldirs rows ≡ false) × (is_directory_among path (written rows) ≡ false)
  none_of_both path here [] e = (refl, refl)
  none_of_both path here (row ∷ rows) e =
      let s = or_parts _ _ e in
      let t = or_parts _ _ (sym (lists_is path here row) ∙ s.0) in
      let rest = none_of_both path here rows s.1 in
      (or_from _ _ t.1 rest.0, written_split path row rows ∙ or_from _ _ t.0 rest.1)

  -- the verdict on a path of the file system is that among its selected lines
  pub verdict_is : (address : ℕ) (path : Path) → fs_of content.table path ≡ Some fs
      → verdict_of content address path ≡ verdict_among (record { 0 = fs }) (lists content fs path) (selected (rows_of content fs) address)
  unfolding verdict_of
  verdict_is address path here = ap (verdict_in content address path) here

  module _ (is : WriteDirectories content fs) (row : Row) (has : Contains (rows_of content fs) row) where
    own : WritesDirectories content.table fs row
    own = All-contains (WritesDirectories content.table fs) (rows_of content fs) row is has

    pub own_dirs : AllByRecursion (λ (dir : Path). fs_of content.table dir ≡ Some fs) row.entry.dirs
    own_dirs = recursion_from_All (λ (dir : Path). fs_of content.table dir ≡ Some fs) row.entry.dirs own.own

    -- the verdict for the address on a path that this line is the first to list
    pub decides_at : (address : ℕ) → address < 2 ^ 32 → (path : Path) → fs_of content.table path ≡ Some fs → (earlier later : List Row) → selected (rows_of content fs) address ≡ earlier ++ row ∷ later
        → list_any (lists content fs path) earlier ≡ false → lists content fs path row ≡ true → IsNamed content fs row.entry.line
    decides_at address below path here earlier later selects before passes = record {
      address = address;
      path = path;
      is_address = below;
      here = here;
      names = ap (names_line row.entry.line) (verdict_is address path here ∙ ap (verdict_among (record { 0 = fs }) (lists content fs path)) selects)
          ∙ first_to_list (record { 0 = fs }) (lists content fs path) earlier row later before passes;
    }

    -- a path of the file system that no line writes
    pub record Elsewhere : Type 0 where
      pub path : Path
      pub here : fs_of content.table path ≡ Some fs
      pub unwritten : is_directory_among path (written (rows_of content fs)) ≡ false

    pub elsewhere : Elsewhere
    elsewhere = by_dirs row.entry.dirs own_dirs own.some
      where
        by_dirs : (dirs : List Path) → AllByRecursion (λ (dir : Path). fs_of content.table dir ≡ Some fs) dirs → 0 < length dirs → Elsewhere
        by_dirs [] own some = absurd (omega arith)
        by_dirs (dir ∷ dirs) own some =
            let b = beside content.table dir (written (rows_of content fs)) in
            record { path = b.path; here = b.here ∙ own.0; unwritten = b.unwritten }

    pub bringing_decides : BringsSomewhere (rows_of content fs) row → IsNamed content fs row.entry.line
    bringing_decides at =
        let rows = rows_of content fs in
        let s = and_parts _ _ at.brought in
        let none_all = not-true (any_alldirs at.earlier) s.0 in
        elim (or_cases _ _ s.1) [
          | inl all ↦
              let other = elsewhere in
              let lack = appended (Lacks other.path) at.earlier (row ∷ at.later)
              (subst (AllByRecursion (Lacks other.path)) at.selects (selected_kept (Lacks other.path) rows at.address (each_lacks other.path rows other.unwritten))) in
              decides_at at.address at.is_address other.path other.here at.earlier at.later at.selects
              (none_lists other.path other.here at.earlier none_all (all_lack other.path at.earlier lack.0))
              (lists_is other.path other.here row ∙ or_right _ _ all)
          | inr new ↦
              let w = witness (λ (dir : Path). fs_of content.table dir ≡ Some fs) (is_new (written at.earlier)) row.entry.dirs own_dirs new in
              decides_at at.address at.is_address w.dir w.has at.earlier at.later at.selects
              (none_lists w.dir w.has at.earlier none_all (not-true _ w.passes))
              (lists_is w.dir w.has row ∙ or_left _ _ w.among)
        ]

    -- of lines of which none lists the path, but this one does
    pub brings_by : (path : Path) → fs_of content.table path ≡ Some fs → (earlier : List Row) → list_any (lists content fs path) earlier ≡ false → lists content fs path row ≡ true → brings earlier row ≡ true
    brings_by path here earlier before passes =
        let none = none_of_both path here earlier before in
        and_from _ _ (not_from_false _ none.0)
        (elim (or_cases _ _ (sym (lists_is path here row) ∙ passes)) [
          | inl writes ↦ or_right _ _ (passes_among (is_new (written earlier)) path row.entry.dirs writes (not_from_false _ none.1))
          | inr all ↦ or_left _ _ all
        ])

    -- the first line of all brings its first directory
    first_brings : (dirs : List Path) → 0 < length dirs → list_any (is_new (written [])) dirs ≡ true
    first_brings [] some = absurd (omega arith)
    first_brings (dir ∷ dirs) some = refl

    pub deciding_brings : AreAscending (rows_of content fs) → IsNamed content fs row.entry.line → BringsSomewhere (rows_of content fs) row
    deciding_brings ascending decides =
        let rows = rows_of content fs in
        let chosen = selected rows decides.address in
        elim (named (record { 0 = fs }) (lists content fs decides.path) chosen row.entry.line (sym (ap (names_line row.entry.line) (verdict_is decides.address decides.path decides.here)) ∙ decides.names)) [
          | inl lister ↦
              let found = lister.found in
              let here : Contains rows lister.row = selected_has rows decides.address lister.row (subst (λ (ys : List Row). Contains ys lister.row) (sym found.are) (in_middle found.earlier lister.row found.later)) in
              let same : lister.row ≡ row = one_line rows lister.row row ascending here has lister.number in
              record {
                address = decides.address;
                is_address = decides.is_address;
                earlier = found.earlier;
                later = found.later;
                selects = found.are ∙ ap (λ (r : Row). found.earlier ++ r ∷ found.later) same;
                brought = brings_by decides.path decides.here found.earlier found.before (sym (ap (lists content fs decides.path) same) ∙ found.passes);
              }
          | inr foremost ↦
              let here : Contains rows foremost.row = selected_has rows decides.address foremost.row (subst (λ (ys : List Row). Contains ys foremost.row) (sym foremost.are) (in_middle [] foremost.row foremost.others)) in
              let same : foremost.row ≡ row = one_line rows foremost.row row ascending here has foremost.number in
              record {
                address = decides.address;
                is_address = decides.is_address;
                earlier = [];
                later = foremost.others;
                selects = foremost.are ∙ ap (λ (r : Row). r ∷ foremost.others) same;
                brought = or_right _ _ (first_brings row.entry.dirs own.some);
              }
        ]

    -- the first of the selected lines decides
    pub first_decides : (address : ℕ) → address < 2 ^ 32 → (others : List Row) → selected (rows_of content fs) address ≡ row ∷ others → IsNamed content fs row.entry.line
    first_decides address below others selects = bringing_decides (record {
      address = address;
      is_address = below;
      earlier = [];
      later = others;
      selects = selects;
      brought = or_right _ _ (first_brings row.entry.dirs own.some);
    })

pub lines_decide_by_what_they_bring : LinesDecideByWhatTheyBring
lines_decide_by_what_they_bring content fs row ascending is has = (deciding_brings content fs is row has ascending, bringing_decides content fs is row has)

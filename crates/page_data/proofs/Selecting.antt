-- The lines that are selected for an address have the same terms, and each of them lists a directory of its own: so the class of their
-- terms is the most that the client may on the file system.
use Rattle.std.proofs.Common.{◌≡◌, ◌≢◌, ◌⊎◌, ℕ, ◌<◌, ◌≤◌, ◌^◌, ◌++◌, ◌∙◌, Bool, true, cond, List, [], ◌∷◌, Option, None, Some, ap, arith, find, get_or, inl, inr, length, refl, subst, sym}
use Rattle.std.specs.Prelude.{Contains, IsSome, Result, Ok, Err, filter}
use Rattle.std.specs.List.{AllByRecursion, flat_map, list_all}
use Rattle.std.specs.Str.{bytes_eq}
use Rattle.std.proofs.lemmas.Bool.{and_from, and_parts, cases_Bool, cases_order, eq-eqb, eqb-true, leb-true, or_left, or_right, true≢false}
use Rattle.std.proofs.lemmas.List.{get_or_default}
use Rattle.std.proofs.lemmas.List.Elements.{All-from_recursion, Contains-get_or}
use Rattle.std.proofs.lemmas.Slice.Eq.{bytes_eq-Decides}
use Rattle.desk_text.specs.Path.{same_path}
use Rattle.desk_tables.specs.FileSystems.{fs_of}
use Rattle.desk_exports.specs.declared.entry.Terms.{Terms}
use Rattle.desk_policy.specs.Contradiction.{AreConsistent}
use Rattle.desk_policy.specs.Laws.{HaveDirectories}
use Rattle.desk_policy.specs.Policy.{AreAscending, Content, rows_of}
use Rattle.desk_policy.specs.Verdict.{Grant, granted_by, is_directory_among, is_in, lists, verdict_among, verdict_in, verdict_of}
use Rattle.desk_policy.specs.Weights.{is_at_most, is_greatest, selected, weight_of}
use Rattle.desk_policy.specs.declared.row.Row.{Row}
use Rattle.desk_policy.specs.declared.verdict.Denial.{Denial}
use Rattle.desk_who.specs.Runs.{AreDiscrete}
use Rattle.page_data.specs.Class.{class_of, class_of_terms, rank_of}
use Rattle.page_data.specs.Classes.{IsMostOn}
use Rattle.page_data.specs.Laws.{IsSound, MostIsOfSelected, class_of_first}
use Rattle.page_data.specs.PrivateClasses.{class_if, class_named}
use Rattle.page_data.specs.declared.class.Class.{Class}
use Rattle.page_data.specs.declared.class.Class.TheVariants.{Denied}
use Rattle.page_data.proofs.Containing.{here, here_or_there, there}
use Rattle.page_data.proofs.Numbered.{found_by_number}

-- ---- terms are the same or not
some_grant : Terms → Result Grant Denial
some_grant terms = Ok (record { fs = record { 0 = 0 }; line = 0; terms = terms })

terms_in : Result Grant Denial → Terms → Terms
terms_in (Ok grant) other = grant.terms
terms_in (Err denial) other = other

same_terms_from : AreDiscrete (Result Grant Denial) → (terms other : Terms) → ((terms ≢ other) → ⊥) → terms ≡ other
unfolding some_grant terms_in
same_terms_from compare terms other not_apart =
    elim (compare (some_grant terms) (some_grant other)) as (λ _. terms ≡ other) [
      | inl same ↦ ap (λ v. terms_in v terms) same
      | inr apart ↦ absurd (not_apart (λ same. apart (ap some_grant same)))
    ]

-- ---- lines that are selected
-- a line of the list matches with the greatest weight
pub record IsChosen (rows : List Row) (address : ℕ) (row : Row) : Type 0 where
  pub has : Contains rows row
  pub greatest : is_greatest rows address (weight_of row address) ≡ true

-- what passes a test of those that a filter keeps is one of the list
pub find_in : (test passes : Row → Bool) (rows : List Row) (row : Row) → find passes (filter test rows) ≡ Some row → Contains rows row × (test row ≡ true) × (passes row ≡ true)
find_in test passes [] row e = absurd (cc)
find_in test passes (first ∷ rows) row e =
    elim (cases_Bool (test first)) as (λ _. Contains (first ∷ rows) row × (test row ≡ true) × (passes row ≡ true)) [
      | inl kept ↦
          let found : find passes (first ∷ filter test rows) ≡ Some row = sym (ap (λ b. find passes (cond b (first ∷ filter test rows) (filter test rows))) kept) ∙ e in
          elim (cases_Bool (passes first)) as (λ _. Contains (first ∷ rows) row × (test row ≡ true) × (passes row ≡ true)) [
            | inl is ↦
                let same : first ≡ row = (let s : Some first ≡ Some row = sym (ap (λ b. cond b (Some first) (find passes (filter test rows))) is) ∙ found in cc) in
                (here first row rows same, ap test (sym same) ∙ kept, ap passes (sym same) ∙ is)
            | inr not ↦
                let rest = find_in test passes rows row (sym (ap (λ b. cond b (Some first) (find passes (filter test rows))) not) ∙ found) in
                (there first row rows rest.0, rest.1, rest.2)
          ]
      | inr left ↦
          let rest = find_in test passes rows row (sym (ap (λ b. find passes (cond b (first ∷ filter test rows) (filter test rows))) left) ∙ e) in
          (there first row rows rest.0, rest.1, rest.2)
    ]

-- no line matches with more than the greatest weight
at_most : (address weight : ℕ) (rows : List Row) (row : Row) → list_all (λ other. is_at_most (weight_of other address) weight) rows ≡ true → Contains rows row → is_at_most (weight_of row address) weight ≡ true
at_most address weight [] row all has = absurd (let lt = has.1 in omega arith)
at_most address weight (first ∷ rows) row all has =
    elim (here_or_there first row rows has) as (λ _. is_at_most (weight_of row address) weight ≡ true) [
      | inl is ↦ ap (λ (r : Row). is_at_most (weight_of r address) weight) (sym is) ∙ (and_parts _ _ all).0
      | inr later ↦ at_most address weight rows row (and_parts _ _ all).1 later
    ]

-- lines that are selected have one weight
module _ (rows : List Row) (address : ℕ) (row other : Row) (is : IsChosen rows address row) (is' : IsChosen rows address other) where
  alike : IsSome (weight_of row address) × (weight_of other address ≡ weight_of row address)
  alike = by (weight_of row address) (weight_of other address) refl refl is.greatest is'.greatest
    where
      by : (weight weight' : Option ℕ) → weight_of row address ≡ weight → weight_of other address ≡ weight' → is_greatest rows address weight ≡ true → is_greatest rows address weight' ≡ true
          → IsSome weight × (weight' ≡ weight)
      by None weight' w w' great great' = absurd (true≢false (sym great))
      by (Some n) None w w' great great' = absurd (true≢false (sym great'))
      by (Some n) (Some m) w w' great great' =
          let low = leb-true m n (sym (ap (λ o. is_at_most o n) w') ∙ at_most address n rows other great is'.has) in
          let high = leb-true n m (sym (ap (λ o. is_at_most o m) w) ∙ at_most address m rows row great' is.has) in
          (refl, ap Some (omega arith))

-- a line is told by its number
pub one_by_number : (rows : List Row) → AreAscending rows → (row other : Row) → Contains rows row → Contains rows other → row.entry.line ≡ other.entry.line → row ≡ other
one_by_number rows ascending row other has has' same =
    elim (cases_order has.0 has'.0) as (λ _. row ≡ other) [
      | inl at ↦ sym has.2 ∙ there has.0 has'.0 at has.1 ∙ has'.2
      | inr apart ↦ elim apart as (λ _. row ≡ other) [
        | inl less ↦ absurd (let up = ascending has.0 has'.0 row less has'.1 in omega (arith, ap (λ (r : Row). r.entry.line) has.2, ap (λ (r : Row). r.entry.line) (get_or_default rows has'.0 row other has'.1 ∙ has'.2)))
        | inr more ↦ absurd (let up = ascending has'.0 has.0 row more has.1 in omega (arith, ap (λ (r : Row). r.entry.line) has.2, ap (λ (r : Row). r.entry.line) (get_or_default rows has'.0 row other has'.1 ∙ has'.2)))
      ]
    ]
  where
    there : (k j : ℕ) → k ≡ j → k < length rows → get_or rows k row ≡ get_or rows j other
    there k j at within = get_or_default rows k row other within ∙ ap (λ n. get_or rows n other) at

-- ---- they have the same terms
module _ (compare : AreDiscrete (Result Grant Denial)) (rows : List Row) (ascending : AreAscending rows) (consistent : AreConsistent rows) (address : ℕ) (fits : address < 2 ^ 32) where
  contradict : (row other : Row) → IsChosen rows address row → IsChosen rows address other → other.entry.line < row.entry.line → row.entry.terms ≢ other.entry.terms → ⊥
  contradict row other is is' less apart =
      consistent row.entry.line other.entry.line address
      (record {
        row = row;
        other = other;
        has_row = is.has;
        has_other = is'.has;
        is_later = refl;
        is_earlier = refl;
        order = less;
        is_address = fits;
        alike = alike rows address row other is is';
        apart = apart;
      })

  pub one_terms : (row other : Row) → IsChosen rows address row → IsChosen rows address other → row.entry.terms ≡ other.entry.terms
  one_terms row other is is' =
      elim (cases_order row.entry.line other.entry.line) as (λ _. row.entry.terms ≡ other.entry.terms) [
        | inl same ↦ ap (λ (r : Row). r.entry.terms) (one_by_number rows ascending row other is.has is'.has same)
        | inr apart ↦ elim apart as (λ _. row.entry.terms ≡ other.entry.terms) [
          | inl less ↦ sym (same_terms_from compare other.entry.terms row.entry.terms (λ ne. contradict other row is' is less ne))
          | inr more ↦ same_terms_from compare row.entry.terms other.entry.terms (λ ne. contradict row other is is' more ne)
        ]
      ]

-- ---- a line's own directories
same_itself : (path : List (List ℕ)) → same_path path path ≡ true
same_itself [] = refl
same_itself (name ∷ path) = and_from (bytes_eq name name) (same_path path path) ((bytes_eq-Decides name name).1 refl) (same_itself path)

-- a directory that is one of these
pub is_own : (dirs : List (List (List ℕ))) (dir : List (List ℕ)) → Contains dirs dir → is_directory_among dir dirs ≡ true
is_own [] dir has = absurd (let lt = has.1 in omega arith)
is_own (one ∷ dirs) dir has =
    elim (here_or_there one dir dirs has) as (λ _. is_directory_among dir (one ∷ dirs) ≡ true) [
      | inl is ↦ or_left (same_path one dir) (is_directory_among dir dirs) (ap (λ (d : List (List ℕ)). same_path d dir) is ∙ same_itself dir)
      | inr later ↦ or_right (same_path one dir) (is_directory_among dir dirs) (is_own dirs dir later)
    ]

-- each line has a directory
pub own_directory : (rows : List Row) → HaveDirectories rows → (row : Row) → Contains rows row → (dir : List (List ℕ)) × Contains row.entry.dirs dir
own_directory rows have row has =
    let some : 0 < length row.entry.dirs = subst (λ (r : Row). 0 < length r.entry.dirs) has.2 (have has.0 row has.1) in
    (get_or row.entry.dirs 0 [], Contains-get_or row.entry.dirs 0 [] some)

-- what holds of all elements of lists holds of those of one of the lists
all_left : {X : Type 0} (P : X → Type 0) (xs ys : List X) → AllByRecursion P (xs ++ ys) → AllByRecursion P xs
all_left P [] ys all = tt
all_left P (x ∷ xs) ys all = (all.0, all_left P xs ys all.1)

all_right : {X : Type 0} (P : X → Type 0) (xs ys : List X) → AllByRecursion P (xs ++ ys) → AllByRecursion P ys
all_right P [] ys all = all
all_right P (x ∷ xs) ys all = all_right P xs ys all.1

pub all_of_flat : {X Y : Type 0} (P : X → Type 0) (of : Y → List X) (ys : List Y) (y : Y) → AllByRecursion P (flat_map of ys) → Contains ys y → (x : X) → Contains (of y) x → P x
all_of_flat P of [] y all has x own = absurd (let lt = has.1 in omega arith)
all_of_flat {X} {Y} P of (one ∷ ys) y all has x own =
    elim (here_or_there one y ys has) as (λ _. P x) [
      | inl is ↦ subst P own.2 (All-from_recursion P (of y) (subst (λ (z : Y). AllByRecursion P (of z)) is (all_left P (of one) (flat_map of ys) all)) own.0 x own.1)
      | inr later ↦ all_of_flat P of ys y (all_right P (of one) (flat_map of ys) all) later x own
    ]

-- ---- verdicts among them
module _ (compare : AreDiscrete (Result Grant Denial)) (content : Content) (fs : ℕ) (sound : IsSound content fs) (address : ℕ) (fits : address < 2 ^ 32) where
  abbrev rows : List Row
  rows = rows_of content fs

  abbrev passes : Row → Bool
  passes row = is_greatest rows address (weight_of row address)

  is_chosen : (row : Row) → Contains rows row → passes row ≡ true → IsChosen rows address row
  is_chosen row has greatest = record { has = has; greatest = greatest }

  -- the first of the lines that are selected is one of them
  first_chosen : (first : Row) (others : List Row) → filter passes rows ≡ first ∷ others → IsChosen rows address first
  first_chosen first others e =
      let found = find_in passes (λ row. true) rows first (ap (find (λ (row : Row). true)) e) in
      is_chosen first found.0 found.1

  -- what the verdict among them comes to
  comes_to : (listing : Row → Bool) (first : Row) (others : List Row) → filter passes rows ≡ first ∷ others → (found : Option Row) → find listing (first ∷ others) ≡ found
      → (class_of (granted_by (record { 0 = fs }) first found) ≡ class_of_terms first.entry.terms) ⊎ (class_of (granted_by (record { 0 = fs }) first found) ≡ Denied)
  comes_to listing first others e None f = inr refl
  comes_to listing first others e (Some row) f =
      let found = find_in passes listing rows row (ap (find listing) e ∙ f) in
      inl (ap class_of_terms (one_terms compare rows sound.ascending sound.consistent address fits row first (is_chosen row found.0 found.1) (first_chosen first others e)))

  least_class : (class : Class) → rank_of Denied ≤ rank_of class
  least_class class = omega arith

  among_at_most : (listing : Row → Bool) (chosen : List Row) → filter passes rows ≡ chosen → rank_of (class_of (verdict_among (record { 0 = fs }) listing chosen)) ≤ rank_of (class_of_first chosen)
  among_at_most listing [] e = omega arith
  among_at_most listing (first ∷ others) e =
      elim (comes_to listing first others e (find listing (first ∷ others)) refl) [
        | inl is ↦ omega (arith, ap rank_of is)
        | inr denied ↦ (let l = least_class (class_of_terms first.entry.terms) in omega (arith, ap rank_of denied))
      ]

  -- a path of the file system
  home : (path : List (List ℕ)) (o : Option ℕ) → fs_of content.table path ≡ o → is_in o fs ≡ true → fs_of content.table path ≡ Some fs
  home path None e is = absurd (true≢false (sym is))
  home path (Some other) e is = e ∙ ap Some (eqb-true other fs is)

  here_of : (path : List (List ℕ)) → fs_of content.table path ≡ Some fs → is_in (fs_of content.table path) fs ≡ true
  here_of path e = ap (λ o. is_in o fs) e ∙ eq-eqb fs fs refl

  verdict_here : (path : List (List ℕ)) → fs_of content.table path ≡ Some fs → verdict_of content address path ≡ verdict_among (record { 0 = fs }) (lists content fs path) (filter passes rows)
  unfolding verdict_of selected
  verdict_here path e = ap (verdict_in content address path) e

  -- ---- the most
  most_of_none : (mount : List (List ℕ)) → fs_of content.table mount ≡ Some fs → filter passes rows ≡ [] → IsMostOn content (λ path. is_in (fs_of content.table path) fs) address Denied
  most_of_none mount e none = record {
    none_more = λ path here. (let v = verdict_here path (home path (fs_of content.table path) refl here) in omega (arith, ap (λ r. rank_of (class_of r)) (v ∙ ap (verdict_among (record { 0 = fs }) (lists content fs path)) none)));
    path = mount;
    here = here_of mount e;
    comes_to = ap class_of (verdict_here mount e ∙ ap (verdict_among (record { 0 = fs }) (lists content fs mount)) none);
  }

  most_of_some : (first : Row) (others : List Row) → filter passes rows ≡ first ∷ others → IsMostOn content (λ path. is_in (fs_of content.table path) fs) address (class_of_terms first.entry.terms)
  most_of_some first others e =
      let chosen = first_chosen first others e in
      let dir = own_directory rows sound.directories first chosen.has in
      let in_dir : fs_of content.table dir.0 ≡ Some fs = all_of_flat (λ (path : List (List ℕ)). fs_of content.table path ≡ Some fs) (λ (row : Row). row.entry.dirs) rows first (sound.own fs) chosen.has dir.0 dir.1 in
      record {
        none_more = λ path here.
            (let v = verdict_here path (home path (fs_of content.table path) refl here) in
            let most = among_at_most (lists content fs path) (first ∷ others) e in
            omega (arith, ap (λ r. rank_of (class_of r)) (v ∙ ap (verdict_among (record { 0 = fs }) (lists content fs path)) e)));
        path = dir.0;
        here = here_of dir.0 in_dir;
        comes_to = ap class_of (verdict_here dir.0 in_dir ∙ ap (verdict_among (record { 0 = fs }) (lists content fs dir.0)) e)
            ∙ ap (λ b. class_of (granted_by (record { 0 = fs }) first (cond b (Some first) (find (lists content fs dir.0) others)))) (or_left _ _ (is_own first.entry.dirs dir.0 dir.1));
      }

  most_by : (mount : List (List ℕ)) → fs_of content.table mount ≡ Some fs → (chosen : List Row) → filter passes rows ≡ chosen
      → IsMostOn content (λ path. is_in (fs_of content.table path) fs) address (class_of_first chosen)
  most_by mount e [] is = most_of_none mount e is
  most_by mount e (first ∷ others) is = most_of_some first others is

  pub most_is_of_selected : (mount : List (List ℕ)) → fs_of content.table mount ≡ Some fs → IsMostOn content (λ path. is_in (fs_of content.table path) fs) address (class_of_first (selected rows address))
  unfolding selected
  most_is_of_selected mount e = most_by mount e (filter passes rows) refl

  -- ---- what the verdict on the mount point names
  named : (listing : Row → Bool) (chosen : List Row) → filter passes rows ≡ chosen → class_named rows (verdict_among (record { 0 = fs }) listing chosen) ≡ class_of_first chosen
  named listing [] e = refl
  named listing (first ∷ others) e = by (find listing (first ∷ others)) refl
    where
      by : (found : Option Row) → find listing (first ∷ others) ≡ found → class_named rows (granted_by (record { 0 = fs }) first found) ≡ class_of_terms first.entry.terms
      by None f = ap class_if (found_by_number (λ (row : Row). row.entry.line) rows sound.ascending first (first_chosen first others e).has)
      by (Some row) f =
          let found = find_in passes listing rows row (ap (find listing) e ∙ f) in
          ap class_of_terms (one_terms compare rows sound.ascending sound.consistent address fits row first (is_chosen row found.0 found.1) (first_chosen first others e))

  pub named_is_first : (mount : List (List ℕ)) → fs_of content.table mount ≡ Some fs → class_named rows (verdict_of content address mount) ≡ class_of_first (selected rows address)
  unfolding selected
  named_is_first mount e = ap (class_named rows) (verdict_here mount e) ∙ named (lists content fs mount) (filter passes rows) refl

-- what the verdict on the mount point names is the most
pub most_named : AreDiscrete (Result Grant Denial) → (content : Content) (fs : ℕ) → IsSound content fs → (address : ℕ) → address < 2 ^ 32 → (mount : List (List ℕ)) → fs_of content.table mount ≡ Some fs
    → (lines : List Row) → lines ≡ rows_of content fs → IsMostOn content (λ path. is_in (fs_of content.table path) fs) address (class_named lines (verdict_of content address mount))
most_named compare content fs sound address fits mount e lines are =
    subst (IsMostOn content (λ path. is_in (fs_of content.table path) fs) address)
    (sym (ap (λ (some : List Row). class_named some (verdict_of content address mount)) are ∙ named_is_first compare content fs sound address fits mount e))
    (most_is_of_selected compare content fs sound address fits mount e)

pub most_of_selected : AreDiscrete (Result Grant Denial) → MostIsOfSelected
most_of_selected compare content fs address mount sound e fits = most_is_of_selected compare content fs sound address fits mount e

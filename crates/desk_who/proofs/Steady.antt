-- Between the addresses at which a line begins or ceases to match, weights stay, and so do the selected lines and the verdict.
use Rattle.std.proofs.Common.{◌≡◌, ◌≢◌, ℕ, ◌+◌, ◌<◌, ◌^◌, ◌||◌, ◌&&◌, true, false, cond, List, [], ◌∷◌, ◌++◌, sym, ◌∙◌, ap, subst, refl, inl, inr, arith}
use Rattle.std.specs.Prelude.{Option, Some, None, filter}
use Rattle.std.specs.List.{AllByRecursion, flat_map, list_all}
use Rattle.std.specs.Option.{option_map}
use Rattle.std.proofs.lemmas.Bool.{and_from, and_parts, cases_Bool, eq-eqb, ne_eqb, lt-ltb, ltb-true, or_left, or_right, true≢false, false_from_ne_true}
use Rattle.std.proofs.lemmas.List.Folds.{list_any-append}
use Rattle.desk_text.specs.AddrSet.{is_among, sorted_set}
use Rattle.desk_text.specs.Laws.{CoversBetweenFirstAndLast, IsSetOf, SortedSetsAreUnique}
use Rattle.desk_text.specs.Network.{Block, IsBlock, covers, last_of}
use Rattle.desk_tables.specs.FileSystems.{fs_of}
use Rattle.desk_tables.specs.declared.filesystems.FsId.{FsId}
use Rattle.desk_exports.specs.declared.entry.Clients.{Clients}
use Rattle.desk_exports.specs.declared.entry.Clients.TheVariants.{Hosts, Net, Net6, World}
use Rattle.desk_policy.specs.Policy.{Content, rows_of}
use Rattle.desk_policy.specs.Verdict.{lists, verdict_among, verdict_in, verdict_of}
use Rattle.desk_policy.specs.Weights.{is_at_most, is_greatest, name_weight, selected, weight_by, weight_of}
use Rattle.desk_policy.specs.declared.row.Row.{Row}
use Rattle.desk_policy.specs.Keys.{HasBlock}
use Rattle.desk_who.specs.PrivateStarts.{around, has_one_before, kept, starts_by, starts_of}
use Rattle.desk_who.specs.Runs.{AreStartsOf}
use Rattle.desk_who.specs.Searching.{AreRuleStarts, Rule, found_at, found_in}
use Rattle.desk_who.specs.Starts.{AreJoined, AreStarts, IsSteadyLine}

-- ---- numbers that are not among others
pub not_here : (n x : ℕ) (xs : List ℕ) → is_among n (x ∷ xs) ≡ false → x ≢ n
not_here n x xs none is = true≢false (sym (or_left _ _ (eq-eqb x n is)) ∙ none)

pub not_there : (n x : ℕ) (xs : List ℕ) → is_among n (x ∷ xs) ≡ false → is_among n xs ≡ false
not_there n x xs none = false_from_ne_true _ (λ is. true≢false (sym (or_right _ _ is) ∙ none))

pub absent : (n x : ℕ) (xs : List ℕ) → x ≢ n → is_among n xs ≡ false → is_among n (x ∷ xs) ≡ false
absent n x xs apart none = ap (λ b. b || is_among n xs) (ne_eqb x n apart) ∙ none

pub among_append : (n : ℕ) (xs ys : List ℕ) → is_among n (xs ++ ys) ≡ (is_among n xs || is_among n ys)
among_append n xs ys = list_any-append _ xs ys

-- a number that may be kept is among what is kept where it is among all
pub not_among_all : (n : ℕ) (xs : List ℕ) → has_one_before n ≡ true → is_among n (kept xs) ≡ false → is_among n xs ≡ false
not_among_all n [] passes none = refl
not_among_all n (x ∷ xs) passes none =
    elim (cases_Bool (has_one_before x)) [
      | inl h ↦
          let there : is_among n (x ∷ kept xs) ≡ false = sym (ap (λ b. is_among n (cond b (x ∷ kept xs) (kept xs))) h) ∙ none in
          absent n x xs (not_here n x (kept xs) there) (not_among_all n xs passes (not_there n x (kept xs) there))
      | inr h ↦
          let there : is_among n (kept xs) ≡ false = sym (ap (λ b. is_among n (cond b (x ∷ kept xs) (kept xs))) h) ∙ none in
          absent n x xs (λ is. true≢false (sym (ap has_one_before is ∙ passes) ∙ h)) (not_among_all n xs passes there)
    ]

-- what is kept is not 0
pub zero_not_kept : (xs : List ℕ) → is_among 0 (kept xs) ≡ false
zero_not_kept [] = refl
zero_not_kept (x ∷ xs) =
    elim (cases_Bool (has_one_before x)) [
      | inl h ↦
          ap (λ b. is_among 0 (cond b (x ∷ kept xs) (kept xs))) h
          ∙ absent 0 x (kept xs) (λ is. let lt = ltb-true 0 x (and_parts _ _ h).0 in omega arith) (zero_not_kept xs)
      | inr h ↦ ap (λ b. is_among 0 (cond b (x ∷ kept xs) (kept xs))) h ∙ zero_not_kept xs
    ]

zero_not_around : (xs : List ℕ) → is_among 0 (flat_map around xs) ≡ false
zero_not_around [] = refl
zero_not_around (x ∷ xs) = among_append 0 (around x) (flat_map around xs) ∙ ap (λ b. b || is_among 0 (flat_map around xs)) (zero_not_kept (x ∷ (x + 1) ∷ [])) ∙ zero_not_around xs

pub zero_not_by : (clients : Clients) (addresses : List ℕ) → is_among 0 (starts_by clients addresses) ≡ false
zero_not_by (Hosts names) addresses = zero_not_around addresses
zero_not_by (Net net noted) addresses = zero_not_kept (net.first ∷ (last_of net + 1) ∷ [])
zero_not_by (Net6 value) addresses = refl
zero_not_by World addresses = refl

zero_not_among : (rows : List Row) → is_among 0 (flat_map starts_of rows) ≡ false
zero_not_among [] = refl
zero_not_among (row ∷ rows) =
    among_append 0 (starts_of row) (flat_map starts_of rows) ∙ ap (λ b. b || is_among 0 (flat_map starts_of rows)) (zero_not_by row.entry.clients row.addrs) ∙ zero_not_among rows

-- ---- an address and the one before it
module _ (address : ℕ) (fits : address + 1 < 2 ^ 32) where
  pub passes : has_one_before (address + 1) ≡ true
  passes = and_from _ _ (lt-ltb 0 (address + 1) (omega arith)) (lt-ltb (address + 1) (2 ^ 32) fits)

  -- neither is one of the addresses
  pub neither : (addresses : List ℕ) → is_among (address + 1) (flat_map around addresses) ≡ false → (is_among (address + 1) addresses ≡ false) × (is_among address addresses ≡ false)
  neither [] none = (refl, refl)
  neither (x ∷ xs) none =
      let split : (is_among (address + 1) (around x) || is_among (address + 1) (flat_map around xs)) ≡ false = sym (among_append (address + 1) (around x) (flat_map around xs)) ∙ none in
      let here : is_among (address + 1) (around x) ≡ false = false_from_ne_true _ (λ is. true≢false (sym (or_left _ _ is) ∙ split)) in
      let rest : is_among (address + 1) (flat_map around xs) ≡ false = false_from_ne_true _ (λ is. true≢false (sym (or_right _ _ is) ∙ split)) in
      let both = not_among_all (address + 1) (x ∷ (x + 1) ∷ []) passes here in
      let apart = not_here (address + 1) x ((x + 1) ∷ []) both in
      let apart' = not_here (address + 1) (x + 1) [] (not_there (address + 1) x ((x + 1) ∷ []) both) in
      let more = neither xs rest in
      (absent (address + 1) x xs apart more.0, absent address x xs (λ is. apart' (ap (λ n. n + 1) is)) more.1)

  same_covers : CoversBetweenFirstAndLast → (net : Block) → IsBlock net → net.first ≢ address + 1 → last_of net + 1 ≢ address + 1 → covers net (address + 1) ≡ covers net address
  same_covers law net block apart apart' =
      let here = law net block (address + 1) in
      let before = law net block address in
      elim (cases_Bool (covers net address)) as (λ _. covers net (address + 1) ≡ covers net address) [
        | inl is ↦ (let b = before.0 is in here.1 (omega arith, omega arith)) ∙ sym is
        | inr not ↦ false_from_ne_true _ (λ is. let b = here.0 is in true≢false (sym (before.1 (omega arith, omega arith)) ∙ not)) ∙ sym not
      ]

  steady_by : CoversBetweenFirstAndLast → (clients : Clients) (addresses : List ℕ) → HasBlock clients → is_among (address + 1) (starts_by clients addresses) ≡ false
      → weight_by clients addresses (address + 1) ≡ weight_by clients addresses address
  steady_by law (Hosts names) addresses block none =
      let both = neither addresses none in
      ap (λ b. cond b (Some name_weight) None) (both.0 ∙ sym both.1)
  steady_by law (Net net noted) addresses block none =
      let both = not_among_all (address + 1) (net.first ∷ (last_of net + 1) ∷ []) passes none in
      let apart = not_here (address + 1) net.first ((last_of net + 1) ∷ []) both in
      let apart' = not_here (address + 1) (last_of net + 1) [] (not_there (address + 1) net.first ((last_of net + 1) ∷ []) both) in
      ap (λ b. cond b (Some (net.prefix + 1)) None) (same_covers law net block apart apart')
  steady_by law (Net6 value) addresses block none = refl
  steady_by law World addresses block none = refl

-- ---- all lines
pub steady_among : CoversBetweenFirstAndLast → (starts : List ℕ) (rows : List Row) → AllByRecursion (λ (row : Row). HasBlock row.entry.clients) rows
    → ((n : ℕ) → is_among n starts ≡ false → is_among n (flat_map starts_of rows) ≡ false) → AllByRecursion (IsSteadyLine starts) rows
steady_among law starts [] blocks has = tt
steady_among law starts (row ∷ rows) blocks has =
    let split : (n : ℕ) → is_among n starts ≡ false → (is_among n (starts_of row) || is_among n (flat_map starts_of rows)) ≡ false =
    λ n none. sym (among_append n (starts_of row) (flat_map starts_of rows)) ∙ has n none in (
      λ address fits none. steady_by address fits law row.entry.clients row.addrs blocks.0 (false_from_ne_true _ (λ is. true≢false (sym (or_left _ _ is) ∙ split (address + 1) none))),
      steady_among law starts rows blocks.1 (λ n none. false_from_ne_true _ (λ is. true≢false (sym (or_right _ _ is) ∙ split n none))),
    )

pub are_starts : CoversBetweenFirstAndLast → SortedSetsAreUnique → (rows : List Row) (numbers set : List ℕ) → AllByRecursion (λ (row : Row). HasBlock row.entry.clients) rows
    → numbers ≡ flat_map starts_of rows → set ≡ sorted_set numbers → AreStarts rows set
are_starts covering sets rows numbers set blocks are is =
    let own : IsSetOf numbers set = (sets numbers set).1 is in
    record {
      ascend = own.ascend;
      behind = own.each 0 ∙ ap (is_among 0) are ∙ zero_not_among rows;
      steady = steady_among covering set rows blocks (λ n none. sym (own.each n ∙ ap (is_among n) are) ∙ none);
    }

-- ---- the verdict
module _ (address next : ℕ) where
  abbrev pub IsSame : Row → Type 0
  IsSame row = weight_of row next ≡ weight_of row address

  all_at_most : (weight : ℕ) (rows : List Row) → AllByRecursion IsSame rows → list_all (λ other. is_at_most (weight_of other next) weight) rows ≡ list_all (λ other. is_at_most (weight_of other address) weight) rows
  all_at_most weight [] same = refl
  all_at_most weight (row ∷ rows) same =
      ap (λ w. is_at_most w weight && list_all (λ other. is_at_most (weight_of other next) weight) rows) same.0
      ∙ ap (λ b. is_at_most (weight_of row address) weight && b) (all_at_most weight rows same.1)

  greatest_alike : (rows : List Row) → AllByRecursion IsSame rows → (weight : Option ℕ) → is_greatest rows next weight ≡ is_greatest rows address weight
  greatest_alike rows same None = refl
  greatest_alike rows same (Some weight) = all_at_most weight rows same

  filter_alike : (all rows : List Row) → AllByRecursion IsSame all → AllByRecursion IsSame rows
      → filter (λ row. is_greatest all next (weight_of row next)) rows ≡ filter (λ row. is_greatest all address (weight_of row address)) rows
  filter_alike all [] every same = refl
  filter_alike all (row ∷ rows) every same =
      ap (λ b. cond b (row ∷ filter (λ row. is_greatest all next (weight_of row next)) rows) (filter (λ row. is_greatest all next (weight_of row next)) rows))
      (ap (is_greatest all next) same.0 ∙ greatest_alike all every (weight_of row address))
      ∙ ap (λ chosen. cond (is_greatest all address (weight_of row address)) (row ∷ chosen) chosen) (filter_alike all rows every same.1)

  pub selected_alike : (rows : List Row) → AllByRecursion IsSame rows → selected rows next ≡ selected rows address
  unfolding selected
  selected_alike rows same = filter_alike rows rows same same

  verdict_alike : (content : Content) (path : List (List ℕ)) (fs : Option ℕ) → ((place : ℕ) → fs ≡ Some place → AllByRecursion IsSame (rows_of content place))
      → verdict_in content next path fs ≡ verdict_in content address path fs
  verdict_alike content path None same = refl
  verdict_alike content path (Some place) same = ap (verdict_among (record { 0 = place }) (lists content place path)) (selected_alike (rows_of content place) (same place refl))

  pub all_same : (starts : List ℕ) (rows : List Row) → next ≡ address + 1 → next < 2 ^ 32 → is_among next starts ≡ false → AllByRecursion (IsSteadyLine starts) rows → AllByRecursion IsSame rows
  all_same starts [] e fits none steady = tt
  all_same starts (row ∷ rows) e fits none steady =
      (ap (weight_of row) e ∙ steady.0 address (subst (λ n. n < 2 ^ 32) e fits) (sym (ap (λ n. is_among n starts) e) ∙ none), all_same starts rows e fits none steady.1)

-- between such addresses the verdict stays
pub verdict_steady : (content : Content) (path : List (List ℕ)) (fs : ℕ) (starts : List ℕ) → fs_of content.table path ≡ Some fs → AreStarts (rows_of content fs) starts → AreStartsOf (λ address. verdict_of content address path) starts
unfolding verdict_of
verdict_steady content path fs starts home are = record {
  ascend = are.ascend;
  behind = are.behind;
  steady = λ address fits none.
      ap (verdict_in content (address + 1) path) home
      ∙ verdict_alike address (address + 1) content path (Some fs) (λ place e. let is : fs ≡ place = cc in subst (λ n. AllByRecursion (IsSame address (address + 1)) (rows_of content n)) is
      (all_same address (address + 1) starts (rows_of content fs) refl fits none are.steady))
      ∙ sym (ap (verdict_in content address path) home);
}

-- a path of no file system has one verdict
pub verdict_nowhere : (content : Content) (path : List (List ℕ)) → fs_of content.table path ≡ None → AreStartsOf (λ address. verdict_of content address path) []
unfolding verdict_of
verdict_nowhere content path home = record {
  ascend = λ k lt. absurd (omega arith);
  behind = refl;
  steady = λ address fits none. ap (verdict_in content (address + 1) path) home ∙ sym (ap (verdict_in content address path) home);
}

-- ---- what is found for a path
-- the file system of a path by its number
pub number_found : (o : Option ℕ) (fs : FsId) → Some fs ≡ option_map (λ i. record { 0 = i }) o → o ≡ Some fs.0
number_found None fs e = cc
number_found (Some i) fs e = let s : fs ≡ record { 0 = i } = cc in sym (ap (λ (f : FsId). Some f.0) s)

abbrev no_file_system : Option FsId
no_file_system = None

pub none_found : (o : Option ℕ) → no_file_system ≡ option_map (λ i. record { 0 = i }) o → o ≡ None
none_found None e = cc
none_found (Some i) e = cc

module _ {A : Type 0} (rule : Rule A) (content : Content) (own others all : List ℕ) (joined : AreJoined own others all) (are : AreRuleStarts rule others) where
  pub found_nowhere : (path : List (List ℕ)) → fs_of content.table path ≡ None → own ≡ [] → AreStartsOf (found_at rule content path) all
  found_nowhere path home none = record {
    ascend = joined.ascend;
    behind = joined.behind (ap (is_among 0) none) are.nowhere.behind;
    steady = λ address fits away.
        ap (λ one. found_in rule content path one (address + 1)) home ∙ are.nowhere.steady address fits (joined.other (address + 1) away) ∙ sym (ap (λ one. found_in rule content path one address) home);
  }

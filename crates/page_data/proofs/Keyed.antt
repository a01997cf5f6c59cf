-- Granted ranges are told apart by their keys: so sections of one key are those that are granted alike.
use Rattle.std.proofs.Common.{◌≡◌, ◌≢◌, ◌⊎◌, ℕ, ◌++◌, ◌∙◌, Bool, true, false, cond, List, [], ◌∷◌, ap, arith, inl, inr, refl, subst, sym}
use Rattle.std.specs.Prelude.{Contains, Result, Ok, Err, Some, filter, not, slice_get}
use Rattle.std.specs.Bool.{Decides}
use Rattle.std.specs.List.{flat_map}
use Rattle.std.specs.Result.{is_ok}
use Rattle.std.specs.Str.{bytes_eq}
use Rattle.std.proofs.lemmas.Bool.{cases_Bool, cases_eq, true≢false}
use Rattle.std.proofs.lemmas.List.Elements.{Contains-append_left, Contains-append_right}
use Rattle.std.proofs.lemmas.Slice.Eq.{bytes_eq-Decides}
use Rattle.desk_policy.specs.Verdict.{Grant}
use Rattle.desk_policy.specs.declared.verdict.Denial.{Denial}
use Rattle.desk_who.specs.Runs.{AreDiscrete, Run}
use Rattle.desk_impact.specs.Sections.{PlaceBreaches}
use Rattle.page_data.specs.Groups.{AreGrouped, AreSectionGroups, granted_ranges}
use Rattle.page_data.specs.PrivateGroups.{key_of, numbers_by, numbers_of, with_section}
use Rattle.page_data.specs.Rows.{ByOrder, order_of}
use Rattle.page_data.proofs.Containing.{here, here_or_there, there}
use Rattle.page_data.proofs.Grouped.{added, kept_in}

abbrev Verdict : Type 0
Verdict = Result Grant Denial

abbrev VerdictRun : Type 0
VerdictRun = Run (Result Grant Denial)

-- ---- sections of one key
abbrev pub same_key : PlaceBreaches → PlaceBreaches → Bool
same_key section other = bytes_eq (key_of section.ranges) (key_of other.ranges)

pub key_itself : (section : PlaceBreaches) → same_key section section ≡ true
key_itself section = (bytes_eq-Decides (key_of section.ranges) (key_of section.ranges)).1 refl

pub key_back : (section other : PlaceBreaches) → same_key section other ≡ true → same_key other section ≡ true
key_back section other is = (bytes_eq-Decides (key_of other.ranges) (key_of section.ranges)).1 (sym ((bytes_eq-Decides (key_of section.ranges) (key_of other.ranges)).0 is))

pub key_along : (section other third : PlaceBreaches) → same_key section other ≡ true → same_key other third ≡ true → same_key section third ≡ true
key_along section other third is is' =
    (bytes_eq-Decides (key_of section.ranges) (key_of third.ranges)).1 ((bytes_eq-Decides (key_of section.ranges) (key_of other.ranges)).0 is ∙ (bytes_eq-Decides (key_of other.ranges) (key_of third.ranges)).0 is')

-- one more section in the groups
pub same_added : (section : PlaceBreaches) (groups : List (List PlaceBreaches)) → with_section section groups ≡ added same_key key_itself key_back key_along section groups
same_added section [] = refl
same_added section ([] ∷ groups) = ap (λ gs. [] ∷ gs) (same_added section groups)
same_added section ((first ∷ others) ∷ groups) =
    ap (λ gs. cond (same_key first section) ((first ∷ others ++ section ∷ []) ∷ groups) ((first ∷ others) ∷ gs)) (same_added section groups)

-- ---- a key is that of the granted ranges alone
abbrev is_granted : VerdictRun → Bool
is_granted range = is_ok range.value

denied_number : (first last : ℕ) (verdict : Verdict) → is_ok verdict ≡ false → numbers_by first last verdict ≡ []
denied_number first last (Ok grant) is = absurd (true≢false is)
denied_number first last (Err denial) is = refl

granted_alone : (ranges : List VerdictRun) → key_of (granted_ranges ranges) ≡ key_of ranges
granted_alone [] = refl
granted_alone (range ∷ ranges) =
    elim (cases_Bool (is_granted range)) as (λ _. key_of (granted_ranges (range ∷ ranges)) ≡ key_of (range ∷ ranges)) [
      | inl passes ↦ ap (λ b. key_of (cond b (range ∷ granted_ranges ranges) (granted_ranges ranges))) passes ∙ ap (λ key. numbers_of range ++ key) (granted_alone ranges)
      | inr fails ↦
          ap (λ b. key_of (cond b (range ∷ granted_ranges ranges) (granted_ranges ranges))) fails ∙ granted_alone ranges
          ∙ ap (λ key. key ++ key_of ranges) (sym (denied_number range.first range.last range.value fails))
    ]

-- the numbers of a granted range
record HasNumbers (verdict : Verdict) : Type 0 where
  line : ℕ
  order : order_of verdict ≡ line
  numbers : (first last : ℕ) → numbers_by first last verdict ≡ first ∷ last ∷ line ∷ []

has_numbers : (verdict : Verdict) → is_ok verdict ≡ true → HasNumbers verdict
has_numbers (Ok grant) is = record { line = grant.line; order = refl; numbers = λ first last. refl }
has_numbers (Err denial) is = absurd (true≢false (sym is))

pub same_run : (range other : VerdictRun) → range.first ≡ other.first → range.last ≡ other.last → range.value ≡ other.value → range ≡ other
same_run range other first last value =
    let begun : range ≡ record { first = other.first; last = range.last; value = range.value } = ap (λ n. record { first = n; last = range.last; value = range.value }) first in
    let ended : record { first = other.first; last = range.last; value = range.value } ≡ record { first = other.first; last = other.last; value = range.value } =
    ap (λ n. record { first = other.first; last = n; value = range.value }) last in
    begun ∙ ended ∙ ap (λ v. record { first = other.first; last = other.last; value = v }) value

head : List ℕ → ℕ
head [] = 0
head (n ∷ ns) = n

tail : List ℕ → List ℕ
tail [] = []
tail (n ∷ ns) = ns

is_some : List ℕ → Bool
is_some [] = false
is_some (n ∷ ns) = true

AreGranted : List VerdictRun → Type 0
AreGranted ranges = (range : VerdictRun) → Contains ranges range → is_granted range ≡ true

-- the verdicts in both are the same, where their places in a table are
AreByOrder : List VerdictRun → List VerdictRun → Type 0
AreByOrder ranges others = (range other : VerdictRun) → Contains ranges range → Contains others other → order_of range.value ≡ order_of other.value → range.value ≡ other.value

no_key : (range : VerdictRun) (ranges : List VerdictRun) → is_granted range ≡ true → key_of (range ∷ ranges) ≡ [] → ⊥
unfolding is_some
no_key range ranges passes none =
    let has = has_numbers range.value passes in
    true≢false (sym (ap (λ ns. is_some (ns ++ key_of ranges)) (has.numbers range.first range.last)) ∙ ap is_some none)

same_ranges : (ranges others : List VerdictRun) → AreGranted ranges → AreGranted others → AreByOrder ranges others → key_of ranges ≡ key_of others → ranges ≡ others
unfolding head tail AreGranted AreByOrder
same_ranges [] [] granted granted' order is = refl
same_ranges [] (other ∷ others) granted granted' order is = absurd (no_key other others (granted' other (here other other others refl)) (sym is))
same_ranges (range ∷ ranges) [] granted granted' order is = absurd (no_key range ranges (granted range (here range range ranges refl)) is)
same_ranges (range ∷ ranges) (other ∷ others) granted granted' order is =
    let own = here range range ranges refl in
    let own' = here other other others refl in
    let has = has_numbers range.value (granted range own) in
    let has' = has_numbers other.value (granted' other own') in
    let e : range.first ∷ range.last ∷ has.line ∷ key_of ranges ≡ other.first ∷ other.last ∷ has'.line ∷ key_of others =
    sym (ap (λ ns. ns ++ key_of ranges) (has.numbers range.first range.last)) ∙ is ∙ ap (λ ns. ns ++ key_of others) (has'.numbers other.first other.last) in
    let line : has.line ≡ has'.line = ap (λ ns. head (tail (tail ns))) e in
    let value = order range other own own' (has.order ∙ line ∙ sym has'.order) in
    let same = same_run range other (ap head e) (ap (λ ns. head (tail ns)) e) value in
    ap (λ r. r ∷ ranges) same
    ∙ ap (λ rs. other ∷ rs) (same_ranges ranges others (λ r has. granted r (there range r ranges has)) (λ r has. granted' r (there other r others has))
    (λ r r' has has'. order r r' (there range r ranges has) (there other r' others has')) (ap (λ ns. tail (tail (tail ns))) e))

-- ---- ranges are the same, or not
pub decide_run : AreDiscrete Verdict → AreDiscrete VerdictRun
decide_run compare range other =
    elim (cases_eq range.first other.first) as (λ _. (range ≡ other) ⊎ (range ≢ other)) [
      | inl first ↦ elim (cases_eq range.last other.last) as (λ _. (range ≡ other) ⊎ (range ≢ other)) [
        | inl last ↦ elim (compare range.value other.value) as (λ _. (range ≡ other) ⊎ (range ≢ other)) [
          | inl value ↦ inl (same_run range other first last value)
          | inr apart ↦ inr (λ is. apart (ap (λ (r : VerdictRun). r.value) is))
        ]
        | inr apart ↦ inr (λ is. apart (ap (λ (r : VerdictRun). r.last) is))
      ]
      | inr apart ↦ inr (λ is. apart (ap (λ (r : VerdictRun). r.first) is))
    ]

module _ {A : Type 0} where
  first_of : A → List A → A
  first_of default [] = default
  first_of default (x ∷ xs) = x

  rest_of : List A → List A
  rest_of [] = []
  rest_of (x ∷ xs) = xs

  any_of : List A → Bool
  any_of [] = false
  any_of (x ∷ xs) = true

  pub decide_lists : AreDiscrete A → AreDiscrete (List A)
  unfolding first_of rest_of any_of
  decide_lists compare [] [] = inl refl
  decide_lists compare [] (y ∷ ys) = inr (λ is. true≢false (sym (ap any_of is)))
  decide_lists compare (x ∷ xs) [] = inr (λ is. true≢false (ap any_of is))
  decide_lists compare (x ∷ xs) (y ∷ ys) =
      elim (compare x y) as (λ _. (x ∷ xs ≡ y ∷ ys) ⊎ (x ∷ xs ≢ y ∷ ys)) [
        | inl first ↦ elim (decide_lists compare xs ys) as (λ _. (x ∷ xs ≡ y ∷ ys) ⊎ (x ∷ xs ≢ y ∷ ys)) [
          | inl rest ↦ inl (ap (λ z. z ∷ xs) first ∙ ap (λ zs. y ∷ zs) rest)
          | inr apart ↦ inr (λ is. apart (ap rest_of is))
        ]
        | inr apart ↦ inr (λ is. apart (ap (first_of x) is))
      ]

pub decided : {P : Type 0} → P ⊎ (P → ⊥) → Bool
decided (inl _) = true
decided (inr _) = false

pub decides : {P : Type 0} (either : P ⊎ (P → ⊥)) → Decides (decided either) P
unfolding decided
decides (inl holds) = (λ is. holds, λ p. refl)
decides (inr fails) = (λ is. absurd (true≢false (sym is)), λ p. absurd (fails p))

-- two tests of one fact
pub same_test : {P : Type 0} (one other : Bool) → Decides one P → Decides other P → one ≡ other
same_test one other does does' =
    elim (cases_Bool one) as (λ _. one ≡ other) [
      | inl passes ↦ passes ∙ sym (does'.1 (does.0 passes))
      | inr fails ↦ elim (cases_Bool other) as (λ _. one ≡ other) [
        | inl holds' ↦ absurd (true≢false (sym (does.1 (does'.0 holds')) ∙ fails))
        | inr fails' ↦ fails ∙ sym fails'
      ]
    ]

-- ---- groups by tests that say the same of the values
module _ {A : Type 0} where
  pub filter_alike : (test other : A → Bool) (xs : List A) → ((x : A) → Contains xs x → test x ≡ other x) → filter test xs ≡ filter other xs
  filter_alike test other [] same = refl
  filter_alike test other (x ∷ xs) same =
      ap (λ b. cond b (x ∷ filter test xs) (filter test xs)) (same x (here x x xs refl))
      ∙ ap (λ rest. cond (other x) (x ∷ rest) rest) (filter_alike test other xs (λ y has. same y (there x y xs has)))

  pub has_first : (values : List A) (first : A) → slice_get values 0 ≡ Some first → Contains values first
  has_first [] first is = absurd (cc)
  has_first (value ∷ values) first is = here value first values (some_is value first is)
    where
      some_is : (x y : A) → Some x ≡ Some y → x ≡ y
      some_is x y e = cc

  pub grouped_alike : (alike other : A → A → Bool) (values : List A) (groups : List (List A)) → ((x y : A) → Contains values x → Contains values y → alike x y ≡ other x y)
      → AreGrouped alike values groups → AreGrouped other values groups
  grouped_alike alike other values [] same are = are
  grouped_alike alike other values ([] ∷ groups) same are = absurd are
  grouped_alike alike other values ((first ∷ others) ∷ groups) same are =
      let there_first = has_first values first are.0 in
      let left = filter_alike (λ x. not (alike first x)) (λ x. not (other first x)) values (λ x has. ap not (same first x there_first has)) in (
        are.0,
        are.1 ∙ filter_alike (alike first) (other first) values (λ x has. same first x there_first has),
        subst (λ vs. AreGrouped other vs groups) left
            (grouped_alike alike other (filter (λ x. not (alike first x)) values) groups (λ x y has has'. same x y (kept_in (λ x. not (alike first x)) values x has).0 (kept_in (λ x. not (alike first x)) values y has').0) are.2),
      )

-- ---- sections of one key are granted alike
in_flat : (sections : List PlaceBreaches) (section : PlaceBreaches) (range : VerdictRun) → Contains sections section → Contains section.ranges range → Contains (flat_map (λ (s : PlaceBreaches). s.ranges) sections) range
in_flat [] section range has has' = absurd (let lt = has.1 in omega arith)
in_flat (first ∷ sections) section range has has' =
    elim (here_or_there first section sections has) as (λ _. Contains (flat_map (λ (s : PlaceBreaches). s.ranges) (first ∷ sections)) range) [
      | inl is ↦ Contains-append_left first.ranges (flat_map (λ (s : PlaceBreaches). s.ranges) sections) range (subst (λ (s : PlaceBreaches). Contains s.ranges range) (sym is) has')
      | inr later ↦ Contains-append_right first.ranges (flat_map (λ (s : PlaceBreaches). s.ranges) sections) range (in_flat sections section range later has')
    ]

module _ (compare : AreDiscrete Verdict) (sections : List PlaceBreaches) (by_order : ByOrder (flat_map (λ (s : PlaceBreaches). s.ranges) sections)) where
  abbrev alike : PlaceBreaches → PlaceBreaches → Bool
  alike section other = decided (decide_lists (decide_run compare) (granted_ranges other.ranges) (granted_ranges section.ranges))

  by_key : (section other : PlaceBreaches) → Contains sections section → Contains sections other → Decides (same_key section other) (granted_ranges other.ranges ≡ granted_ranges section.ranges)
  unfolding AreGranted AreByOrder
  by_key section other has has' = (
    λ is. same_ranges (granted_ranges other.ranges) (granted_ranges section.ranges)
        (λ range kept. (kept_in is_granted other.ranges range kept).1)
        (λ range kept. (kept_in is_granted section.ranges range kept).1)
        (λ range range' kept kept'. by_order range range' (in_flat sections other range has' (kept_in is_granted other.ranges range kept).0) (in_flat sections section range' has (kept_in is_granted section.ranges range' kept').0))
        (granted_alone other.ranges ∙ sym ((bytes_eq-Decides (key_of section.ranges) (key_of other.ranges)).0 is) ∙ sym (granted_alone section.ranges)),
    λ same. (bytes_eq-Decides (key_of section.ranges) (key_of other.ranges)).1 (sym (granted_alone section.ranges) ∙ ap key_of (sym same) ∙ granted_alone other.ranges),
  )

  pub section_groups : (groups : List (List PlaceBreaches)) → AreGrouped same_key sections groups → AreSectionGroups sections groups
  section_groups groups are = record {
    alike = alike;
    decides = λ section other. decides (decide_lists (decide_run compare) (granted_ranges other.ranges) (granted_ranges section.ranges));
    are = grouped_alike same_key alike sections groups
        (λ section other has has'. same_test (same_key section other) (alike section other) (by_key section other has has')
        (decides (decide_lists (decide_run compare) (granted_ranges other.ranges) (granted_ranges section.ranges))))
        are;
  }

-- What is reported of an expectation, of the line that it is read from, and of a whole text.
use Rattle.std.proofs.Common.{◌≡◌, ℕ, ◌<◌, ◌^◌, ◌||◌, not, Bool, true, false, cond, List, [], ◌∷◌, ◌++◌, length, map, refl, sym, ap, ◌∙◌, subst, inl, inr}
use Rattle.std.specs.Prelude.{◌==◌, None, Option, Result, Some, filter}
use Rattle.std.specs.List.{AllByRecursion, AllZip, flat_map}
use Rattle.std.proofs.lemmas.Bool.{cases_Bool, eqb-true, or_cases, or_left, or_right, true≢false}
use Rattle.std.proofs.lemmas.List.{nil_from_length}
use Rattle.std.proofs.lemmas.List.Elements.{All-from_recursion, recursion_from_All}
use Rattle.desk_tables.specs.declared.hosts.HostRow.{HostRow}
use Rattle.desk_netgroup.specs.declared.group_line.GroupLine.{GroupLine}
use Rattle.desk_policy.specs.Policy.{Content}
use Rattle.desk_policy.specs.Verdict.{Grant, verdict_of}
use Rattle.desk_policy.specs.declared.verdict.Denial.{Denial}
use Rattle.desk_impact.specs.Sections.{AreFoundIn, NoSectionIsNothingFound}
use Rattle.desk_server.specs.Server.{server_verdict_of}
use Rattle.desk_expect.specs.Action.{is_allowed_by}
use Rattle.desk_expect.specs.Audience.{contains}
use Rattle.desk_expect.specs.Expectation.{Holds, IsExpectationOf, Promise, is_in, is_in_some, keep}
use Rattle.desk_expect.specs.Judging.{JudgedValue, PlaceJudged, judged, judged_of, judging_rule}
use Rattle.desk_expect.specs.Laws.{NoBrokenIsAllHold, NoneBrokenIsAllHold, UnreportedLinesHold}
use Rattle.desk_expect.specs.Reading.{AreExpectationsOf}
use Rattle.desk_expect.specs.Report.{IsTestOf, is_broken}
use Rattle.desk_expect.specs.ReportText.{BrokenValue}
use Rattle.desk_expect.specs.declared.action.Action.{Action}
use Rattle.desk_expect.specs.declared.expectation.Expectation.{Expectation}
use Rattle.desk_expect.specs.declared.scope.Scope.{Scope}
use Rattle.desk_expect.proofs.Verdicts.{rule_asks, rule_finds}

both_empty : {X : Type 0} (xs ys : List X) → xs ++ ys ≡ [] → (xs ≡ []) × (ys ≡ [])
both_empty [] ys e = (refl, e)
both_empty (x ∷ xs) ys e = absurd (cc)

-- an expectation is kept in these scopes: at each address, of each of their paths
IsKept : Content → Expectation → List Scope → Type 0
IsKept content expectation scopes =
    (address : ℕ) (path : List (List ℕ)) → address < 2 ^ 32 → is_in_some scopes path ≡ true → judged_of expectation content path address ≡ None

module _ (law : NoSectionIsNothingFound JudgedValue) (content : Content) (expectation : Expectation) where
  kept_in : (scopes : List Scope) (by_scope : List (List PlaceJudged)) → AllZip (λ scope some. AreFoundIn (judging_rule expectation) content scope.path scope.below some) scopes by_scope
      → flat_map (λ some. some) by_scope ≡ [] → IsKept content expectation scopes
  unfolding IsKept
  kept_in [] [] each none address path fits inside = absurd (true≢false (sym inside))
  kept_in [] (sections ∷ more) each none address path fits inside = absurd each
  kept_in (scope ∷ scopes) [] each none address path fits inside = absurd each
  kept_in (scope ∷ scopes) (sections ∷ more) each none address path fits inside =
      let p = both_empty sections (flat_map (λ (some : List PlaceJudged). some) more) none in
      elim (or_cases (is_in path scope) (is_in_some scopes path) inside) as (λ _. judged_of expectation content path address ≡ None) [
        | inl here ↦
            sym (rule_finds expectation content path address)
            ∙ (law (judging_rule expectation) content scope.path scope.below sections (rule_asks expectation) each.0).0 p.0 address path fits here
        | inr later ↦ kept_in scopes more each.1 p.1 address path fits later
      ]

  none_found : (scopes : List Scope) (by_scope : List (List PlaceJudged)) → AllZip (λ scope some. AreFoundIn (judging_rule expectation) content scope.path scope.below some) scopes by_scope
      → IsKept content expectation scopes → flat_map (λ some. some) by_scope ≡ []
  unfolding IsKept
  none_found [] [] each kept = refl
  none_found [] (sections ∷ more) each kept = absurd each
  none_found (scope ∷ scopes) [] each kept = absurd each
  none_found (scope ∷ scopes) (sections ∷ more) each kept =
      let first : sections ≡ [] = (law (judging_rule expectation) content scope.path scope.below sections (rule_asks expectation) each.0).1
      (λ address path fits inside. rule_finds expectation content path address ∙ kept address path fits (or_left (is_in path scope) (is_in_some scopes path) inside)) in
      ap (λ (some : List PlaceJudged). some ++ flat_map (λ (s : List PlaceJudged). s) more) first
      ∙ none_found scopes more each.1 (λ address path fits inside. kept address path fits (or_right (is_in path scope) (is_in_some scopes path) inside))

-- ---- the line
true_of_not : (b : Bool) → not b ≡ false → b ≡ true
true_of_not true e = refl
true_of_not false e = absurd (true≢false e)

-- nothing breaks it exactly if the verdicts keep what the line says
module _ (action : Action) (own server : Result Grant Denial) where
  abbrev found_by : Bool → Bool → Bool → Option JudgedValue
  found_by forbids a b =
      cond (cond forbids a (not a)) (Some (record { verdict = own; by_server = false })) (cond forbids (cond b (Some (record { verdict = server; by_server = true })) None) None)

  abbrev kept_by : Bool → Bool → Bool → Bool
  kept_by forbids a b = cond forbids (not (a || b)) a

  nothing_by : (forbids a b : Bool) → found_by forbids a b ≡ None → kept_by forbids a b ≡ true
  nothing_by true true b none = cc
  nothing_by true false true none = cc
  nothing_by true false false none = refl
  nothing_by false true b none = refl
  nothing_by false false b none = cc

  by_nothing : (forbids a b : Bool) → kept_by forbids a b ≡ true → found_by forbids a b ≡ None
  by_nothing true true b kept = absurd (true≢false (sym kept))
  by_nothing true false true kept = absurd (true≢false (sym kept))
  by_nothing true false false kept = refl
  by_nothing false true b kept = refl
  by_nothing false false b kept = absurd (true≢false (sym kept))

nothing_is_kept : (forbids : Bool) (action : Action) (own server : Result Grant Denial) → judged forbids action own server ≡ None → keep forbids action own server ≡ true
nothing_is_kept forbids action own server none = nothing_by action own server forbids (is_allowed_by action own) (is_allowed_by action server) none

kept_is_nothing : (forbids : Bool) (action : Action) (own server : Result Grant Denial) → keep forbids action own server ≡ true → judged forbids action own server ≡ None
kept_is_nothing forbids action own server kept = by_nothing action own server forbids (is_allowed_by action own) (is_allowed_by action server) kept

about_or_none : (about : Bool) (found : Option JudgedValue) → (about ≡ true → found ≡ None) → cond about found None ≡ None
about_or_none true found none = none refl
about_or_none false found none = refl

module _ (netgroups : List GroupLine) (hosts : List HostRow) (content : Content) (promise : Promise) (expectation : Expectation) (of : IsExpectationOf netgroups hosts promise expectation) where
  holds_of : IsKept content expectation expectation.scopes → Holds netgroups hosts content promise
  unfolding IsKept
  holds_of kept address path fits meant inside =
      let own = verdict_of content address path in
      let server = server_verdict_of content address path in
      let about : contains expectation.audience address ≡ true = of.audience address fits ∙ meant in
      let none = kept address path fits (ap (λ (scopes : List Scope). is_in_some scopes path) of.scopes ∙ inside) in
      let judged_none : judged expectation.forbids expectation.action own server ≡ None = sym (ap (λ b. cond b (judged expectation.forbids expectation.action own server) None) about) ∙ none in
      subst (λ (action : Action). keep promise.forbids action own server ≡ true) of.action
      (subst (λ forbids. keep forbids expectation.action own server ≡ true) of.forbids (nothing_is_kept expectation.forbids expectation.action own server judged_none))

  kept_of : Holds netgroups hosts content promise → IsKept content expectation expectation.scopes
  unfolding IsKept
  kept_of holds address path fits inside =
      let own = verdict_of content address path in
      let server = server_verdict_of content address path in
      about_or_none (contains expectation.audience address) (judged expectation.forbids expectation.action own server)
      (λ meant. kept_is_nothing expectation.forbids expectation.action own server
      (subst (λ (action : Action). keep expectation.forbids action own server ≡ true) (sym of.action)
      (subst (λ forbids. keep forbids promise.action own server ≡ true) (sym of.forbids)
      (holds address path fits (sym (of.audience address fits) ∙ meant) (ap (λ (scopes : List Scope). is_in_some scopes path) (sym of.scopes) ∙ inside)))))

pub unreported : NoSectionIsNothingFound JudgedValue → UnreportedLinesHold
unreported law netgroups hosts content promise expectation sections of tested = (
  λ none. holds_of netgroups hosts content promise expectation of (kept_in law content expectation expectation.scopes tested.by_scope tested.each (sym tested.are ∙ none)),
  λ holds. tested.are ∙ none_found law content expectation expectation.scopes tested.by_scope tested.each (kept_of netgroups hosts content promise expectation of holds),
)

-- ---- a whole text
empty_of : (one : BrokenValue) → is_broken one ≡ false → one.sections ≡ []
empty_of one none = nil_from_length one.sections (eqb-true (length one.sections) 0 (true_of_not (length one.sections == 0) none))

none_of : (one : BrokenValue) → one.sections ≡ [] → is_broken one ≡ false
none_of one empty = ap (λ (sections : List PlaceJudged). is_broken (record { expectation = one.expectation; sections = sections })) empty

none_is_broken : (found : List BrokenValue) → filter is_broken found ≡ [] → AllByRecursion (λ one. is_broken one ≡ false) found
none_is_broken [] none = tt
none_is_broken (one ∷ found) none =
    elim (cases_Bool (is_broken one)) as (λ _. AllByRecursion (λ (other : BrokenValue). is_broken other ≡ false) (one ∷ found)) [
      | inl is ↦ absurd (some (sym (ap (λ b. cond b (one ∷ filter is_broken found) (filter is_broken found)) is) ∙ none))
      | inr kept ↦ (kept, none_is_broken found (sym (ap (λ b. cond b (one ∷ filter is_broken found) (filter is_broken found)) kept) ∙ none))
    ]
  where
    some : one ∷ filter is_broken found ≡ [] → ⊥
    some e = cc

all_kept : (found : List BrokenValue) → AllByRecursion (λ one. is_broken one ≡ false) found → filter is_broken found ≡ []
all_kept [] kept = refl
all_kept (one ∷ found) kept = ap (λ b. cond b (one ∷ filter is_broken found) (filter is_broken found)) kept.0 ∙ all_kept found kept.1

module _ (law : UnreportedLinesHold) (netgroups : List GroupLine) (hosts : List HostRow) (content : Content) where
  each_holds : (promises : List Promise) (found : List BrokenValue) → AreExpectationsOf netgroups hosts promises (map (λ one. one.expectation) found) → AllByRecursion (IsTestOf content) found
      → AllByRecursion (λ one. is_broken one ≡ false) found → AllByRecursion (Holds netgroups hosts content) promises
  each_holds [] [] of tested kept = tt
  each_holds [] (one ∷ found) of tested kept = absurd of
  each_holds (promise ∷ promises) [] of tested kept = absurd of
  each_holds (promise ∷ promises) (one ∷ found) of tested kept = (
    (law netgroups hosts content promise one.expectation one.sections of.0 tested.0).0 (empty_of one kept.0),
    each_holds promises found of.1 tested.1 kept.1,
  )

  none_reported : (promises : List Promise) (found : List BrokenValue) → AreExpectationsOf netgroups hosts promises (map (λ one. one.expectation) found) → AllByRecursion (IsTestOf content) found
      → AllByRecursion (Holds netgroups hosts content) promises → AllByRecursion (λ one. is_broken one ≡ false) found
  none_reported [] [] of tested hold = tt
  none_reported [] (one ∷ found) of tested hold = absurd of
  none_reported (promise ∷ promises) [] of tested hold = absurd of
  none_reported (promise ∷ promises) (one ∷ found) of tested hold = (
    none_of one ((law netgroups hosts content promise one.expectation one.sections of.0 tested.0).1 hold.0),
    none_reported promises found of.1 tested.1 hold.1,
  )

pub no_broken : UnreportedLinesHold → NoBrokenIsAllHold
no_broken law netgroups hosts text promises expectations content broken read of are =
    let found = are.found in
    let own : AreExpectationsOf netgroups hosts promises (map (λ (one : BrokenValue). one.expectation) found) = subst (AreExpectationsOf netgroups hosts promises) (sym are.expectations_are) of in
    let tested = recursion_from_All (IsTestOf content) found are.each in (
      λ none. All-from_recursion (Holds netgroups hosts content) promises
          (each_holds law netgroups hosts content promises found own tested (none_is_broken found (sym are.are ∙ none))),
      λ hold. are.are ∙ all_kept found (none_reported law netgroups hosts content promises found own tested (recursion_from_All (Holds netgroups hosts content) promises hold)),
    )

pub none_broken : NoBrokenIsAllHold → NoneBrokenIsAllHold
none_broken law netgroups hosts text promises expectations content file report read of is =
    let either = law netgroups hosts text promises expectations content is.broken read of is.are in (
      λ zero. either.0 (nil_from_length is.broken (sym is.count ∙ zero)),
      λ hold. is.count ∙ ap length (either.1 hold),
    )

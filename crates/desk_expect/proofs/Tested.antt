-- What is found of each expectation, and of all.
use Rattle.std.proofs.Common.{◌≡◌, ℕ, ◌+◌, ◌<◌, ◌≤◌, List, [], ◌∷◌, ◌++◌, get_or, length, refl, sym, take, ap, ◌∙◌, subst}
use Rattle.std.specs.Prelude.{filter}
use Rattle.std.specs.List.{flat_map}
use Rattle.std.proofs.lemmas.List.{append_assoc, append-nil, map-append, take_all, take_more}
use Rattle.std.proofs.lemmas.List.Elements.{All-nil, All-push, filter-append}
use Rattle.desk_policy.specs.Policy.{Content}
use Rattle.desk_impact.specs.Sections.{AreFoundIn}
use Rattle.desk_expect.specs.PrivateReport.{AddsTested}
use Rattle.desk_expect.specs.Judging.{PlaceJudged, judging_rule}
use Rattle.desk_expect.specs.Report.{AreBroken, IsTestOf, IsTestedIn, is_broken}
use Rattle.desk_expect.specs.ReportText.{BrokenValue}
use Rattle.desk_expect.specs.declared.expectation.Expectation.{Expectation}
use Rattle.desk_expect.specs.declared.scope.Scope.{Scope}
use Rattle.desk_expect.proofs.Lines.{zip_push}

-- ---- the scopes of an expectation
module _ (content : Content) (expectation : Expectation) where
  pub no_scope : (sections : List PlaceJudged) → sections ≡ [] → IsTestedIn content expectation [] sections
  no_scope sections empty = record { by_scope = []; each = tt; are = empty }

  flat_more : (by_scope : List (List PlaceJudged)) (sections : List PlaceJudged) → flat_map (λ some. some) (by_scope ++ sections ∷ []) ≡ flat_map (λ some. some) by_scope ++ sections
  flat_more [] sections = append-nil sections
  flat_more (some ∷ by_scope) sections =
      ap (λ (rest : List PlaceJudged). some ++ rest) (flat_more by_scope sections) ∙ sym (append_assoc some (flat_map (λ (s : List PlaceJudged). s) by_scope) sections)

  pub one_scope : (items : List Scope) (i : ℕ) (scope : Scope) → i < length items → scope ≡ get_or items i scope → (old new sections : List PlaceJudged)
      → IsTestedIn content expectation (take i items) old → AreFoundIn (judging_rule expectation) content scope.path scope.below sections → new ≡ old ++ sections
      → IsTestedIn content expectation (take (i + 1) items) new
  one_scope items i scope below is old new sections so_far one added =
      let more : take (i + 1) items ≡ take i items ++ scope ∷ [] = take_more items i scope below ∙ ap (λ (s : Scope). take i items ++ s ∷ []) (sym is) in
      subst (λ scopes. IsTestedIn content expectation scopes new) (sym more) (record {
        by_scope = so_far.by_scope ++ sections ∷ [];
        each = zip_push (λ (s : Scope) (some : List PlaceJudged). AreFoundIn (judging_rule expectation) content s.path s.below some) (take i items) so_far.by_scope scope sections so_far.each one;
        are = added ∙ ap (λ (some : List PlaceJudged). some ++ sections) so_far.are ∙ sym (flat_more so_far.by_scope sections);
      })

  pub all_scopes : (items : List Scope) (i : ℕ) (sections : List PlaceJudged) → length items ≤ i → IsTestedIn content expectation (take i items) sections → IsTestedIn content expectation items sections
  all_scopes items i sections over so_far = subst (λ scopes. IsTestedIn content expectation scopes sections) (take_all i items over) so_far

-- ---- the expectations
module _ (content : Content) where
  pub none_broken : (broken : List BrokenValue) → broken ≡ [] → AreBroken content [] broken
  none_broken broken empty = record { found = []; expectations_are = refl; each = All-nil (IsTestOf content); are = empty }

  one_more : (expectations : List Expectation) (expectation : Expectation) (old new : List BrokenValue) → AreBroken content expectations old → AddsTested content expectation old new
      → AreBroken content (expectations ++ expectation ∷ []) new
  one_more expectations expectation old new so_far one = record {
    found = so_far.found ++ one.found ∷ [];
    expectations_are = map-append (λ (f : BrokenValue). f.expectation) so_far.found (one.found ∷ []) ∙ ap (λ es. es ++ one.found.expectation ∷ []) so_far.expectations_are
        ∙ ap (λ (e : Expectation). expectations ++ e ∷ []) one.expectation_is;
    each = All-push (IsTestOf content) so_far.found one.found so_far.each one.tested;
    are = one.added ∙ ap (λ bs. bs ++ filter is_broken (one.found ∷ [])) so_far.are ∙ sym (filter-append is_broken so_far.found (one.found ∷ []));
  }

  pub one_expectation : (items : List Expectation) (i : ℕ) (item : Expectation) → i < length items → item ≡ get_or items i item → (old new : List BrokenValue)
      → AreBroken content (take i items) old → AddsTested content item old new → AreBroken content (take (i + 1) items) new
  one_expectation items i item below is old new so_far one =
      let more : take (i + 1) items ≡ take i items ++ item ∷ [] = take_more items i item below ∙ ap (λ (e : Expectation). take i items ++ e ∷ []) (sym is) in
      subst (λ es. AreBroken content es new) (sym more) (one_more (take i items) item old new so_far one)

  pub all_expectations : (items : List Expectation) (i : ℕ) (broken : List BrokenValue) → length items ≤ i → AreBroken content (take i items) broken → AreBroken content items broken
  all_expectations items i broken over so_far = subst (λ es. AreBroken content es broken) (take_all i items over) so_far

-- If every verdict is looked for, each is told.
use Rattle.std.proofs.Common.{◌≡◌, ℕ, ◌+◌, ◌∙◌, true, cond, List, [], ◌∷◌, ap, arith, length, refl, subst, sym}
use Rattle.std.specs.Prelude.{◌==◌, Err, None, Option, Result, Some, filter, not}
use Rattle.std.specs.List.{AllByRecursion}
use Rattle.std.specs.List.Sorted.{IsStrictlyIncreasing}
use Rattle.std.specs.Option.{option_map}
use Rattle.std.proofs.lemmas.Bool.{ne_eqb, true≢false}
use Rattle.std.proofs.lemmas.List.Elements.{All-from_recursion, recursion_from_All}
use Rattle.desk_text.specs.Address.{number_of}
use Rattle.desk_text.specs.AddrSet.{is_among}
use Rattle.desk_tables.specs.FileSystems.{fs_of}
use Rattle.desk_policy.specs.Policy.{Content}
use Rattle.desk_policy.specs.Verdict.{Grant, verdict_among, verdict_in, verdict_of, verdict_result}
use Rattle.desk_policy.specs.Weights.{selected}
use Rattle.desk_policy.specs.declared.verdict.Denial.{Denial}
use Rattle.desk_policy.specs.declared.verdict.Denial.TheVariants.{NoFileSystem}
use Rattle.desk_who.specs.Runs.{AreDiscrete, AreRuns, AreRunsWithValue, Run, RunsExist, RunsPassTests, RunsWithValueAreUnique}
use Rattle.desk_who.specs.Searching.{IsRuleOf, Rule, found_at, found_in}
use Rattle.desk_who.proofs.Asked.{own_asks, own_steady}
use Rattle.desk_who.proofs.Kept.{same_runs}
use Rattle.desk_impact.specs.Sections.{AreFoundAt, AreFoundIn, PlaceBreaches, found_elsewhere, found_of, has_some}
use Rattle.desk_impact.specs.Places.{Directory, Others, Place, place_verdict, verdict_elsewhere}
use Rattle.page_data.specs.Sections.{AreSections, AreVerdictsAt}

all_pass : {A : Type 0} (runs : List (Run A)) → filter (λ run. true) runs ≡ runs
all_pass [] = refl
all_pass (run ∷ runs) = ap (λ rs. run ∷ rs) (all_pass runs)

-- the runs at which a function has a value are all its runs, if it has one at each address
all_values : {A : Type 0} → RunsExist A → RunsPassTests A → RunsWithValueAreUnique A → AreDiscrete A → (value_at : ℕ → A) (runs : List (Run A)) → AreRunsWithValue (λ address. Some (value_at address)) runs → AreRuns value_at runs
all_values exist pass unique compare value_at runs are =
    let whole = exist compare value_at in
    let passed = pass compare (λ value. true) value_at whole.0 whole.1 in
    subst (AreRuns value_at) (sym (all_pass whole.0) ∙ unique (λ address. Some (value_at address)) runs (filter (λ run. true) whole.0) are passed) whole.1

some_run : {A : Type 0} (value_at : ℕ → A) (runs : List (Run A)) → AreRuns value_at runs → not (length runs == 0) ≡ true
some_run value_at [] are = absurd (true≢false (sym (are.complete 0 (omega arith))))
some_run value_at (run ∷ runs) are = ap not (ne_eqb (length (run ∷ runs)) 0 (λ is. omega arith))

abbrev Verdict : Type 0
Verdict = Result Grant Denial

-- the rule by which every verdict is found
abbrev pub verdict_rule : Rule (Option Verdict)
verdict_rule = record {
  nowhere = λ address. Some (Err NoFileSystem);
  among = λ fs listing rows address. Some (verdict_among fs listing (selected rows address));
}

found_by : (content : Content) (path : List (List ℕ)) (address : ℕ) (fs : Option ℕ) → found_in verdict_rule content path fs address ≡ Some (verdict_in content address path fs)
found_by content path address None = refl
found_by content path address (Some fs) = refl

pub rule_finds : (content : Content) (path : List (List ℕ)) (address : ℕ) → found_at verdict_rule content path address ≡ Some (verdict_of content address path)
unfolding verdict_of
rule_finds content path address = found_by content path address (fs_of content.table path)

elsewhere_by : (content : Content) (address : ℕ) (fs : Option ℕ) → found_elsewhere verdict_rule content fs address ≡ Some (verdict_elsewhere content address fs)
elsewhere_by content address None = refl
elsewhere_by content address (Some fs) = refl

finds_of : (content : Content) (place : Place) (address : ℕ) → found_of verdict_rule content place address ≡ Some (place_verdict content place address)
finds_of content (Directory path) address = rule_finds content path address
finds_of content (Others mount) address = elsewhere_by content address (fs_of content.table mount)

-- so it says what the search finds
pub is_rule : (content : Content) (starts : List ℕ) → starts ≡ []
    → IsRuleOf verdict_result (λ address path value. option_map verdict_result value ≡ Some (verdict_of content (number_of address) path)) content starts verdict_rule
is_rule content starts none = record {
  finds = λ address path value is. is ∙ sym (rule_finds content path (number_of address));
  starts = record {
    nowhere = record {
      ascend = subst IsStrictlyIncreasing (sym none) (λ k lt. absurd (omega arith));
      behind = ap (is_among 0) none;
      steady = λ address fits away. refl;
    };
    among = λ fs listing rows address fits away same. ap Some (own_steady fs listing rows address (address + 1) same);
  };
  asks = λ fs listing other rows address agree. ap Some (own_asks listing other address fs rows agree);
}

module _ (exist : RunsExist Verdict) (pass : RunsPassTests Verdict) (unique : RunsWithValueAreUnique Verdict) (compare : AreDiscrete Verdict) (content : Content) where
  abbrev told : PlaceBreaches → Type 0
  told found = AreFoundAt verdict_rule content found

  all_at : (found : PlaceBreaches) → told found → AreVerdictsAt content found
  all_at found are =
      all_values exist pass unique compare (λ address. place_verdict content found.place address) found.ranges
      (same_runs (found_of verdict_rule content found.place) (λ address. Some (place_verdict content found.place address)) found.ranges (finds_of content found.place) are)

  keeps : (found : List PlaceBreaches) → AllByRecursion told found → filter has_some found ≡ found
  keeps [] all = refl
  keeps (one ∷ found) all =
      ap (λ b. cond b (one ∷ filter has_some found) (filter has_some found)) (some_run (λ address. place_verdict content one.place address) one.ranges (all_at one all.0))
      ∙ ap (λ rest. one ∷ rest) (keeps found all.1)

  each : (found : List PlaceBreaches) → AllByRecursion told found → AllByRecursion (AreVerdictsAt content) found
  each [] all = tt
  each (one ∷ found) all = (all_at one all.0, each found all.1)

  pub all_told : (sections : List PlaceBreaches) → AreFoundIn verdict_rule content [] true sections → AreSections content sections
  all_told sections are =
      let all = recursion_from_All told are.found are.each in
      let same : sections ≡ are.found = are.are ∙ keeps are.found all in
      subst (AreSections content) (sym same) (record { places = are.places; verdicts = All-from_recursion (AreVerdictsAt content) are.found (each are.found all) })

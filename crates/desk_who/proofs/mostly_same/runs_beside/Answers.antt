use Rattle.std.proofs.Common.{◌≡◌, ◌++◌, ◌∙◌, ℕ, List, true, false, ap, map, inl, inr, rules}
use Rattle.std.specs.Prelude.{Option}
use Rattle.std.specs.Option.{option_map}
use Rattle.std.proofs.lemmas.Bool.{cases_Bool}
use Rattle.std.proofs.lemmas.Result.{IfOk-weaker}
use Rattle.desk_text.specs.Address.{number_of}
use Rattle.desk_text.specs.AddrSet.{sorted_set}
use Rattle.desk_who.specs.PrivateMostlySame.{AreRanges, held_value}
use Rattle.desk_who.specs.Runs.{Run, is_asked, run_value, those_with_value}
use Rattle.desk_who.specs.declared.runs.Run.{Run as KeptRun}
use Rattle.desk_who.proofs.Partial.{beside_behind, beside_given, beside_starts, bounds_by_value, partial_ranges}
use Rattle.desk_who.proofs.mostly_same.runs_beside.Goals as goal

-- what is found for an address is its value
found_is : {A : Type 0} (value_at : ℕ → Option A) (decided : List ℕ) (others : List (Run A)) (n : ℕ) (found : Option A)
    → (is_asked decided n ≡ true → found ≡ value_at n) → (is_asked decided n ≡ false → AreRanges others → found ≡ held_value n others)
    → AreRanges others → (is_asked decided n ≡ false → held_value n others ≡ value_at n) → found ≡ value_at n
found_is value_at decided others n found asked given ranges held =
    elim (cases_Bool (is_asked decided n)) [
      | inl asks ↦ asked asks
      | inr away ↦ given away ranges ∙ held away
    ]

pub longest_runs-requires-clause-behind : goal.longest_runs-requires-clause-behind
longest_runs-requires-clause-behind g c =
    let meaning = g.T.Alike.meaning in
    beside_behind (map (run_value meaning) c.args.others.now) c.args.decided.now c.in_ok-starts.starts c.sorted_sets_are_unique.ensures
    (c.in_ok-starts.ensures ∙ ap (λ ns. sorted_set (ns ++ c.args.decided.now)) (bounds_by_value meaning c.args.others.now)) c.requires.behind

pub returns : goal.returns
returns g c =
    let meaning = g.T.Alike.meaning in
    let others = map (run_value meaning) c.args.others.now in
    let decided = c.args.decided.now in
    let set = c.in_ok-starts.starts in
    let sets = c.sorted_sets_are_unique.ensures in
    let by_value = λ (runs : List (KeptRun (Option _))). map (run_value (option_map meaning)) runs in
    let is_set = c.in_ok-starts.ensures ∙ ap (λ ns. sorted_set (ns ++ decided)) (bounds_by_value meaning c.args.others.now) in
    IfOk-weaker c.those_with_value.result (λ runs. map (run_value meaning) runs.items ≡ those_with_value (by_value c.as_slice.result.now)) _
    (λ runs is value_at other_at finds partial go. record {
      whole = by_value c.in_ok-runs.runs.items;
      runs = c.in_ok-runs.ensures value_at
          (λ address value asked gives.
          let n = number_of address in
          let found = option_map meaning value in
          let at : is_asked decided n ≡ true → found ≡ value_at n = λ asks. finds address value asks (search rules) in
          let kept : is_asked decided n ≡ false → AreRanges others → found ≡ held_value n others = search rules in
          found_is value_at decided others n found at kept (partial_ranges other_at others partial)
          (beside_given value_at other_at others decided set sets partial go is_set n asked))
          (beside_starts value_at other_at others decided set sets partial go is_set c.requires.behind);
      are = is ∙ ap (λ runs. those_with_value (by_value runs)) c.as_slice.ensures.value;
    })
    c.those_with_value.ensures

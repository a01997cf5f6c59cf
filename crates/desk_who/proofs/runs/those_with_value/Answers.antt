use Rattle.std.proofs.Common.{◌≡◌, ◌<◌, ◌+◌, ◌++◌, ◌∷◌, ◌∙◌, [], ℕ, List, ap, get_or, length, map, sym, take}
use Rattle.std.specs.Prelude.{Option}
use Rattle.std.specs.Option.{option_map}
use Rattle.std.proofs.lemmas.List.{append-nil, map-append, take_more}
use Rattle.std.proofs.lemmas.List.Elements.{filter_map-append}
use Rattle.desk_who.specs.Runs.{Run, run_value, those_with_value, with_value}
use Rattle.desk_who.specs.declared.runs.Run.{Run as KeptRun}
use Rattle.desk_who.proofs.runs.those_with_value.Goals as goal
use Rattle.desk_who.proofs.runs.those_with_value.Goals.{in-Some+in_ok-push, in_default}

module _ {T A : Type 0} (meaning : T → A) where
  abbrev kept : List (KeptRun (Option T)) → List (Run A)
  kept runs = those_with_value (map (run_value (option_map meaning)) runs)

  one_more : (runs : List (KeptRun (Option T))) (i : ℕ) (run : KeptRun (Option T)) → i < length runs → run ≡ get_or runs i run → kept (take (i + 1) runs) ≡ kept (take i runs) ++ kept (run ∷ [])
  one_more runs i run below is =
      let f = run_value (option_map meaning) in
      ap kept (take_more runs i run below ∙ ap (λ (r : KeptRun (Option T)). take i runs ++ r ∷ []) (sym is))
      ∙ ap those_with_value (map-append f (take i runs) (run ∷ [])) ∙ filter_map-append with_value (map f (take i runs)) (map f (run ∷ []))

pub loop-run-preserved : goal.loop-run-preserved
loop-run-preserved g c =
    let meaning = g.T.Alike.meaning in
    let runs = c.args.runs.now in
    let i = c.loop-run.run-index in
    let run = c.run-item.result in
    let more = one_more meaning runs i run c.loop-run-test.true c.run-item.is in
    let alone = λ (value : Option _). kept meaning (record { first = run.first; last = run.last; value = value } ∷ []) in
    elim c.match-run.branch [
      | in-Some+in_ok-push w ↦
          let range : KeptRun _ = record { first = run.first; last = run.last; value = w.in-Some.value } in
          rw w.found-is
          (ap (map (run_value meaning)) w.in_ok-push.ensures.items ∙ map-append (run_value meaning) c.loop-run.found.items (range ∷ [])
          ∙ ap (λ rs. rs ++ run_value meaning range ∷ []) c.loop-run.invariant ∙ ap (λ rs. kept meaning (take i runs) ++ rs) (sym (ap alone w.in-Some.is)) ∙ sym more)
      | in_default w ↦
          rw w.found-is
          (c.loop-run.invariant ∙ sym (append-nil (kept meaning (take i runs))) ∙ ap (λ rs. kept meaning (take i runs) ++ rs) (sym (ap alone w.in_default.is)) ∙ sym more)
    ]

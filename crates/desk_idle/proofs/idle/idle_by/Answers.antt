use Rattle.std.proofs.Common.{◌≡◌, ◌<◌, ◌+◌, ◌++◌, ◌∷◌, ◌∙◌, [], List, ap, subst, sym, take}
use Rattle.std.specs.Prelude.{Contains}
use Rattle.std.proofs.lemmas.Bool.{not-false, not-true}
use Rattle.std.proofs.lemmas.List.{take_more}
use Rattle.std.proofs.lemmas.List.Elements.{Contains-push}
use Rattle.desk_exports.specs.declared.entry.Entry.{Entry}
use Rattle.desk_policy.specs.Policy.{AreAscending, Content, rows_of}
use Rattle.desk_policy.specs.declared.row.Row.{Row}
use Rattle.desk_idle.specs.Idle.{DecidesNothing, IsIdle}
use Rattle.desk_idle.specs.PrivateMarks.{IsKnown}
use Rattle.desk_idle.specs.declared.idle.Idle.{Idle}
use Rattle.desk_idle.proofs.Idling.{idle_by, named_by, one_idle, one_named}
use Rattle.desk_idle.proofs.Lists.{AllPairs-take}
use Rattle.desk_idle.proofs.idle.idle_by.Goals as goal
use Rattle.desk_idle.proofs.idle.idle_by.Goals.{then-is_idle+in_ok-push, else-is_idle}

pub reason_of-reason-requires-clause-row : goal.reason_of-reason-requires-clause-row
reason_of-reason-requires-clause-row c =
    let items = c.rows-row-items.result.now in
    let same : items ≡ rows_of c.args.index.now c.args.fs.0 = c.rows-row-items.ensures ∙ ap (λ (content : Content). rows_of content c.args.fs.0) c.policy.ensures in
    subst (λ (rows : List Row). Contains rows c.row-item.result) same (c.loop-row.row-index, c.loop-row-test.true, sym c.row-item.is)

pub reason_of-reason-requires-clause-mark : goal.reason_of-reason-requires-clause-mark
reason_of-reason-requires-clause-mark c =
    let content = c.args.index.now in
    let rows = rows_of content c.args.fs.0 in
    let items = c.rows-row-items.result.now in
    let same : items ≡ rows = c.rows-row-items.ensures ∙ ap (λ (content : Content). rows_of content c.args.fs.0) c.policy.ensures in
    let has : Contains rows c.row-item.result = subst (λ (rows : List Row). Contains rows c.row-item.result) same (c.loop-row.row-index, c.loop-row-test.true, sym c.row-item.is) in
    c.mark_of-mark.ensures rows c.requires.marks c.requires.ascending has

pub loop-row-preserved : goal.loop-row-preserved
loop-row-preserved c =
    let content = c.args.index.now in
    let fs = c.args.fs.0 in
    let rows = rows_of content fs in
    let items = c.rows-row-items.result.now in
    let i = c.loop-row.row-index in
    let row = c.row-item.result in
    let same : items ≡ rows = c.rows-row-items.ensures ∙ ap (λ (content : Content). rows_of content fs) c.policy.ensures in
    let has : Contains rows row = subst (λ (rows : List Row). Contains rows row) same (i, c.loop-row-test.true, sym c.row-item.is) in
    let ascending = c.requires.ascending in
    let known : IsKnown rows row c.mark_of-mark.result = c.mark_of-mark.ensures rows c.requires.marks ascending has in
    let next : take (i + 1) items ≡ take i items ++ row ∷ [] = take_more items i row c.loop-row-test.true ∙ ap (λ (r : Row). take i items ++ r ∷ []) (sym c.row-item.is) in
    let up : AreAscending (take i items ++ row ∷ []) = subst AreAscending next (AllPairs-take (λ (r : Row) (later : Row). r.entry.line < later.entry.line) items (i + 1) (subst AreAscending (sym same) ascending)) in
    elim c.if-is_idle.branch [
      | then-is_idle+in_ok-push w ↦
          let nothing = idle_by content fs ascending c.requires.lines row has c.mark_of-mark.result known (not-true _ (sym c.is_idle.ensures ∙ w.if-is_idle.true)) in
          let number = ap (λ (entry : Entry). entry.line) w.deref.ensures in
          let idle : Idle = record { line = w.deref.result.now.line; reason = w.reason_of-reason.result } in
          let is : IsIdle content fs (take i items ++ row ∷ []) idle = record {
            row = row;
            has = Contains-push (take i items) row;
            line = sym number;
            nothing = subst (λ line. DecidesNothing content fs line) (sym number) nothing;
            reason = w.reason_of-reason.ensures;
          } in
          rw (w.found-is, w.in_ok-push.ensures.items, next) (one_idle content fs (take i items) row c.loop-row.found.items c.loop-row.invariant up idle is (sym number))
      | else-is_idle w ↦
          rw (w.found-is, next) (one_named content fs (take i items) row c.loop-row.found.items c.loop-row.invariant (named_by content fs ascending c.requires.lines row has c.mark_of-mark.result known (not-false _ (sym c.is_idle.ensures ∙ w.if-is_idle.false))))
    ]

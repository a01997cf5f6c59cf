use Rattle.std.proofs.Common.{◌≡◌, ◌<◌, ◌+◌, ◌++◌, ◌∷◌, ◌∙◌, List, [], ap, subst, sym, take}
use Rattle.std.specs.List.{All, Contains}
use Rattle.std.proofs.lemmas.List.{take_all, take_more}
use Rattle.desk_exports.specs.declared.entry.Entry.{Entry}
use Rattle.desk_policy.specs.Policy.{AreAscending, Content, rows_of}
use Rattle.desk_policy.specs.declared.row.Row.{Row}
use Rattle.desk_server.proofs.Repeating.{AreRepeatedAmong, all_among, all_before, is_repeated, one_alone, one_repeated}
use Rattle.desk_server.proofs.repeated_client.repeated_among.Goals as goal
use Rattle.desk_server.proofs.repeated_client.repeated_among.Goals.{in-Some+in_ok-push, in_default}

pub loop-row-preserved : goal.loop-row-preserved
loop-row-preserved c =
    let fs = c.args.fs.0 in
    let rows = rows_of c.args.index.now fs in
    let items = c.rows-row-items.result.now in
    let i = c.loop-row.row-index in
    let row = c.row-item.result in
    let same : items ≡ rows = c.rows-row-items.ensures ∙ ap (λ (content : Content). rows_of content fs) c.policy.ensures in
    let has : Contains rows row = subst (λ (rs : List Row). Contains rs row) same (i, c.loop-row-test.true, sym c.row-item.is) in
    let next : take (i + 1) items ≡ take i items ++ row ∷ [] = take_more items i row c.loop-row-test.true ∙ ap (λ (r : Row). take i items ++ r ∷ []) (sym c.row-item.is) in
    let before : All (λ (one : Row). one.entry.line < row.entry.line) (take i items) = all_before items i row (subst AreAscending (sym same) c.requires) c.loop-row-test.true c.row-item.is in
    elim c.match-sharing_of.branch [
      | in-Some+in_ok-push w ↦
          let number = ap (λ (entry : Entry). entry.line) (sym w.deref.ensures) in
          rw (w.found-is, w.in_ok-push.ensures.items, next)
          (one_repeated rows row (take i items) c.loop-row.found.items c.loop-row.invariant before (record { line = w.deref.result.now.line; other = w.in-Some.sharing.other; address = w.in-Some.sharing.address })
          (is_repeated rows row has w.in-Some.sharing w.in-Some.ensures w.deref.result.now.line number) number)
      | in_default w ↦
          rw (w.found-is, next) (one_alone rows row (take i items) c.loop-row.found.items c.loop-row.invariant w.in_default.ensures)
    ]

pub returns : goal.returns
returns c =
    let fs = c.args.fs.0 in
    let rows = rows_of c.args.index.now fs in
    let items = c.rows-row-items.result.now in
    let same : items ≡ rows = c.rows-row-items.ensures ∙ ap (λ (content : Content). rows_of content fs) c.policy.ensures in
    all_among rows c.loop-row.found.items
    (subst (λ (done : List Row). AreRepeatedAmong rows done c.loop-row.found.items) (take_all c.loop-row.row-index items c.loop-row-test.false ∙ same) c.loop-row.invariant)

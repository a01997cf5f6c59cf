use Rattle.std.proofs.Common.{◌≡◌, ◌<◌, ◌+◌, ◌++◌, ◌∷◌, ◌∙◌, [], List, Some, None, ap, subst, sym, take}
use Rattle.std.proofs.lemmas.List.{take_all, take_more}
use Rattle.desk_policy.specs.Policy.{AreAscending, Content, rows_of}
use Rattle.desk_policy.specs.declared.row.Row.{Row}
use Rattle.desk_idle.proofs.Lists.{AllPairs-take}
use Rattle.desk_server.specs.PrivateWiderGrants.{AreWiderAmong, IsFinding}
use Rattle.desk_server.proofs.Finding.{all_findings, none_more, one_more}
use Rattle.desk_server.proofs.wider_grant.findings.Goals as goal
use Rattle.desk_server.proofs.wider_grant.findings.Goals.{in-Some+in_ok-push, in_default}

pub loop-row-preserved : goal.loop-row-preserved
loop-row-preserved c =
    let content = c.args.index.now in
    let fs = c.args.fs.0 in
    let rows = rows_of content fs in
    let items = c.rows-row-items.result.now in
    let i = c.loop-row.row-index in
    let row = c.row-item.result in
    let same : items ≡ rows = c.rows-row-items.ensures ∙ ap (λ (content : Content). rows_of content fs) c.policy.ensures in
    let next : take (i + 1) items ≡ take i items ++ row ∷ [] = take_more items i row c.loop-row-test.true ∙ ap (λ (r : Row). take i items ++ r ∷ []) (sym c.row-item.is) in
    let up : AreAscending (take i items ++ row ∷ []) = subst AreAscending next (AllPairs-take (λ (r : Row) (later : Row). r.entry.line < later.entry.line) items (i + 1) (subst AreAscending (sym same) c.requires.ascending)) in
    elim c.match-finding.branch [
      | in-Some+in_ok-push w ↦
          let is : IsFinding content fs row.entry.line (Some w.in-Some.one) = w.in-Some.ensures content fs c.requires.lines c.requires.known in
          rw (w.found-is, w.in_ok-push.ensures.items, next) (one_more content fs (take i items) row c.loop-row.found.items c.loop-row.invariant up w.in-Some.one is)
      | in_default w ↦
          let none : IsFinding content fs row.entry.line None = w.in_default.ensures content fs c.requires.lines c.requires.known in
          rw (w.found-is, next) (none_more content fs (take i items) row c.loop-row.found.items c.loop-row.invariant none)
    ]

pub returns : goal.returns
returns c =
    let content = c.args.index.now in
    let fs = c.args.fs.0 in
    let items = c.rows-row-items.result.now in
    let same : items ≡ rows_of content fs = c.rows-row-items.ensures ∙ ap (λ (content : Content). rows_of content fs) c.policy.ensures in
    all_findings content fs c.loop-row.found.items
    (subst (λ (rs : List Row). AreWiderAmong content fs rs c.loop-row.found.items) (take_all c.loop-row.row-index items c.loop-row-test.false ∙ same) c.loop-row.invariant)

use Rattle.std.proofs.Common.{◌≡◌, ◌∙◌, ◌+◌, ◌++◌, ◌∷◌, [], List, ap, arith, subst, sym, take}
use Rattle.std.specs.List.{All}
use Rattle.std.proofs.lemmas.List.{take_all, take_more}
use Rattle.std.proofs.lemmas.List.Elements.{All-push}
use Rattle.desk_policy.specs.declared.row.Row.{Row}
use Rattle.desk_server.specs.PrivateWiderGrants.{ListsOnly}
use Rattle.desk_server.proofs.same_listing.all_list_only.Goals as goal

pub loop-row-init : goal.loop-row-init
loop-row-init c = λ k d within. absurd (omega arith)

pub loop-row-preserved : goal.loop-row-preserved
loop-row-preserved c =
    let rows = c.args.rows.now in
    let dir = c.args.dir.now in
    let i = c.loop-row.row-index in
    let row = c.row-item.result in
    let next : take (i + 1) rows ≡ take i rows ++ row ∷ [] = take_more rows i row c.loop-row-test.true ∙ ap (λ (r : Row). take i rows ++ r ∷ []) (sym c.row-item.is) in
    subst (λ (rs : List Row). All (ListsOnly dir) rs) (sym next) (All-push (ListsOnly dir) (take i rows) row c.loop-row.invariant (c.lists_only.ensures c.if-not-lists_only.false))

pub returns : goal.returns
returns c = λ yes. subst (λ (rs : List Row). All (ListsOnly c.args.dir.now) rs) (take_all c.loop-row.row-index c.args.rows.now c.loop-row-test.false) c.loop-row.invariant

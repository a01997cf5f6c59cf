use Rattle.std.proofs.Common.{◌≡◌, ◌+◌, ◌++◌, ◌∷◌, ◌∙◌, [], ap, map, sym, take}
use Rattle.std.proofs.lemmas.List.{append_assoc, map-append, take_more}
use Rattle.desk_impact.specs.Writings.{Written, writing_value}
use Rattle.desk_impact.proofs.Same.{Path}
use Rattle.desk_impact.proofs.writings.push_row.Goals as goal

pub loop-dir-preserved : goal.loop-dir-preserved
loop-dir-preserved c =
    let dirs = c.as_slice-dir-items.result.now in
    let i = c.loop-dir.dir-index in
    let dir = c.dir-item.result in
    let one : Path → Written = λ d. record { dir = d; row = c.args.row.now } in
    let old = map writing_value c.args.writings.now.items in
    let next : map one (take (i + 1) dirs) ≡ map one (take i dirs) ++ one dir ∷ [] =
    ap (map one) (take_more dirs i dir c.loop-dir-test.true ∙ ap (λ (d : Path). take i dirs ++ d ∷ []) (sym c.dir-item.is)) ∙ map-append one (take i dirs) (dir ∷ []) in
    ap (map writing_value) c.in_ok-push.ensures.items ∙ map-append writing_value c.loop-dir.writings.items _
    ∙ ap (λ ws. ws ++ one dir ∷ []) c.loop-dir.invariant ∙ append_assoc old (map one (take i dirs)) (one dir ∷ []) ∙ ap (λ ws. old ++ ws) (sym next)

use Rattle.std.proofs.Common.{◌∙◌, List, All, ap, refl, subst}
use Rattle.std.proofs.lemmas.List.{take_all}
use Rattle.std.proofs.lemmas.List.Elements.{All-more}
use Rattle.desk_tables.specs.declared.filesystems.Mount.{Mount}
use Rattle.desk_policy.specs.Policy.{Content, rows_of}
use Rattle.desk_policy.specs.declared.row.Row.{Row}
use Rattle.desk_idle.specs.Laws.{WritesDirectories}
use Rattle.desk_idle.proofs.writing.write_directories.Goals as goal

pub loop-row-preserved : goal.loop-row-preserved
loop-row-preserved c =
    let writes : Row → Type 0 = WritesDirectories c.args.index.now.table c.args.fs.0 in
    let same = c.filesystems.ensures ∙ ap (λ (content : Content). content.table) c.policy-policy.ensures in
    let here : writes c.row-item.result = subst (λ (table : List Mount). WritesDirectories table c.args.fs.0 c.row-item.result) same (c.writes_directories.ensures.0 c.if-not-writes_directories.false) in
    All-more writes c.rows-row-items.result.now c.loop-row.row-index c.row-item.result c.loop-row-test.true c.loop-row.invariant (subst writes c.row-item.is here)

pub returns : goal.returns
returns c =
    let writes : Row → Type 0 = WritesDirectories c.args.index.now.table c.args.fs.0 in
    let items = c.rows-row-items.result.now in
    let same = c.rows-row-items.ensures ∙ ap (λ (content : Content). rows_of content c.args.fs.0) c.policy-policy.ensures in
    (λ _. subst (All writes) (take_all c.loop-row.row-index items c.loop-row-test.false ∙ same) c.loop-row.invariant, λ _. refl)

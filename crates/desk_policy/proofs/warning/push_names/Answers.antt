use Rattle.std.proofs.Common.{◌≡◌, ◌<◌, ◌++◌, ◌∙◌, [], ap₂, get_or, length, arith}
use Rattle.std.proofs.lemmas.List.{get_or_default}
use Rattle.desk_policy.specs.Warning.{name_kind, warning_if}
use Rattle.desk_policy.proofs.OneMoreWord.{one_more}
use Rattle.desk_policy.proofs.warning.push_names.Goals as goal

pub loop-index-preserved : goal.loop-index-preserved
loop-index-preserved c =
    let names = c.args.names.now in
    let index = c.loop-index.index in
    let name = c.get-name.result.now in
    let below : index < length names = omega (arith, c.loop-index-test.true, c.len-index-end.ensures) in
    let here : name ≡ get_or names index name = c.get-name.ensures ∙ get_or_default names index [] name below in
    c.in_ok-push_if.ensures
    ∙ ap₂ (λ before kind. before ++ warning_if c.args.file.now c.args.line index name kind) c.loop-index.invariant c.in_ok-kind.ensures
    ∙ one_more c.args.file.now c.args.line (λ name. name) (name_kind c.args.netgroups.now c.args.hosts.now) names index name c.args.warnings.now below here

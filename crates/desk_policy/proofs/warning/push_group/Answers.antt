use Rattle.std.proofs.Common.{◌≡◌, ◌<◌, ◌++◌, ◌∙◌, ap, ap₂, get_or, length, arith}
use Rattle.std.specs.Prelude.{codes}
use Rattle.desk_policy.specs.Warning.{member_kind, member_word, warning_if}
use Rattle.desk_policy.proofs.OneMoreWord.{one_more}
use Rattle.desk_policy.proofs.warning.push_group.Goals as goal

pub loop-index-preserved : goal.loop-index-preserved
loop-index-preserved c =
    let members = c.args.line.now.members in
    let index = c.loop-index.index in
    let same : c.as_slice-member-items.result.now ≡ members = c.as_slice-member-items.ensures in
    let member = c.member-item.result in
    let below : index < length members = omega (arith, c.loop-index-test.true, ap length same) in
    let here : member ≡ get_or members index member = c.member-item.is ∙ ap (λ items. get_or items index member) same in
    c.in_ok-push_if.ensures
    ∙ ap (λ word. c.loop-index.warnings ++ warning_if (codes "netgroup") c.args.line.now.line index word c.in_ok-kind.kind) c.member_word.ensures
    ∙ ap₂ (λ before kind. before ++ warning_if (codes "netgroup") c.args.line.now.line index (member_word member) kind) c.loop-index.invariant c.in_ok-kind.ensures
    ∙ one_more (codes "netgroup") c.args.line.now.line member_word (member_kind c.args.netgroups.now c.args.hosts.now) members index member c.args.warnings.now below here

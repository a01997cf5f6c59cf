use Rattle.std.proofs.Common.{◌≡◌, ◌<◌, ◌∙◌, ap, arith, length, subst, sym}
use Rattle.desk_policy.specs.Policy.{Content}
use Rattle.page_findings.proofs.Serving.{AreServerOfFirst, all_server, server_more, server_none}
use Rattle.page_findings.proofs.server.server_of_site.Goals as goal

pub server_findings-requires : goal.server_findings-requires
server_findings-requires c =
    let many : c.len-count.result ≡ length c.args.index.now.table = c.len-count.ensures ∙ ap length (c.filesystems.ensures ∙ ap (λ (content : Content). content.table) c.policy.ensures) in
    c.requires.each c.loop-place.place (omega (arith, c.loop-place-test.true))

pub loop-place-init : goal.loop-place-init
loop-place-init c = subst (AreServerOfFirst c.args.index.now 0) (sym c.new-found.ensures.items) (server_none c.args.index.now)

pub loop-place-preserved : goal.loop-place-preserved
loop-place-preserved c =
    server_more c.args.index.now c.loop-place.place c.loop-place.found.items c.push.new.self.items c.in_ok-own.own c.loop-place.invariant c.in_ok-push.ensures.items c.in_ok-own.ensures

pub returns : goal.returns
returns c =
    let many : c.len-count.result ≡ length c.args.index.now.table = c.len-count.ensures ∙ ap length (c.filesystems.ensures ∙ ap (λ (content : Content). content.table) c.policy.ensures) in
    all_server c.args.index.now c.loop-place.place c.loop-place.found.items c.loop-place.invariant
    (omega (arith, c.loop-place.auto.place-end, c.loop-place-test.false))

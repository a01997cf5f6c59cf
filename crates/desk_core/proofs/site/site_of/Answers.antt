use Rattle.std.proofs.Common.{◌≡◌, ◌∙◌, ap, sym, List, [], length, drop, arith}
use Rattle.std.proofs.lemmas.List.{drop_all}
use Rattle.desk_core.specs.Head.{newest_in}
use Rattle.desk_core.specs.Site.{site_in, revision_text}
use Rattle.desk_core.specs.PrivateSite.{with_text}
use Rattle.desk_core.specs.declared.head.Head.{Head}
use Rattle.desk_core.proofs.SiteLemmas.{drop_back, site_cons, site_none}
use Rattle.desk_core.proofs.site.site_of.Goals as goal

pub loop-left-init : goal.loop-left-init
loop-left-init c =
    let none : drop (length c.args.heads.now) c.args.heads.now ≡ [] = drop_all (length c.args.heads.now) c.args.heads.now (omega arith) in
    (omega arith, c.new-site.ensures ∙ site_none ∙ ap (λ (hs : List Head). site_in (newest_in hs)) (sym none))

pub loop-left-preserved : goal.loop-left-preserved
loop-left-preserved c =
    let h = c.index-heads-left.result in
    let back = drop_back c.args.heads.now c.loop-left.left h c.loop-left-test.true c.loop-left.invariant.0 c.index-heads-left.is in (
      omega (arith, c.loop-left.invariant.0),
      c.in_ok-take_head.ensures ∙ ap (λ t. with_text t h.file (revision_text h)) c.loop-left.invariant.1
          ∙ site_cons (drop c.loop-left.left c.args.heads.now) h ∙ ap (λ (hs : List Head). site_in (newest_in hs)) back,
    )

pub returns : goal.returns
returns c =
    let none : c.loop-left.left ≡ 0 = omega (arith, c.loop-left-test.false) in
    c.loop-left.invariant.1 ∙ ap (λ n. site_in (newest_in (drop n c.args.heads.now))) none

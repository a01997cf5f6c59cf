-- One more.
use Rattle.std.proofs.Common.{List, subst}
use Rattle.std.proofs.lemmas.List.{take_all}
use Rattle.desk_server.specs.declared.wider_grant.WiderGrant.{WiderGrant}
use Rattle.desk_server_notes.specs.PrivateNews.{AreKnown}
use Rattle.desk_server_notes.proofs.Knowing.{none_known, one_known}
use Rattle.desk_server_notes.proofs.news.known_of.Goals as goal

pub loop-one-init : goal.loop-one-init
loop-one-init c = none_known c.new-known.result c.new-known.ensures.empty

pub loop-one-preserved : goal.loop-one-preserved
loop-one-preserved c =
    one_known c.args.found.now c.loop-one.one-index c.one-item.result c.requires c.loop-one-test.true c.one-item.is
    c.number.result c.loop-one.known c.keep.new.known c.number.ensures c.in_ok-keep.ensures c.loop-one.invariant

pub returns : goal.returns
returns c = subst (λ (found : List WiderGrant). AreKnown found c.loop-one.known) (take_all c.loop-one.one-index c.args.found.now c.loop-one-test.false) c.loop-one.invariant

use Rattle.std.proofs.Common.{get_or, subst, sym, take, arith}
use Rattle.std.specs.Prelude.{All}
use Rattle.std.proofs.lemmas.List.{take_all, take_more}
use Rattle.std.proofs.lemmas.List.Elements.{All-push}
use Rattle.desk_index.specs.PrivateFilter.{Passes}
use Rattle.desk_index.proofs.filter.Filter.of_keys.Goals as goal

pub loop-key-preserved : goal.loop-key-preserved
loop-key-preserved c =
    let keys = c.args.keys.now in
    let i = c.loop-key.key-index in
    let pass = Passes c.set_bits.new.words.items in
    subst (All pass) (sym (take_more keys i 0 c.loop-key-test.true))
    (All-push pass (take i keys) (get_or keys i 0) (λ k d l. c.set_bits.ensures.keeps (get_or (take i keys) k d) (c.loop-key.invariant k d l)) c.set_bits.ensures.sets)

pub returns : goal.returns
returns c = subst (All (Passes c.loop-key.words.items)) (take_all c.loop-key.key-index c.args.keys.now (omega arith)) c.loop-key.invariant

use Rattle.std.proofs.Common.{◌≡◌, ◌∙◌, ◌+◌, ◌++◌, ap, arith, get_or, map}
use Rattle.std.specs.List.{flat_map}
use Rattle.std.proofs.lemmas.List.{get_or_default, take_all}
use Rattle.desk_text.specs.Address.{number_of}
use Rattle.desk_expect.specs.PrivateSpans.{start_if}
use Rattle.desk_expect.proofs.Written.{writes_next}
use Rattle.desk_expect.proofs.spans.push_all.Goals as goal

pub loop-number-preserved : goal.loop-number-preserved
loop-number-preserved c =
    let numbers = c.args.numbers.now in
    let i = c.loop-number.number-index in
    let old = map number_of c.loop-number.starts.items in
    let sum : c.from.result + c.from-in-loop-number.result ≡ get_or numbers i 0 + c.args.step = omega (arith, c.from.ensures, c.from-in-loop-number.ensures) in
    writes_next (λ number. start_if (number + c.args.step)) numbers i (get_or numbers i 0) c.loop-number-test.true (get_or_default numbers i 0 (get_or numbers i 0) c.loop-number-test.true)
    (map number_of c.args.starts.now.items) old (map number_of c.push_start.new.starts.items) c.loop-number.invariant (c.in_ok-push_start.ensures ∙ ap (λ n. old ++ start_if n) sum)

pub returns : goal.returns
returns c =
    c.loop-number.invariant
    ∙ ap (λ ones. map number_of c.args.starts.now.items ++ flat_map (λ number. start_if (number + c.args.step)) ones) (take_all c.loop-number.number-index c.args.numbers.now c.loop-number-test.false)

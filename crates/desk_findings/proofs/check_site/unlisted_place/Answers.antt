-- The first name that is not listed.
use Rattle.std.proofs.Common.{◌≡◌, ◌∙◌, ◌<◌, ℕ, List, ap, arith, get_or, is_none, length, rules, tests, true}
use Rattle.desk_tables.specs.Custodians.{digest_of}
use Rattle.desk_findings.proofs.FirstNames.{here}
use Rattle.desk_findings.proofs.check_site.unlisted_place.Goals as goal

pub returns-then-is_none-clause-place : goal.returns-then-is_none-clause-place
returns-then-is_none-clause-place c =
    let names = c.args.mount.now.custodians in
    let place = c.loop-place.place in
    let name = c.name-item.result in
    let same : c.as_slice-name-items.result.now ≡ names = c.as_slice-name-items.ensures in
    let below : place < length names = omega (arith, c.loop-place-test.true, ap length same) in
    let is : name ≡ get_or names place name = c.name-item.is ∙ ap (λ (items : List (List ℕ)). get_or items place name) same in
    let bad : is_none (digest_of c.args.custodians.now name) ≡ true = search (rules, tests) in
    here (λ one. is_none (digest_of c.args.custodians.now one)) names place name below is c.loop-place.invariant.each bad

-- One more spot is that of what is odd, on its line.
use Rattle.std.proofs.Common.{◌≡◌, ◌∙◌, ◌<◌, ◌+◌, ◌++◌, ◌∷◌, [], ℕ, List, ap, get_or, length, map, subst, sym, take}
use Rattle.std.proofs.lemmas.List.{map-append, take_more}
use Rattle.std.proofs.lemmas.List.Elements.{All-push}
use Rattle.std.specs.List.{All}
use Rattle.desk_text.specs.Lines.{LogicalLine}
use Rattle.desk_findings.specs.CheckOdd.{IsSpot, odd_at, odd_of_spot}
use Rattle.desk_findings.specs.PrivateCheckOdd.{AreWordsIn}
use Rattle.desk_findings.specs.declared.check_odd.Odd.{Odd}
use Rattle.desk_findings.specs.declared.check_odd.Spot.{Spot}
use Rattle.desk_findings.proofs.check_odd.spots_of.Goals as goal

one_more : (spots new : List Spot) (spot : Spot) (odds : List Odd) (i : ℕ) (odd : Odd) → i < length odds → odd ≡ get_or odds i odd → map odd_of_spot spots ≡ map odd_at (take i odds) → odd_of_spot spot ≡ odd_at odd
    → new ≡ spots ++ spot ∷ [] → map odd_of_spot new ≡ map odd_at (take (i + 1) odds)
one_more spots new spot odds i odd below is so_far one added =
    let longer : take (i + 1) odds ≡ take i odds ++ odd ∷ [] = take_more odds i odd below ∙ ap (λ (o : Odd). take i odds ++ o ∷ []) (sym is) in
    ap (map odd_of_spot) added ∙ map-append odd_of_spot spots (spot ∷ []) ∙ ap (λ l. l ++ odd_of_spot spot ∷ []) so_far ∙ ap (λ o. map odd_at (take i odds) ++ o ∷ []) one
    ∙ sym (map-append odd_at (take i odds) (odd ∷ [])) ∙ ap (map odd_at) (sym longer)

pub loop-odd-preserved : goal.loop-odd-preserved
loop-odd-preserved c =
    let lines = c.as_slice.ensures.value in
    let spot = c.in_ok-spot_of.field-0 in
    record {
      same = one_more c.loop-odd.spots.items c.push.new.self.items spot c.args.odds.now c.loop-odd.odd-index c.odd-item.result c.loop-odd-test.true c.odd-item.is c.loop-odd.invariant.same c.in_ok-spot_of.ensures.same
          c.in_ok-push.ensures.items;
      places = subst (λ (spots : List Spot). All (IsSpot c.args.text.now) spots) (sym c.in_ok-push.ensures.items)
          (All-push (IsSpot c.args.text.now) c.loop-odd.spots.items spot c.loop-odd.invariant.places (c.in_ok-spot_of.ensures.place c.args.text.now (lines ∙ c.in_ok-lines.ensures.lines)));
      last = subst (λ (these : List LogicalLine). AreWordsIn these c.spot_of.new.last) lines c.in_ok-spot_of.ensures.last;
    }

pub spot_of-requires-clause-last : goal.spot_of-requires-clause-last
spot_of-requires-clause-last c = subst (λ (these : List LogicalLine). AreWordsIn these c.loop-odd.last) (sym c.as_slice.ensures.value) c.loop-odd.invariant.last

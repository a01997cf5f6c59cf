-- What is odd is sorted, and told at its places.
use Rattle.std.proofs.Common.{◌≡◌, ◌<◌, ◌++◌, ◌∷◌, ◌∙◌, [], List, ap, arith, length, map, refl}
use Rattle.std.proofs.lemmas.List.{get_or-map, length-map}
use Rattle.std.proofs.lemmas.List.Sorted.{IsPermutation-map}
use Rattle.std.specs.List.{All}
use Rattle.std.specs.List.Sorted.{IsNonDecreasingBy, IsPermutation}
use Rattle.desk_findings.specs.CheckFaults.{Adds}
use Rattle.desk_findings.specs.CheckOdd.{IsSpot, OddLine, TellInOrder, odd_at, odd_of_spot, tell_spot}
use Rattle.desk_findings.specs.Told.{told}
use Rattle.desk_findings.specs.declared.check_faults.Source.{Source}
use Rattle.desk_findings.specs.declared.check_odd.Odd.{Odd}
use Rattle.desk_findings.specs.declared.check_odd.Spot.{Spot}
use Rattle.desk_findings.specs.declared.finding.Finding.{Finding}
use Rattle.desk_findings.proofs.check_odd.push_in_order.Goals as goal

lines_in_order : (odds : List Odd) → IsNonDecreasingBy (λ (odd : Odd). odd.line) odds → IsNonDecreasingBy (λ (odd : OddLine). odd.line) (map odd_at odds)
lines_in_order [] sorted i j d upward below = absurd (omega (arith, below))
lines_in_order (first ∷ odds) sorted i j d upward below =
    let inside : j < length (first ∷ odds) = simp length-map at below in
    rw (get_or-map odd_at (first ∷ odds) i first d (omega arith), get_or-map odd_at (first ∷ odds) j first d inside) (sorted i j first upward inside)

all_told : (source : Source) (odds sorted : List Odd) (spots : List Spot) (old new : List Finding)
    → IsPermutation odds sorted → IsNonDecreasingBy (λ (odd : Odd). odd.line) sorted → map odd_of_spot spots ≡ map odd_at sorted → All (IsSpot source.text.now) spots
    → map told new ≡ map told old ++ map (tell_spot source) spots → Adds (TellInOrder source (map odd_at odds)) old new
all_told source odds sorted spots old new permuted ordered same places added = record {
  added = map (tell_spot source) spots;
  tell = record {
    odds = map odd_at sorted;
    same = IsPermutation-map odd_at odds sorted permuted;
    order = lines_in_order sorted ordered;
    tell = record { placed = spots; same = same; places = places; are = refl };
  };
  are = added;
}

pub returns : goal.returns
returns c =
    all_told c.args.source c.args.odds.items c.in_ok-odds.odds.items c.in_ok-spots.spots.items c.args.found.now c.push_spots.new.found
    c.in_ok-odds.ensures.same c.in_ok-odds.ensures.order
    (c.in_ok-spots.ensures.same ∙ ap (map odd_at) c.as_slice.ensures.value) c.in_ok-spots.ensures.places
    (c.in_ok-push_spots.ensures ∙ ap (λ spots. map told c.args.found.now ++ map (tell_spot c.args.source) spots) c.as_slice-2.ensures.value)

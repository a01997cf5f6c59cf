use Rattle.std.proofs.Common.{◌≡◌, ◌-◌, ◌≤◌, ◌∙◌, ap, arith, drop, length, sym, take}
use Rattle.std.proofs.lemmas.List.{drop_all, length-drop, take_all}
use Rattle.page_places.specs.ListedGroups.{most_listed}
use Rattle.page_places.proofs.unlisted_places.behind_listed.Goals as goal

pub returns-then-groups-le-MOST_LISTED : goal.returns-then-groups-le-MOST_LISTED
returns-then-groups-le-MOST_LISTED c =
    let groups = c.args.groups.now in
    let few : length groups ≤ 100 = omega (arith, c.if-groups-le-MOST_LISTED.true) in
    let none : length groups - length groups ≡ 0 = omega arith in
    ap (λ n. take n (drop (length groups) groups)) none ∙ sym (drop_all most_listed groups few)

pub returns-else-groups-le-MOST_LISTED : goal.returns-else-groups-le-MOST_LISTED
returns-else-groups-le-MOST_LISTED c =
    let groups = c.args.groups.now in
    take_all (length groups - 100) (drop 100 groups) (omega (arith, length-drop 100 groups))

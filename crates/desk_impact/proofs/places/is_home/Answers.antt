use Rattle.std.proofs.Common.{◌≡◌, ◌&&◌, ◌∙◌, ◌||◌, ap, not, rules, sym, Bor, List, ℕ}
use borrow.Author.Tests.{tests}
use Rattle.std.specs.List.{list_all}
use Rattle.std.proofs.lemmas.Iterator.{YieldsList-from_slice}
use Rattle.std.proofs.lemmas.Iterator.Search.{all_from_yields_List}
use Rattle.std.proofs.lemmas.List.Folds.{list_all-map}
use Rattle.desk_text.specs.Path.{is_under}
use Rattle.desk_impact.specs.Places.{paths_in}
use Rattle.desk_impact.proofs.places.is_home.Goals as goal

pub returns-then-is_under : goal.returns-then-is_under
returns-then-is_under c =
    let path = c.args.path.now in
    let mount = c.args.mount.now in
    let each : c.all.result ≡ list_all (λ (other : Bor (List (List ℕ))). not (is_under path other.now) || is_under mount other.now) c.args.mounts.now =
    all_from_yields_List (λ (other : Bor (List (List ℕ))). not (is_under path other.now) || is_under mount other.now) _ _ _ c.all.ensures.ran (YieldsList-from_slice c.args.mounts.now cc) (λ x b q k. search (rules, tests)) in
    each ∙ sym (list_all-map (λ other. not (is_under path other) || is_under mount other) (λ (p : Bor (List (List ℕ))). p.now) c.args.mounts.now)
    ∙ ap (λ b. b && list_all (λ other. not (is_under path other) || is_under mount other) (paths_in c.args.mounts.now)) (sym (sym c.is_under.ensures ∙ c.if-is_under.true))

use Rattle.std.proofs.Common.{◌≤◌, ◌∙◌, List, ap, arith, length, map, subst, sym}
use Rattle.std.specs.Prelude.{Contains}
use Rattle.std.proofs.lemmas.List.{get_or-map, length-map, nil_from_length}
use Rattle.std.proofs.lemmas.Result.{IfOk-weaker}
use Rattle.desk_who.specs.Who.{IsWho, range_value}
use Rattle.desk_impact.specs.Sections.{PlaceBreaches, section_value}
use Rattle.page_data.specs.Classes.{AreClassesIn, class_run}
use Rattle.page_data.specs.PrivateSystems.{IsOwnOf}
use Rattle.page_data.proofs.Standing.{has_section, home_path}
use Rattle.page_data.proofs.systems.classes_by_first.Goals as goal

pub returns-in-Some : goal.returns-in-Some
returns-in-Some c =
    let content = c.args.policy.now in
    let fs = c.args.fs.0 in
    let sections = c.args.sections.now in
    let first = c.in-Some.first.now in
    let there = c.in-Some.ensures.item in
    let few = length-map sections section_value in
    IfOk-weaker c.classes_in.result _ (λ runs. (all : List PlaceBreaches) → IsOwnOf content fs all (map section_value sections) → AreClassesIn content fs (map class_run runs.items))
    (λ runs made all own.
    let listed : Contains (map section_value sections) (section_value first) =
    (0, (let lt = there.3.0 in omega arith), get_or-map section_value sections 0 first (section_value first) there.3.0 ∙ sym (ap section_value there.1)) in
    let home = home_path c.places_tell_scope.ensures content all own.are_all fs (section_value first) (subst (λ some. Contains some (section_value first)) own.are listed) in
    made home.path home.here (subst (λ ranges. IsWho content home.path (map range_value ranges)) (sym c.as_slice.ensures) home.who))
    c.classes_in.ensures

pub returns-in-None : goal.returns-in-None
returns-in-None c =
    let content = c.args.policy.now in
    let fs = c.args.fs.0 in
    let sections = c.args.sections.now in
    let past : length sections ≤ 0 = (rw c.in-None.is at c.first.ensures.item).3 in
    IfOk-weaker c.denied_to_all.result _ (λ runs. (all : List PlaceBreaches) → IsOwnOf content fs all (map section_value sections) → AreClassesIn content fs (map class_run runs.items))
    (λ runs made all own.
    absurd (has_section c.places_tell_scope.ensures content all own.are_all fs own.ascending own.listed (sym own.are ∙ nil_from_length (map section_value sections) (let few = length-map sections section_value in omega arith))))
    c.denied_to_all.ensures

use Rattle.std.proofs.Common.{◌≡◌, ◌<◌, ◌≤◌, ◌∙◌, ℕ, ap, arith, get_or, length, map, subst, sym, take}
use Rattle.std.proofs.lemmas.List.{get_or-map, length-map, take_all}
use Rattle.desk_who.specs.Runs.{AreRuns}
use Rattle.page_data.specs.Classes.{class_run}
use Rattle.page_data.specs.PrivateClasses.{most_among}
use Rattle.page_data.specs.Systems.{SystemValue, system_value}
use Rattle.page_data.specs.declared.class.Class.{Class}
use Rattle.page_data.specs.declared.class.Class.TheVariants.{Denied}
use Rattle.page_data.proofs.Mostly.{one_more, zip_at, zip_long}
use Rattle.page_data.proofs.SiteMost.{classes_of_all}
use Rattle.page_data.proofs.systems.classes_of_site.Goals as goal

pub loop-system-init : goal.loop-system-init
loop-system-init c = λ each zip. c.in_ok-most.ensures

pub loop-system-preserved : goal.loop-system-preserved
loop-system-preserved c = λ each zip.
    let i = c.loop-system.system-index in
    let systems = c.args.systems.now in
    let few = length-map systems system_value in
    let same = zip_long (λ class_at (system : SystemValue). AreRuns class_at system.classes) each (map system_value systems) zip in
    let within : i < length each = (let lt = c.loop-system-test.true in omega arith) in
    let nobody : ℕ → Class = λ address. Denied in
    let system = c.system-item.result in
    let own = zip_at (λ class_at (one : SystemValue). AreRuns class_at one.classes) each (map system_value systems) i nobody (system_value system) zip within in
    let is : get_or (map system_value systems) i (system_value system) ≡ system_value system = get_or-map system_value systems i system (system_value system) c.loop-system-test.true ∙ ap system_value (sym c.system-item.is) in
    let runs : AreRuns (get_or each i nobody) (map class_run c.as_slice.result.now) =
    subst (λ rs. AreRuns (get_or each i nobody) (map class_run rs)) (sym c.as_slice.ensures) (subst (λ (one : SystemValue). AreRuns (get_or each i nobody) one.classes) is own) in
    one_more each i nobody (map class_run c.in_ok-most-2.most.items) within
    (c.in_ok-most-2.ensures (get_or each i nobody) (most_among (take i each)) runs (subst (λ rs. AreRuns (most_among (take i each)) (map class_run rs)) (sym c.as_slice-in-loop-system.ensures.value) (c.loop-system.invariant each zip)))

pub returns : goal.returns
returns c = λ content are.
    let systems = map system_value c.args.systems.now in
    let few = length-map c.args.systems.now system_value in
    classes_of_all content systems (map class_run c.loop-system.most.items) are
    (λ each zip.
    let same = zip_long (λ class_at (system : SystemValue). AreRuns class_at system.classes) each systems zip in
    let over : length each ≤ c.loop-system.system-index = (let le = c.loop-system-test.false in omega arith) in
    subst (λ some. AreRuns (most_among some) (map class_run c.loop-system.most.items)) (take_all c.loop-system.system-index each over) (c.loop-system.invariant each zip))

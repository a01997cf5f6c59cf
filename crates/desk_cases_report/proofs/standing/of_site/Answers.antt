use Rattle.std.proofs.Common.{◌≡◌, ◌<◌, ◌∙◌, List, ap, get_or, length, subst}
use Rattle.page_data.specs.declared.systems.FileSystemReport.{FileSystemReport}
use Rattle.desk_cases_report.proofs.ToldOf.{found, listed}
use Rattle.desk_cases_report.proofs.standing.of_site.Goals as goal

pub of_system-requires-clause-sound : goal.of_system-requires-clause-sound
of_system-requires-clause-sound c =
    let systems : List FileSystemReport = c.in_ok-systems.systems.items in
    let system = c.in-Some.system.now in
    let there = c.in-Some.ensures.lookup in
    let within : c.args.fs < length systems = subst (λ (some : List FileSystemReport). c.args.fs < length some) c.as_slice.ensures.value there.3.0 in
    let is : system ≡ get_or systems c.args.fs system = there.1 ∙ ap (λ (some : List FileSystemReport). get_or some c.args.fs system) c.as_slice.ensures.value in
    c.requires.sound.each c.args.fs (listed c.args.index.now systems c.in_ok-systems.ensures c.args.fs system within is)

pub of_system-requires-clause-grants : goal.of_system-requires-clause-grants
of_system-requires-clause-grants c =
    let systems : List FileSystemReport = c.in_ok-systems.systems.items in
    let system = c.in-Some.system.now in
    let there = c.in-Some.ensures.lookup in
    let within : c.args.fs < length systems = subst (λ (some : List FileSystemReport). c.args.fs < length some) c.as_slice.ensures.value there.3.0 in
    let is : system ≡ get_or systems c.args.fs system = there.1 ∙ ap (λ (some : List FileSystemReport). get_or some c.args.fs system) c.as_slice.ensures.value in
    (found c.args.index.now systems c.in_ok-systems.ensures c.args.fs system within is).grants

pub of_system-requires-clause-sections : goal.of_system-requires-clause-sections
of_system-requires-clause-sections c =
    let systems : List FileSystemReport = c.in_ok-systems.systems.items in
    let system = c.in-Some.system.now in
    let there = c.in-Some.ensures.lookup in
    let within : c.args.fs < length systems = subst (λ (some : List FileSystemReport). c.args.fs < length some) c.as_slice.ensures.value there.3.0 in
    let is : system ≡ get_or systems c.args.fs system = there.1 ∙ ap (λ (some : List FileSystemReport). get_or some c.args.fs system) c.as_slice.ensures.value in
    record {
      all = c.in_ok-systems.ensures.all;
      are_all = c.in_ok-systems.ensures.are_all;
      are = (found c.args.index.now systems c.in_ok-systems.ensures c.args.fs system within is).sections;
    }

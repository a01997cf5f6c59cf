use Rattle.std.proofs.Common.{◌<◌, ap, arith, length, map}
use Rattle.std.proofs.lemmas.List.{length-map, take-map}
use Rattle.std.proofs.lemmas.List.Elements.{All-from_recursion}
use Rattle.desk_text.specs.Address.{number_of}
use Rattle.desk_who.specs.Runs.{HasValue, Run}
use Rattle.page_data.specs.Classes.{class_run}
use Rattle.page_data.specs.PrivateCounts.{shared_by_class}
use Rattle.page_data.specs.declared.class.Class.{Class}
use Rattle.page_data.proofs.Counted.{fits_so_far}
use Rattle.page_data.proofs.counts.count_of.Goals as goal

pub overflow_add-count : goal.overflow_add-count
overflow_add-count c =
    let runs = c.args.runs.now in
    let given = map class_run runs in
    let i = c.loop-run.run-index in
    let few = length-map runs class_run in
    let within : i < length given = (let lt = c.loop-run-test.true in omega arith) in
    let d : Run Class = record { first = 0; last = 0; value = c.args.class } in
    let so_far = fits_so_far c.args.class (number_of c.args.first) (number_of c.args.last) c.requires.value_at given c.requires.are i d within in
    let own = All-from_recursion (HasValue c.requires.value_at) given c.requires.are.values i d within in
    let proper = own.proper in
    let fits = own.addresses in
    let same = ap (shared_by_class c.args.class (number_of c.args.first) (number_of c.args.last)) (take-map class_run i runs) in
    let last = c.number-last.type_inv in
    omega (arith, c.loop-run.invariant, c.shared-count.ensures, c.number-last.ensures)

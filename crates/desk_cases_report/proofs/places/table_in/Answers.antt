use Rattle.std.proofs.Common.{◌∙◌, ap, arith, subst, sym}
use Rattle.std.proofs.lemmas.List.{get_or-map, length-map}
use Rattle.page_data.specs.Groups.{group_value}
use Rattle.page_data.specs.Tables.{CanBeTabled}
use Rattle.desk_cases_report.proofs.places.table_in.Goals as goal

pub say_table-requires : goal.say_table-requires
say_table-requires c =
    let groups = c.args.groups.now in
    let i = c.loop-group.group-index in
    let group = c.group-item.result in
    let below = c.loop-group-test.true in
    subst CanBeTabled (get_or-map group_value groups i group (group_value group) below ∙ ap group_value (sym c.group-item.is))
    (c.requires i (group_value group) (let long = length-map groups group_value in omega arith))

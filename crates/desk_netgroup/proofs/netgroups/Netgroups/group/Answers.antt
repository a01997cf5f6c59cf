use Rattle.std.proofs.Common.{◌∙◌, List, ap}
use Rattle.std.specs.Prelude.{option_and_then, slice_get}
use Rattle.std.specs.Option.{option_copied}
use Rattle.std.specs.Str.{bytes_eq}
use Rattle.desk_netgroup.specs.declared.group_line.GroupLine.{GroupLine}
use Rattle.desk_netgroup.specs.GroupLine.{group_named}
use Rattle.desk_netgroup.proofs.Places.{found_there}
use Rattle.desk_netgroup.proofs.netgroups.Netgroups.group.Goals as goal

pub returns : goal.returns
returns c =
    let rows = c.self.inside.lines in
    c.line_at.ensures
    ∙ ap (λ (table : List GroupLine). option_and_then (slice_get table) (option_copied c.get.result)) c.as_slice.ensures
    ∙ ap (option_and_then (slice_get rows)) (c.get.ensures.value ∙ c.self.invariant c.args.name.now)
    ∙ found_there (λ row. bytes_eq c.args.name.now row.name) rows
    ∙ ap (λ (table : List GroupLine). group_named table c.args.name.now) c.self.view_is

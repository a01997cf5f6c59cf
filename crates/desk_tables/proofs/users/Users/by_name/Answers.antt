use Rattle.std.proofs.Common.{◌∙◌, List, ap}
use Rattle.std.specs.Prelude.{option_and_then, slice_get}
use Rattle.std.specs.Option.{option_copied}
use Rattle.std.specs.Str.{bytes_eq}
use Rattle.desk_tables.specs.Users.{user_of_name}
use Rattle.desk_tables.specs.declared.users.User.{User}
use Rattle.desk_tables.proofs.IndexLemmas.{found_there}
use Rattle.desk_tables.proofs.users.Users.by_name.Goals as goal

pub returns : goal.returns
returns c =
    let rows = c.self.inside.rows in
    c.row_at.ensures
    ∙ ap (λ (table : List User). option_and_then (slice_get table) (option_copied c.get.result)) c.as_slice.ensures
    ∙ ap (option_and_then (slice_get rows)) (c.get.ensures.value ∙ c.self.invariant.0 c.args.name.now)
    ∙ found_there (λ row. bytes_eq c.args.name.now row.name) rows
    ∙ ap (λ (table : List User). user_of_name table c.args.name.now) c.self.view_is

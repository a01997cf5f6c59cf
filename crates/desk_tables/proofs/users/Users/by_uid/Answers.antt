use Rattle.std.proofs.Common.{◌∙◌, List, ap}
use Rattle.std.specs.Prelude.{option_and_then, slice_get}
use Rattle.std.specs.Bool.{◌==◌}
use Rattle.std.specs.Option.{option_copied}
use Rattle.desk_tables.specs.Users.{user_of_uid}
use Rattle.desk_tables.specs.declared.users.User.{User}
use Rattle.desk_tables.proofs.IndexLemmas.{found_there}
use Rattle.desk_tables.proofs.users.Users.by_uid.Goals as goal

pub returns : goal.returns
returns c =
    let rows = c.self.inside.rows in
    c.row_at.ensures
    ∙ ap (λ (table : List User). option_and_then (slice_get table) (option_copied c.get.result)) c.as_slice.ensures
    ∙ ap (option_and_then (slice_get rows)) (c.get.ensures.value ∙ c.self.invariant.1 c.args.uid)
    ∙ found_there (λ row. row.uid == c.args.uid) rows
    ∙ ap (λ (table : List User). user_of_uid table c.args.uid) c.self.view_is

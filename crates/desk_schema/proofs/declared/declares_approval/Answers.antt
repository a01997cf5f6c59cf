use Rattle.std.proofs.Common.{◌≡◌, ◌∙◌, sym, ap, Some, codes}
use Rattle.sqlite.specs.Table.{Table}
use Rattle.desk_schema.specs.Tables.{approval_table, table_in}
use Rattle.desk_schema.proofs.declared.declares_approval.Goals as goal

pub returns-in-Some : goal.returns-in-Some
returns-in-Some c =
    let table : Table = c.in-Some.table.now in
    let found : table_in c.args.schema.now (codes "approval") ≡ Some table = sym (ap (table_in c.args.schema.now) c.as_slice.ensures) ∙ sym c.in-Some.ensures in (
      λ yes. (table.tree, found ∙ ap Some (c.is_approval.ensures.0 yes)),
      λ h.
          let both : Some table ≡ Some (approval_table h.0) = sym found ∙ h.1 in
          let same : table ≡ approval_table h.0 = cc in
          c.is_approval.ensures.1 (same ∙ ap approval_table (sym (ap (λ (t : Table). t.tree) same))),
    )

use Rattle.std.proofs.Common.{◌≡◌, ◌∙◌, sym, ap, Some, codes}
use Rattle.sqlite.specs.Table.{Table}
use Rattle.desk_schema.specs.Tables.{meta_table, table_in}
use Rattle.desk_schema.proofs.declared.declares_meta.Goals as goal

pub returns-in-Some : goal.returns-in-Some
returns-in-Some c =
    let table : Table = c.in-Some.table.now in
    let found : table_in c.args.schema.now (codes "meta") ≡ Some table = sym (ap (table_in c.args.schema.now) c.as_slice.ensures) ∙ sym c.in-Some.ensures in (
      λ yes. (table.tree, found ∙ ap Some (c.is_meta.ensures.0 yes)),
      λ h.
          let both : Some table ≡ Some (meta_table h.0) = sym found ∙ h.1 in
          let same : table ≡ meta_table h.0 = cc in
          c.is_meta.ensures.1 (same ∙ ap meta_table (sym (ap (λ (t : Table). t.tree) same))),
    )

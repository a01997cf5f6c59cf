use Rattle.std.proofs.Common.{◌≡◌, ◌∙◌, sym, ap, Some, codes}
use Rattle.sqlite.specs.Table.{Table}
use Rattle.desk_schema.specs.Tables.{proposal_table, table_in}
use Rattle.desk_schema.proofs.declared.declares_proposal.Goals as goal

pub returns-in-Some : goal.returns-in-Some
returns-in-Some c =
    let table : Table = c.in-Some.table.now in
    let found : table_in c.args.schema.now (codes "proposal") ≡ Some table = sym (ap (table_in c.args.schema.now) c.as_slice.ensures) ∙ sym c.in-Some.ensures in (
      λ yes. (table.tree, found ∙ ap Some (c.is_proposal.ensures.0 yes)),
      λ h.
          let both : Some table ≡ Some (proposal_table h.0) = sym found ∙ h.1 in
          let same : table ≡ proposal_table h.0 = cc in
          c.is_proposal.ensures.1 (same ∙ ap proposal_table (sym (ap (λ (t : Table). t.tree) same))),
    )

use Rattle.std.proofs.Common.{◌≡◌, ◌++◌, ◌∙◌, List, ap, length, map, sym}
use Rattle.std.specs.String.{string_bytes}
use Rattle.std.proofs.lemmas.Result.{on_ok_weaker}
use Rattle.desk_tables.specs.declared.filesystems.Mount.{Mount}
use Rattle.page_findings.proofs.Mapped.{map_twice}
use Rattle.page_findings.specs.Flavours.{use_value}
use Rattle.page_findings.specs.declared.flavours.FlavourUse.{FlavourUse}
use Rattle.page_lists.specs.declared.mentions.Mention.{Mention}
use Rattle.page_summary.specs.FlavoursTable.{flavours_table}
use Rattle.page_summary.specs.declared.flavours.FlavoursRow.{FlavoursRow}
use Rattle.page_summary.specs.FlavoursRows.{all_mentioned, row_of, row_value, systems_of}
use Rattle.page_summary.proofs.Valued.{as_many}
use Rattle.page_summary.proofs.flavours_rows.push_flavours_of.Goals as goal

-- the file systems are those of the table
named : (table given : List Mount) (uses lent : List FlavourUse) (mentions : List (List Mention)) → given ≡ table → lent ≡ uses
    → map all_mentioned mentions ≡ map (systems_of given) (map use_value lent) → map all_mentioned mentions ≡ map (systems_of table) (map use_value uses)
named table given uses lent mentions same all are =
    are ∙ ap (λ t. map (systems_of t) (map use_value lent)) same ∙ ap (λ us. map (systems_of table) (map use_value us)) all

pub flavours_rows-requires : goal.flavours_rows-requires
flavours_rows-requires c =
    let table = c.args.policy.now.table in
    let uses = c.in_ok-uses.uses.items in
    let mentions = c.in_ok-mentions.mentions.items in
    ap length c.as_slice-3.ensures.value
    ∙ as_many all_mentioned (λ (one : FlavourUse). systems_of table (use_value one)) mentions uses
    (named table c.filesystems.result.now uses c.as_slice.result.now mentions c.filesystems.ensures c.as_slice.ensures.value c.in_ok-mentions.ensures
    ∙ map_twice use_value (systems_of table) uses)
    ∙ sym (ap length c.as_slice-2.ensures.value)

pub returns : goal.returns
returns c =
    let table = c.args.policy.now.table in
    let uses = c.in_ok-uses.uses.items in
    let mentions = c.in_ok-mentions.mentions.items in
    let rows = c.in_ok-rows.rows.items in
    let are_named = named table c.filesystems.result.now uses c.as_slice.result.now mentions c.filesystems.ensures c.as_slice.ensures.value c.in_ok-mentions.ensures in
    let given : map all_mentioned c.as_slice-3.result.now ≡ map (systems_of table) (map use_value c.as_slice-2.result.now) =
    ap (map all_mentioned) c.as_slice-3.ensures.value ∙ are_named ∙ ap (λ us. map (systems_of table) (map use_value us)) (sym c.as_slice-2.ensures.value) in
    let told : map row_value rows ≡ map (row_of table) (map use_value uses) =
    c.in_ok-rows.ensures table given ∙ ap (λ us. map (row_of table) (map use_value us)) c.as_slice-2.ensures.value in
    on_ok_weaker c.push_flavours_table.result
    (λ ended. record {
      made = rows;
      are = record { uses = map use_value uses; are = c.in_ok-uses.ensures; told = told };
      added = ended ∙ ap (λ (rs : List FlavoursRow). string_bytes c.args.page.now ++ flavours_table rs) c.as_slice-4.ensures.value;
    })
    c.push_flavours_table.ensures

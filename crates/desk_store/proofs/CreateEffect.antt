-- What the CREATE of a table does to the rows, where no table waits for `sqlite_sequence`.
use Rattle.std.proofs.Common.{◌≡◌, Ok, None, ℕ, List, [], false, ap, sym, subst, ◌∙◌, Option}
use Rattle.sqlite.specs.Table.{Table}
use Rattle.sqlite.specs.Effect.{Database}
use Rattle.sqlite.specs.Does.{Tally, Does, lacks_sequence}
use Rattle.sqlite.specs.Change.{created}
use Rattle.sqlite.specs.declared.run.Mode.{Mode}
use Rattle.sqlite.specs.Command.TheVariants.{CreateTable}
use Rattle.sqlite_catalog.specs.Calls.{CreatesTable}
use Rattle.sqlite_resolve.specs.Compile.{table_defined_by}
use Rattle.desk_store.proofs.InsertEffect.{went, same_value}

pub does_create : (limit : Option ℕ) (mode : Mode) (text : List ℕ) (table : Table) (db after : Database) (tally : Tally) → table_defined_by text ≡ Ok table
    → lacks_sequence (created db.schema table) ≡ false
    → Does limit mode [] db text None CreateTable (Ok (tally, after)) → (after.schema ≡ created db.schema table) × CreatesTable db.schema text db.trees after.schema after.trees
does_create limit mode text table db after tally defined whole h =
    let all = went h in
    let first = went all.1 in
    let made = first.1 in
    let both : Ok made.table ≡ Ok table = sym made.defined ∙ defined in
    let same : made.table ≡ table = cc in
    let schema : first.0.schema ≡ created db.schema table = made.is ∙ ap (created db.schema) same in
    let plain : lacks_sequence first.0.schema ≡ false = ap lacks_sequence schema ∙ whole in
    let now : after ≡ first.0 = ap (λ (p : Tally × Database). p.1) (same_value all.2) ∙ same_value (rw plain at first.2) in
    (ap (λ (d : Database). d.schema) now ∙ schema, subst (λ (d : Database). CreatesTable db.schema text db.trees d.schema d.trees) (sym now) made)

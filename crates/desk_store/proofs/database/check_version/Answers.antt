use Rattle.std.proofs.Common.{◌≡◌, arith, refl, sym, subst, [], ◌∷◌, codes, pos, IsPermutation}
use Rattle.sqlite.specs.Held.{state}
use Rattle.sqlite.specs.declared.types.Value.TheVariants.{Int}
use Rattle.desk_store.specs.Open.{version_number}
use Rattle.desk_store.specs.Tables.{rows_of}
use Rattle.desk_store.proofs.RowsRead.{on_ok, one_before, one_read}
use Rattle.desk_store.specs.Error.{Query}
use Rattle.desk_store.specs.Tables.{select_version}
use Rattle.desk_store.specs.declared.error.DeskError.TheVariants as error
use Rattle.desk_store.specs.declared.error.Task.TheVariants as tasks
use Rattle.desk_store.proofs.OpeningSaid.{memory_said, not_memory, schema_told, told_query}
use Rattle.desk_store.proofs.database.check_version.Goals as goal

pub returns-in-Ok-clause-version : goal.returns-in-Ok-clause-version
returns-in-Ok-clause-version g c clean =
    let before = rows_of (state g.S.Store c.args.conn.now).committed (codes "meta") in
    on_ok c.accept_version.result (one_before before c.as_slice.result.now (subst (IsPermutation before) (sym c.as_slice.ensures.value) (c.in-Ok.ensures.rows clean)) (Int (pos (version_number c.args.version)) ∷ []))
    c.accept_version.ensures.version

pub returns-in-Ok-clause-foreign : goal.returns-in-Ok-clause-foreign
returns-in-Ok-clause-foreign g c clean schema is =
    let before = rows_of (state g.S.Store c.args.conn.now).committed (codes "meta") in
    c.accept_version.ensures.foreign schema (one_read before c.as_slice.result.now (subst (IsPermutation before) (sym c.as_slice.ensures.value) (c.in-Ok.ensures.rows clean)) (Int (pos (version_number c.args.version)) ∷ []) is)

pub returns-in-Ok-clause-said : goal.returns-in-Ok-clause-said
returns-in-Ok-clause-said g c clean = schema_told g.S.Store c.args.conn.now c.read_versions.new.conn c.accept_version.result c.accept_version.ensures.errors

pub returns-in-Ok-clause-memory : goal.returns-in-Ok-clause-memory
returns-in-Ok-clause-memory g c clean is = absurd (not_memory c.accept_version.result c.accept_version.ensures.errors is)

pub returns-in-Err-clause-said : goal.returns-in-Err-clause-said
returns-in-Err-clause-said g c clean =
    told_query g.S.Store c.args.conn.now c.read_versions.new.conn (Query select_version []) (1, omega arith, refl) tasks.ReadVersion c.in-Err.e c.not_stored.result c.not_stored.ensures.named (c.in-Err.ensures.said clean)

pub returns-in-Err-clause-memory : goal.returns-in-Err-clause-memory
returns-in-Err-clause-memory g c clean is =
    let memory : c.not_stored.result ≡ error.Memory = cc in
    memory_said g.S.Store c.args.conn.now c.read_versions.new.conn (Query select_version []) (1, omega arith, refl) c.in-Err.e (c.not_stored.ensures.memory.0 memory) (c.in-Err.ensures.said clean)

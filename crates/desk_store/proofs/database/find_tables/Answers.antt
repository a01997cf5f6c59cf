use Rattle.std.proofs.Common.{◌≡◌, [], arith, refl}
use Rattle.desk_store.specs.Error.{Query}
use Rattle.desk_store.specs.Looks.{select_nothing}
use Rattle.desk_store.specs.declared.error.DeskError.TheVariants as error
use Rattle.desk_store.specs.declared.error.Task.TheVariants as tasks
use Rattle.desk_store.proofs.OpeningSaid.{memory_said, told_query}
use Rattle.desk_store.proofs.database.find_tables.Goals as goal

pub returns-in-Err-clause-said : goal.returns-in-Err-clause-said
returns-in-Err-clause-said g c clean =
    told_query g.S.Store c.args.conn.now c.seen_tables.new.conn (Query select_nothing []) (0, omega arith, refl) tasks.FindTables c.in-Err.e c.not_stored.result c.not_stored.ensures.named (c.in-Err.ensures.said clean)

pub returns-in-Err-clause-memory : goal.returns-in-Err-clause-memory
returns-in-Err-clause-memory g c clean is =
    let memory : c.not_stored.result ≡ error.Memory = cc in
    memory_said g.S.Store c.args.conn.now c.seen_tables.new.conn (Query select_nothing []) (0, omega arith, refl) c.in-Err.e (c.not_stored.ensures.memory.0 memory) (c.in-Err.ensures.said clean)

-- A disk that has stopped fails, and stays as it is.
use Rattle.cli_database_files.proofs.named.NamedDisk.write_at.Goals as goal

pub returns-clause-frozen : goal.returns-clause-frozen
returns-clause-frozen g c = λ frozen.
    let stopped = c.write_at.ensures.frozen frozen in
    (stopped.0, record { frozen = stopped.1.frozen; same = stopped.1.same; clean = stopped.1.clean; no_more = stopped.1.no_more; no_fewer = stopped.1.no_fewer })

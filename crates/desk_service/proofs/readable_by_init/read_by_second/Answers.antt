-- A fault of the site is that of its state.
use Rattle.desk_service.proofs.readable_by_init.read_by_second.Goals as goal

pub returns-in-Err : goal.returns-in-Err
returns-in-Err g c = c.in-Err.ensures

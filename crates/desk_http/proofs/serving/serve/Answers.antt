-- Without memory nothing was served; and what was served is a run.
use Rattle.std.proofs.Common.{[]}
use Rattle.desk_store.specs.Desk.{HasGoodDisk, StandsAt}
use Rattle.desk_http.proofs.RunLemmas.{Serves-none, run_of}
use Rattle.desk_http.proofs.serving.serve.Goals as goal

pub returns-in_default-clause-run : goal.returns-in_default-clause-run
returns-in_default-clause-run g c = ([], [], Serves-none (HasGoodDisk g.S.Store) (StandsAt g.S.Store) c.args.desk.now)

pub returns-in_default-new-clause-run : goal.returns-in_default-new-clause-run
returns-in_default-new-clause-run g c = ([], [], Serves-none (HasGoodDisk g.S.Store) (StandsAt g.S.Store) c.args.desk.now)

pub returns-clause-run : goal.returns-clause-run
returns-clause-run g c = run_of (HasGoodDisk g.S.Store) (StandsAt g.S.Store) c.serve_stream.result.end _ _ _ _ _ _ _ _ c.serve_stream.ensures.session

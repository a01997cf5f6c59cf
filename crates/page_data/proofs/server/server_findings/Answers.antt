use Rattle.page_data.proofs.Served.{write_directories}
use Rattle.page_data.proofs.server.server_findings.Goals as goal

pub wider_grants-requires : goal.wider_grants-requires
wider_grants-requires c = write_directories c.args.index.now c.args.fs.0 c.requires

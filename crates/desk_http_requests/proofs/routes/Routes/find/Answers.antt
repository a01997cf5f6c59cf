use Rattle.desk_http_requests.proofs.PathText.{no_route}
use Rattle.desk_http_requests.proofs.routes.Routes.find.Goals as goal

pub returns-in-Err : goal.returns-in-Err
returns-in-Err c = no_route c.args.path.now c.in-Err.ensures.cases.0

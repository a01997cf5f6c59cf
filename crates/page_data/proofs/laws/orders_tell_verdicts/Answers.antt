use Rattle.page_data.proofs.Orders.{orders_tell_verdicts}
use Rattle.page_data.proofs.laws.orders_tell_verdicts.Goals as goal

pub returns : goal.returns
returns c = orders_tell_verdicts c.places_tell_scope.ensures

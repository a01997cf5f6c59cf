use Rattle.page_data.proofs.HeldOnce.{rows_hold_each_address_once}
use Rattle.page_data.proofs.laws.rows_hold_each_address_once.Goals as goal

pub returns : goal.returns
returns c = rows_hold_each_address_once

use Rattle.desk_expect.proofs.Holding.{unreported}
use Rattle.desk_expect.proofs.laws.unreported_lines_hold.Goals as goal

pub returns : goal.returns
returns c = unreported c.no_section_is_nothing_found.ensures

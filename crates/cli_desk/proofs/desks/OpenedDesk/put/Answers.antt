-- The edit is made of the database that the desk was opened on.
use Rattle.desk_core.specs.Edit.{asked}
use Rattle.cli_desk.proofs.EditAnswers.{puts_over}
use Rattle.cli_desk.proofs.desks.OpenedDesk.put.Goals as goal

pub returns-clause-opened : goal.returns-clause-opened
returns-clause-opened g c = λ conn on.
    puts_over g.S.Store conn c.args.self.now.desk c.put.new.desk (asked c.args.edit.now) on.stands on.tables on.crash c.args.replies c.put.result c.put.ensures

use Rattle.page_findings.proofs.FewFlavours.{read_lines_have_few_flavours}
use Rattle.page_findings.proofs.laws.read_lines_have_few_flavours.Goals as goal

pub returns : goal.returns
returns c = read_lines_have_few_flavours c.answers_say_what.ensures c.entries_are_the_answers.ensures

-- What is told is printed.
use Rattle.cli_questions.proofs.printing.print_reasons.Goals as goal

pub returns : goal.returns
returns c = (c.in_ok-tried.tried, c.in_ok-tried.ensures, c.print_tried.ensures)

use Rattle.page_filesystem.proofs.Each.{each_line_has_a_note}
use Rattle.page_filesystem.proofs.laws.each_line_has_a_note.Goals as goal

pub returns : goal.returns
returns c = each_line_has_a_note

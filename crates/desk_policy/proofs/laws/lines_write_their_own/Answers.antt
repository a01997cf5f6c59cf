use Rattle.desk_policy.proofs.OwnDirectories.{site_lines_write_their_own, whole_lines_write_their_own}
use Rattle.desk_policy.proofs.laws.lines_write_their_own.Goals as goal

pub returns : goal.returns
returns c = record {
  site = site_lines_write_their_own c.answers_say_what.ensures c.entries_are_the_answers.ensures;
  whole = whole_lines_write_their_own c.answers_say_what.ensures c.entries_are_the_answers.ensures c.each_has_its_lines.ensures;
}

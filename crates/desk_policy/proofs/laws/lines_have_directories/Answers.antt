use Rattle.desk_policy.proofs.OwnDirectories.{file_lines_have_directories, site_lines_have_directories, whole_lines_have_directories}
use Rattle.desk_policy.proofs.laws.lines_have_directories.Goals as goal

pub returns : goal.returns
returns c = record {
  file = file_lines_have_directories c.answers_say_what.ensures c.entries_are_the_answers.ensures;
  site = site_lines_have_directories c.answers_say_what.ensures c.entries_are_the_answers.ensures;
  whole = whole_lines_have_directories c.answers_say_what.ensures c.entries_are_the_answers.ensures c.each_has_its_lines.ensures;
}

use Rattle.page_html.proofs.Lists as lists
use Rattle.page_html.proofs.laws.lists_say_what_they_leave_out.Goals as goal

pub returns : goal.returns
returns c = lists.lists_say_what_they_leave_out

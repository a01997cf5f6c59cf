use Rattle.desk_policy.proofs.ClassWarnings.{files_warn_of_no_class, sites_warn_of_no_class, whole_texts_warn_of_no_class}
use Rattle.desk_policy.proofs.laws.no_class_is_warned_of_by_profile_two.Goals as goal

pub returns : goal.returns
returns c = record {
  file = files_warn_of_no_class c.no_class_counts_by_profile_two.ensures c.entries_are_the_answers.ensures;
  site = sites_warn_of_no_class c.no_class_counts_by_profile_two.ensures c.entries_are_the_answers.ensures;
  whole = whole_texts_warn_of_no_class c.no_class_counts_by_profile_two.ensures c.entries_are_the_answers.ensures;
}

use Rattle.desk_store.proofs.SiteHistories.{answered_edits_keep_site_histories}
use Rattle.desk_store.proofs.laws.answered_edits_keep_site_histories.Goals as goal

pub returns : goal.returns
returns c =
    answered_edits_keep_site_histories c.answers_are_right.ensures c.known_files_have_names.ensures c.standing_of_a_longer_history.ensures c.answered_edits_keep_the_numbers.ensures

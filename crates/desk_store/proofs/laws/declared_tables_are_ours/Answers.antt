use Rattle.desk_store.proofs.TreesApart.{declared_here}
use Rattle.desk_store.proofs.laws.declared_tables_are_ours.Goals as goal

pub returns : goal.returns
returns c db name declared tree sound up there tree_is = declared_here db.schema db.trees name declared tree sound up there tree_is

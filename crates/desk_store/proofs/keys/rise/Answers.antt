use Rattle.std.proofs.Common.{rules}
use Rattle.std.proofs.lemmas.Fn.{always_returns_same}
use Rattle.desk_store.specs.Keys.{is_below}
use Rattle.desk_store.proofs.keys.rise.Goals as goal

pub returns : goal.returns
returns c = c.is_sorted_by.ensures.cases is_below (always_returns_same _ _ _ (λ a r f k. search rules))

use Rattle.std.proofs.Common.{◌≡◌, ◌+◌, ℕ, List, [], ◌∷◌, ◌++◌, ◌∙◌, ap}
use Rattle.std.specs.Prelude.{replicate}
use Rattle.std.proofs.lemmas.List.{replicate_more}
use Rattle.desk_policy.proofs.policy.empty_lists.Goals as goal

one_more : {X : Type 0} (n : ℕ) (lists more : List (List X)) (rows : List X) → more ≡ lists ++ rows ∷ [] → lists ≡ replicate n [] → rows ≡ [] → more ≡ replicate (n + 1) []
one_more n lists more rows pushed e f = pushed ∙ ap (λ ls. ls ++ rows ∷ []) e ∙ ap (λ r. replicate n [] ++ r ∷ []) f ∙ replicate_more n []

pub loop-preserved : goal.loop-preserved
loop-preserved g c = one_more c.loop.counter c.loop.lists.items c.push.new.self.items c.new.result c.in_ok-push.ensures.items c.loop.invariant c.new.ensures

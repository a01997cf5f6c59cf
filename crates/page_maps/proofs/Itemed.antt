-- Items, one before others.
use Rattle.std.proofs.Common.{◌≡◌, ◌∷◌, ◌∙◌, List, ap}

pub item_before : {Y : Type 0} (item other : Y) (items others : List Y) → item ≡ other → items ≡ others → item ∷ items ≡ other ∷ others
item_before item other items others same rest = ap (λ y. y ∷ items) same ∙ ap (λ ys. other ∷ ys) rest

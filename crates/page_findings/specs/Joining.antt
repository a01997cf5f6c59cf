-- Parts of the page with others between them. (this project's own)
use Rattle.std.specs.Prelude.{ℕ, List, [], ◌∷◌, ◌++◌, codes}
use Rattle.std.specs.List.{flat_map}
use Rattle.page_html.specs.Items.{Item, Own, Words}

-- what is said of some values, with a part between each two
abbrev pub joined : {X : Type 0} → (X → List (Item (List ℕ))) → Item (List ℕ) → List X → List (Item (List ℕ))
joined parts between [] = []
joined parts between (first ∷ others) = parts first ++ flat_map (λ other. between ∷ parts other) others

-- what stands between most
abbrev pub comma : Item (List ℕ)
comma = Own (Words (codes ", "))

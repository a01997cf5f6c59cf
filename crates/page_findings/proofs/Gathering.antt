-- Parts that are gathered, some behind others.
use Rattle.std.proofs.Common.{◌≡◌, ◌++◌, ◌∙◌, List, ap, append_assoc, map}
use Rattle.std.proofs.lemmas.List.{map-append}

-- more values, by what they are made into
pub all_more : {X Y : Type 0} (f : X → Y) (old new more : List X) → new ≡ old ++ more → map f new ≡ map f old ++ map f more
all_more f old new more grown = ap (map f) grown ∙ map-append f old more

-- values behind others, in two steps
pub two_parts : {Y : Type 0} (old one new first second : List Y) → one ≡ old ++ first → new ≡ one ++ second → new ≡ old ++ (first ++ second)
two_parts old one new first second begun ended = ended ∙ ap (λ ys. ys ++ second) begun ∙ append_assoc old first second

use Rattle.std.proofs.Common.{◌≡◌, ◌++◌, List, [], ◌∷◌, map, refl, ap, ◌∙◌}
use Rattle.std.specs.List.{flat_map}
use Rattle.std.specs.String.{string_bytes}
use Rattle.std.proofs.lemmas.List.{take_all}
use Rattle.desk_text.specs.Views.{line_of_part}
use Rattle.desk_split.specs.Splitting.{written_part}
use Rattle.desk_split.proofs.splitting.write_line.Goals as goal

written_each : {X Y A : Type 0} (f : Y → List A) (g : X → Y) (xs : List X) → flat_map (λ x. f (g x)) xs ≡ flat_map f (map g xs)
written_each f g [] = refl
written_each f g (x ∷ xs) = ap (λ rest. f (g x) ++ rest) (written_each f g xs)

pub returns : goal.returns
returns c =
    let parts = c.parts-part-items.result.now in
    c.loop-part.invariant
    ∙ ap (λ text. string_bytes c.args.text.now ++ text)
    (ap (flat_map (λ part. written_part (line_of_part part))) (take_all c.loop-part.part-index parts c.loop-part-test.false)
    ∙ written_each written_part line_of_part parts ∙ ap (flat_map written_part) c.parts-part-items.ensures.parts)

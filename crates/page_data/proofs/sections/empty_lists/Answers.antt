use Rattle.std.proofs.Common.{◌≡◌, ◌+◌, ℕ, List, [], ◌∷◌, ◌++◌, ◌∙◌, ap, map}
use Rattle.std.specs.Prelude.{replicate}
use Rattle.std.proofs.lemmas.List.{map-append, replicate_more}
use Rattle.desk_impact.specs.Sections.{Section, section_value}
use Rattle.page_data.proofs.sections.empty_lists.Goals as goal

one_more : (n : ℕ) (lists more : List (List Section)) (list : List Section) → more ≡ lists ++ list ∷ [] → map (map section_value) lists ≡ replicate n [] → list ≡ []
    → map (map section_value) more ≡ replicate (n + 1) []
one_more n lists more list pushed so_far none =
    ap (map (map section_value)) pushed ∙ map-append (map section_value) lists (list ∷ []) ∙ ap (λ ls. ls ++ map section_value list ∷ []) so_far
    ∙ ap (λ some. replicate n [] ++ map section_value some ∷ []) none ∙ replicate_more n []

pub loop-preserved : goal.loop-preserved
loop-preserved c = one_more c.loop.counter c.loop.lists.items c.push.new.self.items c.new.result c.in_ok-push.ensures.items c.loop.invariant c.new.ensures

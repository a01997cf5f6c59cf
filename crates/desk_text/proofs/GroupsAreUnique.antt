-- The physical lines of a text fall into groups in one way.
use Rattle.std.proofs.Common.{◌≡◌, true, false, List, [], ◌∷◌, ◌++◌, refl, sym, ap, subst, ◌∙◌}
use Rattle.std.specs.List.{flat_map, onto_first}
use Rattle.std.proofs.lemmas.Bool.{cond-true, cond-false, cond_both}
use Rattle.desk_text.specs.Lines.{PhysicalLine, is_continued, groups}
use Rattle.desk_text.specs.Laws.{IsClosed, IsGroup, AreGroups, GroupsAreUnique}

groups-one : (line : PhysicalLine) → groups (line ∷ []) ≡ (line ∷ []) ∷ []
groups-one line = cond_both (is_continued line.whole) ((line ∷ []) ∷ []) ((line ∷ []) ∷ []) (λ gs. gs ≡ (line ∷ []) ∷ []) (λ _. refl) (λ _. refl)

last_is_open : (group : List PhysicalLine) → IsGroup group → groups (group ++ []) ≡ group ∷ []
last_is_open [] h = absurd h
last_is_open (line ∷ []) h = groups-one line
last_is_open (line ∷ next ∷ lines) h = cond-true _ _ _ h.0 ∙ ap (onto_first line) (last_is_open (next ∷ lines) h.1)

closed_first : (group rest : List PhysicalLine) → IsClosed group → groups (group ++ rest) ≡ group ∷ groups rest
closed_first [] rest h = absurd h
closed_first (line ∷ []) rest h = cond-false _ _ _ h
closed_first (line ∷ next ∷ lines) rest h = cond-true _ _ _ h.0 ∙ ap (onto_first line) (closed_first (next ∷ lines) rest h.1)

only_groups : (parts : List (List PhysicalLine)) → AreGroups parts → parts ≡ groups (flat_map (λ group. group) parts)
only_groups [] h = refl
only_groups (group ∷ []) h = sym (last_is_open group h)
only_groups (group ∷ next ∷ more) h =
    ap (λ gs. group ∷ gs) (only_groups (next ∷ more) h.1) ∙ sym (closed_first group (flat_map (λ g. g) (next ∷ more)) h.0)

open_more : (line : PhysicalLine) (group : List PhysicalLine) → is_continued line.whole ≡ true → IsGroup group → IsGroup (line ∷ group)
open_more line [] e h = tt
open_more line (next ∷ lines) e h = (e, h)

closed_more : (line : PhysicalLine) (group : List PhysicalLine) → is_continued line.whole ≡ true → IsClosed group → IsClosed (line ∷ group)
closed_more line [] e h = absurd h
closed_more line (next ∷ lines) e h = (e, h)

onto_groups : (line : PhysicalLine) (parts : List (List PhysicalLine)) → is_continued line.whole ≡ true → AreGroups parts → AreGroups (onto_first line parts)
onto_groups line [] e h = tt
onto_groups line (group ∷ []) e h = open_more line group e h
onto_groups line (group ∷ next ∷ more) e h = (closed_more line group e h.0, h.1)

before_groups : (line : PhysicalLine) (parts : List (List PhysicalLine)) → is_continued line.whole ≡ false → AreGroups parts → AreGroups ((line ∷ []) ∷ parts)
before_groups line [] e h = tt
before_groups line (group ∷ more) e h = (e, h)

are_groups : (lines : List PhysicalLine) → AreGroups (groups lines)
are_groups [] = tt
are_groups (line ∷ lines) =
    let rest = are_groups lines in
    cond_both (is_continued line.whole) (onto_first line (groups lines)) ((line ∷ []) ∷ groups lines) (λ gs. AreGroups gs)
    (λ e. onto_groups line (groups lines) e rest) (λ e. before_groups line (groups lines) e rest)

onto_all : (line : PhysicalLine) (parts : List (List PhysicalLine)) → flat_map (λ group. group) (onto_first line parts) ≡ line ∷ flat_map (λ group. group) parts
onto_all line [] = refl
onto_all line (group ∷ more) = refl

pub all_lines : (lines : List PhysicalLine) → flat_map (λ group. group) (groups lines) ≡ lines
all_lines [] = refl
all_lines (line ∷ lines) =
    let rest = all_lines lines in
    cond_both (is_continued line.whole) (onto_first line (groups lines)) ((line ∷ []) ∷ groups lines) (λ gs. flat_map (λ group. group) gs ≡ line ∷ lines)
    (λ _. onto_all line (groups lines) ∙ ap (λ ls. line ∷ ls) rest) (λ _. ap (λ ls. line ∷ ls) rest)

pub groups_are_unique : GroupsAreUnique
groups_are_unique lines parts =
    (λ h. only_groups parts h.0 ∙ ap groups h.1, λ e. (subst (λ gs. AreGroups gs) (sym e) (are_groups lines), ap (flat_map (λ group. group)) e ∙ all_lines lines))

-- The scopes of directories, one after the other.
use Rattle.std.proofs.Common.{◌≡◌, ℕ, ◌+◌, ◌<◌, ◌++◌, ◌||◌, false, List, [], ◌∷◌, Option, Some, ap, get_or, length, sym, take, ◌∙◌}
use Rattle.std.specs.Prelude.{is_none}
use Rattle.std.specs.List.{cons_option, filter_map, list_any}
use Rattle.std.proofs.lemmas.List.{take_more}
use Rattle.std.proofs.lemmas.List.Elements.{filter_map-append}
use Rattle.std.proofs.lemmas.List.Folds.{list_any_more}
use Rattle.desk_expect.specs.Scope.{read_scope}
use Rattle.desk_expect.specs.declared.scope.Scope.{Scope}

-- a directory more that can be read
pub good_more : (items : List (List ℕ)) (i : ℕ) (item : List ℕ) → i < length items → item ≡ get_or items i item → (scope : Scope) → Some scope ≡ read_scope item
    → list_any (λ dir. is_none (read_scope dir)) (take i items) ≡ false → list_any (λ dir. is_none (read_scope dir)) (take (i + 1) items) ≡ false
good_more items i item below is scope read so_far =
    list_any_more (λ (dir : List ℕ). is_none (read_scope dir)) items i item below ∙ ap (λ b. b || is_none (read_scope (get_or items i item))) so_far
    ∙ ap (λ (dir : List ℕ). is_none (read_scope dir)) (sym is) ∙ ap (λ (s : Option Scope). is_none s) (sym read)

pub scope_more : (items : List (List ℕ)) (i : ℕ) (item : List ℕ) → i < length items → item ≡ get_or items i item → (scope : Scope) → Some scope ≡ read_scope item
    → (old new : List Scope) → old ≡ filter_map read_scope (take i items) → new ≡ old ++ scope ∷ [] → new ≡ filter_map read_scope (take (i + 1) items)
scope_more items i item below is scope read old new so_far added =
    added ∙ ap (λ (ss : List Scope). ss ++ scope ∷ []) so_far
    ∙ ap (λ (s : Option Scope). filter_map read_scope (take i items) ++ cons_option s []) read
    ∙ sym (filter_map-append read_scope (take i items) (item ∷ []))
    ∙ ap (filter_map read_scope) (sym (take_more items i item below ∙ ap (λ (d : List ℕ). take i items ++ d ∷ []) (sym is)))

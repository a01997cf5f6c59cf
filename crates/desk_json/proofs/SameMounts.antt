-- What verdicts say depends on the file systems of a policy alone.
use Rattle.std.proofs.Common.{◌≡◌, ◌∙◌, ◌++◌, Bool, List, [], ◌∷◌, None, ap, codes, map, refl, Result, Ok, Err}
use Rattle.std.specs.Prelude.{slice_get}
use Rattle.std.specs.List.{flat_map}
use Rattle.serde_json.specs.Data.{boolean, string}
use Rattle.desk_text.specs.Address.{addr_text}
use Rattle.desk_text.specs.Path.{path_text}
use Rattle.desk_policy.specs.Policy.{Content}
use Rattle.desk_policy.specs.Prints.{printed_mount}
use Rattle.desk_policy.specs.Verdict.{Grant}
use Rattle.desk_policy.specs.declared.verdict.Denial.{Denial}
use Rattle.desk_policy.specs.declared.verdict.Denial.TheVariants.{NoFileSystem, NoLine, NotListed}
use Rattle.desk_impact.specs.Impact.{TwoVerdicts}
use Rattle.desk_impact.specs.Places.{Place}
use Rattle.desk_who.specs.Runs.{Run}
use Rattle.desk_http_bodies.specs.Json.{count, entries, list}
use Rattle.desk_http_bodies.specs.Verdicts.{grant_data, verdict_data}
use Rattle.desk_json.specs.Changes.{ChangesNameMounts, change_data, dir_of, is_others, listed, place_data}

verdict_same : (content other : Content) → other.table ≡ content.table → (verdict : Result Grant Denial) → verdict_data other None verdict ≡ verdict_data content None verdict
verdict_same content other same (Ok grant) = ap (λ table. grant_data (printed_mount (slice_get table grant.fs.0)) grant.line grant.terms None) same
verdict_same content other same (Err NoFileSystem) = refl
verdict_same content other same (Err (NoLine fs)) =
    ap (λ table. entries ((codes "fs", string (printed_mount (slice_get table fs.0))) ∷ (codes "reason", count 2) ∷ (codes "verdict", string (codes "denied")) ∷ [])) same
verdict_same content other same (Err (NotListed fs line)) =
    ap (λ table. entries (
    (codes "fs", string (printed_mount (slice_get table fs.0))) ∷ (codes "line", count line) ∷ (codes "reason", count 3)
    ∷ (codes "verdict", string (codes "denied")) ∷ [])) same

change_same : (before after other : Content) → other.table ≡ after.table → (place : Place) (change : Run TwoVerdicts) (matters : Bool)
    → change_data before other place change matters ≡ change_data before after place change matters
change_same before after other same place change matters =
    ap (λ told. entries (
    (codes "after", told)
    ∷ (codes "before", verdict_data before None change.value.before)
    ∷ (codes "dir", string (path_text (dir_of place)))
    ∷ (codes "first", string (addr_text change.first))
    ∷ (codes "last", string (addr_text change.last))
    ∷ (codes "matters", boolean matters)
    ∷ (codes "others", boolean (is_others place))
    ∷ [])) (verdict_same after other same change.value.after)

map_same : {A B : Type 0} (f g : A → B) → ((a : A) → f a ≡ g a) → (xs : List A) → map f xs ≡ map g xs
map_same f g each [] = refl
map_same f g each (x ∷ xs) = ap (λ y. y ∷ map f xs) (each x) ∙ ap (λ ys. g x ∷ ys) (map_same f g each xs)

flat_map_same : {A B : Type 0} (f g : A → List B) → ((a : A) → f a ≡ g a) → (xs : List A) → flat_map f xs ≡ flat_map g xs
flat_map_same f g each [] = refl
flat_map_same f g each (x ∷ xs) = ap (λ ys. ys ++ flat_map f xs) (each x) ∙ ap (λ ys. g x ++ ys) (flat_map_same f g each xs)

pub changes_name_mounts : ChangesNameMounts
changes_name_mounts before after other all found same =
    ap (λ changes. entries ((codes "changes", list changes) ∷ []))
    (flat_map_same (place_data before other all) (place_data before after all)
    (λ one. map_same (λ change. change_data before other one.place change.change change.matters) (λ change. change_data before after one.place change.change change.matters)
    (λ change. change_same before after other same one.place change.change change.matters) (listed all one.changes)) found)

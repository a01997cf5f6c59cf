-- Printed paths: for the laws `printed_paths_differ` and `paths_read_back`, and for `path::Path::text`.
use Rattle.std.proofs.Common.{◌≡◌, ℕ, Bool, true, false, not, ◌&&◌, eqb, List, [], ◌∷◌, length, Ok, refl, sym, ap, ◌∙◌}
use Rattle.std.specs.List.{AllByRecursion, join_with_byte, list_all, list_any, slice_split}
use Rattle.std.specs.Cmp.Lexicographic.{pointwise}
use Rattle.std.proofs.lemmas.Bool.{cond-false, le-ltb}
use Rattle.std.proofs.lemmas.Bool.Decides.{Decides-eqb, same_from_decides}
use Rattle.std.proofs.lemmas.List.Elements.{All-from_recursion}
use Rattle.std.proofs.lemmas.List.Splits.{slice_split_at, slice_split_none}
use Rattle.std.proofs.lemmas.Slice.Eq.{bytes_eq-Decides, slice_eq-Decides}
use Rattle.desk_text.specs.Path.{IsPath, components, is_component, is_dot_component, longest_path, path_text, same_path}
use Rattle.desk_text.specs.Laws.{PathsReadBack, PrintedPathsDiffer}
use Rattle.desk_text.proofs.Slashes.{IsComponent, NoSlash, are_components, joined_components}

both : (b c : Bool) → (b && c) ≡ true → (b ≡ true) × (c ≡ true)
both true c e = (refl, e)
both false c e = absurd (cc)

not_passed : (b : Bool) → not b ≡ true → b ≡ false
not_passed true e = sym e
not_passed false e = refl

-- the tests of components, and what they say
no_slash_from : (part : List ℕ) → list_all (λ b. not (eqb b 47)) part ≡ true → NoSlash part
no_slash_from [] h = tt
no_slash_from (b ∷ part) h =
    let each = both (not (eqb b 47)) (list_all (λ b. not (eqb b 47)) part) h in
    (not_passed (eqb b 47) each.0, no_slash_from part each.1)

passes_no_slash : (part : List ℕ) → NoSlash part → list_all (λ b. not (eqb b 47)) part ≡ true
passes_no_slash [] h = refl
passes_no_slash (b ∷ part) h = ap (λ e. not e && list_all (λ b. not (eqb b 47)) part) h.0 ∙ passes_no_slash part h.1

components_from : (path : List (List ℕ)) → list_all is_component path ≡ true → AllByRecursion IsComponent path
components_from [] h = tt
components_from (part ∷ path) h =
    let each = both (is_component part) (list_all is_component path) h in
    let own = both (not (eqb (length part) 0)) (list_all (λ b. not (eqb b 47)) part) each.0 in
    ((own.0, no_slash_from part own.1), components_from path each.1)

components_pass : (path : List (List ℕ)) → AllByRecursion IsComponent path → list_all is_component path ≡ true
components_pass [] h = refl
components_pass (part ∷ path) h =
    ap (λ e. (e && list_all (λ b. not (eqb b 47)) part) && list_all is_component path) h.0.0
    ∙ ap (λ e. e && list_all is_component path) (passes_no_slash part h.0.1) ∙ components_pass path h.1

-- the components of a text are those of a path
pub components_are_path : (text : List ℕ) → IsPath (components text)
components_are_path text = components_pass (components text) (are_components text)

pub printed_paths_differ : PrintedPathsDiffer
printed_paths_differ path other p q same =
    sym (joined_components path (components_from path p)) ∙ ap components same ∙ joined_components other (components_from other q)

-- paths that are printed alike are the same
pub same_printed : (path other : List (List ℕ)) (r : Bool) → IsPath path → IsPath other → r ≡ pointwise eqb (path_text path) (path_text other) → r ≡ same_path path other
same_printed path other r p q is =
    let texts = slice_eq-Decides Decides-eqb (path_text path) (path_text other) r is in
    same_from_decides r (same_path path other)
    (λ e. printed_paths_differ path other p q (texts.0 e), λ same. texts.1 (ap path_text same))
    (slice_eq-Decides bytes_eq-Decides path other _ refl)

-- the parts of a printed path
parts_of_joined : (part : List ℕ) (path : List (List ℕ)) → AllByRecursion IsComponent (part ∷ path) → slice_split (λ b. eqb b 47) (join_with_byte 47 (part ∷ path)) ≡ part ∷ path
parts_of_joined part [] h = slice_split_none (λ b. eqb b 47) part (All-from_recursion (λ b. eqb b 47 ≡ false) part h.0.1)
parts_of_joined part (next ∷ path) h =
    slice_split_at (λ b. eqb b 47) part 47 (join_with_byte 47 (next ∷ path)) (All-from_recursion (λ b. eqb b 47 ≡ false) part h.0.1) refl
    ∙ ap (λ ps. part ∷ ps) (parts_of_joined next path h.1)

-- the first part of a printed path, before its slash, is empty
no_dots : (path : List (List ℕ)) → AllByRecursion IsComponent path → list_any is_dot_component path ≡ false → list_any is_dot_component (slice_split (λ b. eqb b 47) (path_text path)) ≡ false
no_dots [] h none = refl
no_dots (part ∷ path) h none = ap (list_any is_dot_component) (parts_of_joined part path h) ∙ none

pub paths_read_back : PathsReadBack
paths_read_back path p dots short nul =
    let each = components_from path p in
    cond-false _ _ _ (no_dots path each dots)
    ∙ cond-false _ _ _ (le-ltb longest_path (length (path_text path)) short)
    ∙ cond-false _ _ _ nul
    ∙ ap Ok (joined_components path each)

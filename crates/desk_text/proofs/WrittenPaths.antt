-- For the law `written_paths_read_back`: what holds of a text that writes a path holds of the printed path.
use Rattle.std.proofs.Common.{◌≡◌, ℕ, suc, ◌+◌, ◌-◌, ◌<◌, ◌≤◌, Bool, true, false, not, ◌||◌, cond, eqb, List, [], ◌∷◌, ◌++◌, length, drop, filter, Result, Ok, Err, refl, sym, ap, subst, ◌∙◌, arith, length-append}
use Rattle.std.specs.Prelude.{nat_lt}
use Rattle.std.specs.List.{join_with_byte, list_any, onto_first, slice_split}
use Rattle.std.proofs.lemmas.Bool.{ltb-false, or_parts}
use Rattle.std.proofs.lemmas.List.Folds.{list_any-append}
use Rattle.std.proofs.lemmas.List.Splits.{join_with_byte-slice_split}
use Rattle.desk_text.specs.Path.{components, is_absolute, is_dot_component, longest_path, path_text, read_path}
use Rattle.desk_text.specs.declared.path.PathFault.{PathFault}
use Rattle.desk_text.specs.declared.path.PathFault.TheVariants.{DotComponent, NotAbsolute, NulByte, TooLong}
use Rattle.desk_text.specs.Laws.{WrittenPathsReadBack}
use Rattle.desk_text.proofs.PathLaws.{components_are_path, paths_read_back}
use Rattle.desk_text.proofs.PathParts.{parts_behind}

abbrev parts_of : List ℕ → List (List ℕ)
parts_of text = slice_split (λ b. eqb b 47) text

abbrev not_empty : List ℕ → Bool
not_empty part = not (eqb (length part) 0)

abbrev has_nul : List ℕ → Bool
has_nul text = list_any (λ b. eqb b 0) text

answer : Bool → Bool → Bool → Bool → List (List ℕ) → Result (List (List ℕ)) PathFault
answer absolute dots long nul read = cond (not absolute) (Err NotAbsolute) (cond dots (Err DotComponent) (cond long (Err TooLong) (cond nul (Err NulByte) (Ok read))))

writes : (absolute dots long nul : Bool) (path read : List (List ℕ)) → answer absolute dots long nul read ≡ Ok path
    → (absolute ≡ true) × (dots ≡ false) × (long ≡ false) × (nul ≡ false) × (read ≡ path)
unfolding answer
writes true false false false path read h = (refl, refl, refl, refl, let e = h in cc)
writes false dots long nul path read h = absurd (let e = h in cc)
writes true true long nul path read h = absurd (let e = h in cc)
writes true false true nul path read h = absurd (let e = h in cc)
writes true false false true path read h = absurd (let e = h in cc)

none_kept : (p test : List ℕ → Bool) (parts : List (List ℕ)) → list_any test parts ≡ false → list_any test (filter p parts) ≡ false
none_kept p test [] h = refl
none_kept p test (part ∷ parts) h =
    let each = or_parts (test part) (list_any test parts) h in
    step (p part) each.0 (none_kept p test parts each.1)
  where
    step : (b : Bool) → test part ≡ false → list_any test (filter p parts) ≡ false → list_any test (cond b (part ∷ filter p parts) (filter p parts)) ≡ false
    step true own more = ap (λ e. e || list_any test (filter p parts)) own ∙ more
    step false own more = more

-- ---- the length of joined parts

total : List (List ℕ) → ℕ
total [] = 0
total (part ∷ parts) = 1 + length part + total parts

joined_length : (parts : List (List ℕ)) → length (join_with_byte 47 parts) ≡ total parts - 1
unfolding total
joined_length [] = refl
joined_length (part ∷ []) = omega arith
joined_length (part ∷ next ∷ parts) =
    let rest = joined_length (next ∷ parts) in
    let whole = length-append part (47 ∷ join_with_byte 47 (next ∷ parts)) in
    omega (arith, rest, whole)

total_kept : (p : List ℕ → Bool) (parts : List (List ℕ)) → total (filter p parts) ≤ total parts
unfolding total
total_kept p [] = omega arith
total_kept p (part ∷ parts) = step (p part) (total_kept p parts)
  where
    step : (b : Bool) → total (filter p parts) ≤ total parts → total (cond b (part ∷ filter p parts) (filter p parts)) ≤ 1 + length part + total parts
    step true more = omega (arith, more)
    step false more = omega (arith, more)

some_part : (b : Bool) (parts : List (List ℕ)) (c : ℕ) → 0 < total (cond b ([] ∷ parts) (onto_first c parts))
unfolding total
some_part true parts c = omega arith
some_part false [] c = omega arith
some_part false (part ∷ parts) c = omega arith

total_some : (text : List ℕ) → 0 < total (parts_of text)
unfolding total
total_some [] = omega arith
total_some (b ∷ text) = some_part (eqb b 47) (parts_of text) b

-- ---- NUL bytes in joined parts

parts_free : (part rest : List ℕ) → has_nul (part ++ rest) ≡ false → (has_nul part ≡ false) × (has_nul rest ≡ false)
parts_free part rest h = or_parts (has_nul part) (has_nul rest) (sym (list_any-append (λ b. eqb b 0) part rest) ∙ h)

free_parts : (parts : List (List ℕ)) → has_nul (join_with_byte 47 parts) ≡ false → list_any has_nul parts ≡ false
free_parts [] h = refl
free_parts (part ∷ []) h = ap (λ e. e || false) h
free_parts (part ∷ next ∷ parts) h =
    let each = parts_free part (47 ∷ join_with_byte 47 (next ∷ parts)) h in
    ap (λ e. e || list_any has_nul (next ∷ parts)) each.0 ∙ free_parts (next ∷ parts) each.1

free_joined : (parts : List (List ℕ)) → list_any has_nul parts ≡ false → has_nul (join_with_byte 47 parts) ≡ false
free_joined [] h = refl
free_joined (part ∷ []) h = (or_parts (has_nul part) false h).0
free_joined (part ∷ next ∷ parts) h =
    let each = or_parts (has_nul part) (list_any has_nul (next ∷ parts)) h in
    list_any-append (λ b. eqb b 0) part (47 ∷ join_with_byte 47 (next ∷ parts)) ∙ ap (λ e. e || has_nul (join_with_byte 47 (next ∷ parts))) each.0 ∙ free_joined (next ∷ parts) each.1

-- ---- what is printed

-- an absolute text is its parts, joined
joined_text : (text : List ℕ) → join_with_byte 47 (parts_of text) ≡ text
joined_text text = join_with_byte-slice_split 47 text

printed_length : (text : List ℕ) → is_absolute text ≡ true → length (path_text (components text)) ≤ length text
unfolding total
printed_length text h =
    let behind = parts_of (drop 1 text) in
    let is : components text ≡ filter not_empty behind = ap (filter not_empty) (parts_behind text h) in
    let own : total (parts_of text) ≡ 1 + total behind = ap total (parts_behind text h) in
    let whole : length text ≡ total (parts_of text) - 1 = ap length (sym (joined_text text)) ∙ joined_length (parts_of text) in
    let printed : length (path_text (components text)) ≡ suc (length (join_with_byte 47 (filter not_empty behind))) = ap (λ path. length (path_text path)) is in
    let count = joined_length (filter not_empty behind) in
    let fewer = total_kept not_empty behind in
    let some = total_some (drop 1 text) in
    omega (arith, own, whole, printed, count, fewer, some)

printed_free : (text : List ℕ) → has_nul text ≡ false → has_nul (path_text (components text)) ≡ false
printed_free text h =
    let own : list_any has_nul (parts_of text) ≡ false = free_parts (parts_of text) (ap has_nul (joined_text text) ∙ h) in
    free_joined (components text) (none_kept not_empty has_nul (parts_of text) own)

pub written_paths_read_back : WrittenPathsReadBack
unfolding answer
written_paths_read_back text path h =
    let w = writes (is_absolute text) (list_any is_dot_component (parts_of text)) (nat_lt longest_path (length text)) (has_nul text) path (components text) h in
    let dots : list_any is_dot_component (components text) ≡ false = none_kept not_empty is_dot_component (parts_of text) w.1 in
    let printed = printed_length text w.0 in
    let below = ltb-false longest_path (length text) w.2 in
    let short : length (path_text (components text)) ≤ longest_path = omega (arith, printed, below) in
    subst (λ p. read_path (path_text p) ≡ Ok p) w.4 (paths_read_back (components text) (components_are_path text) dots short (printed_free text w.3))

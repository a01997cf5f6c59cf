-- The physical lines of a line, with their own numbers; an empty one counts, and is left out.
use Rattle.std.proofs.Common.{◌≡◌, ℕ, suc, ◌+◌, ◌<◌, Bool, true, false, not, cond, eqb, List, [], ◌∷◌, ◌++◌, arith, filter, length, map, refl, ap, ◌∙◌}
use Rattle.std.specs.List.{AllByRecursion, enumerate_from}
use Rattle.desk_text.specs.Lines.{PhysicalLine}
use Rattle.desk_split.proofs.WholeLines.{IsSpelled, wholes}
use Rattle.desk_joined.specs.Laws.{OwnPart, OwnPlace, own_part, own_parts}
use Rattle.desk_joined.proofs.OwnWords.{columns_by_whole, own_columns}

abbrev Bytes : Type 0
Bytes = List ℕ

abbrev Numbered : Type 0
Numbered = ℕ × Bytes

abbrev has_bytes : Numbered → Bool
has_bytes one = not (eqb (length one.1) 0)

abbrev kept_parts : ℕ → List Bytes → List Numbered
kept_parts n group = filter has_bytes (enumerate_from n group)

abbrev whole_part : (ℕ → OwnPlace) → Numbered → OwnPart
whole_part place one = record { place = place one.0; whole = one.1; words = own_columns one.1 }

abbrev pub whole_parts : (ℕ → OwnPlace) → ℕ → List Bytes → List OwnPart
whole_parts place n group = map (whole_part place) (kept_parts n group)

abbrev part_has_bytes : ℕ × PhysicalLine → Bool
part_has_bytes one = not (eqb (length one.1.whole) 0)

pub parts_by_whole : (place : ℕ → OwnPlace) (n : ℕ) (parts : List PhysicalLine) → AllByRecursion IsSpelled parts → own_parts place n parts ≡ whole_parts place n (wholes parts)
parts_by_whole place n [] h = refl
parts_by_whole place n (part ∷ parts) h = by (not (eqb (length part.whole) 0)) (parts_by_whole place (n + 1) parts h.1)
  where
    by : (b : Bool) → own_parts place (n + 1) parts ≡ whole_parts place (n + 1) (wholes parts)
        → map (own_part place) (cond b ((n, part) ∷ filter part_has_bytes (enumerate_from (n + 1) parts)) (filter part_has_bytes (enumerate_from (n + 1) parts)))
        ≡ map (whole_part place) (cond b ((n, part.whole) ∷ kept_parts (n + 1) (wholes parts)) (kept_parts (n + 1) (wholes parts)))
    by true rest =
        ap (λ (words : List (ℕ × Bytes)). record { place = place n; whole = part.whole; words = words } ∷ own_parts place (n + 1) parts) (columns_by_whole part h.0)
        ∙ ap (λ (ones : List OwnPart). whole_part place (n, part.whole) ∷ ones) rest
    by false rest = rest

kept_alike : (n : ℕ) (group : List Bytes) → kept_parts n (group ++ [] ∷ []) ≡ kept_parts n group
kept_alike n [] = refl
kept_alike n (line ∷ group) =
    ap (λ (ones : List Numbered). cond (has_bytes (n, line)) ((n, line) ∷ ones) ones) (kept_alike (n + 1) group)

pub no_more_parts : (place : ℕ → OwnPlace) (n : ℕ) (group : List Bytes) → whole_parts place n (group ++ [] ∷ []) ≡ whole_parts place n group
no_more_parts place n group = ap (map (whole_part place)) (kept_alike n group)

-- lines that stand at the same places are the same
pub parts_alike : (one other : ℕ → OwnPlace) (a b : ℕ) (group : List Bytes) → ((i : ℕ) → i < length group → one (a + i) ≡ other (b + i)) → whole_parts one a group ≡ whole_parts other b group
parts_alike one other a b [] same = refl
parts_alike one other a b (line ∷ group) same =
    by (not (eqb (length line) 0))
    (parts_alike one other (a + 1) (b + 1) group
    (λ i within. ap one (omega arith) ∙ same (suc i) (omega (arith, within)) ∙ ap other (omega arith)))
  where
    first : one a ≡ other b
    first = ap one (omega arith) ∙ same 0 (omega arith) ∙ ap other (omega arith)

    by : (c : Bool) → whole_parts one (a + 1) group ≡ whole_parts other (b + 1) group
        → map (whole_part one) (cond c ((a, line) ∷ kept_parts (a + 1) group) (kept_parts (a + 1) group))
        ≡ map (whole_part other) (cond c ((b, line) ∷ kept_parts (b + 1) group) (kept_parts (b + 1) group))
    by true rest =
        ap (λ (place : OwnPlace). record { place = place; whole = line; words = own_columns line } ∷ whole_parts one (a + 1) group) first
        ∙ ap (λ (ones : List OwnPart). record { place = other b; whole = line; words = own_columns line } ∷ ones) rest
    by false rest = rest

-- The logical lines of a text with their numbers, by its lines alone; an empty line ends the line before it, and counts as a line.
use Rattle.std.proofs.Common.{◌≡◌, inl, inr, ℕ, ◌+◌, ◌≤◌, suc, Bool, true, false, not, cond, List, [], ◌∷◌, ◌++◌, arith, filter, length, length-append, map, refl, sym, ap, ◌∙◌}
use Rattle.std.specs.List.{AllByRecursion, onto_first, slice_split}
use Rattle.std.specs.Str.Lines.{lines}
use Rattle.std.proofs.lemmas.List.{length-map, map-append}
use Rattle.std.proofs.lemmas.List.Elements.{filter-append}
use Rattle.desk_text.specs.Lines.{LogicalLine, PhysicalLine, groups, is_continued, kept, logical_lines, numbered, physical_lines}
use Rattle.desk_split.proofs.EmptyLines.{AreEnded, are_ended, groups_part, skipped_alike, skipped_empty}
use Rattle.desk_split.proofs.LineTexts.{Bytes, is_feed}
use Rattle.desk_split.proofs.WholeLines.{AreSpelled, all_spelled, line_wholes, lines_are_spelled, skipped_by_whole, whole_groups, whole_skipped, wholes, wholes_from, wholes_of_groups}

-- 1. Groups of lines, each with the number of its first line.

-- of which the first begins at the line of this number
abbrev pub counted : ℕ → List (List Bytes) → List (ℕ × List Bytes)
counted n [] = []
counted n (g ∷ gs) = (n, g) ∷ counted (n + length g) gs

abbrev takes_part : ℕ × List Bytes → Bool
takes_part one = not (whole_skipped one.1)

abbrev line_counted : LogicalLine → ℕ × List Bytes
line_counted line = (line.number, line_wholes line)

counted_numbered : (n : ℕ) (gs : List (List PhysicalLine)) → map line_counted (numbered n gs) ≡ counted n (map wholes gs)
counted_numbered n [] = refl
counted_numbered n (g ∷ gs) =
    ap (λ (rest : List (ℕ × List Bytes)). (n, wholes g) ∷ rest)
    (counted_numbered (n + length g) gs ∙ ap (λ (k : ℕ). counted (n + k) (map wholes gs)) (sym (length-map g (λ (part : PhysicalLine). part.whole))))

kept_counted : (ls : List LogicalLine) → AllByRecursion AreSpelled ls → map line_counted (kept ls) ≡ filter takes_part (map line_counted ls)
kept_counted [] h = refl
kept_counted (line ∷ ls) h =
    ap (λ b. map line_counted (cond (not b) (line ∷ kept ls) (kept ls))) (skipped_by_whole line h.0)
    ∙ by (not (whole_skipped (line_wholes line)))
    ∙ ap (λ (ones : List (ℕ × List Bytes)). cond (not (whole_skipped (line_wholes line))) (line_counted line ∷ ones) ones) (kept_counted ls h.1)
  where
    by : (b : Bool) → map line_counted (cond b (line ∷ kept ls) (kept ls)) ≡ cond b (line_counted line ∷ map line_counted (kept ls)) (map line_counted (kept ls))
    by true = refl
    by false = refl

lines_counted : (text : Bytes) → map line_counted (logical_lines text) ≡ filter takes_part (counted 1 (whole_groups (lines text)))
lines_counted text =
    kept_counted (numbered 1 (groups (physical_lines text))) (all_spelled text)
    ∙ ap (filter takes_part)
    (counted_numbered 1 (groups (physical_lines text)) ∙ ap (counted 1) (wholes_of_groups (physical_lines text) ∙ ap whole_groups (wholes_from 0 (slice_split is_feed text))))

-- 2. How many lines groups have.

abbrev total : List (List Bytes) → ℕ
total [] = 0
total (g ∷ gs) = length g + total gs

total_groups : (ls : List Bytes) → total (whole_groups ls) ≡ length ls
unfolding whole_groups
total_groups [] = refl
total_groups (line ∷ ls) = by (is_continued line) (whole_groups ls) ∙ ap suc (total_groups ls)
  where
    by : (b : Bool) (gs : List (List Bytes)) → total (cond b (onto_first line gs) ((line ∷ []) ∷ gs)) ≡ suc (total gs)
    by true [] = refl
    by true (g ∷ gs) = omega arith
    by false gs = omega arith

counted_on : (n : ℕ) (before rest : List (List Bytes)) → counted n (before ++ rest) ≡ counted n before ++ counted (n + total before) rest
counted_on n [] rest = ap (λ (k : ℕ). counted k rest) (omega arith)
counted_on n (g ∷ before) rest =
    ap (λ (more : List (ℕ × List Bytes)). (n, g) ∷ more)
    (counted_on (n + length g) before rest ∙ ap (λ (k : ℕ). counted (n + length g) before ++ counted k rest) (omega arith))

-- each number is one of the lines of the groups, or the next
counted_within : (n : ℕ) (gs : List (List Bytes)) → AllByRecursion (λ (one : ℕ × List Bytes). (n ≤ one.0) × (one.0 ≤ n + total gs)) (counted n gs)
counted_within n [] = tt
counted_within n (g ∷ gs) = ((omega arith, omega arith), wider (counted (n + length g) gs) (counted_within (n + length g) gs))
  where
    wider : (ones : List (ℕ × List Bytes)) → AllByRecursion (λ (one : ℕ × List Bytes). (n + length g ≤ one.0) × (one.0 ≤ n + length g + total gs)) ones
        → AllByRecursion (λ (one : ℕ × List Bytes). (n ≤ one.0) × (one.0 ≤ n + (length g + total gs))) ones
    wider [] h = tt
    wider (one ∷ ones) h = ((omega (arith, h.0.0), omega (arith, h.0.1)), wider ones h.1)

-- 3. What numbered groups say, where an empty line says nothing.

module _ {X : Type 0} (says : ℕ → List Bytes → X) where
  abbrev pub said : List (ℕ × List Bytes) → List X
  said ones = map (λ (one : ℕ × List Bytes). says one.0 one.1) (filter takes_part ones)

  module _ (f : LogicalLine → X) (same : (line : LogicalLine) → AreSpelled line → f line ≡ says line.number (line_wholes line)) where
    each_says : (ls : List LogicalLine) → AllByRecursion AreSpelled ls → map f ls ≡ map (λ (one : ℕ × List Bytes). says one.0 one.1) (map line_counted ls)
    each_says [] h = refl
    each_says (line ∷ ls) h =
        ap (λ (x : X). x ∷ map f ls) (same line h.0) ∙ ap (λ (xs : List X). says line.number (line_wholes line) ∷ xs) (each_says ls h.1)

    pub said_of_text : (text : Bytes) → map f (logical_lines text) ≡ said (counted 1 (whole_groups (lines text)))
    said_of_text text =
        each_says (logical_lines text) (lines_are_spelled text)
        ∙ ap (map (λ (one : ℕ × List Bytes). says one.0 one.1)) (lines_counted text)

  said_on : (before rest : List (ℕ × List Bytes)) → said (before ++ rest) ≡ said before ++ said rest
  said_on before rest =
      ap (map (λ (one : ℕ × List Bytes). says one.0 one.1)) (filter-append takes_part before rest)
      ∙ map-append (λ (one : ℕ × List Bytes). says one.0 one.1) (filter takes_part before) (filter takes_part rest)

  module _ (nothing : (n : ℕ) (group : List Bytes) → says n (group ++ [] ∷ []) ≡ says n group) where
    said_more : (n : ℕ) (a g : List Bytes) (xs ys : List (ℕ × List Bytes)) → whole_skipped a ≡ whole_skipped g → says n a ≡ says n g → said xs ≡ said ys → said ((n, a) ∷ xs) ≡ said ((n, g) ∷ ys)
    said_more n a g xs ys skips same rest =
        ap (λ b. map (λ (one : ℕ × List Bytes). says one.0 one.1) (cond (not b) ((n, a) ∷ filter takes_part xs) (filter takes_part xs))) skips
        ∙ by (not (whole_skipped g))
      where
        by : (b : Bool) → map (λ (one : ℕ × List Bytes). says one.0 one.1) (cond b ((n, a) ∷ filter takes_part xs) (filter takes_part xs))
            ≡ map (λ (one : ℕ × List Bytes). says one.0 one.1) (cond b ((n, g) ∷ filter takes_part ys) (filter takes_part ys))
        by true = ap (λ (x : X). x ∷ said xs) same ∙ ap (λ (more : List X). says n g ∷ more) rest
        by false = rest

    said_skipped : (n : ℕ) (a : List Bytes) → whole_skipped a ≡ true → said ((n, a) ∷ []) ≡ []
    said_skipped n a e = ap (λ b. map (λ (one : ℕ × List Bytes). says one.0 one.1) (cond (not b) ((n, a) ∷ []) [])) e

    said_alike : (n : ℕ) (es gs : List (List Bytes)) → AreEnded es gs → said (counted n es) ≡ said (counted n gs)
    said_alike n [] gs h = absurd h
    said_alike n (a ∷ []) [] h = said_skipped n a (ap whole_skipped h ∙ skipped_empty)
    said_alike n (a ∷ next ∷ es) [] h = absurd h
    said_alike n (a ∷ es) (g ∷ gs) (inl h) =
        said_more n a g (counted (n + length a) es) (counted (n + length g) gs) (ap whole_skipped h.0) (ap (says n) h.0)
        (ap (λ (k : ℕ). said (counted (n + k) es)) (ap length h.0) ∙ said_alike (n + length g) es gs h.1)
    said_alike n (a ∷ es) (g ∷ gs) (inr h) =
        said_more n a g (counted (n + length a) es) (counted (n + length g) gs) (ap whole_skipped h.0 ∙ skipped_alike g) (ap (says n) h.0 ∙ nothing n g)
        (ap (λ (groups : List (List Bytes)). said (counted (n + length a) groups)) h.1 ∙ sym (ap (λ (groups : List (List Bytes)). said (counted (n + length g) groups)) h.2))

    pub said_at_empty : (n : ℕ) (before rest : List Bytes)
        → said (counted n (whole_groups (before ++ [] ∷ rest))) ≡ said (counted n (whole_groups before)) ++ said (counted (n + suc (length before)) (whole_groups rest))
    said_at_empty n before rest =
        let ended = whole_groups (before ++ [] ∷ []) in
        let behind : total ended ≡ suc (length before) = total_groups (before ++ [] ∷ []) ∙ length-append before ([] ∷ []) ∙ omega arith in
        ap (λ (groups : List (List Bytes)). said (counted n groups)) (groups_part before rest)
        ∙ ap said (counted_on n ended (whole_groups rest))
        ∙ said_on (counted n ended) (counted (n + total ended) (whole_groups rest))
        ∙ ap (λ (xs : List X). xs ++ said (counted (n + total ended) (whole_groups rest))) (said_alike n ended (whole_groups before) (are_ended before))
        ∙ ap (λ (k : ℕ). said (counted n (whole_groups before)) ++ said (counted (n + k) (whole_groups rest))) behind

-- what is said by two ways is the same, if it is for the numbers of these lines
module _ {X : Type 0} (says tells : ℕ → List Bytes → X) where
  alike : (ones : List (ℕ × List Bytes)) → AllByRecursion (λ (one : ℕ × List Bytes). says one.0 one.1 ≡ tells one.0 one.1) ones → said says ones ≡ said tells ones
  alike [] h = refl
  alike (one ∷ ones) h = by (takes_part one) (alike ones h.1)
    where
      by : (b : Bool) → said says ones ≡ said tells ones → map (λ (a : ℕ × List Bytes). says a.0 a.1) (cond b (one ∷ filter takes_part ones) (filter takes_part ones))
          ≡ map (λ (a : ℕ × List Bytes). tells a.0 a.1) (cond b (one ∷ filter takes_part ones) (filter takes_part ones))
      by true rest = ap (λ (x : X). x ∷ said says ones) h.0 ∙ ap (λ (xs : List X). tells one.0 one.1 ∷ xs) rest
      by false rest = rest

  each_alike : (n m : ℕ) (ones : List (ℕ × List Bytes)) → ((k : ℕ) (group : List Bytes) → n ≤ k → k ≤ m → says k group ≡ tells k group)
      → AllByRecursion (λ (one : ℕ × List Bytes). (n ≤ one.0) × (one.0 ≤ m)) ones → AllByRecursion (λ (one : ℕ × List Bytes). says one.0 one.1 ≡ tells one.0 one.1) ones
  each_alike n m [] same h = tt
  each_alike n m (one ∷ ones) same h = (same one.0 one.1 h.0.0 h.0.1, each_alike n m ones same h.1)

  pub said_in_range : (n : ℕ) (ls : List Bytes) → ((k : ℕ) (group : List Bytes) → n ≤ k → k ≤ n + length ls → says k group ≡ tells k group)
      → said says (counted n (whole_groups ls)) ≡ said tells (counted n (whole_groups ls))
  said_in_range n ls same =
      let groups = whole_groups ls in
      let many : total groups ≡ length ls = total_groups ls in
      alike (counted n groups) (each_alike n (n + total groups) (counted n groups) (λ k group low high. same k group low (omega (arith, high, many))) (counted_within n groups))

-- numbers that begin behind others
module _ {X : Type 0} (says : ℕ → List Bytes → X) (behind : ℕ) where
  counted_behind : (n : ℕ) (gs : List (List Bytes)) → counted (behind + n) gs ≡ map (λ (one : ℕ × List Bytes). (behind + one.0, one.1)) (counted n gs)
  counted_behind n [] = refl
  counted_behind n (g ∷ gs) =
      ap (λ (rest : List (ℕ × List Bytes)). (behind + n, g) ∷ rest) (ap (λ (k : ℕ). counted k gs) (omega arith) ∙ counted_behind (n + length g) gs)

  said_shifted : (ones : List (ℕ × List Bytes)) → said says (map (λ (one : ℕ × List Bytes). (behind + one.0, one.1)) ones) ≡ said (λ k group. says (behind + k) group) ones
  said_shifted [] = refl
  said_shifted (one ∷ ones) = by (takes_part one) (said_shifted ones)
    where
      by : (b : Bool) → said says (map (λ (a : ℕ × List Bytes). (behind + a.0, a.1)) ones) ≡ said (λ k group. says (behind + k) group) ones → map (λ (a : ℕ × List Bytes). says a.0 a.1) (cond b ((behind + one.0, one.1) ∷ filter takes_part (map (λ (a : ℕ × List Bytes). (behind + a.0, a.1)) ones)) (filter takes_part (map (λ (a : ℕ × List Bytes). (behind + a.0, a.1)) ones)))
          ≡ map (λ (a : ℕ × List Bytes). says (behind + a.0) a.1) (cond b (one ∷ filter takes_part ones) (filter takes_part ones))
      by true rest = ap (λ (xs : List X). says (behind + one.0) one.1 ∷ xs) rest
      by false rest = rest

  pub said_behind : (n : ℕ) (gs : List (List Bytes)) → said says (counted (behind + n) gs) ≡ said (λ k group. says (behind + k) group) (counted n gs)
  said_behind n gs = ap (said says) (counted_behind n gs) ∙ said_shifted (counted n gs)

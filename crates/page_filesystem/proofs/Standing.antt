-- The lines of a site stand in the order of their file systems, and those of one in the order of their numbers.
use Rattle.std.proofs.Common.{◌≡◌, ◌≢◌, ◌≤◌, ◌<◌, ◌+◌, ◌++◌, ◌∙◌, ℕ, zero, suc, cond, List, [], ◌∷◌, ap, arith, filter, get_or, inl, inr, length, map, refl, subst, sym}
use Rattle.std.specs.Prelude.{◌==◌, All, Bool}
use Rattle.std.specs.List.{AllPairs, flat_map, range_with_len}
use Rattle.std.proofs.lemmas.Bool.{cases_eq, eq-eqb, ne_eqb}
use Rattle.std.proofs.lemmas.List.{append-nil, get_or-map, length-map}
use Rattle.std.proofs.lemmas.List.Concat.{flat_map-cons}
use Rattle.std.proofs.lemmas.List.Elements.{All-append, All-map, filter-append}
use Rattle.std.proofs.lemmas.List.Kept.{AllPairs-cons}
use Rattle.desk_policy.specs.Policy.{AreAscending, Content, rows_of}
use Rattle.desk_policy.specs.declared.row.Row.{Row}
use Rattle.page_findings.specs.Lines.{AreLinesOfSite, LineValue, PlacedRow, line_value, placed, placed_in, rows_in}
use Rattle.page_findings.specs.declared.lines.SiteLine.{SiteLine}
use Rattle.page_findings.proofs.Mapped.{filter_mapped}
use Rattle.page_filesystem.specs.Notes.{LinesAscend}
use Rattle.page_filesystem.specs.OwnLines.{AreByFileSystem, lines_in}

abbrev pub fs_on : SiteLine → ℕ
fs_on line = line.fs.0

pub kept_by_filesystem : (lines : List SiteLine) → AreByFileSystem (map line_value lines) → AllPairs (λ line later. fs_on line ≤ fs_on later) lines
kept_by_filesystem lines ascend i j d less below =
    let few = length-map lines line_value in
    let value = line_value d in
    let left = ap (λ (line : LineValue). line.fs) (get_or-map line_value lines i d value (omega arith)) in
    let right = ap (λ (line : LineValue). line.fs) (get_or-map line_value lines j d value below) in
    let up = ascend i j value less (omega arith) in
    omega arith

-- ---- the lines of file systems, one after another
abbrev InOrder : PlacedRow → PlacedRow → Type 0
InOrder row later = row.fs ≤ later.fs

module _ (content : Content) where
  abbrev rows_from : ℕ → ℕ → List PlacedRow
  rows_from start n = flat_map (rows_in content) (range_with_len start n)

  -- those of a file system and of the n after it
  first_rows : (start n : ℕ) → rows_from start (suc n) ≡ rows_in content start ++ rows_from (start + 1) n
  first_rows start n = flat_map-cons (rows_in content) start (range_with_len (start + 1) n)

  all_from : (n start : ℕ) → All (λ row. start ≤ row.fs) (rows_from start n)
  all_from zero start = λ k d within. absurd (omega arith)
  all_from (suc n) start =
      let later = all_from n (start + 1) in
      subst (All (λ (row : PlacedRow). start ≤ row.fs)) (sym (first_rows start n))
      (All-append (λ (row : PlacedRow). start ≤ row.fs) (rows_in content start) (rows_from (start + 1) n)
      (All-map (λ (row : PlacedRow). start ≤ row.fs) (placed_in start) (rows_of content start) (λ k d within. omega arith))
      (λ k d within. let up = later k d within in omega arith))

  before : (start : ℕ) (rows : List Row) (rest : List PlacedRow) → All (λ row. start ≤ row.fs) rest → AllPairs InOrder rest → AllPairs InOrder (map (placed_in start) rows ++ rest)
  before start [] rest above up = up
  before start (row ∷ rows) rest above up =
      AllPairs-cons InOrder (placed_in start row) (map (placed_in start) rows ++ rest)
      (All-append (InOrder (placed_in start row)) (map (placed_in start) rows) rest (All-map (InOrder (placed_in start row)) (placed_in start) rows (λ k d within. omega arith)) above)
      (before start rows rest above up)

  in_order : (n start : ℕ) → AllPairs InOrder (rows_from start n)
  in_order zero start = λ i j d less within. absurd (omega arith)
  in_order (suc n) start =
      let above = all_from n (start + 1) in
      subst (AllPairs InOrder) (sym (first_rows start n))
      (before start (rows_of content start) (rows_from (start + 1) n) (λ k d within. let up = above k d within in omega arith) (in_order n (start + 1)))

  pub by_filesystem : (lines : List LineValue) → AreLinesOfSite content lines → AreByFileSystem lines
  by_filesystem lines are i j d less below =
      let few = length-map lines placed in
      let left = ap (λ (row : PlacedRow). row.fs) (get_or-map placed lines i d (placed d) (omega arith)) in
      let right = ap (λ (row : PlacedRow). row.fs) (get_or-map placed lines j d (placed d) below) in
      let all : AllPairs InOrder (map placed lines) = subst (AllPairs InOrder) (sym are.rows) (in_order (length content.table) 0) in
      let up = all i j (placed d) less (omega arith) in
      omega arith

  -- ---- those of one
  module _ (fs : ℕ) where
    abbrev is_own : PlacedRow → Bool
    is_own row = row.fs == fs

    all_own : (rows : List Row) → filter is_own (map (placed_in fs) rows) ≡ map (placed_in fs) rows
    all_own [] = refl
    all_own (row ∷ rows) =
        ap (λ b. cond b (placed_in fs row ∷ filter is_own (map (placed_in fs) rows)) (filter is_own (map (placed_in fs) rows))) (eq-eqb fs fs refl)
        ∙ ap (λ ps. placed_in fs row ∷ ps) (all_own rows)

    none_own : (other : ℕ) → other ≢ fs → (rows : List Row) → filter is_own (map (placed_in other) rows) ≡ []
    none_own other apart [] = refl
    none_own other apart (row ∷ rows) =
        ap (λ b. cond b (placed_in other row ∷ filter is_own (map (placed_in other) rows)) (filter is_own (map (placed_in other) rows))) (ne_eqb other fs apart)
        ∙ none_own other apart rows

    split : (start n : ℕ) → filter is_own (rows_from start (suc n)) ≡ filter is_own (rows_in content start) ++ filter is_own (rows_from (start + 1) n)
    split start n = ap (filter is_own) (first_rows start n) ∙ filter-append is_own (rows_in content start) (rows_from (start + 1) n)

    none_later : (n start : ℕ) → fs < start → filter is_own (rows_from start n) ≡ []
    none_later zero start less = refl
    none_later (suc n) start less =
        split start n ∙ ap (λ ps. ps ++ filter is_own (rows_from (start + 1) n)) (none_own start (λ same. omega arith) (rows_of content start))
        ∙ none_later n (start + 1) (omega arith)

    own_among : (n start : ℕ) → start ≤ fs → fs < start + n → filter is_own (rows_from start n) ≡ rows_in content fs
    own_among zero start le less = absurd (omega arith)
    own_among (suc n) start le less =
        elim (cases_eq start fs) as (λ _. filter is_own (rows_from start (suc n)) ≡ rows_in content fs) [
          | inl same ↦ split start n ∙ ap (λ ps. filter is_own (rows_in content start) ++ ps) (none_later n (start + 1) (omega arith)) ∙ append-nil (filter is_own (rows_in content start))
              ∙ ap (λ m. filter is_own (rows_in content m)) same ∙ all_own (rows_of content fs)
          | inr apart ↦ split start n ∙ ap (λ ps. ps ++ filter is_own (rows_from (start + 1) n)) (none_own start apart (rows_of content start))
              ∙ own_among n (start + 1) (omega arith) (omega arith)
        ]

    module _ (lines : List LineValue) (are : AreLinesOfSite content lines) (listed : fs < length content.table) where
      own_rows : map placed (lines_in lines fs) ≡ map (placed_in fs) (rows_of content fs)
      own_rows = filter_mapped placed is_own lines ∙ ap (filter is_own) are.rows ∙ own_among (length content.table) 0 (omega arith) (omega arith)

      pub own_ascend : AreAscending (rows_of content fs) → LinesAscend (lines_in lines fs)
      own_ascend ascend i j d less below =
          let own : List LineValue = lines_in lines fs in
          let rows : List Row = rows_of content fs in
          let long : length own ≡ length rows = sym (length-map own placed) ∙ ap length own_rows ∙ length-map rows (placed_in fs) in
          let at : (k : ℕ) → k < length own → (get_or own k d).row.entry.line ≡ (get_or rows k d.row).entry.line =
          λ k within. sym (ap (λ (row : PlacedRow). row.row.entry.line) (get_or-map placed own k d (placed d) within))
          ∙ ap (λ (ps : List PlacedRow). (get_or ps k (placed d)).row.entry.line) own_rows
          ∙ ap (λ (row : PlacedRow). row.row.entry.line) (get_or-map (placed_in fs) rows k d.row (placed d) (omega arith)) in
          let first = at i (omega arith) in
          let second = at j below in
          let up = ascend i j d.row less (omega arith) in
          omega arith

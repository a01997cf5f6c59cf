-- The lines that stand out are told in one way: what is said of them, and in which rows, depends on their values alone.
use Rattle.std.proofs.Common.{◌≡◌, ℕ, ◌-◌, ◌==◌, ◌++◌, ◌∙◌, Bool, not, List, [], ◌∷◌, Option, Some, ap, arith, bytes_eq, codes, drop, if◌then◌else◌, is_none, length, map, nat_le, option_map, refl, slice_get, subst, sym, take, true≢false, unwrap_or}
use Rattle.std.specs.Prelude.{count_by, filter}
use Rattle.std.specs.List.{flat_map}
use Rattle.std.proofs.lemmas.List.{drop-map, length-map, take-map}
use Rattle.desk_core.specs.declared.head.Head.{Head}
use Rattle.desk_policy.specs.Policy.{Content}
use Rattle.desk_tables.specs.declared.filesystems.Mount.{Mount}
use Rattle.page_data.specs.Groups.{AreGrouped}
use Rattle.page_data.specs.Laws.{IsSoundSite}
use Rattle.page_html.specs.Blocks.{tag_html}
use Rattle.page_html.specs.Tables.{Frame, row_html, table_start}
use Rattle.page_html.specs.Titles.{Said}
use Rattle.page_html.specs.declared.blocks.Tag.TheVariants.{FoldEnd, TableEnd}
use Rattle.page_findings.specs.Deciding.{DecidedFor}
use Rattle.page_findings.specs.Findings.{stands_out}
use Rattle.page_findings.specs.Lines.{AreLinesOfSite, KnownLine, LineValue, known_line}
use Rattle.page_findings.specs.UniqueLaws.{LinesAreToldInOneWay}
use Rattle.page_findings.proofs.Alike.{known_standing, level_known, level_of_known, stands_by}
use Rattle.page_findings.proofs.Mapped.{count_mapped, filter_mapped, map_twice}
use Rattle.page_summary.specs.Files.{text_in_force}
use Rattle.page_summary.specs.FindingRows.{AreFindingRows, FindingTable, findings_text, row_of}
use Rattle.page_summary.specs.Findings.{RowValue, cells, counted_findings, counts, findings, findings_frame, fold_start, folded_rows, is_first, lines_html, more_frame, no_finding, open_and_folded, open_rows, row_value, table}
use Rattle.page_summary.specs.SharedRows.{told_by}
use Rattle.page_summary.specs.SiteFinding.{SiteFindingValue, finding_at, finding_of, findings_among}
use Rattle.page_summary.specs.declared.findings.FindingRow.{FindingRow}

-- ---- lines that are told alike, by value
abbrev alike_by : RowValue → RowValue → Bool
alike_by row other = bytes_eq (told_by row) (told_by other)

-- groups of what is alike by value are groups of the values
module _ {X V : Type 0} (value_of : X → V) (alike : V → V → Bool) where
  first_by : (xs : List X) (first : X) → slice_get xs 0 ≡ Some first → slice_get (map value_of xs) 0 ≡ Some (value_of first)
  first_by [] first is = ap (option_map value_of) is
  first_by (x ∷ xs) first is = ap (option_map value_of) is

  grouped_by : (xs : List X) (groups : List (List X)) → AreGrouped (λ x other. alike (value_of x) (value_of other)) xs groups
      → AreGrouped alike (map value_of xs) (map (map value_of) groups)
  grouped_by xs [] are = ap (map value_of) are
  grouped_by xs ([] ∷ groups) are = are
  grouped_by xs ((first ∷ others) ∷ groups) are =
      let test = alike (value_of first) in (
        first_by xs first are.0,
        ap (map value_of) are.1 ∙ filter_mapped value_of test xs,
        subst (λ (some : List V). AreGrouped alike some (map (map value_of) groups)) (filter_mapped value_of (λ other. not (test other)) xs)
            (grouped_by (filter (λ x. not (test (value_of x))) xs) groups are.2),
      )

module _ {A : Type 0} (alike : A → A → Bool) where
  none_first : (values : List A) (first : A) → values ≡ [] → slice_get values 0 ≡ Some first → ⊥
  none_first [] first none is = absurd (true≢false (ap is_none is))
  none_first (value ∷ values) first none is = absurd (let long = ap length none in omega arith)

  one_grouping : (values : List A) (groups others : List (List A)) → AreGrouped alike values groups → AreGrouped alike values others → groups ≡ others
  one_grouping values [] [] are its = refl
  one_grouping values [] ([] ∷ others) are its = absurd its
  one_grouping values [] ((first ∷ rest) ∷ others) are its = absurd (none_first values first are its.0)
  one_grouping values ([] ∷ groups) others are its = absurd are
  one_grouping values ((first ∷ rest) ∷ groups) [] are its = absurd (none_first values first its are.0)
  one_grouping values ((first ∷ rest) ∷ groups) ([] ∷ others) are its = absurd its
  one_grouping values ((first ∷ rest) ∷ groups) ((first' ∷ rest') ∷ others) are its =
      let same : first ≡ first' = ap (λ (o : Option A). unwrap_or o first) (sym are.0 ∙ its.0) in
      let own : first ∷ rest ≡ first' ∷ rest' = are.1 ∙ ap (λ (x : A). filter (alike x) values) same ∙ sym its.1 in
      let left = subst (λ (x : A). AreGrouped alike (filter (λ value. not (alike x value)) values) others) (sym same) its.2 in
      ap (λ group. group ∷ groups) own ∙ ap (λ some. (first' ∷ rest') ∷ some) (one_grouping (filter (λ value. not (alike first value)) values) groups others are.2 left)

-- ---- the text

abbrev lines_by : Frame → List RowValue → List ℕ
lines_by frame [] = []
lines_by frame (first ∷ others) = row_html frame (cells first (first ∷ others))

lines_are : (frame : Frame) (lines : List FindingRow) → lines_html frame lines ≡ lines_by frame (map row_value lines)
lines_are frame [] = refl
lines_are frame (first ∷ others) = refl

abbrev values : List (List FindingRow) → List (List RowValue)
values rows = map (map row_value) rows

all_lines : (frame : Frame) (rows : List (List FindingRow)) → flat_map (lines_html frame) rows ≡ flat_map (lines_by frame) (values rows)
all_lines frame [] = refl
all_lines frame (lines ∷ rows) = λ i. lines_are frame lines i ++ all_lines frame rows i

module _ (rows others : List (List FindingRow)) (same : values rows ≡ values others) where
  table_alike : (frame : Frame) (title : List ℕ) → table frame title rows ≡ table frame title others
  table_alike frame title =
      let lines : flat_map (lines_html frame) rows ≡ flat_map (lines_html frame) others =
      all_lines frame rows ∙ ap (flat_map (lines_by frame)) same ∙ sym (all_lines frame others) in
      λ i. table_start frame (Said title ∷ []) ++ lines i ++ tag_html TableEnd

  as_many : length rows ≡ length others
  as_many = sym (length-map rows (map row_value)) ∙ ap length same ∙ length-map others (map row_value)

  open_alike : open_rows rows ≡ open_rows others
  open_alike = table_alike findings_frame (codes "Lines that stand out")

  folded_alike : folded_rows rows ≡ folded_rows others
  folded_alike = λ i. fold_start (as_many i) ++ table_alike more_frame (codes "More lines that stand out") i ++ tag_html FoldEnd

module _ (rows others : List (List FindingRow)) (same : values rows ≡ values others) where
  both_alike : open_and_folded rows ≡ open_and_folded others
  both_alike =
      let first = sym (take-map (map row_value) 24 rows) ∙ ap (take 24) same ∙ take-map (map row_value) 24 others in
      let behind = sym (drop-map (map row_value) 24 rows) ∙ ap (drop 24) same ∙ drop-map (map row_value) 24 others in
      λ i. if nat_le (as_many rows others same i) 24 then open_alike rows others same i
      else open_alike (take 24 rows) (take 24 others) first i ++ folded_alike (drop 24 rows) (drop 24 others) behind i

  rows_alike : findings rows ≡ findings others
  rows_alike = λ i. if as_many rows others same i == 0 then no_finding else both_alike i

counted_alike : (lines others : List FindingRow) → map row_value lines ≡ map row_value others → counted_findings lines ≡ counted_findings others
counted_alike lines others same =
    let first = count_mapped row_value is_first lines ∙ ap (count_by is_first) same ∙ sym (count_mapped row_value is_first others) in
    let all = sym (length-map lines row_value) ∙ ap length same ∙ length-map others row_value in
    λ i. counts (first i) (all i - first i)

-- ---- of lines of a site

-- what is made of what is told of lines that stand out depends on the lines by value
module _ {V : Type 0} (decided : List (List DecidedFor)) (made_of : SiteFindingValue → V) where
  abbrev pub made_by : KnownLine → V
  made_by line = made_of (finding_at decided (level_of_known line.reasons) line)

  pub findings_by : (lines : List LineValue) → map made_of (findings_among decided lines) ≡ map made_by (filter stands_by (map known_line lines))
  findings_by lines =
      let standing = filter stands_out lines in
      let by_level : (λ (line : LineValue). made_of (finding_of decided line)) ≡ (λ (line : LineValue). made_by (known_line line)) =
      λ i line. made_of (finding_at decided (level_known line.reasons i) (known_line line)) in
      map_twice (finding_of decided) made_of standing ∙ ap (λ (made : LineValue → V). map made standing) by_level
      ∙ sym (map_twice known_line made_by standing) ∙ ap (map made_by) (known_standing lines)

pub one_text_of_findings : LinesAreToldInOneWay → (content : Content) (table : List Mount) (heads : List Head) (decided : List (List DecidedFor)) (lines others : List LineValue)
    (findings other : FindingTable) → IsSoundSite content → AreLinesOfSite content lines → AreLinesOfSite content others
    → AreFindingRows table heads decided lines findings → AreFindingRows table heads decided others other → findings_text findings ≡ findings_text other
one_text_of_findings law content mounts heads decided lines others findings other sound lines_are others_are are its =
    let texts = map (text_in_force heads) mounts in
    let alike = law.findings content lines others are.found its.found sound lines_are others_are are.are its.are in
    let same : map row_value findings.lines ≡ map row_value other.lines =
    are.told ∙ findings_by decided (row_of mounts texts) are.found
    ∙ ap (λ (known : List KnownLine). map (made_by decided (row_of mounts texts)) (filter stands_by known)) alike
    ∙ sym (findings_by decided (row_of mounts texts) its.found) ∙ sym its.told in
    let groups = one_grouping alike_by (map row_value findings.lines) (values findings.rows) (values other.rows)
    (grouped_by row_value alike_by findings.lines findings.rows are.shared)
    (subst (λ (some : List RowValue). AreGrouped alike_by some (values other.rows)) (sym same) (grouped_by row_value alike_by other.lines other.rows its.shared)) in
    λ i. counted_alike findings.lines other.lines same i ++ rows_alike findings.rows other.rows groups i

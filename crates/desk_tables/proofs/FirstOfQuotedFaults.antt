-- Where each line of a table depends on the earlier ones: the first of its faults is that of the first faulty line.
use Rattle.std.proofs.Common.{◌≡◌, ◌↔◌, ℕ, List, [], ◌∷◌, ◌++◌, Option, Some, None, Result, Ok, Err, refl, length, find, subst, sym, ap, ◌∙◌, append_assoc, arith}
use Rattle.std.specs.Prelude.{IsSome, codes}
use Rattle.std.specs.List.{cons_option, filter_map, slice_get}
use Rattle.std.proofs.lemmas.List.{append-nil, length_push, map-append}
use Rattle.std.proofs.lemmas.List.Elements.{filter_map-append}
use Rattle.desk_text.specs.Lines.{LogicalLine, logical_lines}
use Rattle.desk_text.specs.Reading.{answered_value, fault_at, fault_of, unless_fault, value_of}
use Rattle.desk_tables.specs.Custodians as custodians
use Rattle.desk_tables.specs.FileSystems.{mount_points}
use Rattle.desk_tables.specs.FileSystemsText as filesystems
use Rattle.desk_tables.specs.Laws.{IsFirstOf}
use Rattle.desk_tables.specs.QuotedLines.{answers, faults_after, line_values, lines_table, with_lines}
use Rattle.desk_tables.specs.Rules.{TableFault, unless_rule}
use Rattle.desk_tables.specs.declared.custodians.Custodian.{Custodian}
use Rattle.desk_tables.specs.declared.filesystems.Mount.{Mount}
use Rattle.desk_tables.specs.declared.rules.TableRule.{TableRule}
use Rattle.desk_tables.specs.declared.rules.TableRule.TheVariants as variant
use Rattle.desk_tables.proofs.CustodianLemmas.{named_on, names, names-append}
use Rattle.desk_tables.proofs.FileSystemsTextLemmas.{good_line, not_skipped}
use Rattle.desk_tables.proofs.GoodLines.{good_lines_have_rows}
use Rattle.desk_tables.proofs.FirstOfLineFaults.{refused_with_first}

module _ {Row : Type 0} (by_lines : List LogicalLine → LogicalLine → Result (Option Row) TableRule) (by_rows : List Row → LogicalLine → Result (Option Row) TableRule) (Goes : List LogicalLine → List Row → Type 0)
    (agree : (before : List LogicalLine) (rows : List Row) (line : LogicalLine) → Goes before rows → by_lines before line ≡ by_rows rows line)
    (next : (before : List LogicalLine) (rows : List Row) (line : LogicalLine) (row : Option Row) → Goes before rows → by_rows rows line ≡ Ok row → Goes (before ++ line ∷ []) (rows ++ cons_option row [])) where
  -- by the answer of one line: its fault is the first, or it has none
  by_answer : (before : List LogicalLine) (rows : List Row) (line : LogicalLine) (more : List LogicalLine) (a : Result (Option Row) TableRule)
      → ((row : Option Row) → a ≡ Ok row → slice_get (faults_after by_rows (rows ++ cons_option row []) more) 0 ≡ slice_get (filter_map fault_of (answers by_lines (before ++ line ∷ []) more)) 0)
      → slice_get (cons_option (fault_at line.number a) (faults_after by_rows (rows ++ cons_option (answered_value a) []) more)) 0 ≡ slice_get (cons_option (fault_at line.number a) (filter_map fault_of (answers by_lines (before ++ line ∷ []) more))) 0
  by_answer before rows line more (Ok row) further = further row refl
  by_answer before rows line more (Err rule) further = refl

  pub same_first : (before : List LogicalLine) (rows : List Row) (lines : List LogicalLine) → Goes before rows → slice_get (faults_after by_rows rows lines) 0 ≡ slice_get (filter_map fault_of (answers by_lines before lines)) 0
  same_first before rows [] goes = refl
  same_first before rows (line ∷ more) goes =
      by_answer before rows line more (by_rows rows line)
      (λ row good. same_first (before ++ line ∷ []) (rows ++ cons_option row []) more (next before rows line row goes good))
      ∙ ap (λ (a : Result (Option Row) TableRule). slice_get (cons_option (fault_at line.number a) (filter_map fault_of (answers by_lines (before ++ line ∷ []) more))) 0) (sym (agree before rows line goes))

-- the mount points of rows are those that the lines list, each line one
abbrev AreMounts : List LogicalLine → List Mount → Type 0
AreMounts before rows = (length rows ≡ length before) × (mount_points rows ≡ filesystems.paths_on before)

mounts_agree : (before : List LogicalLine) (rows : List Mount) (line : LogicalLine) → AreMounts before rows → filesystems.line_answer before line ≡ filesystems.row_answer rows line
mounts_agree before rows line are =
    ap (λ n. filesystems.values_answer line.number n (filesystems.paths_on before) (line_values line)) (sym are.0)
    ∙ ap (λ ps. filesystems.values_answer line.number (length rows) ps (line_values line)) (sym are.1)

next_mount : (before : List LogicalLine) (rows : List Mount) (line : LogicalLine) (row : Option Mount) → AreMounts before rows → filesystems.row_answer rows line ≡ Ok row → AreMounts (before ++ line ∷ []) (rows ++ cons_option row [])
next_mount before rows line None are good = absurd (not_skipped line.number (length rows) (mount_points rows) (line_values line) good)
next_mount before rows line (Some row) are good = (
  omega (arith, are.0, length_push rows row, length_push before line),
  map-append (λ (m : Mount). m.path) rows (row ∷ [])
      ∙ ap (λ ps. ps ++ row.path ∷ []) are.1
      ∙ sym (filter_map-append (λ l. filesystems.path_in (line_values l)) before (line ∷ [])
      ∙ ap (λ o. filesystems.paths_on before ++ cons_option o []) (good_line line.number (length rows) (mount_points rows) (line_values line) row good).listed),
)

-- a table in order is refused with the same fault
refused_in_order : (read : Result (List Mount) TableFault) (fault : TableFault) → (filesystems.in_order read ≡ Err fault) ↔ (read ≡ Err fault)
refused_in_order (Ok table) fault = (λ h. absurd (cc), λ h. absurd (cc))
refused_in_order (Err first) fault = (λ h. let same : first ≡ fault = cc in ap Err same, λ h. let same : first ≡ fault = cc in ap Err same)

pub of_filesystems : (text : List ℕ) (fault : TableFault) → (filesystems.read_filesystems text ≡ Err fault) ↔ IsFirstOf fault (filesystems.filesystem_faults text)
of_filesystems text fault =
    let lines : List LogicalLine = logical_lines text in
    let ordered = refused_in_order (lines_table filesystems.line_answer lines) fault in
    let first = refused_with_first (filter_map fault_of (answers filesystems.line_answer [] lines)) (filter_map value_of (answers filesystems.line_answer [] lines)) fault in
    let same : slice_get (filesystems.filesystem_faults text) 0 ≡ slice_get (filter_map fault_of (answers filesystems.line_answer [] lines)) 0 =
    same_first filesystems.line_answer filesystems.row_answer AreMounts mounts_agree next_mount [] [] lines (refl, refl) in
    (λ h. same ∙ first.0 (ordered.0 h), λ h. ordered.1 (first.1 (sym same ∙ h)))

-- a line of custodians that breaks no rule has its row
none_of : (broken : Option TableRule) (row : Option Custodian) → unless_rule broken row ≡ Ok None → (broken ≡ None) × (row ≡ None)
none_of None row h = (refl, cc)
none_of (Some rule) row h = absurd (cc)

some_row : (o : Option Custodian) → IsSome o → o ≡ None → ⊥
some_row None some h = absurd (cc)
some_row (Some row) some h = absurd (cc)

not_skipped_custodian : (before : List (List ℕ)) (words : Result (List (List ℕ)) TableRule) → custodians.values_answer before words ≡ Ok None → ⊥
not_skipped_custodian before (Err rule) h = absurd (cc)
not_skipped_custodian before (Ok words) h =
    let none = none_of (find (custodians.breaks before words) custodians.rules) (custodians.row_of words) h in
    some_row (custodians.row_of words) (good_lines_have_rows.of_custodians before words none.0) none.1

-- the names of rows are those that the lines list
abbrev AreNames : List LogicalLine → List Custodian → Type 0
AreNames before rows = names rows ≡ custodians.names_on before

next_name : (before : List LogicalLine) (rows : List Custodian) (line : LogicalLine) (row : Option Custodian) → AreNames before rows → custodians.row_answer rows line ≡ Ok row → AreNames (before ++ line ∷ []) (rows ++ cons_option row [])
next_name before rows line None are good = absurd (not_skipped_custodian (names rows) (line_values line) good)
next_name before rows line (Some row) are good =
    names-append rows row
    ∙ ap (λ ns. ns ++ row.name ∷ []) are
    ∙ sym (filter_map-append (λ l. custodians.name_in (line_values l)) before (line ∷ [])
    ∙ ap (λ o. custodians.names_on before ++ cons_option o []) (named_on (names rows) (line_values line) row good))

names_agree : (before : List LogicalLine) (rows : List Custodian) (line : LogicalLine) → AreNames before rows → custodians.line_answer before line ≡ custodians.row_answer rows line
names_agree before rows line are = ap (λ ns. custodians.values_answer ns (line_values line)) (sym are)

-- where no line is faulty, the rows are those of the lines
module _ {Row : Type 0} (by_lines : List LogicalLine → LogicalLine → Result (Option Row) TableRule) (by_rows : List Row → LogicalLine → Result (Option Row) TableRule) (Goes : List LogicalLine → List Row → Type 0)
    (agree : (before : List LogicalLine) (rows : List Row) (line : LogicalLine) → Goes before rows → by_lines before line ≡ by_rows rows line)
    (next : (before : List LogicalLine) (rows : List Row) (line : LogicalLine) (row : Option Row) → Goes before rows → by_rows rows line ≡ Ok row → Goes (before ++ line ∷ []) (rows ++ cons_option row [])) where
  rows_by : (before : List LogicalLine) (rows : List Row) (line : LogicalLine) (more : List LogicalLine) (a : Result (Option Row) TableRule)
      → ((row : Option Row) → a ≡ Ok row → filter_map fault_of (answers by_lines (before ++ line ∷ []) more) ≡ [] → with_lines by_rows (rows ++ cons_option row []) more ≡ (rows ++ cons_option row []) ++ filter_map value_of (answers by_lines (before ++ line ∷ []) more))
      → cons_option (fault_at line.number a) (filter_map fault_of (answers by_lines (before ++ line ∷ []) more)) ≡ []
      → with_lines by_rows (rows ++ cons_option (answered_value a) []) more ≡ rows ++ cons_option (answered_value a) (filter_map value_of (answers by_lines (before ++ line ∷ []) more))
  rows_by before rows line more (Ok None) further good = further None refl good ∙ ap (λ rs. rs ++ filter_map value_of (answers by_lines (before ++ line ∷ []) more)) (append-nil rows)
  rows_by before rows line more (Ok (Some row)) further good = further (Some row) refl good ∙ append_assoc rows (row ∷ []) (filter_map value_of (answers by_lines (before ++ line ∷ []) more))
  rows_by before rows line more (Err rule) further good = absurd (cc)

  pub same_rows : (before : List LogicalLine) (rows : List Row) (lines : List LogicalLine) → Goes before rows → filter_map fault_of (answers by_lines before lines) ≡ [] → with_lines by_rows rows lines ≡ rows ++ filter_map value_of (answers by_lines before lines)
  same_rows before rows [] goes good = sym (append-nil rows)
  same_rows before rows (line ∷ more) goes good =
      let told : by_lines before line ≡ by_rows rows line = agree before rows line goes in
      let others : List Row = filter_map value_of (answers by_lines (before ++ line ∷ []) more) in
      rows_by before rows line more (by_rows rows line)
      (λ row ok rest. same_rows (before ++ line ∷ []) (rows ++ cons_option row []) more (next before rows line row goes ok) rest)
      (ap (λ (a : Result (Option Row) TableRule). cons_option (fault_at line.number a) (filter_map fault_of (answers by_lines (before ++ line ∷ []) more))) (sym told) ∙ good)
      ∙ ap (λ (a : Result (Option Row) TableRule). rows ++ cons_option (answered_value a) others) (sym told)

refused_missing : (rows : List Custodian) (found : Option Custodian) (fault : TableFault) → (custodians.unless_missing rows found ≡ Err fault) ↔ IsFirstOf fault (custodians.site_faults found)
refused_missing rows None fault = (λ h. let same : record { line = 0; rule = variant.Custodian } ≡ fault = cc in ap Some same, λ h. let same : record { line = 0; rule = variant.Custodian } ≡ fault = cc in ap Err same)
refused_missing rows (Some site) fault = (λ h. absurd (cc), λ h. absurd (cc))

-- by the faults of the lines, as both ways of judging them have them
site_by : (rows listed : List Custodian) (faults told : List TableFault) (fault : TableFault) → slice_get told 0 ≡ slice_get faults 0 → (faults ≡ [] → listed ≡ rows)
    → (custodians.with_site (unless_fault faults rows) ≡ Err fault) ↔ IsFirstOf fault (custodians.or_missing_site listed told)
site_by rows listed [] [] fault same are =
    subst (λ rs. (custodians.with_site (Ok rows) ≡ Err fault) ↔ IsFirstOf fault (custodians.site_faults (custodians.custodian_named rs (codes "site")))) (sym (are refl))
    (refused_missing rows (custodians.custodian_named rows (codes "site")) fault)
site_by rows listed [] (other ∷ others) fault same are = absurd (cc)
site_by rows listed (first ∷ more) [] fault same are = absurd (cc)
site_by rows listed (first ∷ more) (other ∷ others) fault same are =
    let one : other ≡ first = cc in
    (λ h. let is : first ≡ fault = cc in ap Some (one ∙ is), λ h. let is : other ≡ fault = cc in ap Err (sym one ∙ is))

pub of_custodians : (text : List ℕ) (fault : TableFault) → (custodians.read_custodians text ≡ Err fault) ↔ IsFirstOf fault (custodians.custodian_faults text)
of_custodians text fault =
    let lines : List LogicalLine = logical_lines text in
    site_by (filter_map value_of (answers custodians.line_answer [] lines)) (with_lines custodians.row_answer [] lines) (filter_map fault_of (answers custodians.line_answer [] lines)) (faults_after custodians.row_answer [] lines) fault
    (same_first custodians.line_answer custodians.row_answer AreNames names_agree next_name [] [] lines refl)
    (λ good. same_rows custodians.line_answer custodians.row_answer AreNames names_agree next_name [] [] lines refl good)

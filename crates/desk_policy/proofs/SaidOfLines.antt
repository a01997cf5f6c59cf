-- What holds of all that a line of a text can say holds of the lines in force.
use Rattle.std.proofs.Common.{◌≡◌, ◌∙◌, ℕ, zero, suc, ◌+◌, List, [], ◌∷◌, Some, Result, Ok, Err, arith, eqb, filter, get_or, inl, inr, length, ltb, map, refl, subst, sym}
use Rattle.std.specs.Prelude.{codes}
use Rattle.std.specs.List.{AllByRecursion}
use Rattle.std.specs.Result.{result_map_both}
use Rattle.std.proofs.lemmas.Bool.{cases_eq, cases_Bool, cond-true, cond-false, eq-eqb, ne_eqb}
use Rattle.desk_text.specs.Lines.{LogicalLine, logical_lines}
use Rattle.desk_text.specs.Path.{path_text}
use Rattle.desk_text.specs.declared.reading.LineFault.{LineFault}
use Rattle.desk_tables.specs.declared.filesystems.FsId.{FsId}
use Rattle.desk_tables.specs.declared.filesystems.Mount.{Mount}
use Rattle.desk_tables.specs.declared.hosts.HostRow.{HostRow}
use Rattle.desk_netgroup.specs.declared.group_line.GroupLine.{GroupLine}
use Rattle.desk_exports.specs.Files.{line_says, text_answer}
use Rattle.desk_exports.specs.Laws.{AnswersSayWhat, EntriesAreTheAnswers, SaysWhat, takes_part}
use Rattle.desk_exports.specs.Tables.{TableRows}
use Rattle.desk_exports.specs.declared.entry.Entry.{Entry}
use Rattle.desk_exports.specs.declared.files.Scope.{Scope}
use Rattle.desk_exports.specs.declared.files.Scope.TheVariants.{File, Whole}
use Rattle.desk_exports.specs.declared.profile.Profile.{Profile}
use Rattle.desk_exports.specs.declared.rules.Rule.{Rule}
use Rattle.desk_policy.specs.Laws.{custodians_in, filesystems_in}
use Rattle.desk_policy.specs.Parsing.{content_with, ExportsFile, file_with, in_file, read_after_filesystems, read_exports, read_files, read_site, read_site_tables, read_text, read_whole_with, rows_with, then_read, whole_policy}
use Rattle.desk_policy.specs.Policy.{Content, content_of, EachHasItsLines, rows_of, rows_placed, with_warnings}
use Rattle.desk_policy.specs.Row.{row_of}
use Rattle.desk_policy.specs.Site.{SiteTexts}
use Rattle.desk_policy.specs.SiteFault.{exports_name, line_fault}
use Rattle.desk_policy.specs.Warning.{whole_warnings}
use Rattle.desk_policy.specs.declared.parsing.SiteTables.{SiteTables}
use Rattle.desk_policy.specs.declared.row.Row.{Row}
use Rattle.desk_policy.specs.declared.site.ExportsText.{ExportsText}
use Rattle.desk_policy.specs.declared.site_fault.SiteFault.{SiteFault}
use Rattle.desk_policy.proofs.SiteLaws.{was_read}

-- what an exports file gives, by what its text answers
pub was_answered : (site_tables : SiteTables) (name : List ℕ) (answer : Result (List (FsId × Entry)) (LineFault Rule)) (file : ExportsFile)
    → then_read (in_file (line_fault name) (result_map_both (map (λ one. one.1)) (λ fault. fault) answer)) (λ entries. Ok (file_with site_tables name entries)) ≡ Ok file
    → (placed : List (FsId × Entry)) × (answer ≡ Ok placed) × (file_with site_tables name (map (λ one. one.1) placed) ≡ file)
was_answered site_tables name (Ok placed) file is = (placed, refl, (cc))
was_answered site_tables name (Err fault) file is = absurd (cc)

pub was_in_file : {X F : Type 0} (fault_of : F → SiteFault) (read : Result X F) (value : X) → in_file fault_of read ≡ Ok value → read ≡ Ok value
was_in_file fault_of (Ok found) value is = cc
was_in_file fault_of (Err fault) value is = absurd (cc)

-- this holds of each of the lines of a file system
abbrev pub Hold : (ℕ → Entry → Type 0) → ℕ → List Row → Type 0
Hold P fs rows = AllByRecursion (λ row. P fs row.entry) rows

module _ (P : ℕ → Entry → Type 0) (netgroups : List GroupLine) (hosts : List HostRow) (fs : ℕ) where
  -- of the entries of one exports file
  of_entries : (placed : List (FsId × Entry)) → AllByRecursion (λ one. P fs one.1) placed → Hold P fs (map (row_of netgroups hosts) (map (λ one. one.1) placed))
  of_entries [] all = tt
  of_entries (one ∷ more) all = (all.0, of_entries more all.1)

  -- of those entries of a whole text that are placed in the file system
  of_placed : (placed : List (FsId × Entry)) → AllByRecursion (λ one. P one.0.0 one.1) placed → Hold P fs (rows_placed netgroups hosts placed fs)
  of_placed [] all = tt
  of_placed (one ∷ more) all =
      let rest : List (FsId × Entry) = filter (λ pair. eqb pair.0.0 fs) more in
      let Fit : List (FsId × Entry) → Type 0 = λ pairs. Hold P fs (map (λ pair. row_of netgroups hosts pair.1) pairs) in
      let later : Fit rest = of_placed more all.1 in
      elim (cases_eq one.0.0 fs) [
        | inl is ↦ subst Fit (sym (cond-true (eqb one.0.0 fs) (one ∷ rest) rest (eq-eqb one.0.0 fs is))) (subst (λ n. P n one.1) is all.0, later)
        | inr apart ↦ subst Fit (sym (cond-false (eqb one.0.0 fs) (one ∷ rest) rest (ne_eqb one.0.0 fs apart))) later
      ]

module _ (said : AnswersSayWhat) (answers : EntriesAreTheAnswers) (P : List Mount → ℕ → Entry → Type 0)
    (says : (tables : TableRows) (scope : Scope) (line : LogicalLine) (one : FsId × Entry) → SaysWhat tables scope line one → P tables.filesystems one.0.0 one.1) where
  -- ---- a text

  module _ (tables : TableRows) (scope : Scope) where
    abbrev Said : FsId × Entry → Type 0
    Said one = (line : LogicalLine) × SaysWhat tables scope line one

    each_said : (lines : List LogicalLine) (placed : List (FsId × Entry)) → map (line_says tables scope) lines ≡ map (λ one. Ok (Some one)) placed → AllByRecursion Said placed
    each_said [] [] are = tt
    each_said [] (one ∷ more) are = absurd (cc)
    each_said (line ∷ lines) [] are = absurd (cc)
    each_said (line ∷ lines) (one ∷ more) are =
        let first : line_says tables scope line ≡ Ok (Some one) = cc in
        let others : map (line_says tables scope) lines ≡ map (λ one. Ok (Some one)) more = cc in
        ((line, said tables scope line one first), each_said lines more others)

    weaker : (Q : FsId × Entry → Type 0) → ((line : LogicalLine) (one : FsId × Entry) → SaysWhat tables scope line one → Q one) → (placed : List (FsId × Entry)) → AllByRecursion Said placed
        → AllByRecursion Q placed
    weaker Q of_line [] all = tt
    weaker Q of_line (one ∷ more) all = (of_line all.0.0 one all.0.1, weaker Q of_line more all.1)

    each_entry : (Q : FsId × Entry → Type 0) → ((line : LogicalLine) (one : FsId × Entry) → SaysWhat tables scope line one → Q one) → (text : List ℕ) (placed : List (FsId × Entry))
        → text_answer tables scope text ≡ Ok placed → AllByRecursion Q placed
    each_entry Q of_line text placed is = weaker Q of_line placed (each_said (filter takes_part (logical_lines text)) placed (answers tables scope text placed is))

  module _ (table : List Mount) (site_tables : SiteTables) where
    pub text_holds : (text : ExportsText) (fs : ℕ) (mount : List (List ℕ)) (file : ExportsFile) → read_text text table site_tables fs mount ≡ Ok file → Hold (P table) fs file.rows
    text_holds text fs mount file is =
        let tables : TableRows = rows_with text.profile table site_tables in
        let own : FsId = record { 0 = fs } in
        let read = was_answered site_tables (exports_name mount) (text_answer tables (File own) text.body) file is in
        let each = each_entry tables (File own) (λ one. P table fs one.1)
        (λ line one what. (let same : own ≡ one.0 = cc in subst (λ (f : FsId). P table f.0 one.1) (sym same) (says tables (File own) line one what))) text.body read.0 read.1 in
        subst (λ (f : ExportsFile). Hold (P table) fs f.rows) read.2 (of_entries (P table) site_tables.netgroups site_tables.hosts fs read.0 each)

  -- ---- a site

  module _ (texts : SiteTexts) (table : List Mount) (site_tables : SiteTables) where
    abbrev files_read : ℕ → List Mount → Result (List ExportsFile) SiteFault
    files_read fs mounts = read_files texts table site_tables fs mounts

    abbrev HoldAt : ℕ → ℕ → List ExportsFile → Type 0
    HoldAt fs i files = Hold (P table) fs (get_or (map (λ (f : ExportsFile). f.rows) files) i [])

    -- the file at each place; there is none beyond the last
    files_hold : (fs : ℕ) (mounts : List Mount) (files : List ExportsFile) → files_read fs mounts ≡ Ok files → (i at : ℕ) → at ≡ fs + i → HoldAt at i files
    files_hold fs [] files is i at there = let none : [] ≡ files = cc in subst (HoldAt at i) none tt
    files_hold fs (mount ∷ more) files is zero at there =
        let read = was_read (read_exports texts table site_tables fs mount.path) (λ file. then_read (files_read (fs + 1) more) (λ others. Ok (file ∷ others))) files is in
        let rest = was_read (files_read (fs + 1) more) (λ others. Ok (read.0 ∷ others)) files read.2 in
        let are : read.0 ∷ rest.0 ≡ files = cc in
        let now : fs ≡ at = omega arith in
        subst (HoldAt at 0) are (subst (λ n. HoldAt n 0 (read.0 ∷ rest.0)) now (text_holds table site_tables (texts.exports (path_text mount.path)) fs mount.path read.0 read.1))
    files_hold fs (mount ∷ more) files is (suc i) at there =
        let read = was_read (read_exports texts table site_tables fs mount.path) (λ file. then_read (files_read (fs + 1) more) (λ others. Ok (file ∷ others))) files is in
        let rest = was_read (files_read (fs + 1) more) (λ others. Ok (read.0 ∷ others)) files read.2 in
        let are : read.0 ∷ rest.0 ≡ files = cc in
        subst (HoldAt at (suc i)) are (files_hold (fs + 1) more rest.0 rest.1 i at (omega arith))

  -- of each line of a policy, as a line of its file system
  abbrev pub HoldIn : Content → Type 0
  HoldIn content = (fs : ℕ) → Hold (P content.table) fs (rows_of content fs)

  pub site_holds : (texts : SiteTexts) (content : Content) → read_site texts ≡ Ok content → HoldIn content
  unfolding read_site
  site_holds texts content is =
      let custodians = was_read (custodians_in texts) (λ rows. then_read (filesystems_in texts rows) (read_after_filesystems texts)) content is in
      let table = was_read (filesystems_in texts custodians.0) (read_after_filesystems texts) content custodians.2 in
      let tables = was_read (read_site_tables texts) (λ found. then_read (read_files texts table.0 found 0 table.0) (λ files. Ok (content_with table.0 found files))) content table.2 in
      let files = was_read (read_files texts table.0 tables.0 0 table.0) (λ all. Ok (content_with table.0 tables.0 all)) content tables.2 in
      let same : content_with table.0 tables.0 files.0 ≡ content = cc in
      subst HoldIn same (λ fs. files_hold texts table.0 tables.0 0 table.0 files.0 files.1 fs fs (omega arith))

  -- ---- a whole text

  pub whole_holds : EachHasItsLines → (profile : Profile) (site_tables : SiteTables) (table : List Mount) (text : List ℕ) (content : Content) → read_whole_with profile site_tables table text ≡ Ok content
      → HoldIn content
  unfolding content_of
  whole_holds lines profile site_tables table text content is =
      let tables : TableRows = rows_with profile table site_tables in
      let read = was_read (in_file (line_fault (codes "exports")) (text_answer tables Whole text)) (whole_policy site_tables table) content is in
      let answered = was_in_file (line_fault (codes "exports")) (text_answer tables Whole text) read.0 read.1 in
      let placed = each_entry tables Whole (λ one. P table one.0.0 one.1) (says tables Whole) text read.0 answered in
      let own : ℕ → List Row = rows_placed site_tables.netgroups site_tables.hosts read.0 in
      let same : with_warnings (content_of site_tables.netgroups site_tables.hosts table read.0) (whole_warnings site_tables.netgroups site_tables.hosts read.0) ≡ content = cc in
      subst HoldIn same (λ fs. elim (cases_Bool (ltb fs (length table))) [
        | inl there ↦ subst (Hold (P table) fs) (sym (lines site_tables.netgroups site_tables.hosts table read.0 fs ∙ cond-true (ltb fs (length table)) (own fs) [] there)) (of_placed (P table) site_tables.netgroups site_tables.hosts fs read.0 placed)
        | inr beyond ↦ subst (Hold (P table) fs) (sym (lines site_tables.netgroups site_tables.hosts table read.0 fs ∙ cond-false (ltb fs (length table)) (own fs) [] beyond)) tt
      ])

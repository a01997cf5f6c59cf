-- What texts write that differ from those of a site in one exports file.
use Rattle.std.proofs.Common.{◌≡◌, ◌≢◌, ◌∙◌, ◌<◌, ℕ, zero, suc, ◌+◌, List, [], ◌∷◌, Some, Result, Ok, Err, ap, arith, map, refl, set, subst, sym}
use Rattle.std.specs.Prelude.{codes, slice_get}
use Rattle.std.specs.Result.{MatchResult}
use Rattle.desk_text.specs.Path.{path_text}
use Rattle.desk_tables.specs.Custodians.{read_custodians}
use Rattle.desk_tables.specs.FileSystemsText.{read_filesystems}
use Rattle.desk_tables.specs.declared.custodians.Custodian.{Custodian}
use Rattle.desk_tables.specs.declared.filesystems.Mount.{Mount}
use Rattle.desk_policy.specs.Laws.{custodians_in, filesystems_in}
use Rattle.desk_policy.specs.Parsing.{content_with, ExportsFile, if_listed, in_file, read_after_filesystems, read_exports, read_files, read_site, read_site_tables, read_tables, read_text, then_read}
use Rattle.desk_policy.specs.Policy.{Content}
use Rattle.desk_policy.specs.Replacing.{DifferIn, OneFileIsReplaced, ReadsWith}
use Rattle.desk_policy.specs.Site.{SiteTexts}
use Rattle.desk_policy.specs.SiteFault.{table_fault}
use Rattle.desk_policy.specs.declared.parsing.SiteTables.{SiteTables}
use Rattle.desk_policy.specs.declared.per_site.PerSite.{PerSite}
use Rattle.desk_policy.specs.declared.site.ExportsText.{ExportsText}
use Rattle.desk_policy.specs.declared.site_fault.SiteFault.{SiteFault}
use Rattle.desk_policy.proofs.SiteLaws.{file_at, was_read}

rows_set : (files : List ExportsFile) (at : ℕ) (file : ExportsFile) → map (λ (f : ExportsFile). f.rows) (set files at file) ≡ set (map (λ (f : ExportsFile). f.rows) files) at file.rows
rows_set [] at file = refl
rows_set (f ∷ files) zero file = refl
rows_set (f ∷ files) (suc at) file = ap (λ rest. f.rows ∷ rest) (rows_set files at file)

-- what files read with another in one place, or with the fault of that one
abbrev ReplacesAt : List ExportsFile → ℕ → Result ExportsFile SiteFault → Result (List ExportsFile) SiteFault → Type 0
ReplacesAt files at read all = MatchResult read (λ file. all ≡ Ok (set files at file)) (λ fault. all ≡ Err fault)

module _ (texts other : SiteTexts) (table : List Mount) (tables : SiteTables) (fs : ℕ)
    (same : (place : ℕ) (mount : Mount) → place ≢ fs → slice_get table place ≡ Some mount → other.exports (path_text mount.path) ≡ texts.exports (path_text mount.path)) where
  -- these mount points are those of the table from a place on
  abbrev AreFrom : ℕ → List Mount → Type 0
  AreFrom start mounts = (i : ℕ) (mount : Mount) → slice_get mounts i ≡ Some mount → slice_get table (start + i) ≡ Some mount

  next_from : (start : ℕ) (first : Mount) (more : List Mount) → AreFrom start (first ∷ more) → AreFrom (start + 1) more
  next_from start first more are i mount here =
      let now : start + 1 + i ≡ start + suc i = omega arith in
      ap (slice_get table) now ∙ are (suc i) mount here

  same_file : (place : ℕ) (mount : Mount) → place ≢ fs → slice_get table place ≡ Some mount → read_exports other table tables place mount.path ≡ read_exports texts table tables place mount.path
  same_file place mount ne here =
      ap (λ (t : ExportsText). read_text t table tables place mount.path) (same place mount ne here)

  first_of : (start : ℕ) (first : Mount) (more : List Mount) → AreFrom start (first ∷ more) → slice_get table start ≡ Some first
  first_of start first more are = (let now : start ≡ start + 0 = omega arith in ap (slice_get table) now ∙ are 0 first refl)

  -- behind the file system nothing changes
  unchanged : (start : ℕ) (mounts : List Mount) → fs < start → AreFrom start mounts → read_files other table tables start mounts ≡ read_files texts table tables start mounts
  unchanged start [] past are = refl
  unchanged start (first ∷ more) past are =
      ap (λ read. then_read read (λ file. then_read (read_files other table tables (start + 1) more) (λ files. Ok (file ∷ files)))) (same_file start first (λ e. omega arith) (first_of start first more are))
      ∙ ap (λ rest. then_read (read_exports texts table tables start first.path) (λ file. then_read rest (λ files. Ok (file ∷ files)))) (unchanged (start + 1) more (omega arith) (next_from start first more are))

  here_read : (read : Result ExportsFile SiteFault) (first : ExportsFile) (rest : List ExportsFile) (others : Result (List ExportsFile) SiteFault) → others ≡ Ok rest
      → ReplacesAt (first ∷ rest) 0 read (then_read read (λ file. then_read others (λ files. Ok (file ∷ files))))
  here_read (Ok file) first rest others is = ap (λ o. then_read o (λ files. Ok (file ∷ files))) is
  here_read (Err fault) first rest others is = refl

  later_read : (read : Result ExportsFile SiteFault) (first : ExportsFile) (rest : List ExportsFile) (at : ℕ) (others : Result (List ExportsFile) SiteFault) → ReplacesAt rest at read others
      → ReplacesAt (first ∷ rest) (suc at) read (then_read others (λ files. Ok (first ∷ files)))
  later_read (Ok file) first rest at others is = ap (λ o. then_read o (λ files. Ok (first ∷ files))) is
  later_read (Err fault) first rest at others is = ap (λ o. then_read o (λ files. Ok (first ∷ files))) is

  replaced : (start : ℕ) (mounts : List Mount) (files : List ExportsFile) → read_files texts table tables start mounts ≡ Ok files → AreFrom start mounts
      → (at : ℕ) → fs ≡ start + at → (mount : Mount) → slice_get mounts at ≡ Some mount
      → ReplacesAt files at (read_exports other table tables fs mount.path) (read_files other table tables start mounts)
  replaced start [] files is are at there mount here = cc
  replaced start (first ∷ more) files is are zero there mount here =
      let read = was_read (read_exports texts table tables start first.path) (λ file. then_read (read_files texts table tables (start + 1) more) (λ others. Ok (file ∷ others))) files is in
      let rest = was_read (read_files texts table tables (start + 1) more) (λ others. Ok (read.0 ∷ others)) files read.2 in
      let parts : read.0 ∷ rest.0 ≡ files = cc in
      let now : fs ≡ start = omega arith in
      let this : first ≡ mount = cc in
      let e : read_exports other table tables fs mount.path ≡ read_exports other table tables start first.path = ap (λ n. read_exports other table tables n mount.path) now ∙ ap (λ (m : Mount). read_exports other table tables start m.path) (sym this) in
      subst (λ all. ReplacesAt all 0 (read_exports other table tables fs mount.path) (read_files other table tables start (first ∷ more))) parts
      (subst (λ r. ReplacesAt (read.0 ∷ rest.0) 0 r (read_files other table tables start (first ∷ more))) (sym e)
      (here_read (read_exports other table tables start first.path) read.0 rest.0 (read_files other table tables (start + 1) more) (unchanged (start + 1) more (omega arith) (next_from start first more are) ∙ rest.1)))
  replaced start (first ∷ more) files is are (suc at) there mount here =
      let read = was_read (read_exports texts table tables start first.path) (λ file. then_read (read_files texts table tables (start + 1) more) (λ others. Ok (file ∷ others))) files is in
      let rest = was_read (read_files texts table tables (start + 1) more) (λ others. Ok (read.0 ∷ others)) files read.2 in
      let parts : read.0 ∷ rest.0 ≡ files = cc in
      let first_read = same_file start first (λ e. omega arith) (first_of start first more are) ∙ read.1 in
      let own = read_exports other table tables fs mount.path in
      subst (λ all. ReplacesAt all (suc at) own (read_files other table tables start (first ∷ more))) parts
      (subst (λ (r : Result (List ExportsFile) SiteFault). ReplacesAt (read.0 ∷ rest.0) (suc at) own r) (sym (ap (λ r. then_read r (λ file. then_read (read_files other table tables (start + 1) more) (λ others. Ok (file ∷ others)))) first_read))
      (later_read own read.0 rest.0 at (read_files other table tables (start + 1) more) (replaced (start + 1) more rest.0 rest.1 (next_from start first more are) at (omega arith) mount here)))

-- ---- a site

-- the policy with the file that was read in its place, or that file's fault
module _ (other : SiteTexts) (table : List Mount) (tables : SiteTables) (files : List ExportsFile) (fs : ℕ) (mount : Mount) (here : slice_get table fs ≡ Some mount) where
  with_files : (read : Result ExportsFile SiteFault) → read_exports other table tables fs mount.path ≡ read → ReplacesAt files fs read (read_files other table tables 0 table)
      → ReadsWith (content_with table tables files) fs read (then_read (read_files other table tables 0 table) (λ found. Ok (content_with table tables found)))
  with_files (Ok file) own is =
      let found = file_at other table tables 0 table (set files fs file) is fs fs (omega arith) mount here in
      let same : found.0 ≡ file = (let e : Ok found.0 ≡ Ok file = sym found.1 ∙ own in cc) in
      record {
        policy = content_with table tables (set files fs file);
        is = ap (λ all. then_read all (λ found. Ok (content_with table tables found))) is;
        table = refl;
        lines = rows_set files fs file;
        own = found.2 ∙ ap (λ (f : ExportsFile). f.rows) same;
      }
  with_files (Err fault) own is = ap (λ all. then_read all (λ found. Ok (content_with table tables found))) is

module _ (texts other : SiteTexts) {table : List Mount} {fs : ℕ} (apart : DifferIn table fs texts other) where
  same_tables : read_site_tables other ≡ read_site_tables texts
  same_tables = ap (λ (files : PerSite (List ℕ)). read_tables files.tables) apart.files

-- what the other texts write, as far as they are the same
whole : (texts other : SiteTexts) {table : List Mount} {fs : ℕ} → DifferIn table fs texts other → (rows : List Custodian) (mounts : List Mount) (tables : SiteTables)
    → custodians_in texts ≡ Ok rows → filesystems_in texts rows ≡ Ok mounts → read_site_tables texts ≡ Ok tables
    → read_site other ≡ then_read (read_files other mounts tables 0 mounts) (λ found. Ok (content_with mounts tables found))
unfolding read_site
whole texts other apart rows mounts tables c f t =
    ap (λ r. then_read r (λ rs. then_read (filesystems_in other rs) (read_after_filesystems other))) (ap (λ (files : PerSite (List ℕ)). in_file (table_fault (codes "custodians")) (read_custodians files.custodians)) apart.files ∙ c)
    ∙ ap (λ r. then_read r (read_after_filesystems other)) (ap (λ (files : PerSite (List ℕ)). in_file (table_fault (codes "filesystems")) (if_listed rows (read_filesystems files.filesystems))) apart.files ∙ f)
    ∙ ap (λ r. then_read r (λ ts. then_read (read_files other mounts ts 0 mounts) (λ files. Ok (content_with mounts ts files)))) (same_tables texts other apart ∙ t)

pub one_file_is_replaced : OneFileIsReplaced
unfolding read_site
one_file_is_replaced texts other content site_tables fs mount is tables_read here differ =
    let custodians = was_read (custodians_in texts) (λ rows. then_read (filesystems_in texts rows) (read_after_filesystems texts)) content is in
    let table = was_read (filesystems_in texts custodians.0) (read_after_filesystems texts) content custodians.2 in
    let tables = was_read (read_site_tables texts) (λ found. then_read (read_files texts table.0 found 0 table.0) (λ files. Ok (content_with table.0 found files))) content table.2 in
    let files = was_read (read_files texts table.0 tables.0 0 table.0) (λ all. Ok (content_with table.0 tables.0 all)) content tables.2 in
    let same : content_with table.0 tables.0 files.0 ≡ content = cc in
    let one : tables.0 ≡ site_tables = (let e : Ok tables.0 ≡ Ok site_tables = sym tables.1 ∙ tables_read in cc) in
    let P : Content → SiteTables → Type 0 = λ k t. slice_get k.table fs ≡ Some mount → DifferIn k.table fs texts other → ReadsWith k fs (read_exports other k.table t fs mount.path) (read_site other) in
    let at_parts : P (content_with table.0 tables.0 files.0) tables.0 = λ there apart.
    let own = read_exports other table.0 tables.0 fs mount.path in
    let found = replaced texts other table.0 tables.0 fs apart.exports 0 table.0 files.0 files.1 (λ i m named. (let now : 0 + i ≡ i = omega arith in ap (slice_get table.0) now ∙ named)) fs (omega arith) mount there in
    subst (ReadsWith (content_with table.0 tables.0 files.0) fs own) (sym (whole texts other apart custodians.0 table.0 tables.0 custodians.1 table.1 tables.1))
    (with_files other table.0 tables.0 files.0 fs mount there own refl found) in
    subst (λ (t : SiteTables). P content t) one (subst (λ (k : Content). P k tables.0) same at_parts) here differ

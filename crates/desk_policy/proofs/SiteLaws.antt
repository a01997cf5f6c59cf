-- What the files of a site come to.
use Rattle.std.proofs.Common.{◌≡◌, ◌∙◌, ◌<◌, ℕ, zero, suc, ◌+◌, List, [], ◌∷◌, Option, Some, None, Result, Ok, Err, ap, arith, get_or, inl, inr, ◌⊎◌, map, refl, subst, sym}
use Rattle.std.specs.Prelude.{slice_get}
use Rattle.std.specs.Result.{MatchResult}
use Rattle.desk_tables.specs.declared.custodians.Custodian.{Custodian}
use Rattle.desk_tables.specs.declared.filesystems.Mount.{Mount}
use Rattle.desk_policy.specs.Laws.{custodians_in, EachHasItsOwnLines, fault_of, faults_before_exports, faults_of_tables, filesystems_in, first_of, FirstFaultyFileIsReported, HasItsOwnLines, IsOfFirstExports}
use Rattle.desk_policy.specs.Parsing.{content_with, ExportsFile, read_after_filesystems, read_exports, read_files, read_site, read_site_tables, then_read}
use Rattle.desk_policy.specs.Policy.{Content}
use Rattle.desk_policy.specs.Site.{SiteTexts}
use Rattle.desk_policy.specs.declared.parsing.SiteTables.{SiteTables}
use Rattle.desk_policy.specs.declared.site_fault.SiteFault.{SiteFault}

-- what was read before what comes next
pub was_read : {X Y : Type 0} (read : Result X SiteFault) (next : X → Result Y SiteFault) (value : Y) → then_read read next ≡ Ok value → (first : X) × (read ≡ Ok first) × (next first ≡ Ok value)
was_read (Ok first) next value is = (first, refl, is)
was_read (Err fault) next value is = cc

-- the fault of what is read, or of what comes next
was_faulty : {X Y : Type 0} (read : Result X SiteFault) (next : X → Result Y SiteFault) (fault : SiteFault) → then_read read next ≡ Err fault
    → (read ≡ Err fault) ⊎ ((first : X) × (read ≡ Ok first) × (next first ≡ Err fault))
was_faulty (Ok first) next fault is = inr (first, refl, is)
was_faulty (Err found) next fault is = inl (cc)

good_or_faulty : {X : Type 0} (read : Result X SiteFault) (value : X) (fault : SiteFault) → read ≡ Ok value → read ≡ Err fault → ⊥
good_or_faulty read value fault good faulty = cc

module _ (texts : SiteTexts) (table : List Mount) (tables : SiteTables) where
  abbrev one : ℕ → Mount → Result ExportsFile SiteFault
  one fs mount = read_exports texts table tables fs mount.path

  abbrev all : ℕ → List Mount → Result (List ExportsFile) SiteFault
  all fs mounts = read_files texts table tables fs mounts

  abbrev before_all : ℕ → List Mount → ExportsFile → Result (List ExportsFile) SiteFault
  before_all fs more file = then_read (all (fs + 1) more) (λ files. Ok (file ∷ files))

  -- the file of each place, if all can be read
  pub file_at : (fs : ℕ) (mounts : List Mount) (files : List ExportsFile) → all fs mounts ≡ Ok files → (i at : ℕ) → at ≡ fs + i → (mount : Mount) → slice_get mounts i ≡ Some mount
      → (file : ExportsFile) × (one at mount ≡ Ok file) × (get_or (map (λ (f : ExportsFile). f.rows) files) i [] ≡ file.rows)
  file_at fs [] files is i at there mount here = cc
  file_at fs (first ∷ more) files is zero at there mount here =
      let read = was_read (one fs first) (before_all fs more) files is in
      let rest = was_read (all (fs + 1) more) (λ others. Ok (read.0 ∷ others)) files read.2 in
      let same : first ≡ mount = cc in
      let now : fs ≡ at = omega arith in
      let are : read.0 ∷ rest.0 ≡ files = cc in (
        read.0,
        ap (λ n. one n mount) (sym now) ∙ ap (λ m. one fs m) (sym same) ∙ read.1,
        ap (λ (fs : List ExportsFile). get_or (map (λ (f : ExportsFile). f.rows) fs) 0 []) (sym are),
      )
  file_at fs (first ∷ more) files is (suc i) at there mount here =
      let read = was_read (one fs first) (before_all fs more) files is in
      let rest = was_read (all (fs + 1) more) (λ others. Ok (read.0 ∷ others)) files read.2 in
      let are : read.0 ∷ rest.0 ≡ files = cc in
      let found = file_at (fs + 1) more rest.0 rest.1 i at (omega arith) mount here in (
        found.0,
        found.1,
        ap (λ (fs : List ExportsFile). get_or (map (λ (f : ExportsFile). f.rows) fs) (suc i) []) (sym are) ∙ found.2,
      )

  -- the first faulty one of the files from a place on
  record FirstFaulty (fs : ℕ) (mounts : List Mount) (fault : SiteFault) : Type 0 where
    place : ℕ
    mount : Mount
    here : slice_get mounts place ≡ Some mount
    faulty : one (fs + place) mount ≡ Err fault
    before : (i at : ℕ) → at ≡ fs + i → (other : Mount) → i < place → slice_get mounts i ≡ Some other → (file : ExportsFile) × (one at other ≡ Ok file)

  -- this file is faulty
  faulty_here : (fs : ℕ) (first : Mount) (more : List Mount) (fault : SiteFault) → one fs first ≡ Err fault → FirstFaulty fs (first ∷ more) fault
  faulty_here fs first more fault is =
      let now : fs + 0 ≡ fs = omega arith in
      record {
        place = 0;
        mount = first;
        here = refl;
        faulty = ap (λ n. one n first) now ∙ is;
        before = λ i at there other less named. absurd (omega arith);
      }

  -- this file can be read, and one after it is faulty
  faulty_later : (fs : ℕ) (first : Mount) (more : List Mount) (fault : SiteFault) (file : ExportsFile) → one fs first ≡ Ok file → FirstFaulty (fs + 1) more fault → FirstFaulty fs (first ∷ more) fault
  faulty_later fs first more fault file good rest =
      let now : fs + suc rest.place ≡ fs + 1 + rest.place = omega arith in
      record {
        place = suc rest.place;
        mount = rest.mount;
        here = rest.here;
        faulty = ap (λ n. one n rest.mount) now ∙ rest.faulty;
        before = good_before;
      }
    where
      good_before : (i at : ℕ) → at ≡ fs + i → (other : Mount) → i < suc rest.place → slice_get (first ∷ more) i ≡ Some other → (found : ExportsFile) × (one at other ≡ Ok found)
      good_before zero at there other less named =
          let now : at ≡ fs = omega arith in
          let same : first ≡ other = cc in
          (file, ap (λ n. one n other) now ∙ ap (λ m. one fs m) (sym same) ∙ good)
      good_before (suc i) at there other less named = rest.before i at (omega arith) other (omega arith) named

  first_faulty : (fs : ℕ) (mounts : List Mount) (fault : SiteFault) → all fs mounts ≡ Err fault → FirstFaulty fs mounts fault
  first_faulty fs [] fault is = cc
  first_faulty fs (first ∷ more) fault is =
      elim (was_faulty (one fs first) (before_all fs more) fault is) [
        | inl faulty ↦ faulty_here fs first more fault faulty
        | inr good ↦
            elim (was_faulty (all (fs + 1) more) (λ others. Ok (good.0 ∷ others)) fault good.2) [
              | inl later ↦ faulty_later fs first more fault good.0 good.1 (first_faulty (fs + 1) more fault later)
              | inr none ↦ absurd (good_or_faulty (Ok (good.0 ∷ none.0)) (good.0 ∷ none.0) fault refl none.2)
            ]
      ]

-- ---- a site that can be read

pub each_has_its_own_lines : EachHasItsOwnLines
unfolding read_site
each_has_its_own_lines texts content fs mount is here =
    let custodians = was_read (custodians_in texts) (λ rows. then_read (filesystems_in texts rows) (read_after_filesystems texts)) content is in
    let table = was_read (filesystems_in texts custodians.0) (read_after_filesystems texts) content custodians.2 in
    let tables = was_read (read_site_tables texts) (λ found. then_read (read_files texts table.0 found 0 table.0) (λ files. Ok (content_with table.0 found files))) content table.2 in
    let files = was_read (read_files texts table.0 tables.0 0 table.0) (λ all. Ok (content_with table.0 tables.0 all)) content tables.2 in
    let same : content_with table.0 tables.0 files.0 ≡ content = cc in
    subst (λ (c : Content). slice_get c.table fs ≡ Some mount → HasItsOwnLines texts c fs mount) same
    (λ at. let found = file_at texts table.0 tables.0 0 table.0 files.0 files.1 fs fs (omega arith) mount at in
    record { tables = tables.0; read = tables.1; file = found.0; own = found.1; lines = found.2 })
    here

-- ---- a site that is faulty

-- the tables, or the first fault among them
of_tables : {A B C D E Y : Type 0} (a : Result A SiteFault) (b : Result B SiteFault) (c : Result C SiteFault) (d : Result D SiteFault) (e : Result E SiteFault) (all : A → B → C → D → E → Y)
    → MatchResult (then_read a (λ v. then_read b (λ w. then_read c (λ x. then_read d (λ y. then_read e (λ z. Ok (all v w x y z)))))))
    (λ value. first_of (fault_of a ∷ fault_of b ∷ fault_of c ∷ fault_of d ∷ fault_of e ∷ []) ≡ None)
    (λ fault. first_of (fault_of a ∷ fault_of b ∷ fault_of c ∷ fault_of d ∷ fault_of e ∷ []) ≡ Some fault)
of_tables (Err fault) b c d e all = refl
of_tables (Ok v) (Err fault) c d e all = refl
of_tables (Ok v) (Ok w) (Err fault) d e all = refl
of_tables (Ok v) (Ok w) (Ok x) (Err fault) e all = refl
of_tables (Ok v) (Ok w) (Ok x) (Ok y) (Err fault) all = refl
of_tables (Ok v) (Ok w) (Ok x) (Ok y) (Ok z) all = refl

module _ (texts : SiteTexts) where
  abbrev TablesFault : Result SiteTables SiteFault → Type 0
  TablesFault read = MatchResult read (λ tables. first_of (faults_of_tables texts.files.tables) ≡ None) (λ fault. first_of (faults_of_tables texts.files.tables) ≡ Some fault)

  tables_fault : TablesFault (read_site_tables texts)
  tables_fault = of_tables {Y = SiteTables} _ _ _ _ _ (λ hosts networks users groups netgroups. record { hosts = hosts; networks = networks; users = users; groups = groups; netgroups = netgroups })

-- the custodians, the file systems, and the tables after them
abbrev first_among : Result (List Custodian) SiteFault → (List Custodian → Result (List Mount) SiteFault) → List (Option SiteFault) → Option SiteFault
first_among custodians filesystems more = first_of (fault_of custodians ∷ fault_of (then_read custodians filesystems) ∷ more)

second_file : (custodians : Result (List Custodian) SiteFault) (filesystems : List Custodian → Result (List Mount) SiteFault) (more : List (Option SiteFault)) (rows : List Custodian)
    → custodians ≡ Ok rows → first_among custodians filesystems more ≡ first_of (fault_of (filesystems rows) ∷ more)
second_file custodians filesystems more rows is = ap (λ read. first_among read filesystems more) is

pub first_faulty_file_is_reported : FirstFaultyFileIsReported
unfolding read_site
first_faulty_file_is_reported texts fault is =
    let more = faults_of_tables texts.files.tables in
    let filesystems = filesystems_in texts in
    elim (was_faulty (custodians_in texts) (λ rows. then_read (filesystems rows) (read_after_filesystems texts)) fault is) [
      | inl faulty ↦ inl (ap (λ read. first_among read filesystems more) faulty)
      | inr custodians ↦
          let from_second = second_file (custodians_in texts) filesystems more custodians.0 custodians.1 in
          elim (was_faulty (filesystems custodians.0) (read_after_filesystems texts) fault custodians.2) [
            | inl faulty ↦ inl (from_second ∙ ap (λ read. first_of (fault_of read ∷ more)) faulty)
            | inr table ↦
                let from_third : first_of (faults_before_exports texts) ≡ first_of more = from_second ∙ ap (λ read. first_of (fault_of read ∷ more)) table.1 in
                elim (was_faulty (read_site_tables texts) (λ tables. then_read (read_files texts table.0 tables 0 table.0) (λ files. Ok (content_with table.0 tables files))) fault table.2) [
                  | inl faulty ↦ inl (from_third ∙ subst (TablesFault texts) faulty (tables_fault texts))
                  | inr tables ↦
                      let none = from_third ∙ subst (TablesFault texts) tables.1 (tables_fault texts) in
                      elim (was_faulty (read_files texts table.0 tables.0 0 table.0) (λ files. Ok (content_with table.0 tables.0 files)) fault tables.2) [
                        | inl faulty ↦ inr (of_exports texts fault custodians.0 table.0 tables.0 none custodians.1 table.1 tables.1 faulty)
                        | inr never ↦ absurd (good_or_faulty (Ok (content_with table.0 tables.0 never.0)) (content_with table.0 tables.0 never.0) fault refl never.2)
                      ]
                ]
          ]
    ]
  where
    of_exports : (texts : SiteTexts) (fault : SiteFault) (custodians : List Custodian) (table : List Mount) (tables : SiteTables) → first_of (faults_before_exports texts) ≡ None
        → custodians_in texts ≡ Ok custodians → filesystems_in texts custodians ≡ Ok table → read_site_tables texts ≡ Ok tables → read_files texts table tables 0 table ≡ Err fault → IsOfFirstExports texts fault
    of_exports texts fault custodians table tables none listed are read faulty =
        let first = first_faulty texts table tables 0 table fault faulty in
        record {
          none = none;
          table = table;
          listed = ap (λ found. then_read found (filesystems_in texts)) listed ∙ are;
          tables = tables;
          read = read;
          fs = first.place;
          mount = first.mount;
          here = first.here;
          faulty = (let now : first.place ≡ 0 + first.place = omega arith in ap (λ n. read_exports texts table tables n first.mount.path) now ∙ first.faulty);
          before = λ earlier other less named. first.before earlier earlier (omega arith) other less named;
        }

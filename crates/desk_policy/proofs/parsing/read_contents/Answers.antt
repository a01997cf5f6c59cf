use Rattle.std.proofs.Common.{◌≡◌, ◌≤◌, ◌∙◌, Err, List, Ok, Result, IfOk, ap, length, subst, sym, ℕ}
use Rattle.std.specs.Prelude.{codes}
use Rattle.std.proofs.lemmas.Result.{err_from_is_err_and}
use Rattle.desk_text.specs.Lines.{IsReadable}
use Rattle.desk_text.specs.Reading.{Reads}
use Rattle.desk_text.specs.declared.reading.ReadError.{ReadError}
use Rattle.desk_tables.specs.Custodians.{read_custodians}
use Rattle.desk_tables.specs.FileSystemsText.{read_filesystems}
use Rattle.desk_tables.specs.Rules.{TableFault}
use Rattle.desk_tables.specs.declared.custodians.Custodian.{Custodian}
use Rattle.desk_tables.specs.declared.filesystems.Mount.{Mount}
use Rattle.desk_policy.specs.Parsing.{if_listed, in_file, read_after_filesystems, read_policy, read_site, then_read}
use Rattle.desk_policy.specs.Policy.{Content}
use Rattle.desk_policy.specs.Site.{SiteTexts, texts_of}
use Rattle.desk_policy.specs.SiteFault.{table_fault}
use Rattle.desk_policy.specs.declared.site_fault.SiteFault.{SiteFault}
use Rattle.desk_policy.proofs.Chain.{goes_on, refused}
use Rattle.desk_policy.proofs.ContentsRead.{after_refused, site_refused}
use Rattle.desk_policy.specs.declared.site_file.SiteFile.TheVariants.{Custodians, Filesystems}
use Rattle.desk_policy.proofs.parsing.read_contents.Goals as goal

module _ (texts : SiteTexts) where
  abbrev custodians_in : Result (List Custodian) SiteFault
  custodians_in = in_file (table_fault (codes "custodians")) (read_custodians texts.files.custodians)

  abbrev filesystems_in : List Custodian → Result (List Mount) SiteFault
  filesystems_in custodians = in_file (table_fault (codes "filesystems")) (if_listed custodians (read_filesystems texts.files.filesystems))

  abbrev after_custodians : List Custodian → Result Content SiteFault
  after_custodians custodians = then_read (filesystems_in custodians) (read_after_filesystems texts)

pub returns-in_err-custodians : goal.returns-in_err-custodians
unfolding read_site
returns-in_err-custodians c =
    let texts = texts_of c.args.site.now in
    let p = err_from_is_err_and c.from_residual.result c.from_residual.ensures.1 in
    rw (p.1, p.2) (site_refused texts c.in_err-custodians.field-0.0 (refused (λ value. value) (λ value. value) c.in_err-custodians.field-0.0 (custodians_in texts) (after_custodians texts)
    (c.in_err-custodians.ensures.read (read_custodians texts.files.custodians) (subst (λ (t : List ℕ). Reads c.read-custodians.result (read_custodians t)) c.as_str.ensures c.read-custodians.ensures))))

pub returns-in_err-filesystems : goal.returns-in_err-filesystems
unfolding read_site
returns-in_err-filesystems c =
    let texts = texts_of c.args.site.now in
    let custodians = c.in_ok-custodians.ensures.read (read_custodians texts.files.custodians) (subst (λ (t : List ℕ). Reads c.read-custodians.result (read_custodians t)) c.as_str.ensures c.read-custodians.ensures) in
    let rows = c.in_ok-custodians.custodians in
    let p = err_from_is_err_and c.from_residual-in_err-filesystems.result c.from_residual-in_err-filesystems.ensures.1 in
    rw (p.1, p.2) (site_refused texts c.in_err-filesystems.field-0.0 (goes_on (λ value. value) (custodians_in texts) (after_custodians texts) rows (Err c.in_err-filesystems.field-0.0) custodians (refused (λ value. value) (λ value. value) c.in_err-filesystems.field-0.0 (filesystems_in texts rows) (read_after_filesystems texts)
    (c.in_err-filesystems.ensures.read (if_listed rows (read_filesystems texts.files.filesystems))
    (subst (λ (t : List ℕ). Reads c.read_filesystems-filesystems.result (if_listed rows (read_filesystems t))) c.as_str-2.ensures c.read_filesystems-filesystems.ensures.read)))))

pub read-custodians-requires : goal.read-custodians-requires
read-custodians-requires c = subst IsReadable (sym c.as_str.ensures) (c.requires.files Custodians)

pub read_filesystems-filesystems-requires : goal.read_filesystems-filesystems-requires
read_filesystems-filesystems-requires c = subst IsReadable (sym c.as_str-2.ensures) (c.requires.files Filesystems)

pub read_after_filesystems-requires-clause-few : goal.read_after_filesystems-requires-clause-few
read_after_filesystems-requires-clause-few c =
    let R : Result (List Mount) (ReadError TableFault) → Type 0 = λ r. IfOk r (λ (table : List Mount). length table ≤ 256) in
    subst R c.in_ok-filesystems.ensures.kept c.read_filesystems-filesystems.ensures.few

pub returns-in_err-tables : goal.returns-in_err-tables
unfolding read_site
returns-in_err-tables c =
    let texts = texts_of c.args.site.now in
    let custodians = c.in_ok-custodians.ensures.read (read_custodians texts.files.custodians) (subst (λ (t : List ℕ). Reads c.read-custodians.result (read_custodians t)) c.as_str.ensures c.read-custodians.ensures) in
    let rows = c.in_ok-custodians.custodians in
    let table = c.in_ok-filesystems.ensures.read (if_listed rows (read_filesystems texts.files.filesystems))
    (subst (λ (t : List ℕ). Reads c.read_filesystems-filesystems.result (if_listed rows (read_filesystems t))) c.as_str-2.ensures c.read_filesystems-filesystems.ensures.read) in
    let error = c.in_err-tables.field-0.0 in
    let p = err_from_is_err_and c.from_residual-in_err-tables.result c.from_residual-in_err-tables.ensures.1 in
    rw (p.1, p.2) (site_refused texts error (goes_on (λ value. value) (custodians_in texts) (after_custodians texts) rows (Err error) custodians
    (goes_on (λ value. value) (filesystems_in texts rows) (read_after_filesystems texts) c.in_ok-filesystems.filesystems (Err error) table
    (after_refused texts c.in_ok-filesystems.filesystems error c.in_err-tables.ensures))))

pub returns : goal.returns
unfolding read_site
returns c =
    let texts = texts_of c.args.site.now in
    let own : Reads c.read-custodians.result (read_custodians texts.files.custodians) = subst (λ (t : List ℕ). Reads c.read-custodians.result (read_custodians t)) c.as_str.ensures c.read-custodians.ensures in
    let custodians = c.in_ok-custodians.ensures.read (read_custodians texts.files.custodians) own in
    let rows = c.in_ok-custodians.custodians in
    let mounts = c.in_ok-filesystems.filesystems in
    let table = c.in_ok-filesystems.ensures.read (if_listed rows (read_filesystems texts.files.filesystems))
    (subst (λ (t : List ℕ). Reads c.read_filesystems-filesystems.result (if_listed rows (read_filesystems t))) c.as_str-2.ensures c.read_filesystems-filesystems.ensures.read) in
    let tables = c.in_ok-tables.ensures.0 in
    let after : read_after_filesystems texts mounts ≡ Ok c.in_ok-tables.policy = ap (λ read. then_read read (read_policy texts mounts)) tables ∙ c.in_ok-tables.ensures.1 in
    let K : Result (List Custodian) (ReadError TableFault) → Type 0 = λ r. Reads r (read_custodians texts.files.custodians) in
    record {
      custodians = subst K c.in_ok-custodians.ensures.kept own;
      tables = tables;
      policy = goes_on (λ value. value) (custodians_in texts) (after_custodians texts) rows (Ok c.in_ok-tables.policy) custodians (goes_on (λ value. value) (filesystems_in texts rows) (read_after_filesystems texts) mounts (Ok c.in_ok-tables.policy) table after);
    }

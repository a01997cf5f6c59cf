-- What comes of the texts of a new database's site, for `init_command`.
use Rattle.std.proofs.Common.{◌∙◌, ℕ, List, [], Result, String, Ok, Err, inl, refl, subst, sym, take}
use Rattle.std.specs.Prelude.{unwrap_or}
use Rattle.std.specs.BTreeMap.{BTreeMap, get_by_text}
use Rattle.std.specs.String.{string_bytes}
use Rattle.sqlite.specs.Held.{Held}
use Rattle.sqlite_trees.specs.declared.store.Store.{Ghosts}
use Rattle.desk_text.specs.declared.reading.LineFault.{LineFault}
use Rattle.desk_text.specs.declared.reading.ReadError.TheVariants.{Fault}
use Rattle.desk_tables.specs.FileSystemsText.{read_filesystems}
use Rattle.desk_tables.specs.Rules.{TableFault}
use Rattle.desk_tables.specs.declared.filesystems.Mount.{Mount}
use Rattle.desk_split.specs.Splitting.{split_text}
use Rattle.desk_exports.specs.declared.rules.Rule.{Rule}
use Rattle.desk_policy.specs.Site.{SiteTexts, no_exports}
use Rattle.desk_policy.specs.declared.site.ExportsText.{ExportsText}
use Rattle.cli_output.specs.Printed.{PrintsText}
use Rattle.cli_output.specs.declared.failure.Failure.{Failure}
use Rattle.cli_output.specs.declared.failure.Failure.TheVariants.{Memory}
use Rattle.cli_output.specs.declared.printed.Printed.{Printed}
use Rattle.cli_files.specs.SiteFolder.{site_list}
use Rattle.cli_files.specs.declared.site_folder.SiteFiles.{SiteFiles}
use Rattle.cli_edits.specs.InitCommand.{AnswersInitBy, AnswersInitOf, AnswersInitSplit, AnswersInitTexts, AnswersInitWith, ComesTo, SplitsExports, Stores, new_exports, part_of, split_line}
use Rattle.cli_edits.specs.declared.init_command.NotMade.{NotMade}
use Rattle.cli_edits.specs.declared.init_command.NotMade.TheVariants as not_made

-- the site of these seven texts and exports
abbrev site_by : SiteFiles → (List ℕ → ExportsText) → SiteTexts
site_by texts exports = record {
  files = record {
    custodians = string_bytes texts.custodians;
    filesystems = string_bytes texts.filesystems;
    tables = record {
      hosts = string_bytes texts.hosts;
      networks = string_bytes texts.networks;
      passwd = string_bytes texts.passwd;
      group = string_bytes texts.group;
      netgroup = string_bytes texts.netgroup;
    };
  };
  exports = exports;
}

-- memory runs out
pub memory_with : {Y : Type 0} (texts : SiteFiles) (exports : BTreeMap (String Y) ExportsText) → AnswersInitWith (site_list texts) exports (Err Memory)
memory_with texts exports = (site_by texts (λ name. unwrap_or (get_by_text exports name) no_exports), record { seven = refl; exports_are = λ name. refl }, inl refl)

memory_of : (texts : SiteFiles) (mounts : List Mount) (parts : List (List ℕ)) → AnswersInitOf (take 7 (site_list texts)) mounts parts (Err Memory)
memory_of texts mounts parts = (site_by texts (λ name. new_exports (part_of mounts parts name)), record { files = refl; exports = λ name. refl }, inl refl)

memory_split : (texts : SiteFiles) (mounts : List Mount) (split : Result (List (List ℕ)) (LineFault Rule)) → AnswersInitSplit (take 7 (site_list texts)) mounts split (Err Memory)
memory_split texts mounts (Ok parts) = memory_of texts mounts parts
memory_split texts mounts (Err fault) = refl

memory_by : (texts : SiteFiles) (text : List ℕ) (read : Result (List Mount) TableFault) → AnswersInitBy (take 7 (site_list texts)) text read (Err Memory)
memory_by texts text (Ok table) = memory_split texts table (split_text table text)
memory_by texts text (Err fault) = memory_of texts [] []

pub memory_texts : (texts : SiteFiles) → AnswersInitTexts (site_list texts) (Err Memory)
memory_texts texts = memory_by texts (string_bytes texts.exports) (read_filesystems (string_bytes texts.filesystems))

-- the exports text is split
with_read : {Y : Type 0} (texts : SiteFiles) (text : List ℕ) (exports : BTreeMap (String Y) ExportsText) (read : Result (List Mount) TableFault) (result : Result Printed Failure) → SplitsExports read text (Ok exports) → AnswersInitWith (site_list texts) exports result → AnswersInitBy (take 7 (site_list texts)) text read result
with_read texts text exports (Ok table) result splits answers =
    subst (λ (s : Result (List (List ℕ)) (LineFault Rule)). AnswersInitSplit (take 7 (site_list texts)) table s result) (sym splits.1)
    (answers.0, record { files = answers.1.seven; exports = λ name. answers.1.exports_are name ∙ splits.2 name }, answers.2)
with_read texts text exports (Err bad) result splits answers =
    (answers.0, record { files = answers.1.seven; exports = λ name. answers.1.exports_are name ∙ splits name }, answers.2)

pub with_exports : {Y : Type 0} (texts : SiteFiles) (exports : BTreeMap (String Y) ExportsText) (result : Result Printed Failure) → SplitsExports (read_filesystems (string_bytes texts.filesystems)) (string_bytes texts.exports) (Ok exports) → AnswersInitWith (site_list texts) exports result → AnswersInitTexts (site_list texts) result
with_exports texts exports result = with_read texts (string_bytes texts.exports) exports (read_filesystems (string_bytes texts.filesystems)) result

-- the exports text has a fault
fault_by : (Y : Type 0) (texts : SiteFiles) (text : List ℕ) (fault : LineFault Rule) (read : Result (List Mount) TableFault) (result : Result Printed Failure) → SplitsExports {Y = Y} read text (Err (Fault fault)) → PrintsText 3 (split_line fault) result → AnswersInitBy (take 7 (site_list texts)) text read result
fault_by Y texts text fault (Ok table) result splits is =
    subst (λ (s : Result (List (List ℕ)) (LineFault Rule)). AnswersInitSplit (take 7 (site_list texts)) table s result) (sym splits) is
fault_by Y texts text fault (Err bad) result splits is = absurd splits

-- it has a fault
pub with_fault : (Y : Type 0) (texts : SiteFiles) (fault : LineFault Rule) (result : Result Printed Failure) → SplitsExports {Y = Y} (read_filesystems (string_bytes texts.filesystems)) (string_bytes texts.exports) (Err (Fault fault)) → PrintsText 3 (split_line fault) result → AnswersInitTexts (site_list texts) result
with_fault Y texts fault result = fault_by Y texts (string_bytes texts.exports) fault (read_filesystems (string_bytes texts.filesystems)) result

-- what storing a site came to is so, whatever the connection
pub comes_to : {S A : Type 0} (g : Ghosts S) (old new : Held S) (site : SiteTexts) (result : Result (String A) NotMade) → Stores g old new site result → ComesTo site result
comes_to g old new site (Ok text) stores = (stores.0.judged, stores.1)
comes_to g old new site (Err (not_made.Create error)) stores = stores.judged
comes_to g old new site (Err not_made.Memory) stores = tt
comes_to g old new site (Err (not_made.File error)) stores = absurd stores
comes_to g old new site (Err (not_made.Obstacle obstacle)) stores = absurd stores
comes_to g old new site (Err (not_made.Unopened error)) stores = absurd stores

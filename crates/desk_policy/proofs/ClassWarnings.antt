-- By profile 2 no network is warned of because its class counts.
use denote.Enum.Bare.{sameb, same_false}
use Rattle.std.proofs.Common.{◌≡◌, ◌≢◌, ℕ, ◌+◌, ◌==◌, Bool, true, false, List, [], ◌∷◌, Option, Some, None, Result, Ok, if◌then◌else◌, is_some, filter, length, map, refl, subst}
use Rattle.std.specs.Prelude.{codes}
use Rattle.std.specs.List.{AllByRecursion, enumerate_from, flat_map}
use Rattle.std.proofs.lemmas.List.Elements.{All-from_recursion}
use Rattle.desk_text.specs.Address.{is_address, is_dotted}
use Rattle.desk_text.specs.Bytes.{is_ipv6}
use Rattle.desk_text.specs.Lines.{LogicalLine, logical_lines}
use Rattle.desk_text.specs.Path.{path_text}
use Rattle.desk_tables.specs.Hosts.{addresses_of_host}
use Rattle.desk_tables.specs.declared.filesystems.FsId.{FsId}
use Rattle.desk_tables.specs.declared.filesystems.Mount.{Mount}
use Rattle.desk_tables.specs.declared.hosts.HostRow.{HostRow}
use Rattle.desk_netgroup.specs.GroupLine.{group_named}
use Rattle.desk_netgroup.specs.declared.group_line.GroupLine.{GroupLine}
use Rattle.desk_netgroup.specs.declared.group_line.Member.{Member}
use Rattle.desk_netgroup.specs.declared.group_line.Member.TheVariants.{Group, Host}
use Rattle.desk_exports.specs.Files.{line_says, text_answer}
use Rattle.desk_exports.specs.Laws.{EntriesAreTheAnswers, NoClassCountsByProfileTwo, are_by_class, takes_part}
use Rattle.desk_exports.specs.Tables.{TableRows}
use Rattle.desk_exports.specs.declared.entry.Clients.{Clients}
use Rattle.desk_exports.specs.declared.entry.Clients.TheVariants as clients
use Rattle.desk_exports.specs.declared.entry.Entry.{Entry}
use Rattle.desk_exports.specs.declared.files.Scope.{Scope}
use Rattle.desk_exports.specs.declared.files.Scope.TheVariants.{File, Whole}
use Rattle.desk_exports.specs.declared.profile.Profile.TheVariants.{Two}
use Rattle.desk_policy.specs.Laws.{custodians_in, filesystems_in, FilesByProfileTwoWarnOfNoClass, SitesByProfileTwoWarnOfNoClass, WholeTextsByProfileTwoWarnOfNoClass}
use Rattle.desk_policy.specs.Names.{is_address_like}
use Rattle.desk_policy.specs.Parsing.{content_with, ExportsFile, in_file, read_after_filesystems, read_exports, read_files, read_site, read_site_tables, rows_with, then_read, whole_policy}
use Rattle.desk_policy.specs.Policy.{Content, content_of, with_warnings}
use Rattle.desk_policy.specs.Site.{SiteTexts}
use Rattle.desk_policy.specs.SiteFault.{exports_name, line_fault}
use Rattle.desk_policy.specs.Warning.{clients_warnings, entry_warnings, group_warnings, host_kind, member_kind, member_word, name_kind, netgroup_warnings, warning_if, whole_warnings, word_warnings}
use Rattle.desk_policy.specs.contracts.warning.WarningKind.{the_type}
use Rattle.desk_policy.specs.declared.parsing.SiteTables.{SiteTables}
use Rattle.desk_policy.specs.declared.site.ExportsText.{ExportsText}
use Rattle.desk_policy.specs.declared.site_fault.SiteFault.{SiteFault}
use Rattle.desk_policy.specs.declared.warning.Warning.{Warning}
use Rattle.desk_policy.specs.declared.warning.WarningKind.{WarningKind}
use Rattle.desk_policy.specs.declared.warning.WarningKind.TheVariants as kinds
use Rattle.desk_policy.proofs.OwnDirectories.{all_of_both}
use Rattle.desk_policy.proofs.SaidOfLines.{was_answered, was_in_file}
use Rattle.desk_policy.proofs.SiteLaws.{was_read}

abbrev IsOther : Warning → Type 0
IsOther warning = warning.kind ≢ kinds.ClassMask

-- no list made of each has what none has
of_each : {X Y : Type 0} (P : Y → Type 0) (f : X → List Y) → ((x : X) → AllByRecursion P (f x)) → (xs : List X) → AllByRecursion P (flat_map f xs)
of_each P f each [] = tt
of_each P f each (x ∷ xs) = all_of_both P (f x) (flat_map f xs) (each x) (of_each P f each xs)

-- ---- kinds

abbrev IsOtherKind : Option WarningKind → Type 0
IsOtherKind None = Unit {0}
IsOtherKind (Some kind) = kind ≢ kinds.ClassMask

is_other : (kind : WarningKind) → sameb the_type kind kinds.ClassMask ≡ false → kind ≢ kinds.ClassMask
is_other kind differs = same_false the_type kind kinds.ClassMask differs

of_kind : (file : List ℕ) (line index : ℕ) (word : List ℕ) (kind : Option WarningKind) → IsOtherKind kind → AllByRecursion IsOther (warning_if file line index word kind)
of_kind file line index word None other = tt
of_kind file line index word (Some kind) other = (other, tt)

of_words : {X : Type 0} (file : List ℕ) (line : ℕ) (word : X → List ℕ) (kind : X → Option WarningKind) → ((x : X) → IsOtherKind (kind x)) → (xs : List X) → AllByRecursion IsOther (word_warnings file line word kind xs)
of_words {X} file line word kind other xs = of_each IsOther (λ (one : ℕ × X). warning_if file line one.0 (word one.1) (kind one.1)) (λ one. of_kind file line one.0 (word one.1) (kind one.1) (other one.1)) (enumerate_from 0 xs)

of_tests : (v6 dotted address unknown : Bool) → IsOtherKind (if v6 then Some kinds.Ipv6 else if dotted then (if address then None else Some kinds.UnknownHost) else if unknown then Some kinds.UnknownHost else None)
of_tests true dotted address unknown = is_other kinds.Ipv6 refl
of_tests false true true unknown = tt
of_tests false true false unknown = is_other kinds.UnknownHost refl
of_tests false false address true = is_other kinds.UnknownHost refl
of_tests false false address false = tt

if_group : (address_like group : Bool) (kind : Option WarningKind) → IsOtherKind kind → IsOtherKind (if address_like then kind else if group then None else kind)
if_group true group kind other = other
if_group false true kind other = tt
if_group false false kind other = other

if_member : (group : Bool) → IsOtherKind (if group then None else Some kinds.UnknownMember)
if_member true = tt
if_member false = is_other kinds.UnknownMember refl

module _ (netgroups : List GroupLine) (hosts : List HostRow) where
  of_host : (name : List ℕ) → IsOtherKind (host_kind hosts name)
  of_host name = of_tests (is_ipv6 name) (is_dotted name) (is_address name) (length (addresses_of_host hosts name) == 0)

  of_name : (name : List ℕ) → IsOtherKind (name_kind netgroups hosts name)
  of_name name = if_group (is_address_like name) (is_some (group_named netgroups name)) (host_kind hosts name) (of_host name)

  of_member : (member : Member) → IsOtherKind (member_kind netgroups hosts member)
  of_member (Group name) = if_member (is_some (group_named netgroups name))
  of_member (Host name) = of_host name

  of_group : (line : GroupLine) → AllByRecursion IsOther (group_warnings netgroups hosts line)
  of_group line = of_words (codes "netgroup") line.line member_word (member_kind netgroups hosts) of_member line.members

  of_netgroups : AllByRecursion IsOther (netgroup_warnings netgroups hosts)
  of_netgroups = of_each IsOther (group_warnings netgroups hosts) of_group netgroups

  -- ---- entries

  of_clients : (file : List ℕ) (line : ℕ) (c : Clients) → are_by_class c ≡ false → AllByRecursion IsOther (clients_warnings netgroups hosts file line c)
  of_clients file line (clients.Hosts names) other = of_words file line (λ name. name) (name_kind netgroups hosts) of_name names
  of_clients file line (clients.Net net None) other = tt
  of_clients file line (clients.Net net (Some value)) other = absurd (cc)
  of_clients file line (clients.Net6 value) other = (is_other kinds.Ipv6 refl, tt)
  of_clients file line clients.World other = tt

  abbrev HasNoClass : FsId × Entry → Type 0
  HasNoClass one = are_by_class one.1.clients ≡ false

  of_entries : (file : List ℕ) (placed : List (FsId × Entry)) → AllByRecursion HasNoClass placed → AllByRecursion IsOther (flat_map (entry_warnings netgroups hosts file) (map (λ one. one.1) placed))
  of_entries file [] other = tt
  of_entries file (one ∷ more) other =
      all_of_both IsOther (entry_warnings netgroups hosts file one.1) (flat_map (entry_warnings netgroups hosts file) (map (λ (p : FsId × Entry). p.1) more))
      (of_clients file one.1.line one.1.clients other.0) (of_entries file more other.1)

  of_whole : (placed : List (FsId × Entry)) → AllByRecursion HasNoClass placed → AllByRecursion IsOther (whole_warnings netgroups hosts placed)
  of_whole [] other = tt
  of_whole (one ∷ more) other =
      all_of_both IsOther (entry_warnings netgroups hosts (codes "exports") one.1) (whole_warnings netgroups hosts more)
      (of_clients (codes "exports") one.1.line one.1.clients other.0) (of_whole more other.1)

module _ (no_class : NoClassCountsByProfileTwo) (answers : EntriesAreTheAnswers) where
  -- the entries of a text
  module _ (tables : TableRows) (scope : Scope) (two : tables.profile ≡ Two) where
    each_answered : (lines : List LogicalLine) (placed : List (FsId × Entry)) → map (line_says tables scope) lines ≡ map (λ one. Ok (Some one)) placed
        → AllByRecursion (λ (one : FsId × Entry). are_by_class one.1.clients ≡ false) placed
    each_answered [] [] are = tt
    each_answered [] (one ∷ more) are = absurd (cc)
    each_answered (line ∷ lines) [] are = absurd (cc)
    each_answered (line ∷ lines) (one ∷ more) are =
        let first : line_says tables scope line ≡ Ok (Some one) = cc in
        let others : map (line_says tables scope) lines ≡ map (λ one. Ok (Some one)) more = cc in
        (no_class tables scope line one two first, each_answered lines more others)

    each_entry : (text : List ℕ) (placed : List (FsId × Entry)) → text_answer tables scope text ≡ Ok placed → AllByRecursion (λ (one : FsId × Entry). are_by_class one.1.clients ≡ false) placed
    each_entry text placed is = each_answered (filter takes_part (logical_lines text)) placed (answers tables scope text placed is)

  -- ---- an exports file

  file_warns : (texts : SiteTexts) (table : List Mount) (site_tables : SiteTables) (fs : ℕ) (mount : List (List ℕ)) (file : ExportsFile) → (texts.exports (path_text mount)).profile ≡ Two
      → read_exports texts table site_tables fs mount ≡ Ok file → AllByRecursion IsOther file.warnings
  file_warns texts table site_tables fs mount file two is =
      let text : ExportsText = texts.exports (path_text mount) in
      let tables : TableRows = rows_with text.profile table site_tables in
      let own : FsId = record { 0 = fs } in
      let read = was_answered site_tables (exports_name mount) (text_answer tables (File own) text.body) file is in
      subst (λ (f : ExportsFile). AllByRecursion IsOther f.warnings) read.2
      (of_entries site_tables.netgroups site_tables.hosts (exports_name mount) read.0 (each_entry tables (File own) two text.body read.0 read.1))

  pub files_warn_of_no_class : FilesByProfileTwoWarnOfNoClass
  files_warn_of_no_class texts table site_tables fs mount file two is = All-from_recursion IsOther file.warnings (file_warns texts table site_tables fs mount file two is)

  -- ---- a site

  module _ (texts : SiteTexts) (table : List Mount) (site_tables : SiteTables) (two : (mount : List ℕ) → (texts.exports mount).profile ≡ Two) where
    abbrev files_read : ℕ → List Mount → Result (List ExportsFile) SiteFault
    files_read fs mounts = read_files texts table site_tables fs mounts

    files_warn : (fs : ℕ) (mounts : List Mount) (files : List ExportsFile) → files_read fs mounts ≡ Ok files → AllByRecursion IsOther (flat_map (λ (file : ExportsFile). file.warnings) files)
    files_warn fs [] files is = let none : [] ≡ files = cc in subst (λ (fs : List ExportsFile). AllByRecursion IsOther (flat_map (λ (file : ExportsFile). file.warnings) fs)) none tt
    files_warn fs (mount ∷ more) files is =
        let read = was_read (read_exports texts table site_tables fs mount.path) (λ file. then_read (files_read (fs + 1) more) (λ others. Ok (file ∷ others))) files is in
        let rest = was_read (files_read (fs + 1) more) (λ others. Ok (read.0 ∷ others)) files read.2 in
        let are : read.0 ∷ rest.0 ≡ files = cc in
        subst (λ (fs : List ExportsFile). AllByRecursion IsOther (flat_map (λ (file : ExportsFile). file.warnings) fs)) are
        (all_of_both IsOther read.0.warnings (flat_map (λ (file : ExportsFile). file.warnings) rest.0)
        (file_warns texts table site_tables fs mount.path read.0 (two (path_text mount.path)) read.1) (files_warn (fs + 1) more rest.0 rest.1))

  pub sites_warn_of_no_class : SitesByProfileTwoWarnOfNoClass
  unfolding read_site
  sites_warn_of_no_class texts content two is =
      let custodians = was_read (custodians_in texts) (λ rows. then_read (filesystems_in texts rows) (read_after_filesystems texts)) content is in
      let table = was_read (filesystems_in texts custodians.0) (read_after_filesystems texts) content custodians.2 in
      let tables = was_read (read_site_tables texts) (λ found. then_read (read_files texts table.0 found 0 table.0) (λ files. Ok (content_with table.0 found files))) content table.2 in
      let files = was_read (read_files texts table.0 tables.0 0 table.0) (λ all. Ok (content_with table.0 tables.0 all)) content tables.2 in
      let same : content_with table.0 tables.0 files.0 ≡ content = cc in
      let made : Content = content_with table.0 tables.0 files.0 in
      let warned : AllByRecursion IsOther made.warnings =
      all_of_both IsOther (netgroup_warnings tables.0.netgroups tables.0.hosts) (flat_map (λ (file : ExportsFile). file.warnings) files.0)
      (of_netgroups tables.0.netgroups tables.0.hosts) (files_warn texts table.0 tables.0 two 0 table.0 files.0 files.1) in
      All-from_recursion IsOther content.warnings (subst (λ (c : Content). AllByRecursion IsOther c.warnings) same warned)

  -- ---- a whole text

  pub whole_texts_warn_of_no_class : WholeTextsByProfileTwoWarnOfNoClass
  unfolding content_of
  whole_texts_warn_of_no_class site_tables table text content is =
      let tables : TableRows = rows_with Two table site_tables in
      let read = was_read (in_file (line_fault (codes "exports")) (text_answer tables Whole text)) (whole_policy site_tables table) content is in
      let answered = was_in_file (line_fault (codes "exports")) (text_answer tables Whole text) read.0 read.1 in
      let placed = each_entry tables Whole refl text read.0 answered in
      let same : with_warnings (content_of site_tables.netgroups site_tables.hosts table read.0) (whole_warnings site_tables.netgroups site_tables.hosts read.0) ≡ content = cc in
      All-from_recursion IsOther content.warnings
      (subst (λ (c : Content). AllByRecursion IsOther c.warnings) same (of_whole site_tables.netgroups site_tables.hosts read.0 placed))

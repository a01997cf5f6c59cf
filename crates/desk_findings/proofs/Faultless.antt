-- Texts of which no finding is a fault can be read, each of them, and write a policy.
use Rattle.std.proofs.Common.{◌≡◌, ◌∙◌, ◌++◌, ℕ, All, Bool, true, false, List, [], ◌∷◌, Option, Some, None, Result, Ok, Err, ap, map, refl, slice_get, subst, sym}
use Rattle.std.specs.Prelude.{codes, filter}
use Rattle.std.proofs.lemmas.List.Elements.{All-head}
use Rattle.desk_text.specs.declared.reading.LineFault.{LineFault}
use Rattle.desk_tables.specs.Custodians.{read_custodians}
use Rattle.desk_tables.specs.FileSystemsText.{read_filesystems}
use Rattle.desk_tables.specs.Groups.{read_groups}
use Rattle.desk_tables.specs.Hosts.{read_hosts}
use Rattle.desk_tables.specs.Laws as tables
use Rattle.desk_tables.specs.Networks.{read_networks}
use Rattle.desk_tables.specs.Rules.{TableFault}
use Rattle.desk_tables.specs.Users.{read_users}
use Rattle.desk_tables.specs.declared.custodians.Custodian.{Custodian}
use Rattle.desk_tables.specs.declared.filesystems.FsId.{FsId}
use Rattle.desk_tables.specs.declared.filesystems.Mount.{Mount}
use Rattle.desk_netgroup.specs.Laws as netgroup
use Rattle.desk_netgroup.specs.Netgroups.{read_netgroups}
use Rattle.desk_exports.specs.Files.{whole_answer}
use Rattle.desk_exports.specs.Laws.{FirstFaultIsTheHead}
use Rattle.desk_exports.specs.declared.entry.Entry.{Entry}
use Rattle.desk_exports.specs.declared.profile.Profile.TheVariants.{Two}
use Rattle.desk_exports.specs.declared.rules.Rule.{Rule}
use Rattle.desk_policy.specs.Parsing.{if_listed, in_file, rows_with, then_read, unless_unlisted, whole_policy}
use Rattle.desk_policy.specs.PerTable.{map_tables}
use Rattle.desk_policy.specs.Policy.{Content, content_of, with_warnings}
use Rattle.desk_policy.specs.SiteFault.{line_fault}
use Rattle.desk_policy.specs.UnlistedCustodians.{has_unlisted, least, unlisted_line}
use Rattle.desk_policy.specs.Warning.{whole_warnings}
use Rattle.desk_policy.specs.declared.parsing.SiteTables.{SiteTables}
use Rattle.desk_policy.specs.declared.per_table.PerTable.{PerTable}
use Rattle.desk_policy.specs.declared.site_fault.SiteFault.{SiteFault}
use Rattle.desk_findings.specs.CheckFaults.{TellTables, Tells, tell_group, tell_line, tell_table}
use Rattle.desk_findings.specs.CheckSite as site
use Rattle.desk_findings.specs.CheckSite.{TellUnlisted, odd_of_unlisted}
use Rattle.desk_findings.specs.CheckText.{GathersBy, GathersWith, tables_of}
use Rattle.desk_findings.specs.Finding.{is_fault}
use Rattle.desk_findings.specs.Silence.{FaultlessSitesWrite, FaultlessTextsWrite, HasNoFault, Write, WriteSite}
use Rattle.desk_findings.specs.Told.{Told, told}
use Rattle.desk_findings.specs.declared.check_faults.Source.{Source}
use Rattle.desk_findings.specs.declared.check_site.SiteSources.{SiteSources}
use Rattle.desk_findings.specs.declared.check_text.Gathered.{Gathered}
use Rattle.desk_findings.specs.declared.check_text.WholeSources.{WholeSources}
use Rattle.desk_findings.proofs.Silent.{IsOddFaultless, IsToldFaultless, faultless_told, first_part, in_order, second_part}
use Rattle.desk_findings.proofs.TablesRead.{all_read}

-- ---- no fault is told

no_placed : {P : Type 0} (tell_one : P → Told) → ((one : P) → is_fault (tell_one one).matter ≡ true) → (placed : List P) → All IsToldFaultless (map tell_one placed) → placed ≡ []
no_placed tell_one loud [] each = refl
no_placed tell_one loud (one ∷ placed) each =
    absurd (let quiet : is_fault (tell_one one).matter ≡ false = All-head IsToldFaultless (tell_one one) (map tell_one placed) each in let is = loud one in cc)

no_faults : {P F : Type 0} (fault_of : P → F) (IsAt : P → Type 0) (tell_one : P → Told) (faults : List F) (all : List Told) → ((one : P) → is_fault (tell_one one).matter ≡ true) → Tells fault_of IsAt tell_one faults all → All IsToldFaultless all
    → faults ≡ []
no_faults fault_of IsAt tell_one faults all loud tells each =
    sym tells.same ∙ ap (map fault_of) (no_placed tell_one loud tells.placed (subst (All IsToldFaultless) tells.are each))

-- a text without a fault has no first fault
no_first : {F : Type 0} (faults : List F) (fault : F) → faults ≡ [] → slice_get faults 0 ≡ Some fault → ⊥
no_first faults fault none first = absurd (let e : None ≡ Some fault = ap (λ fs. slice_get fs 0) (sym none) ∙ first in cc)

-- an answer that is no fault
answers : {X F : Type 0} (r : Result X F) → ((fault : F) → r ≡ Err fault → ⊥) → (x : X) × (r ≡ Ok x)
answers (Ok x) never = (x, refl)
answers (Err fault) never = absurd (never fault refl)

no_unlisted : (custodians : List Custodian) (mounts : List Mount) → All IsOddFaultless (map (odd_of_unlisted custodians) mounts) → mounts ≡ []
no_unlisted custodians [] each = refl
no_unlisted custodians (mount ∷ mounts) each =
    absurd (let bad : true ≡ false = All-head IsOddFaultless (odd_of_unlisted custodians mount) (map (odd_of_unlisted custodians) mounts) each in cc)

module _ (of_tables : tables.FirstOfFaultsIsReported) (of_netgroup : netgroup.FirstOfFaultsIsReported) (of_exports : FirstFaultIsTheHead) where
  good_tables : (sources : PerTable Source) (all : List Told) → TellTables sources all → All IsToldFaultless all → (site_tables : SiteTables) × (tables_of sources ≡ Ok site_tables)
  good_tables sources all tells each =
      let whole = subst (All IsToldFaultless) tells.are each in
      let after_hosts = second_part IsToldFaultless tells.hosts (tells.networks ++ (tells.passwd ++ (tells.group ++ tells.netgroup))) whole in
      let after_networks = second_part IsToldFaultless tells.networks (tells.passwd ++ (tells.group ++ tells.netgroup)) after_hosts in
      let after_passwd = second_part IsToldFaultless tells.passwd (tells.group ++ tells.netgroup) after_networks in
      let no_hosts = no_faults _ _ (tell_table sources.hosts) _ tells.hosts (λ one. refl) tells.tell_hosts (first_part IsToldFaultless tells.hosts (tells.networks ++ (tells.passwd ++ (tells.group ++ tells.netgroup))) whole) in
      let no_networks = no_faults _ _ (tell_table sources.networks) _ tells.networks (λ one. refl) tells.tell_networks (first_part IsToldFaultless tells.networks (tells.passwd ++ (tells.group ++ tells.netgroup)) after_hosts) in
      let no_users = no_faults _ _ (tell_table sources.passwd) _ tells.passwd (λ one. refl) tells.tell_passwd (first_part IsToldFaultless tells.passwd (tells.group ++ tells.netgroup) after_networks) in
      let no_groups = no_faults _ _ (tell_table sources.group) _ tells.group (λ one. refl) tells.tell_group (first_part IsToldFaultless tells.group tells.netgroup after_passwd) in
      let no_netgroups = no_faults _ _ (tell_group sources.netgroup) _ tells.netgroup (λ one. refl) tells.tell_netgroup (second_part IsToldFaultless tells.group tells.netgroup after_passwd) in
      let hosts = answers (read_hosts sources.hosts.text.now) (λ fault is. no_first _ fault no_hosts ((of_tables.of_hosts sources.hosts.text.now fault).0 is)) in
      let networks = answers (read_networks sources.networks.text.now) (λ fault is. no_first _ fault no_networks ((of_tables.of_networks sources.networks.text.now fault).0 is)) in
      let users = answers (read_users sources.passwd.text.now) (λ fault is. no_first _ fault no_users ((of_tables.of_users sources.passwd.text.now fault).0 is)) in
      let groups = answers (read_groups sources.group.text.now) (λ fault is. no_first _ fault no_groups ((of_tables.of_groups sources.group.text.now fault).0 is)) in
      let netgroups = answers (read_netgroups sources.netgroup.text.now) (λ fault is. no_first _ fault no_netgroups ((of_netgroup sources.netgroup.text.now fault).0 is)) in (
        record { hosts = hosts.0; networks = networks.0; users = users.0; groups = groups.0; netgroups = netgroups.0 },
        all_read (map_tables (λ (source : Source). source.text.now) sources) hosts.0 networks.0 users.0 groups.0 netgroups.0 hosts.1 networks.1 users.1 groups.1 netgroups.1,
      )

  write_by : (opinions : Bool) (sources : WholeSources) (table : List Mount) (gathered : Gathered) (site_tables : SiteTables) (answer : Result (List (FsId × Entry)) (LineFault Rule)) → tables_of sources.tables ≡ Ok site_tables
      → whole_answer (rows_with Two table site_tables) sources.exports.text.now ≡ answer → GathersBy answer opinions sources table site_tables gathered → All IsToldFaultless (map told gathered.findings)
      → (content : Content) × Write sources table content
  write_by opinions sources table gathered site_tables (Ok entries) reads is found each = (
    with_warnings (content_of site_tables.netgroups site_tables.hosts table entries) (whole_warnings site_tables.netgroups site_tables.hosts entries),
    record {
      site_tables = site_tables;
      reads_tables = reads;
      reads_exports = ap (λ read. then_read (in_file (line_fault (codes "exports")) read) (whole_policy site_tables table)) is;
    },
  )
  write_by opinions sources table gathered site_tables (Err fault) reads is found each =
      let none = no_faults _ _ (tell_line sources.exports) _ (map told gathered.findings) (λ one. refl) found.tell each in
      absurd (no_first _ fault none ((of_exports (rows_with Two table site_tables) sources.exports.text.now fault).0.0 is))

  write_with : (opinions : Bool) (sources : WholeSources) (table : List Mount) (gathered : Gathered) (read : Result SiteTables SiteFault) → tables_of sources.tables ≡ read → GathersWith read opinions sources table gathered
      → All IsToldFaultless (map told gathered.findings) → (content : Content) × Write sources table content
  write_with opinions sources table gathered (Ok site_tables) is found each =
      write_by opinions sources table gathered site_tables (whole_answer (rows_with Two table site_tables) sources.exports.text.now) is refl found each
  write_with opinions sources table gathered (Err fault) is found each =
      let good = good_tables sources.tables (map told gathered.findings) found.tell each in
      absurd (let bad : Ok good.0 ≡ Err fault = sym good.1 ∙ is in cc)

  pub faultless_texts_write : FaultlessTextsWrite
  faultless_texts_write opinions sources table gathered found none =
      write_with opinions sources table gathered (tables_of sources.tables) refl found (faultless_told gathered.findings none)

  -- ---- the files of a site

  listed : (source : Source) (custodians : List Custodian) (table : List Mount) (all : List Told) → TellUnlisted source custodians table all → All IsToldFaultless all → unlisted_line custodians table ≡ None
  listed source custodians table all tells each =
      let given = in_order IsToldFaultless IsOddFaultless source (map (odd_of_unlisted custodians) (filter (has_unlisted custodians) table)) all (λ spot on e. e) tells each in
      ap (λ (mounts : List Mount). least (map (λ (mount : Mount). mount.line) mounts)) (no_unlisted custodians (filter (has_unlisted custodians) table) given)

  site_listed : (opinions : Bool) (sources : SiteSources) (gathered : Gathered) (custodians : List Custodian) (table : List Mount) (line : Option ℕ) → read_custodians sources.custodians.text.now ≡ Ok custodians
      → read_filesystems sources.filesystems.text.now ≡ Ok table → unlisted_line custodians table ≡ line → site.GathersIfListed line opinions sources custodians table gathered → HasNoFault gathered.findings
      → (content : Content) × WriteSite sources content
  site_listed opinions sources gathered custodians table None reads is_table is found none =
      let whole = faultless_texts_write opinions sources.whole table gathered found none in (
        whole.0,
        record {
          custodians = custodians;
          table = table;
          reads_custodians = reads;
          reads_filesystems = ap (if_listed custodians) is_table ∙ ap (unless_unlisted table) is;
          writes = whole.1;
        },
      )
  site_listed opinions sources gathered custodians table (Some line) reads is_table is found none =
      let each = subst (All IsToldFaultless) found.tell.are (faultless_told gathered.findings none) in
      let no_line = listed sources.filesystems custodians table found.tell.unlisted found.tell.tell_unlisted (first_part IsToldFaultless found.tell.unlisted found.tell.tables each) in
      absurd (let bad : None ≡ Some line = sym no_line ∙ is in cc)

  site_by : (opinions : Bool) (sources : SiteSources) (gathered : Gathered) (custodians : List Custodian) (read : Result (List Mount) TableFault) → read_custodians sources.custodians.text.now ≡ Ok custodians
      → read_filesystems sources.filesystems.text.now ≡ read → site.GathersBy read opinions sources custodians gathered → HasNoFault gathered.findings
      → (content : Content) × WriteSite sources content
  site_by opinions sources gathered custodians (Ok table) reads is found none =
      site_listed opinions sources gathered custodians table (unlisted_line custodians table) reads is refl found none
  site_by opinions sources gathered custodians (Err fault) reads is found none =
      let each = subst (All IsToldFaultless) found.tell.are (faultless_told gathered.findings none) in
      let after = second_part IsToldFaultless found.tell.custodians (found.tell.filesystems ++ found.tell.tables) each in
      let no_filesystems = no_faults _ _ (tell_table sources.filesystems) _ found.tell.filesystems (λ one. refl) found.tell.tell_filesystems (first_part IsToldFaultless found.tell.filesystems found.tell.tables after) in
      absurd (no_first _ fault no_filesystems ((of_tables.of_filesystems sources.filesystems.text.now fault).0 is))

  site_from : (opinions : Bool) (sources : SiteSources) (gathered : Gathered) (read : Result (List Custodian) TableFault) → read_custodians sources.custodians.text.now ≡ read → site.GathersFrom read opinions sources gathered
      → HasNoFault gathered.findings → (content : Content) × WriteSite sources content
  site_from opinions sources gathered (Ok custodians) is found none =
      site_by opinions sources gathered custodians (read_filesystems sources.filesystems.text.now) is refl found none
  site_from opinions sources gathered (Err fault) is found none =
      let each = subst (All IsToldFaultless) found.tell.are (faultless_told gathered.findings none) in
      let no_custodians = no_faults _ _ (tell_table sources.custodians) _ found.tell.custodians (λ one. refl) found.tell.tell_custodians (first_part IsToldFaultless found.tell.custodians (found.tell.filesystems ++ found.tell.tables) each) in
      absurd (no_first _ fault no_custodians ((of_tables.of_custodians sources.custodians.text.now fault).0 is))

  pub faultless_sites_write : FaultlessSitesWrite
  faultless_sites_write opinions sources gathered found none =
      site_from opinions sources gathered (read_custodians sources.custodians.text.now) refl found none

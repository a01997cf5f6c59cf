-- Each place of a finding lies within its line, for `check_text`, `check_site` and `OneFaults`.
use Rattle.std.proofs.Common.{◌≡◌, Bool, ℕ, List, Option, Some, None, IfSome, Result, Ok, Err, map, subst, sym, inl, inr}
use Rattle.std.proofs.lemmas.List.{get_or-map, length-map}
use Rattle.std.proofs.lemmas.List.Elements.{All-append, All-map, All-weaker}
use Rattle.std.specs.List.{All}
use Rattle.std.specs.Option.{option_copied}
use Rattle.desk_text.specs.Place.{LiesIn, LiesWithin}
use Rattle.desk_text.specs.declared.place.Place.{Place}
use Rattle.desk_tables.specs.Faults as tables
use Rattle.desk_tables.specs.Rules.{TableFault}
use Rattle.desk_tables.specs.declared.custodians.Custodian.{Custodian}
use Rattle.desk_tables.specs.declared.faults.PlacedFault.{PlacedFault as TablePlacedFault}
use Rattle.desk_tables.specs.declared.filesystems.FsId.{FsId}
use Rattle.desk_tables.specs.declared.filesystems.Mount.{Mount}
use Rattle.desk_netgroup.specs.Faults as netgroup
use Rattle.desk_netgroup.specs.declared.faults.PlacedFault.{PlacedFault as GroupPlacedFault}
use Rattle.desk_exports.specs.Faults as exports
use Rattle.desk_exports.specs.declared.entry.Entry.{Entry}
use Rattle.desk_exports.specs.declared.faults.PlacedFault.{PlacedFault as LinePlacedFault}
use Rattle.desk_exports.specs.declared.profile.Profile.TheVariants.{Two}
use Rattle.desk_exports.specs.declared.rules.Rule.{Rule}
use Rattle.desk_text.specs.declared.reading.LineFault.{LineFault}
use Rattle.desk_policy.specs.Parsing.{rows_with}
use Rattle.desk_policy.specs.UnlistedCustodians.{unlisted_line}
use Rattle.desk_policy.specs.declared.parsing.SiteTables.{SiteTables}
use Rattle.desk_policy.specs.declared.site_fault.SiteFault.{SiteFault}
use Rattle.desk_policy.specs.declared.site_fault.SiteRule.TheVariants as site_rule
use Rattle.desk_policy.specs.declared.per_table.PerTable.{PerTable}
use Rattle.desk_exports.specs.Files.{whole_answer}
use Rattle.desk_tables.specs.Custodians.{read_custodians}
use Rattle.desk_tables.specs.FileSystemsText.{read_filesystems}
use Rattle.desk_findings.specs.CheckFaults.{TellTables, Tells, tell_group, tell_line, tell_table}
use Rattle.desk_findings.proofs.PlacedWords.{on_numbered}
use Rattle.desk_findings.specs.CheckOdd.{IsOnNumbered, IsSpot, OddLine, TellInOrder, odd_of_spot, tell_spot}
use Rattle.desk_findings.specs.CheckFolder as folder
use Rattle.desk_findings.specs.CheckSite as site
use Rattle.desk_findings.specs.CheckText.{Finds, Gathers, GathersBy, GathersExports, GathersTables, GathersWith, TellOddities, tables_of}
use Rattle.desk_findings.specs.Finding.{HaveSlices}
use Rattle.desk_findings.specs.Told.{Told, tell, tell_about, told}
use Rattle.desk_findings.specs.declared.check_faults.Source.{Source}
use Rattle.desk_findings.specs.declared.check_site.SiteSources.{SiteSources}
use Rattle.desk_findings.specs.declared.check_text.Gathered.{Gathered}
use Rattle.desk_findings.specs.declared.check_text.WholeSources.{WholeSources}
use Rattle.desk_findings.specs.declared.finding.Finding.{Finding}
use Rattle.desk_findings.specs.declared.finding.Matter.{Matter}
use Rattle.desk_findings.specs.declared.finding.Matter.TheVariants as matter

-- what is told has its place, if it has one, within its line
abbrev pub Within : Told → Type 0
Within one = IfSome one.place (LiesWithin one.source)

within_at : (source : Source) (at : Option Place) (place : Place) (what : Matter) → at ≡ Some place → LiesIn source.text.now place → Within (tell source at what)
within_at source at place what there lies = subst (λ (o : Option Place). Within (tell source o what)) (sym there) lies.within

no_place : (source : Source) (at : Option Place) (what : Matter) → at ≡ None → Within (tell source at what)
no_place source at what none = subst (λ (o : Option Place). Within (tell source o what)) (sym none) tt

pub tells_within : {P F : Type 0} (fault_of : P → F) (IsAt : P → Type 0) (tell_one : P → Told) (faults : List F) (all : List Told) → ((one : P) → IsAt one → Within (tell_one one)) → Tells fault_of IsAt tell_one faults all → All Within all
tells_within fault_of IsAt tell_one faults all within tells =
    subst (λ (ones : List Told). All Within ones) (sym tells.are) (All-map Within tell_one tells.placed (All-weaker IsAt (λ one. Within (tell_one one)) within tells.placed tells.places))

in_table : (source : Source) (faults : List TableFault) (all : List Told) → Tells (λ one. one.fault) (tables.IsPlaced source.text.now) (tell_table source) faults all → All Within all
in_table source faults all tells =
    tells_within (λ (one : TablePlacedFault). one.fault) (tables.IsPlaced source.text.now) (tell_table source) faults all (λ one at. within_at source one.place at.place (matter.Fault (site_rule.Table one.fault.rule) None) at.there at.lies) tells

pub on_line : (source : Source) (faults : List TableFault) (all : List Told) → Tells (λ one. one.fault) (tables.IsOnLine source.text.now) (tell_table source) faults all → All Within all
on_line source faults all tells =
    tells_within (λ (one : TablePlacedFault). one.fault) (tables.IsOnLine source.text.now) (tell_table source) faults all (λ one at. within_at source one.place at.place (matter.Fault (site_rule.Table one.fault.rule) None) at.there at.lies) tells

line_or_whole : (source : Source) (one : TablePlacedFault) → tables.IsOnLineOrWhole source.text.now one → Within (tell_table source one)
line_or_whole source one (inl at) = within_at source one.place at.place (matter.Fault (site_rule.Table one.fault.rule) None) at.there at.lies
line_or_whole source one (inr whole) = no_place source one.place (matter.Fault (site_rule.Table one.fault.rule) None) whole.1

five_within : (sources : PerTable Source) (all : List Told) → TellTables sources all → All Within all
five_within sources all tells =
    let hosts = in_table sources.hosts _ tells.hosts tells.tell_hosts in
    let networks = in_table sources.networks _ tells.networks tells.tell_networks in
    let passwd = in_table sources.passwd _ tells.passwd tells.tell_passwd in
    let group = in_table sources.group _ tells.group tells.tell_group in
    let netgroup =
    tells_within (λ (one : GroupPlacedFault). one.fault) (netgroup.IsPlaced sources.netgroup.text.now) (tell_group sources.netgroup) _ tells.netgroup (λ one at. at.lies.within) tells.tell_netgroup in
    subst (λ (ones : List Told). All Within ones) (sym tells.are)
    (All-append Within tells.hosts _ hosts (All-append Within tells.networks _ networks (All-append Within tells.passwd _ passwd (All-append Within tells.group _ group netgroup))))

spot_at : (source : Source) (number : ℕ) (at : Option Place) (what : Matter) (directory : Option (List (List ℕ))) → IfSome at (IsOnNumbered source.text.now number) → Within (tell_about source at what directory)
spot_at source number None what directory on = tt
spot_at source number (Some place) what directory on = on.on.lies.within

pub odds_within : (source : Source) (given : List OddLine) (all : List Told) → TellInOrder source given all → All Within all
odds_within source given all tells =
    tells_within odd_of_spot (IsSpot source.text.now) (tell_spot source) tells.odds all (λ spot on. spot_at source spot.line spot.place spot.matter (option_copied spot.directory) (on_numbered source.text.now spot.line spot.among spot.index spot.place on)) tells.tell

oddities_within : (opinions : Bool) (sources : WholeSources) (table : List Mount) (site_tables : SiteTables) (entries : List (FsId × Entry)) (all : List Told) → TellOddities opinions sources table site_tables entries all → All Within all
oddities_within opinions sources table site_tables entries all tells =
    subst (λ (ones : List Told). All Within ones) (sym tells.are)
    (All-append Within tells.netgroup tells.exports (odds_within sources.tables.netgroup _ tells.netgroup tells.tell_netgroup) (odds_within sources.exports _ tells.exports tells.tell_exports.tell))

-- what is told within its line has its slice
pub slices : (found : List Finding) → All Within (map told found) → HaveSlices found
slices found within = λ k d below.
    subst Within (get_or-map told found k d (told d) below) (within k (told d) (rw length-map below))

pub finds_slices : (TellAll : List Told → Type 0) (read_exports : Bool) (gathered : Gathered) → ((all : List Told) → TellAll all → All Within all) → Finds TellAll read_exports gathered → HaveSlices gathered.findings
finds_slices TellAll read_exports gathered within finds = slices gathered.findings (within (map told gathered.findings) finds.tell)

by_entries : (read : Result (List (FsId × Entry)) (LineFault Rule)) (opinions : Bool) (sources : WholeSources) (table : List Mount) (site_tables : SiteTables) (gathered : Gathered) → GathersBy read opinions sources table site_tables gathered → HaveSlices gathered.findings
by_entries (Ok entries) opinions sources table site_tables gathered found = finds_slices _ _ gathered (oddities_within opinions sources table site_tables entries) found
by_entries (Err fault) opinions sources table site_tables gathered found =
    finds_slices _ _ gathered (λ all tells. tells_within (λ (one : LinePlacedFault). one.fault) (exports.IsPlaced sources.exports.text.now) (tell_line sources.exports) _ all (λ one at. at.lies.within) tells) found

pub exports_slices : (opinions : Bool) (sources : WholeSources) (table : List Mount) (site_tables : SiteTables) (gathered : Gathered) → GathersExports opinions sources table site_tables gathered → HaveSlices gathered.findings
exports_slices opinions sources table site_tables gathered found = by_entries (whole_answer (rows_with Two table site_tables) sources.exports.text.now) opinions sources table site_tables gathered found

pub tables_slices : (tables : PerTable Source) (gathered : Gathered) → GathersTables tables gathered → HaveSlices gathered.findings
tables_slices tables gathered found = finds_slices _ _ gathered (five_within tables) found

by_tables : (read : Result SiteTables SiteFault) (opinions : Bool) (sources : WholeSources) (table : List Mount) (gathered : Gathered) → GathersWith read opinions sources table gathered → HaveSlices gathered.findings
by_tables (Ok site_tables) opinions sources table gathered found = exports_slices opinions sources table site_tables gathered found
by_tables (Err fault) opinions sources table gathered found = tables_slices sources.tables gathered found

found_slices : (opinions : Bool) (sources : WholeSources) (table : List Mount) (gathered : Gathered) → Gathers opinions sources table gathered → HaveSlices gathered.findings
found_slices opinions sources table gathered found =
    by_tables (tables_of sources.tables) opinions sources table gathered found

heads_within : (sources : SiteSources) (all : List Told) → site.TellHeads sources all → All Within all
heads_within sources all tells =
    let custodians =
    tells_within (λ (one : TablePlacedFault). one.fault) (tables.IsOnLineOrWhole sources.custodians.text.now) (tell_table sources.custodians) _ tells.custodians (line_or_whole sources.custodians) tells.tell_custodians in
    subst (λ (ones : List Told). All Within ones) (sym tells.are)
    (All-append Within tells.custodians _ custodians (All-append Within tells.filesystems tells.tables (on_line sources.filesystems _ tells.filesystems tells.tell_filesystems) (five_within sources.whole.tables tells.tables tells.tell_tables)))

unlisted_within : (sources : SiteSources) (custodians : List Custodian) (table : List Mount) (all : List Told) → site.TellUnlistedFirst sources custodians table all → All Within all
unlisted_within sources custodians table all tells =
    subst (λ (ones : List Told). All Within ones) (sym tells.are)
    (All-append Within tells.unlisted tells.tables (odds_within sources.filesystems _ tells.unlisted tells.tell_unlisted) (five_within sources.whole.tables tells.tables tells.tell_tables))

by_listed : (unlisted : Option ℕ) (opinions : Bool) (sources : SiteSources) (custodians : List Custodian) (table : List Mount) (gathered : Gathered) → site.GathersIfListed unlisted opinions sources custodians table gathered → HaveSlices gathered.findings
by_listed None opinions sources custodians table gathered found = found_slices opinions sources.whole table gathered found
by_listed (Some line) opinions sources custodians table gathered found = finds_slices _ _ gathered (unlisted_within sources custodians table) found

by_filesystems : (read : Result (List Mount) TableFault) (opinions : Bool) (sources : SiteSources) (custodians : List Custodian) (gathered : Gathered) → site.GathersBy read opinions sources custodians gathered → HaveSlices gathered.findings
by_filesystems (Ok table) opinions sources custodians gathered found = by_listed (unlisted_line custodians table) opinions sources custodians table gathered found
by_filesystems (Err fault) opinions sources custodians gathered found = finds_slices _ _ gathered (heads_within sources) found

pub with_custodians_slices : (opinions : Bool) (sources : SiteSources) (custodians : List Custodian) (gathered : Gathered) → site.GathersWithCustodians opinions sources custodians gathered → HaveSlices gathered.findings
with_custodians_slices opinions sources custodians gathered found = by_filesystems (read_filesystems sources.filesystems.text.now) opinions sources custodians gathered found

pub heads_slices : (sources : SiteSources) (gathered : Gathered) → site.GathersHeads sources gathered → HaveSlices gathered.findings
heads_slices sources gathered found = finds_slices _ _ gathered (heads_within sources) found

-- in a folder of which a file is missing
one_head_within : (TellOne : List Told → Type 0) → ((all : List Told) → TellOne all → All Within all) → (sources : WholeSources) (all : List Told) → folder.TellOneFirst TellOne sources all → All Within all
one_head_within TellOne each sources all tells =
    subst (λ (ones : List Told). All Within ones) (sym tells.are)
    (All-append Within tells.first tells.tables (each tells.first tells.tell_first) (five_within sources.tables tells.tables tells.tell_tables))

kept_by : (read : Result (List Custodian) TableFault) (opinions : Bool) (source : Source) (table : List Mount) (sources : WholeSources) (gathered : Gathered) → folder.GathersKeptBy read opinions source table sources gathered
    → HaveSlices gathered.findings
kept_by (Ok custodians) opinions source table sources gathered found = found_slices opinions sources table gathered found
kept_by (Err fault) opinions source table sources gathered found =
    finds_slices _ _ gathered (one_head_within (site.TellCustodians source)
    (λ all tells. tells_within (λ (one : TablePlacedFault). one.fault) (tables.IsOnLineOrWhole source.text.now) (tell_table source) _ all (line_or_whole source) tells) sources) found

pub kept_slices : (opinions : Bool) (source : Source) (table : List Mount) (sources : WholeSources) (gathered : Gathered) → folder.GathersKept opinions source table sources gathered → HaveSlices gathered.findings
kept_slices opinions source table sources gathered found = kept_by (read_custodians source.text.now) opinions source table sources gathered found

listed_by : (read : Result (List Mount) TableFault) (opinions : Bool) (source : Source) (sources : WholeSources) (gathered : Gathered) → folder.GathersListedBy read opinions source sources gathered → HaveSlices gathered.findings
listed_by (Ok table) opinions source sources gathered found = found_slices opinions sources table gathered found
listed_by (Err fault) opinions source sources gathered found =
    finds_slices _ _ gathered (one_head_within (site.TellFileSystems source) (λ all tells. on_line source _ all tells) sources) found

pub listed_slices : (opinions : Bool) (source : Source) (sources : WholeSources) (gathered : Gathered) → folder.GathersListed opinions source sources gathered → HaveSlices gathered.findings
listed_slices opinions source sources gathered found = listed_by (read_filesystems source.text.now) opinions source sources gathered found

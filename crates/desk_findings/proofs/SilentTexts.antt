-- Where what is found in texts has no fault and does not speak of mountd(8), the verdicts of their policy are those of the server.
use Rattle.std.proofs.Common.{◌≡◌, ◌∙◌, ◌<◌, ◌^◌, ◌||◌, ℕ, All, Bool, true, false, Contains, List, [], ◌∷◌, Option, Some, None, Result, Ok, Err, ap, arith, get_or, inl, inr, length, refl, subst, sym}
use Rattle.std.specs.Prelude.{codes}
use Rattle.std.proofs.lemmas.Bool.{cases_lt}
use Rattle.std.proofs.lemmas.List.{get_or_past}
use Rattle.std.proofs.lemmas.List.Elements.{All-head, All-nil, All-weaker}
use Rattle.std.proofs.lemmas.List.Folds.{list_any_none}
use Rattle.desk_text.specs.Laws.{LinesAscend}
use Rattle.desk_text.specs.Lines.{logical_lines}
use Rattle.desk_text.specs.declared.reading.LineFault.{LineFault}
use Rattle.desk_tables.specs.FileSystems.{fs_of}
use Rattle.desk_tables.specs.declared.filesystems.FsId.{FsId}
use Rattle.desk_tables.specs.declared.filesystems.Mount.{Mount}
use Rattle.desk_exports.specs.Files.{EntriesAscend, whole_answer}
use Rattle.desk_exports.specs.Laws.{takes_part}
use Rattle.desk_exports.specs.declared.entry.Entry.{Entry}
use Rattle.desk_exports.specs.declared.files.Scope.TheVariants.{Whole}
use Rattle.desk_exports.specs.declared.profile.Profile.TheVariants.{Two}
use Rattle.desk_exports.specs.declared.rules.Rule.{Rule}
use Rattle.desk_exports.proofs.AscendingEntries.{found_ascend}
use Rattle.desk_exports.proofs.TextAnswers.{entry_numbers}
use Rattle.desk_policy.specs.Contradiction.{HasNoContradiction}
use Rattle.desk_policy.specs.Parsing.{in_file, rows_with, then_read, whole_policy}
use Rattle.desk_policy.specs.Policy.{AreAscending, Content, content_of, rows_of, with_warnings}
use Rattle.desk_policy.specs.SiteFault.{line_fault}
use Rattle.desk_policy.specs.Verdict.{verdict_in, verdict_of}
use Rattle.desk_policy.specs.Warning.{whole_warnings}
use Rattle.desk_policy.specs.declared.parsing.SiteTables.{SiteTables}
use Rattle.desk_policy.specs.declared.row.Row.{Row}
use Rattle.desk_policy.specs.declared.warning.Warning.{Warning}
use Rattle.desk_policy.proofs.AscendingRows.{each_ascends}
use Rattle.desk_server.specs.Laws.{IsInForce, NothingRepeatedIsLoaded, NothingWiderIsEqual, SilenceIsTheServersVerdict}
use Rattle.desk_server.specs.RepeatedClients.{AreRepeatedClients, loaded, loaded_content}
use Rattle.desk_server.specs.Server.{server_verdict_in, server_verdict_of}
use Rattle.desk_server.specs.WiderGrants.{AreWiderGrants, IsWiderAt, IsWiderGrant}
use Rattle.desk_idle.specs.Laws.{WholeLinesWriteDirectories, WriteDirectories, WritesDirectories}
use Rattle.desk_findings.specs.CheckOdd.{AreContradictionsIn}
use Rattle.desk_findings.specs.CheckText.{Gathers, GathersOdd, TellInconsistencies, tables_of}
use Rattle.desk_findings.specs.Finding.{is_fault}
use Rattle.desk_findings.specs.Silence.{EqualIfNothingWider, HasNoFault, IsQuiet, IsSilent, IsToldOn, LoadedIfNothingRepeated, NoneIsToldOn, OfFaultless, SilentFindingsAreQuiet, SilentFindingsAreTheServers, SilentFindingsSayNothing, TheServersIfNeither, Write, is_of_server, tells_more, tells_repeated}
use Rattle.desk_findings.specs.declared.check_text.Gathered.{Gathered}
use Rattle.desk_findings.specs.declared.check_text.WholeSources.{WholeSources}
use Rattle.desk_findings.specs.declared.finding.Finding.{Finding}
use Rattle.desk_findings.specs.declared.finding.Matter.{Matter}
use Rattle.desk_findings.proofs.Consistent.{has_no_contradiction}
use Rattle.desk_findings.proofs.Silent.{IsToldFaultless, IsToldOff, clashes_none, exports_told, faultless_told, neither, none_passes, nothing_repeated as repeated_told, nothing_wider as wider_told, odd_with, off_told}

ascending_at : (content : Content) → All AreAscending content.rows → (fs : ℕ) → AreAscending (rows_of content fs)
ascending_at content all fs =
    elim (cases_lt fs (length content.rows)) [
      | inl within ↦ all fs [] within
      | inr past ↦
          let empty : rows_of content fs ≡ [] = get_or_past content.rows fs [] past in
          subst AreAscending (sym empty) (λ i j d less below. absurd (omega arith))
    ]

-- the entries of these texts give this policy
record Gives (sources : WholeSources) (table : List Mount) (content : Content) : Type 0 where
  site_tables : SiteTables
  entries : List (FsId × Entry)
  reads_tables : tables_of sources.tables ≡ Ok site_tables
  reads_exports : whole_answer (rows_with Two table site_tables) sources.exports.text.now ≡ Ok entries
  is : content ≡ content_of site_tables.netgroups site_tables.hosts table entries

-- a policy is this one, but for what it is warned of
record IsGiven (sources : WholeSources) (table : List Mount) (content : Content) : Type 0 where
  own : Content
  warned : List Warning
  gives : Gives sources table own
  is : content ≡ with_warnings own warned

given_by : (sources : WholeSources) (table : List Mount) (content : Content) (site_tables : SiteTables) (answer : Result (List (FsId × Entry)) (LineFault Rule)) → tables_of sources.tables ≡ Ok site_tables
    → whole_answer (rows_with Two table site_tables) sources.exports.text.now ≡ answer → then_read (in_file (line_fault (codes "exports")) answer) (whole_policy site_tables table) ≡ Ok content → IsGiven sources table content
given_by sources table content site_tables (Ok entries) reads answers e =
    let own : Content = content_of site_tables.netgroups site_tables.hosts table entries in
    let warned : List Warning = whole_warnings site_tables.netgroups site_tables.hosts entries in
    let same : with_warnings own warned ≡ content = cc in
    record {
      own = own;
      warned = warned;
      gives = record { site_tables = site_tables; entries = entries; reads_tables = reads; reads_exports = answers; is = refl };
      is = sym same;
    }
given_by sources table content site_tables (Err fault) reads answers e = absurd (cc)

given : (sources : WholeSources) (table : List Mount) (content : Content) → Write sources table content → IsGiven sources table content
given sources table content write =
    given_by sources table content write.site_tables (whole_answer (rows_with Two table write.site_tables) sources.exports.text.now) write.reads_tables refl write.reads_exports

abbrev OfGiven : (List ℕ → List Finding → Content → Type 0) → Type 0
OfGiven Holds =
    (opinions : Bool) (sources : WholeSources) (table : List Mount) (gathered : Gathered) (content : Content) → Gathers opinions sources table gathered → HasNoFault gathered.findings
    → Gives sources table content → Holds sources.exports.text.now gathered.findings content

-- what holds whatever a policy is warned of, holds of the policy of texts
of_given : (Holds : List ℕ → List Finding → Content → Type 0) → ((text : List ℕ) (findings : List Finding) (own : Content) (warned : List Warning) → Holds text findings own → Holds text findings (with_warnings own warned))
    → OfGiven Holds → OfFaultless Holds
of_given Holds whatever law opinions sources table gathered content found none_is write =
    let g = given sources table content write in
    subst (Holds sources.exports.text.now gathered.findings) (sym g.is) (whatever sources.exports.text.now gathered.findings g.own g.warned (law opinions sources table gathered g.own found none_is g.gives))

warned_equal : (text : List ℕ) (findings : List Finding) (own : Content) (warned : List Warning) → EqualIfNothingWider text findings own → EqualIfNothingWider text findings (with_warnings own warned)
unfolding server_verdict_of verdict_of
warned_equal text findings own warned law = law

warned_loaded : (text : List ℕ) (findings : List Finding) (own : Content) (warned : List Warning) → LoadedIfNothingRepeated text findings own → LoadedIfNothingRepeated text findings (with_warnings own warned)
warned_loaded text findings own warned law = law

warned_servers : (text : List ℕ) (findings : List Finding) (own : Content) (warned : List Warning) → TheServersIfNeither text findings own → TheServersIfNeither text findings (with_warnings own warned)
unfolding server_verdict_of verdict_of
warned_servers text findings own warned law = law

warned_at : (own : Content) (warned : List Warning) (address : ℕ) (path : List (List ℕ)) → server_verdict_of (loaded_content own) address path ≡ verdict_of own address path
    → server_verdict_of (loaded_content (with_warnings own warned)) address path ≡ verdict_of (with_warnings own warned) address path
unfolding server_verdict_of verdict_of
warned_at own warned address path e = e

unwarned_at : (own : Content) (warned : List Warning) (fs line address : ℕ) → IsWiderAt (with_warnings own warned) fs line address → IsWiderAt own fs line address
unfolding server_verdict_of verdict_of
unwarned_at own warned fs line address at = record {
  is_address = at.is_address;
  first = at.first;
  path = at.path;
  here = at.here;
  denial = at.denial;
  denied = at.denied;
  grant = at.grant;
  granted = at.granted;
}

warned_quiet : (own : Content) (warned : List Warning) (fs : ℕ) → IsQuiet own fs → IsQuiet (with_warnings own warned) fs
warned_quiet own warned fs is = record {
  wider = record {
    each = All-nil (IsWiderGrant (with_warnings own warned) fs);
    all = λ line address at. is.wider.all line address (unwarned_at own warned fs line address at);
    ascending = is.wider.ascending;
  };
  repeated = is.repeated;
}

module _ (ascend : LinesAscend) where
  -- the lines of each file system ascend
  rows_ascend : (sources : WholeSources) (table : List Mount) (content : Content) → Gives sources table content → All AreAscending content.rows
  unfolding content_of
  rows_ascend sources table content write =
      let tables = rows_with Two table write.site_tables in
      let up : EntriesAscend write.entries =
      found_ascend (λ (placed : FsId × Entry). placed.1.line) takes_part write.entries (logical_lines sources.exports.text.now)
      (entry_numbers tables Whole sources.exports.text.now write.entries write.reads_exports) (ascend sources.exports.text.now) in
      subst (λ (c : Content). All AreAscending c.rows) (sym write.is)
      (each_ascends write.site_tables.netgroups write.site_tables.hosts write.entries _ (λ i j d less below same. up i j d less below))

  module _ (opinions : Bool) (sources : WholeSources) (table : List Mount) (gathered : Gathered) (content : Content) (gathers : Gathers opinions sources table gathered) (faultless : HasNoFault gathered.findings) (write : Gives sources table content) where
    finds : GathersOdd opinions sources table write.site_tables write.entries gathered
    finds = odd_with (tables_of sources.tables) write.site_tables write.entries sources opinions table gathered write.reads_tables write.reads_exports gathers

    tells : TellInconsistencies opinions sources.exports content (whole_warnings write.site_tables.netgroups write.site_tables.hosts write.entries) finds.tell.exports
    tells =
        subst (λ (c : Content). TellInconsistencies opinions sources.exports c (whole_warnings write.site_tables.netgroups write.site_tables.hosts write.entries) finds.tell.exports) (sym write.is) finds.tell.tell_exports

    all_ascend : All AreAscending content.rows
    all_ascend = rows_ascend sources table content write

    consistent : HasNoContradiction content
    consistent =
        let each = exports_told IsToldFaultless sources opinions table write.site_tables write.entries gathered finds (faultless_told gathered.findings faultless) in
        has_no_contradiction content all_ascend
        (subst (AreContradictionsIn content.rows) (clashes_none opinions sources.exports content (whole_warnings write.site_tables.netgroups write.site_tables.hosts write.entries) finds.tell.exports tells each) tells.are_clashes)

    in_force : IsInForce content
    in_force = record { ascending = ascending_at content all_ascend; consistent = consistent }

    off : (says : Matter → Bool) (rows : List Row) → NoneIsToldOn says sources.exports.text.now rows gathered.findings → All (IsToldOff says sources.exports.text.now rows) finds.tell.exports
    off says rows none =
        exports_told (IsToldOff says sources.exports.text.now rows) sources opinions table write.site_tables write.entries gathered finds (off_told says sources.exports.text.now rows gathered.findings none)

    wider : (fs : ℕ) (path : List (List ℕ)) → fs_of content.table path ≡ Some fs → NoneIsToldOn tells_more sources.exports.text.now (rows_of content fs) gathered.findings → AreWiderGrants content fs []
    wider fs path home none =
        wider_told opinions sources.exports content (whole_warnings write.site_tables.netgroups write.site_tables.hosts write.entries) finds.tell.exports tells consistent fs path home (off tells_more (rows_of content fs) none)

    repeated : (fs : ℕ) (path : List (List ℕ)) → fs_of content.table path ≡ Some fs → NoneIsToldOn tells_repeated sources.exports.text.now (rows_of content fs) gathered.findings → AreRepeatedClients (rows_of content fs) []
    repeated fs path home none =
        repeated_told opinions sources.exports content (whole_warnings write.site_tables.netgroups write.site_tables.hosts write.entries) finds.tell.exports tells consistent fs path home (off tells_repeated (rows_of content fs) none)

  given_nothing_wider_found_is_equal : NothingWiderIsEqual → OfGiven EqualIfNothingWider
  given_nothing_wider_found_is_equal law opinions sources table gathered content found none_is write fs none address path below home =
      law content fs address path (in_force opinions sources table gathered content found none_is write) below home (wider opinions sources table gathered content found none_is write fs path home none)

  given_nothing_found_is_the_servers : SilenceIsTheServersVerdict → OfGiven TheServersIfNeither
  given_nothing_found_is_the_servers law opinions sources table gathered content found none_is write fs none_wider none_repeated address path below home =
      law content fs address path (in_force opinions sources table gathered content found none_is write) below home (wider opinions sources table gathered content found none_is write fs path home none_wider)
      (repeated opinions sources table gathered content found none_is write fs path home none_repeated)

  by_rows : NothingRepeatedIsLoaded → (table : List Mount) (fs : ℕ) (rows : List Row) → All (WritesDirectories table fs) rows → AreAscending rows → ((path : List (List ℕ)) → fs_of table path ≡ Some fs → AreRepeatedClients rows []) → loaded rows ≡ rows
  by_rows law table fs [] dirs up none = refl
  by_rows law table fs (row ∷ rows) dirs up none =
      let is = All-head (WritesDirectories table fs) row rows dirs in
      law (row ∷ rows) up (none (get_or row.entry.dirs 0 []) (is.own 0 [] is.some))

  write_directories : WholeLinesWriteDirectories → (sources : WholeSources) (table : List Mount) (content : Content) → Gives sources table content → (fs : ℕ) → WriteDirectories content fs
  write_directories law sources table content write fs =
      let read = ap (λ answer. then_read (in_file (line_fault (codes "exports")) answer) (whole_policy write.site_tables table)) write.reads_exports in
      subst (λ (c : Content). WriteDirectories c fs) (sym write.is) (law Two write.site_tables table sources.exports.text.now _ read fs)

  given_nothing_repeated_found_is_loaded : WholeLinesWriteDirectories → NothingRepeatedIsLoaded → OfGiven LoadedIfNothingRepeated
  given_nothing_repeated_found_is_loaded dirs law opinions sources table gathered content found none_is write fs none =
      by_rows law content.table fs (rows_of content fs) (write_directories dirs sources table content write fs) ((in_force opinions sources table gathered content found none_is write).ascending fs)
      (λ path home. repeated opinions sources table gathered content found none_is write fs path home none)

  -- ---- silence

  silent_faultless : (findings : List Finding) → IsSilent findings → HasNoFault findings
  silent_faultless findings silent =
      list_any_none (λ (finding : Finding). is_fault finding.matter) findings
      (All-weaker (λ (finding : Finding). (is_fault finding.matter || is_of_server finding.matter) ≡ false) (λ (finding : Finding). is_fault finding.matter ≡ false) (λ finding e. (neither (is_fault finding.matter) (is_of_server finding.matter) e).0) findings
      (none_passes (λ (finding : Finding). is_fault finding.matter || is_of_server finding.matter) findings silent))

  silent_off : (says : Matter → Bool) → ((what : Matter) → is_of_server what ≡ false → says what ≡ false) → (text : List ℕ) (rows : List Row) (findings : List Finding) → IsSilent findings → NoneIsToldOn says text rows findings
  silent_off says part text rows findings silent =
      All-weaker (λ (finding : Finding). (is_fault finding.matter || is_of_server finding.matter) ≡ false) (λ (finding : Finding). (row : Row) → Contains rows row → says finding.matter ≡ true → IsToldOn text row.entry.line finding → ⊥)
      (λ finding e row has is on. absurd (let no : says finding.matter ≡ false = part finding.matter (neither (is_fault finding.matter) (is_of_server finding.matter) e).1 in cc)) findings
      (none_passes (λ (finding : Finding). is_fault finding.matter || is_of_server finding.matter) findings silent)

  silent_wider : (text : List ℕ) (rows : List Row) (findings : List Finding) → IsSilent findings → NoneIsToldOn tells_more text rows findings
  silent_wider = silent_off tells_more (λ what e. (neither (tells_more what) (tells_repeated what) e).0)

  silent_repeated : (text : List ℕ) (rows : List Row) (findings : List Finding) → IsSilent findings → NoneIsToldOn tells_repeated text rows findings
  silent_repeated = silent_off tells_repeated (λ what e. (neither (tells_more what) (tells_repeated what) e).1)

  pub silent_findings_say_nothing : SilentFindingsSayNothing
  silent_findings_say_nothing findings text rows silent =
      (silent_faultless findings silent, (silent_wider text rows findings silent, silent_repeated text rows findings silent))

  given_are_quiet : (opinions : Bool) (sources : WholeSources) (table : List Mount) (gathered : Gathered) (content : Content) → Gathers opinions sources table gathered → IsSilent gathered.findings
      → Gives sources table content → (fs : ℕ) (path : List (List ℕ)) → fs_of content.table path ≡ Some fs → IsQuiet content fs
  given_are_quiet opinions sources table gathered content found silent write fs path home =
      let none_is = silent_faultless gathered.findings silent in
      record {
        wider = wider opinions sources table gathered content found none_is write fs path home (silent_wider sources.exports.text.now (rows_of content fs) gathered.findings silent);
        repeated = repeated opinions sources table gathered content found none_is write fs path home (silent_repeated sources.exports.text.now (rows_of content fs) gathered.findings silent);
      }

  equal_at : SilenceIsTheServersVerdict → (content : Content) (address : ℕ) (path : List (List ℕ)) → IsInForce content → ((fs : ℕ) → fs_of content.table path ≡ Some fs → IsQuiet content fs) → address < 2 ^ 32 → (o : Option ℕ) → fs_of content.table path ≡ o
      → server_verdict_of (loaded_content content) address path ≡ verdict_of content address path
  unfolding server_verdict_of verdict_of
  equal_at law content address path holds all below None home =
      ap (server_verdict_in (loaded_content content) address path) home ∙ sym (ap (verdict_in content address path) home)
  equal_at law content address path holds all below (Some fs) home =
      let here = all fs home in
      law content fs address path holds below home here.wider here.repeated

  given_are_the_servers : SilenceIsTheServersVerdict → (opinions : Bool) (sources : WholeSources) (table : List Mount) (gathered : Gathered) (content : Content) → Gathers opinions sources table gathered → IsSilent gathered.findings
      → Gives sources table content → (address : ℕ) (path : List (List ℕ)) → address < 2 ^ 32 → server_verdict_of (loaded_content content) address path ≡ verdict_of content address path
  given_are_the_servers law opinions sources table gathered content found silent write address path below =
      let none_is = silent_faultless gathered.findings silent in
      equal_at law content address path (in_force opinions sources table gathered content found none_is write) (λ fs home. given_are_quiet opinions sources table gathered content found silent write fs path home) below (fs_of content.table path) refl

  -- ---- whatever is warned of

  pub nothing_wider_found_is_equal : NothingWiderIsEqual → OfFaultless EqualIfNothingWider
  nothing_wider_found_is_equal law = of_given EqualIfNothingWider warned_equal (given_nothing_wider_found_is_equal law)

  pub nothing_found_is_the_servers : SilenceIsTheServersVerdict → OfFaultless TheServersIfNeither
  nothing_found_is_the_servers law = of_given TheServersIfNeither warned_servers (given_nothing_found_is_the_servers law)

  pub nothing_repeated_found_is_loaded : WholeLinesWriteDirectories → NothingRepeatedIsLoaded → OfFaultless LoadedIfNothingRepeated
  nothing_repeated_found_is_loaded dirs law = of_given LoadedIfNothingRepeated warned_loaded (given_nothing_repeated_found_is_loaded dirs law)

  pub silent_findings_are_quiet : SilentFindingsAreQuiet
  silent_findings_are_quiet opinions sources table gathered content found silent write fs path home =
      let g = given sources table content write in
      let home_own : fs_of g.own.table path ≡ Some fs = ap (λ (c : Content). fs_of c.table path) (sym g.is) ∙ home in
      subst (λ (c : Content). IsQuiet c fs) (sym g.is) (warned_quiet g.own g.warned fs (given_are_quiet opinions sources table gathered g.own found silent g.gives fs path home_own))

  pub silent_findings_are_the_servers : SilenceIsTheServersVerdict → SilentFindingsAreTheServers
  silent_findings_are_the_servers law opinions sources table gathered content found silent write address path below =
      let g = given sources table content write in
      subst (λ (c : Content). server_verdict_of (loaded_content c) address path ≡ verdict_of c address path) (sym g.is)
      (warned_at g.own g.warned address path (given_are_the_servers law opinions sources table gathered g.own found silent g.gives address path below))

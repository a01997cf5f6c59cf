-- What another text of one exports file changes: the lines of its file system.
use Rattle.std.proofs.Common.{◌≡◌, ◌≢◌, ◌∙◌, ◌<◌, ℕ, List, [], ◌∷◌, Some, Result, Ok, Err, ap, arith, get_or, inl, inr, length, refl, set, subst, sym}
use Rattle.std.specs.Prelude.{slice_get}
use Rattle.std.specs.Option.{option_map}
use Rattle.std.specs.Str.{bytes_eq}
use Rattle.std.proofs.lemmas.Bool.{cases_eq}
use Rattle.std.proofs.lemmas.List.{get_or-set_other}
use Rattle.std.proofs.lemmas.List.Quantifiers.{position-Some}
use Rattle.std.proofs.lemmas.Option.{slice_get-get_or}
use Rattle.std.proofs.lemmas.Slice.Eq.{bytes_eq-Decides}
use Rattle.desk_text.specs.Address.{number_of}
use Rattle.desk_text.specs.declared.reading.ReadError.{ReadError}
use Rattle.desk_text.specs.declared.reading.ReadError.TheVariants.{Fault, Memory}
use Rattle.desk_exports.specs.declared.profile.Profile.TheVariants.{Two}
use Rattle.desk_tables.specs.Custodians.{read_custodians}
use Rattle.desk_tables.specs.Laws.{TablesAreInOrder}
use Rattle.desk_tables.specs.declared.filesystems.Mount.{Mount}
use Rattle.desk_policy.specs.Contradiction.{AreConsistent, HasNoContradiction, IsLeastIn}
use Rattle.desk_policy.specs.Parsing.{ExportsFile, read_exports, read_site, read_site_tables, read_text}
use Rattle.desk_policy.specs.Policy.{AreAscending as LinesAscend, Content, rows_of}
use Rattle.desk_policy.specs.Replacing.{DifferIn, HasLines, OneFileIsReplaced, ReadsLines, ReadsWith, ReplacesLines}
use Rattle.desk_policy.specs.Site.{SiteTexts}
use Rattle.desk_policy.specs.SiteFault.{contradiction_fault, exports_name}
use Rattle.desk_policy.specs.View.{HasFault, IsFaultOf, IsLeastContradiction, IsPart, MakesPart, NamesLeast}
use Rattle.desk_policy.specs.declared.parsing.SiteTables.{SiteTables}
use Rattle.desk_policy.specs.declared.per_site.PerSite.{PerSite}
use Rattle.desk_policy.specs.declared.row.Row.{Row}
use Rattle.desk_policy.specs.declared.site.ExportsText.{ExportsText}
use Rattle.desk_policy.specs.declared.site_fault.SiteFault.{SiteFault}
use Rattle.desk_policy.specs.SiteFile.{exports_place}
use Rattle.desk_policy.proofs.SiteOrigins.{no_origins}
use Rattle.desk_core.specs.Foresight.{revision_with}
use Rattle.desk_core.specs.Head.{newest_in}
use Rattle.desk_core.specs.PrivateState.{AreLinesOf, MakesChange, ReadsRows, site_with}
use Rattle.desk_core.specs.Site.{IsInForce, IsSound, policy_of, policy_read, site_in}
use Rattle.desk_core.specs.State.{PutsSite}
use Rattle.desk_core.specs.Views.{Kept, Lines}
use Rattle.desk_core.proofs.OtherTexts.{differ_in, own_text, same_tables}
use Rattle.desk_core.proofs.PolicyRead.{table_read}

-- the policy of a consistent site
sound_policy : (read : Result Content SiteFault) → IsSound read → (policy : Content) × (read ≡ Ok policy) × HasNoContradiction policy
sound_policy (Ok policy) none = (policy, refl, none)
sound_policy (Err fault) none = absurd none

-- the mount point whose exports file a place has
pub place_of : (table : List Mount) (file : List ℕ) (fs : ℕ) → exports_place table file ≡ Some fs → (mount : Mount) × (slice_get table fs ≡ Some mount) × (file ≡ exports_name mount.path) × (fs < length table)
place_of [] file fs is = absurd (cc)
place_of (first ∷ more) file fs is =
    let found = position-Some (λ (mount : Mount). bytes_eq (exports_name mount.path) file) (first ∷ more) fs first is in (
      get_or (first ∷ more) fs first,
      slice_get-get_or (first ∷ more) fs first found.0,
      sym ((bytes_eq-Decides (exports_name (get_or (first ∷ more) fs first).path) file).0 found.1),
      found.0,
    )

-- a text that has lines was read, and they ascend
lines_read : (former : Content) (fs : ℕ) (file : Result ExportsFile SiteFault) (rows : List Row) (read : Result Content SiteFault) → HasLines file rows → ReadsWith former fs file read → ReplacesLines former fs rows read
lines_read former fs (Ok file) rows read has replaced = subst (λ rs. ReplacesLines former fs rs read) (sym has.0) replaced
lines_read former fs (Err fault) rows read has replaced = absurd has

lines_ascend : (file : Result ExportsFile SiteFault) (rows : List Row) → HasLines file rows → LinesAscend rows
lines_ascend (Ok file) rows has = has.1
lines_ascend (Err fault) rows has = absurd has

-- lines of one file system in the place of others, in a policy without contradictions
module _ (former : Content) (none : HasNoContradiction former) (fs : ℕ) (rows : List Row) (read : Result Content SiteFault) (lines : ReplacesLines former fs rows read) where
  elsewhere : (place : ℕ) → place ≢ fs → rows_of lines.policy place ≡ rows_of former place
  elsewhere place ne = ap (λ (all : List (List Row)). get_or all place []) lines.lines ∙ get_or-set_other former.rows fs place rows [] ne

  consistent_elsewhere : (place : ℕ) → place ≢ fs → AreConsistent (rows_of lines.policy place)
  consistent_elsewhere place ne = subst AreConsistent (sym (elsewhere place ne)) (none place)

  consistent : AreConsistent rows → HasNoContradiction lines.policy
  consistent own place = elim (cases_eq place fs) [
    | inl eq ↦ subst (λ n. AreConsistent (rows_of lines.policy n)) (sym eq) (subst AreConsistent (sym lines.own) own)
    | inr ne ↦ consistent_elsewhere place ne
  ]

  least : (content : Content) → content.table ≡ former.table → (fault : SiteFault) → NamesLeast content fs rows fault → IsLeastContradiction lines.policy fault
  least content table fault names = record {
    fs = fs;
    found = names.found;
    named = ap (λ ms. option_map (λ (mount : Mount). contradiction_fault (exports_name mount.path) names.found) (slice_get ms fs)) (lines.table ∙ sym table) ∙ names.named;
    here = subst (λ rs. IsLeastIn rs names.found.line names.found.other (number_of names.found.address)) (sym lines.own) names.least;
    before = λ place less. consistent_elsewhere place (λ eq. omega arith);
  }

module _ {V : Type 0} (law : OneFileIsReplaced) (order : TablesAreInOrder) (in_force : V → Content) (state : Kept V) (tables : SiteTables) (name body : List ℕ) (fs : ℕ)
    (holds : IsInForce (site_in (newest_in state.heads)) (in_force state.view)) (tables_are : read_site_tables (site_in (newest_in state.heads)) ≡ Ok tables)
    (place : exports_place (in_force state.view).table name ≡ Some fs) where
  abbrev old : SiteTexts
  old = site_in (newest_in state.heads)

  abbrev new : SiteTexts
  new = site_with state name body

  abbrev content : Content
  content = in_force state.view

  abbrev text : ExportsText
  text = record { profile = Two; body = body }

  -- the policy of the site as it is
  former : (policy : Content) × (read_site old ≡ Ok policy) × HasNoContradiction policy
  former = sound_policy (read_site old) holds.consistent

  same_table : content.table ≡ former.0.table
  same_table = holds.lines.table ∙ ap (λ read. (policy_read read).table) former.1

  same_rows : content.rows ≡ former.0.rows
  same_rows = holds.lines.rows ∙ ap (λ read. (policy_read read).rows) former.1

  no_origins_here : content.origins ≡ []
  no_origins_here = holds.lines.origins ∙ ap (λ read. (policy_read read).origins) former.1 ∙ no_origins old former.0 former.1

  module _ (mount : Mount) (here : slice_get content.table fs ≡ Some mount) (file : name ≡ exports_name mount.path) where
    abbrev gives : Result ExportsFile SiteFault
    gives = read_text text content.table tables fs mount.path

    in_former : slice_get former.0.table fs ≡ Some mount
    in_former = ap (λ ms. slice_get ms fs) (sym same_table) ∙ here

    differ : DifferIn former.0.table fs old new
    differ = differ_in (newest_in state.heads) (revision_with name body) former.0.table fs mount (order old.files.filesystems former.0.table (table_read old former.0 former.1)).0 in_former file

    own_file : read_exports new former.0.table tables fs mount.path ≡ gives
    own_file =
        ap (λ t. read_text t former.0.table tables fs mount.path) (own_text (newest_in state.heads) (revision_with name body) (exports_name mount.path) file)
        ∙ ap (λ ms. read_text text ms tables fs mount.path) (sym same_table)

    replaced : ReadsWith former.0 fs gives (read_site new)
    replaced = subst (λ read. ReadsWith former.0 fs read (read_site new)) own_file (law old new former.0 tables fs mount former.1 tables_are in_former differ)

    faulty_at : (fault : SiteFault) → gives ≡ Err fault → HasFault new fault
    faulty_at fault is =
        let named : read_site new ≡ Err fault = subst (λ read. ReadsWith former.0 fs read (read_site new)) is replaced in
        subst (λ read. IsFaultOf read fault) (sym named) refl

    module _ (rows : List Row) (has : HasLines gives rows) where
      lines : ReplacesLines former.0 fs rows (read_site new)
      lines = lines_read former.0 fs gives rows (read_site new) has replaced

      contradicts_at : (fault : SiteFault) → NamesLeast content fs rows fault → HasFault new fault
      contradicts_at fault names = subst (λ read. IsFaultOf read fault) (sym lines.is) (least former.0 former.2 fs rows (read_site new) lines content same_table fault names)

      puts_at : IsPart content fs rows → PutsSite in_force state (Lines fs rows) new
      puts_at part =
          let policy : policy_of new ≡ lines.policy = ap policy_read lines.is in
          record {
            view = record {
              consistent = subst IsSound (sym lines.is) (consistent former.0 former.2 fs rows (read_site new) lines part.consistent);
              lines = record {
                table = same_table ∙ sym lines.table ∙ sym (ap (λ (c : Content). c.table) policy);
                rows = ap (λ (all : List (List Row)). set all fs rows) same_rows ∙ sym lines.lines ∙ sym (ap (λ (c : Content). c.rows) policy);
                origins = no_origins_here ∙ sym (no_origins new lines.policy lines.is) ∙ sym (ap (λ (c : Content). c.origins) policy);
              };
            };
            rests_on = (part, ap (λ (files : PerSite (List ℕ)). read_custodians files.custodians) differ.files, same_tables old new differ);
          }

  -- the lines of the text, or its fault
  pub rows_read : (result : Result (List Row) (ReadError SiteFault)) → ReadsLines result text content.table tables fs → ReadsRows in_force state fs new result
  rows_read (Ok rows) told =
      let at = place_of content.table name fs place in
      let has = told at.0 at.1 in
      let up = lines_ascend (gives at.0 at.1 at.2) rows has in
      record {
        file_system = at.3;
        ascending = up;
        puts = λ own. puts_at at.0 at.1 at.2 rows has (record { file_system = at.3; ascending = up; consistent = own });
        contradict = λ fault names. contradicts_at at.0 at.1 at.2 rows has fault names;
      }
  rows_read (Err (Fault fault)) told = let at = place_of content.table name fs place in faulty_at at.0 at.1 at.2 fault (told at.0 at.1)
  rows_read (Err Memory) told = tt

-- ---- lines that were read, made ready to stand for those of their file system

module _ {V P : Type 0} (in_force : V → Content) (part_rows : P → List Row) (state : Kept V) (fs : ℕ) (texts : SiteTexts) where
  -- the text is faulty, or memory ran out
  pub none_read : (file : List ℕ) (error : ReadError SiteFault) → ReadsRows in_force state fs texts (Err error) → MakesChange in_force part_rows state file texts (Err error)
  none_read file (Fault fault) told = told
  none_read file Memory told = tt

  -- the lines contradict each other, or memory ran out
  pub lines_refused : (file : List ℕ) (rows : List Row) (error : ReadError SiteFault) → AreLinesOf in_force state fs texts rows → MakesPart part_rows (in_force state.view) fs rows (Err error)
      → MakesChange in_force part_rows state file texts (Err error)
  lines_refused file rows (Fault fault) are names = are.contradict fault names
  lines_refused file rows Memory are names = tt

  -- the lines may stand for those of the file system
  pub lines_put : (rows : List Row) (part : P) → AreLinesOf in_force state fs texts rows → MakesPart part_rows (in_force state.view) fs rows (Ok part) → PutsSite in_force state (Lines fs (part_rows part)) texts
  lines_put rows part are made = subst (λ rs. PutsSite in_force state (Lines fs rs) texts) (sym made.0) (are.puts made.1.consistent)

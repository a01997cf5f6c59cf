-- The exports files that were read so far, and the ones after them.
use Rattle.std.proofs.Common.{◌≡◌, ◌<◌, ◌+◌, ℕ, suc, List, [], ◌∷◌, ◌++◌, All, Result, Ok, Err, OnOk, add-one, ap, append_assoc, arith, drop, get_or, length, length-append, map, refl, subst, sym, ◌∙◌}
use Rattle.std.specs.List.{flat_map}
use Rattle.std.proofs.Math.Seq.{drop-cons}
use Rattle.std.proofs.lemmas.Grind.{flat_map-append}
use Rattle.std.proofs.lemmas.List.{append-nil, get_or-map, length-map, map-append}
use Rattle.std.proofs.lemmas.List.Elements.{All-push}
use Rattle.desk_text.specs.Reading.{ReadsAs}
use Rattle.desk_text.specs.declared.reading.ReadError.{ReadError}
use Rattle.desk_text.specs.declared.reading.ReadError.TheVariants.{Fault, Memory}
use Rattle.desk_tables.specs.declared.filesystems.Mount.{Mount}
use Rattle.desk_tables.specs.declared.hosts.HostRow.{HostRow}
use Rattle.desk_netgroup.specs.declared.group_line.GroupLine.{GroupLine}
use Rattle.desk_exports.specs.Files.{FileAscends}
use Rattle.desk_exports.specs.declared.entry.Entry.{Entry}
use Rattle.desk_policy.specs.Parsing.{content_with, ExportsFile, read_exports, read_files, then_read}
use Rattle.desk_policy.specs.Policy.{AreAscending, Content, IsContent}
use Rattle.desk_policy.specs.PrivateParsing.{AddsFile, AddsFiles, PushesFiles}
use Rattle.desk_policy.specs.Row.{row_of}
use Rattle.desk_policy.specs.Site.{SiteTexts}
use Rattle.desk_policy.specs.Warning.{netgroup_warnings}
use Rattle.desk_policy.specs.declared.parsing.SiteTables.{SiteTables}
use Rattle.desk_policy.specs.declared.row.Row.{Row}
use Rattle.desk_policy.specs.declared.site_fault.SiteFault.{SiteFault}
use Rattle.desk_policy.specs.declared.warning.Warning.{Warning}

-- the lines of entries that ascend do so
pub file_ascends : (netgroups : List GroupLine) (hosts : List HostRow) (entries : List Entry) → FileAscends entries → AreAscending (map (row_of netgroups hosts) entries)
file_ascends netgroups hosts [] up i j d less below = absurd (omega arith)
file_ascends netgroups hosts (first ∷ others) up i j d less below =
    let all : List Entry = first ∷ others in
    let within : j < length all = omega (arith, length-map all (row_of netgroups hosts)) in
    let before = up i j first less within in
    let earlier = ap (λ (row : Row). row.entry.line) (get_or-map (row_of netgroups hosts) all i first d (omega arith)) in
    let later = ap (λ (row : Row). row.entry.line) (get_or-map (row_of netgroups hosts) all j first d within) in
    omega arith

abbrev pub and_then_more : List ExportsFile → List ExportsFile → Result (List ExportsFile) SiteFault
and_then_more files more = Ok (files ++ more)

-- so many files were read and added, and what all give hangs on the ones after them
pub record FilesRead (texts : SiteTexts) (table : List Mount) (site_tables : SiteTables) (count : ℕ) (rows rows' : List (List Row)) (warnings warnings' : List Warning) : Type 0 where
  pub files : List ExportsFile
  pub is : read_files texts table site_tables 0 table ≡ then_read (read_files texts table site_tables count (drop count table)) (and_then_more files)
  pub each : length files ≡ count
  pub lines : rows' ≡ rows ++ map (λ file. file.rows) files
  pub warned : warnings' ≡ warnings ++ flat_map (λ file. file.warnings) files
  pub ascending : All (λ file. AreAscending file.rows) files

joined : (files : List ExportsFile) (file : ExportsFile) (rest : Result (List ExportsFile) SiteFault)
    → then_read (then_read rest (λ more. Ok (file ∷ more))) (and_then_more files) ≡ then_read rest (and_then_more (files ++ file ∷ []))
joined files file (Ok more) = ap Ok (sym (append_assoc files (file ∷ []) more))
joined files file (Err fault) = refl

module _ (texts : SiteTexts) (table : List Mount) (site_tables : SiteTables) where
  abbrev one : ℕ → Mount → Result ExportsFile SiteFault
  one place mount = read_exports texts table site_tables place mount.path

  module _ (i : ℕ) (mount : Mount) (below : i < length table) (at : mount ≡ get_or table i mount) where
    dropped : drop i table ≡ mount ∷ drop (i + 1) table
    dropped = drop-cons table i mount below ∙ ap (λ m. m ∷ drop (suc i) table) (sym at) ∙ ap (λ n. mount ∷ drop n table) (sym (add-one i))

    pub one_read : (rows rows' rows'' : List (List Row)) (warnings warnings' warnings'' : List Warning) → FilesRead texts table site_tables i rows rows' warnings warnings'
        → AddsFile (one i mount) rows' rows'' warnings' warnings'' → FilesRead texts table site_tables (i + 1) rows rows'' warnings warnings''
    one_read rows rows' rows'' warnings warnings' warnings'' so_far adds = record {
      files = so_far.files ++ adds.file ∷ [];
      is = so_far.is
          ∙ ap (λ mounts. then_read (read_files texts table site_tables i mounts) (and_then_more so_far.files)) dropped
          ∙ ap (λ file. then_read (then_read file (λ f. then_read (read_files texts table site_tables (i + 1) (drop (i + 1) table)) (λ more. Ok (f ∷ more)))) (and_then_more so_far.files)) adds.is
          ∙ joined so_far.files adds.file (read_files texts table site_tables (i + 1) (drop (i + 1) table));
      each = length-append so_far.files (adds.file ∷ []) ∙ ap (λ n. n + 1) so_far.each;
      lines = adds.lines ∙ ap (λ rs. rs ++ adds.file.rows ∷ []) so_far.lines ∙ append_assoc rows (map (λ (f : ExportsFile). f.rows) so_far.files) (adds.file.rows ∷ [])
          ∙ ap (λ rs. rows ++ rs) (sym (map-append (λ (f : ExportsFile). f.rows) so_far.files (adds.file ∷ [])));
      warned = adds.warned ∙ ap (λ ws. ws ++ adds.file.warnings) so_far.warned ∙ append_assoc warnings (flat_map (λ (f : ExportsFile). f.warnings) so_far.files) adds.file.warnings
          ∙ ap (λ ws. warnings ++ ws) (ap (λ ws. flat_map (λ (f : ExportsFile). f.warnings) so_far.files ++ ws) (sym (append-nil adds.file.warnings)) ∙ sym (flat_map-append (λ (f : ExportsFile). f.warnings) so_far.files (adds.file ∷ [])));
      ascending = All-push (λ (f : ExportsFile). AreAscending f.rows) so_far.files adds.file so_far.ascending adds.ascending;
    }

all_mapped : (files : List ExportsFile) → All (λ (f : ExportsFile). AreAscending f.rows) files → All AreAscending (map (λ (f : ExportsFile). f.rows) files)
all_mapped files up i d below =
    let file : ExportsFile = record { rows = d; warnings = [] } in
    let within : i < length files = omega (arith, length-map files (λ (f : ExportsFile). f.rows)) in
    subst AreAscending (sym (get_or-map (λ (f : ExportsFile). f.rows) files i file d within)) (up i file within)

-- the files of all file systems make a policy
pub is_content : (table : List Mount) (read : Result (List ExportsFile) SiteFault) (rows rows' : List (List Row)) (warnings warnings' : List Warning) → rows ≡ []
    → AddsFiles read (length table) rows rows' warnings warnings' → IsContent (record { table = table; rows = rows'; warnings = warnings'; origins = [] })
is_content table read rows rows' warnings warnings' empty adds =
    let is : rows' ≡ map (λ (f : ExportsFile). f.rows) adds.files = adds.lines ∙ ap (λ rs. rs ++ map (λ (f : ExportsFile). f.rows) adds.files) empty in
    record {
      each = ap length is ∙ length-map adds.files (λ (f : ExportsFile). f.rows) ∙ adds.each;
      ascending = subst (λ rs. All AreAscending rs) (sym is) (all_mapped adds.files adds.ascending);
    }

-- and it is the one that the files write
pub content_is : (table : List Mount) (site_tables : SiteTables) (read : Result (List ExportsFile) SiteFault) (rows rows' : List (List Row)) (warnings warnings' : List Warning) → rows ≡ [] → warnings ≡ netgroup_warnings site_tables.netgroups site_tables.hosts
    → (adds : AddsFiles read (length table) rows rows' warnings warnings') → content_with table site_tables adds.files ≡ record { table = table; rows = rows'; warnings = warnings'; origins = [] }
content_is table site_tables read rows rows' warnings warnings' empty of_groups adds =
    let P : List (List Row) → List Warning → Content = λ rs ws. record { table = table; rows = rs; warnings = ws; origins = [] } in
    ap (λ rs. P rs (content_with table site_tables adds.files).warnings) (sym (adds.lines ∙ ap (λ rs. rs ++ map (λ (f : ExportsFile). f.rows) adds.files) empty))
    ∙ ap (P rows') (sym (adds.warned ∙ ap (λ ws. ws ++ flat_map (λ (f : ExportsFile). f.warnings) adds.files) of_groups))

-- the content after the exports files, if none of them is refused
pub content_pushed : (table : List Mount) (read : Result (List ExportsFile) SiteFault) (result : Result (Unit {0}) (ReadError SiteFault)) (rows rows' : List (List Row)) (warnings warnings' : List Warning) → rows ≡ []
    → PushesFiles result read (length table) rows rows' warnings warnings' → OnOk result (IsContent (record { table = table; rows = rows'; warnings = warnings'; origins = [] }))
content_pushed table read (Ok done) rows rows' warnings warnings' empty adds = is_content table read rows rows' warnings warnings' empty adds
content_pushed table read (Err error) rows rows' warnings warnings' empty pushes = tt

abbrev content_of_parts : List Mount → List (List Row) → List Warning → Content
content_of_parts table rows warnings = record { table = table; rows = rows; warnings = warnings; origins = [] }

-- the policy after the exports files, or the first fault
pub policy_pushed : (table : List Mount) (site_tables : SiteTables) (read : Result (List ExportsFile) SiteFault) (result : Result (Unit {0}) (ReadError SiteFault)) (rows rows' : List (List Row)) (warnings warnings' : List Warning) → rows ≡ []
    → warnings ≡ netgroup_warnings site_tables.netgroups site_tables.hosts → PushesFiles result read (length table) rows rows' warnings warnings'
    → ReadsAs (λ (done : Unit {0}). content_of_parts table rows' warnings') result (then_read read (λ files. Ok (content_with table site_tables files)))
policy_pushed table site_tables read (Ok done) rows rows' warnings warnings' empty of_groups adds =
    ap (λ r. then_read r (λ files. Ok (content_with table site_tables files))) adds.is ∙ ap Ok (content_is table site_tables read rows rows' warnings warnings' empty of_groups adds)
policy_pushed table site_tables read (Err (Fault fault)) rows rows' warnings warnings' empty of_groups told = ap (λ r. then_read r (λ files. Ok (content_with table site_tables files))) told
policy_pushed table site_tables read (Err Memory) rows rows' warnings warnings' empty of_groups told = tt

use Rattle.std.proofs.Common.{◌++◌, ◌∙◌, [], ◌∷◌, List, Ok, Result, ap, IfOk, subst, sym, ℕ}
use Rattle.std.specs.List.{flat_map}
use Rattle.desk_text.specs.Path.{path_text}
use Rattle.desk_text.specs.declared.reading.LineFault.{LineFault}
use Rattle.desk_text.specs.declared.reading.ReadError.{ReadError}
use Rattle.desk_exports.specs.Files.{FileAscends}
use Rattle.desk_exports.specs.declared.entry.Entry.{Entry}
use Rattle.desk_exports.specs.declared.rules.Rule.{Rule}
use Rattle.desk_policy.specs.Parsing.{entries_in, ExportsFile, file_with, in_file, then_read}
use Rattle.desk_policy.specs.Site.{texts_of}
use Rattle.desk_policy.specs.SiteFault.{exports_name, line_fault}
use Rattle.desk_policy.specs.SiteFile.{exports_file_name}
use Rattle.desk_policy.specs.Warning.{entry_warnings}
use Rattle.desk_policy.specs.declared.site_fault.SiteFault.{SiteFault}
use Rattle.desk_policy.proofs.FilesRead.{file_ascends}
use Rattle.desk_policy.proofs.parsing.push_file.Goals as goal

pub returns-clause-pushes : goal.returns-clause-pushes
returns-clause-pushes c =
    let site_tables = c.args.site_tables.now in
    let name : List ℕ = exports_name c.args.mount.now in
    let entries : List Entry = c.in_ok-entries.entries in
    let next : List Entry → Result ExportsFile SiteFault = λ es. Ok (file_with site_tables name es) in
    let named = c.as_str.ensures.value ∙ c.in_ok-name.ensures ∙ ap exports_file_name c.text.ensures.printed in
    let again = c.as_str-2.ensures.value ∙ c.in_ok-name.ensures ∙ ap exports_file_name c.text.ensures.printed in
    let answer : Result (List Entry) (LineFault Rule) = entries_in ((texts_of c.args.site.now).exports (path_text c.args.mount.now)) c.args.filesystems.now site_tables c.args.fs in
    let told = c.in_ok-entries.ensures.read answer c.site_entries-entries.ensures.read in
    let R : Result (List Entry) (ReadError (LineFault Rule)) → Type 0 = λ r. IfOk r FileAscends in
    record {
      file = file_with site_tables name entries;
      is = ap (λ n. then_read (in_file (line_fault n) answer) next) (sym named)
          ∙ ap (λ r. then_read r next) told;
      lines = c.in_ok-push.ensures.items ∙ ap (λ rs. c.args.rows.now.items ++ rs ∷ []) c.in_ok-lines_in_force.ensures.rows;
      warned = c.in_ok-push_entries.ensures
          ∙ ap (λ n. c.args.warnings.now ++ flat_map (entry_warnings site_tables.netgroups site_tables.hosts n) c.as_slice.result.now) again
          ∙ ap (λ es. c.args.warnings.now ++ flat_map (entry_warnings site_tables.netgroups site_tables.hosts name) es) c.as_slice.ensures;
      ascending = file_ascends site_tables.netgroups site_tables.hosts entries (subst R c.in_ok-entries.ensures.kept c.site_entries-entries.ensures.ascending);
    }

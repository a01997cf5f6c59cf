use Rattle.std.proofs.Common.{◌≡◌, ◌∙◌, List, Ok, Result, Some, ap, IfOk, get_or, subst, sym, ℕ}
use Rattle.desk_text.specs.declared.reading.LineFault.{LineFault}
use Rattle.desk_text.specs.declared.reading.ReadError.{ReadError}
use Rattle.desk_exports.specs.Files.{FileAscends}
use Rattle.desk_exports.specs.declared.entry.Entry.{Entry}
use Rattle.desk_exports.specs.declared.rules.Rule.{Rule}
use Rattle.desk_tables.specs.declared.filesystems.Mount.{Mount}
use Rattle.desk_policy.specs.Parsing.{entries_in, ExportsFile, file_with, in_file, read_text, then_read}
use Rattle.desk_policy.specs.Policy.{AreAscending}
use Rattle.desk_policy.specs.Replacing.{HasLines}
use Rattle.desk_policy.specs.SiteFault.{exports_name, line_fault}
use Rattle.desk_policy.specs.SiteFile.{exports_file_name}
use Rattle.desk_policy.specs.declared.site.ExportsText.{ExportsText}
use Rattle.desk_policy.specs.declared.site_fault.SiteFault.{SiteFault}
use Rattle.desk_policy.proofs.FilesRead.{file_ascends}
use Rattle.desk_policy.proofs.SlotLemmas.{slot_there}
use Rattle.desk_policy.proofs.parsing.read_lines.Goals as goal

same_mount : (found mount : Mount) → Some found ≡ Some mount → found ≡ mount
same_mount found mount e = cc

pub returns : goal.returns
returns c = λ mount here.
    let site_tables = c.args.site_tables.now in
    let table = c.args.filesystems.now in
    let at = c.index-as_slice-fs.result in
    let place = c.index-as_slice-fs.is ∙ ap (λ (ms : List Mount). get_or ms c.args.fs.0 at) c.as_slice.ensures in
    let same : at ≡ mount = same_mount at mount (sym (slot_there table c.args.fs.0 at c.requires.fs place) ∙ here) in
    let name : List ℕ = exports_name mount.path in
    let entries : List Entry = c.in_ok-entries.entries in
    let text : ExportsText = record { profile = c.args.profile; body = c.args.text.now } in
    let answer : Result (List Entry) (LineFault Rule) = entries_in text table site_tables c.args.fs in
    let next : List Entry → Result ExportsFile SiteFault = λ es. Ok (file_with site_tables name es) in
    let named = c.as_str.ensures.value ∙ c.in_ok-name.ensures ∙ ap exports_file_name c.text.ensures.printed ∙ ap (λ (m : Mount). exports_name m.path) same in
    let told = c.in_ok-entries.ensures.read answer c.file_entries-entries.ensures.read in
    let R : Result (List Entry) (ReadError (LineFault Rule)) → Type 0 = λ r. IfOk r FileAscends in
    let read : read_text text table site_tables c.args.fs.0 mount.path ≡ Ok (file_with site_tables name entries) =
    ap (λ n. then_read (in_file (line_fault n) answer) next) (sym named) ∙ ap (λ r. then_read r next) told in
    let ascending = file_ascends site_tables.netgroups site_tables.hosts entries (subst R c.in_ok-entries.ensures.kept c.file_entries-entries.ensures.ascending) in
    subst (λ (r : Result ExportsFile SiteFault). HasLines r c.in_ok-lines_in_force.field-0) (sym read)
    (c.in_ok-lines_in_force.ensures.rows, subst AreAscending (sym c.in_ok-lines_in_force.ensures.rows) ascending)

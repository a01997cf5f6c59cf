-- What is kept is what is said of lines that are not warned of, and the rest is added.
use Rattle.std.proofs.Common.{◌≡◌, ◌∙◌, ◌++◌, ℕ, Bool, List, [], ap, filter, subst, sym}
use Rattle.std.specs.BTreeSet.{BTreeSet}
use Rattle.std.specs.List.{AllZip, flat_map}
use Rattle.std.proofs.lemmas.List.Elements.{filter-append}
use Rattle.desk_tables.specs.FileSystems.{fs_of}
use Rattle.desk_tables.specs.declared.filesystems.Mount.{Mount}
use Rattle.desk_policy.specs.Policy.{Content}
use Rattle.desk_policy.specs.declared.row.Row.{Row}
use Rattle.desk_policy.specs.declared.warning.Warning.{Warning}
use Rattle.desk_remarks.specs.EntryRemarks.{entry_remarks}
use Rattle.desk_remarks.specs.PrivateUnwarnedLines.{HasLines, is_outside}
use Rattle.desk_remarks.specs.Remarks.{AreRemarksOf, idle_remarks, remarks_by_line, server_remarks}
use Rattle.desk_remarks.specs.SaidOfSystems.{IsSaidIn}
use Rattle.desk_remarks.specs.UnwarnedLines.{is_unwarned}
use Rattle.desk_remarks.specs.declared.remark.LineRemark.{LineRemark}
use Rattle.desk_remarks.specs.declared.said_of_systems.Said.{Said}
use Rattle.desk_remarks.proofs.Kept.{by_line_kept, filter_each, outside_is_unwarned}
use Rattle.desk_remarks.proofs.remarks.remarks_in_force.Goals as goal

kept : (opinions : Bool) (content : Content) (warnings : List Warning) (warned : BTreeSet ℕ) (saids : List Said) (mounts : List Mount) (files : List (List Row)) (ones twos : List Said) (old first second third : List LineRemark)
    → HasLines warnings warned → mounts ≡ content.table → files ≡ content.rows → ones ≡ saids → twos ≡ saids → old ≡ []
    → AllZip (λ (mount : Mount) (said : Said). IsSaidIn content (fs_of content.table mount.path) said) mounts saids
    → first ≡ old ++ flat_map (λ (said : Said). filter (is_outside warned) (idle_remarks said)) ones
    → second ≡ first ++ flat_map (λ (rows : List Row). flat_map (λ (row : Row). filter (is_outside warned) (entry_remarks opinions row.entry)) rows) files
    → third ≡ second ++ flat_map server_remarks twos
    → AreRemarksOf opinions content warnings third
kept opinions content warnings warned saids mounts files ones twos old first second third has table rows same alike none said idle lines server =
    let p = is_outside warned in
    let others = remarks_by_line opinions content.rows in
    let told = flat_map idle_remarks saids in
    let idle_kept : first ≡ filter p told = idle ∙ ap (λ l. l ++ flat_map (λ (one : Said). filter p (idle_remarks one)) ones) none ∙ filter_each p idle_remarks ones ∙ ap (λ (l : List Said). filter p (flat_map idle_remarks l)) same in
    let lines_kept : second ≡ first ++ filter p others = lines ∙ ap (λ l. first ++ l) (by_line_kept p opinions files ∙ ap (λ (l : List (List Row)). filter p (remarks_by_line opinions l)) rows) in
    record {
      saids = saids;
      are_said = subst (λ (ms : List Mount). AllZip (λ (mount : Mount) (one : Said). IsSaidIn content (fs_of content.table mount.path) one) ms saids) table said;
      are = server ∙ ap (λ l. l ++ flat_map server_remarks twos)
          (lines_kept ∙ ap (λ l. l ++ filter p others) idle_kept ∙ sym (filter-append p told others) ∙ outside_is_unwarned warnings warned has (told ++ others))
          ∙ ap (λ (l : List Said). filter (is_unwarned warnings) (told ++ others) ++ flat_map server_remarks l) alike;
    }

pub returns : goal.returns
returns c =
    kept c.args.opinions c.args.index.now c.args.warnings.now c.in_ok-warned.warned c.in_ok-saids.saids c.as_slice.result.now c.rows_by_filesystem.result.now c.as_slice-2.result.now c.as_slice-3.result.now
    c.new-found.result c.push_idle.new.found c.push_files.new.found c.push_server.new.found c.in_ok-warned.ensures
    (c.as_slice.ensures ∙ c.filesystems.ensures ∙ ap (λ (content : Content). content.table) c.policy-policy.ensures)
    (c.rows_by_filesystem.ensures.rows ∙ ap (λ (content : Content). content.rows) c.policy-policy.ensures)
    c.as_slice-2.ensures c.as_slice-3.ensures c.new-found.ensures c.in_ok-saids.ensures c.in_ok-push_idle.ensures c.in_ok-push_files.ensures c.in_ok-push_server.ensures

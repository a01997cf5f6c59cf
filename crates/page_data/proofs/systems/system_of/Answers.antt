use Rattle.std.proofs.Common.{◌∙◌, List, ap, map, subst, sym}
use Rattle.desk_policy.specs.declared.row.Row.{Row}
use Rattle.desk_impact.specs.Sections.{Section, section_value}
use Rattle.page_data.specs.Classes.{AreClassesIn, class_run}
use Rattle.page_data.specs.Grants.{AreGrants}
use Rattle.page_data.specs.PrivateGrants.{counts_of, pieces_of}
use Rattle.page_data.specs.PrivateSystems.{IsOwnOf}
use Rattle.desk_policy.specs.Policy.{rows_of}
use Rattle.desk_who.specs.declared.runs.Run.{Run}
use Rattle.page_data.specs.declared.class.Class.{Class}
use Rattle.page_data.proofs.Granted.{are_grants}
use Rattle.page_data.proofs.systems.system_of.Goals as goal

pub returns : goal.returns
returns c = λ all own.
    let content = c.args.policy.now in
    let fs = c.args.fs.0 in
    let grants = c.in_ok-grants.grants.items in
    let counted = c.in_ok-grants.ensures ∙ ap (λ (rows : List Row). counts_of rows (pieces_of (map section_value c.as_slice-2.result.now))) c.rows.ensures
    ∙ ap (λ (sections : List Section). counts_of (rows_of content fs) (pieces_of (map section_value sections))) c.as_slice-2.ensures ∙ ap (λ some. counts_of (rows_of content fs) (pieces_of some)) own.are in
    record {
      sections = own.are;
      classes = subst (λ (runs : List (Run Class)). AreClassesIn content fs (map class_run runs)) (sym c.from_vec.ensures) (c.in_ok-classes.ensures all (subst (λ (sections : List Section). IsOwnOf content fs all (map section_value sections)) (sym c.as_slice.ensures) own));
      grants = subst (AreGrants content fs) (sym c.from_vec-2.ensures) (are_grants c.places_tell_scope.ensures content all own.are_all fs grants counted);
    }

use Rattle.std.proofs.Common.{◌≡◌, ◌++◌, ◌∙◌, false, List, ap, map, rules, sym, true}
use Rattle.desk_who.specs.Runs.{run_value}
use Rattle.desk_who.specs.declared.runs.Run.{Run as KeptRun}
use Rattle.desk_impact.specs.Sections.{section_value}
use Rattle.page_data.specs.Opening as openings
use Rattle.page_data.specs.Opening.{opening_section}
use Rattle.page_data.specs.declared.opening.Opening.{Opening}
use Rattle.page_places.specs.Openings.{opening_value}
use Rattle.page_places.specs.ListedOpenings.{is_among, opened_by}
use Rattle.page_places.proofs.Opened.{added_if, none_added}
use Rattle.page_places.proofs.listed_openings.push_if_among.Goals as goal

pub returns-in_ok-push_opened : goal.returns-in_ok-push_opened
returns-in_ok-push_opened c =
    let places = map section_value c.args.places.now in
    let section = opening_section c.args.section.now in
    let all = c.args.all.now.items in
    let is : c.is_among.result ≡ true = search rules in
    added_if opening_value all c.push_opened.new.all.items (map (opened_by section.place) section.ranges) (is_among places section.place) (sym c.is_among.ensures ∙ is)
    (c.in_ok-push_opened.ensures
    ∙ ap (λ (ranges : List (KeptRun Opening)). map opening_value all ++ map (opened_by section.place) (map (run_value openings.opening_value) ranges)) c.as_slice.ensures)

pub returns-else-is_among : goal.returns-else-is_among
returns-else-is_among c =
    let places = map section_value c.args.places.now in
    let section = opening_section c.args.section.now in
    let out : c.is_among.result ≡ false = search rules in
    none_added opening_value c.args.all.now.items (map (opened_by section.place) section.ranges) (is_among places section.place) (sym c.is_among.ensures ∙ out)

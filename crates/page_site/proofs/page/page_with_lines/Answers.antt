use Rattle.std.proofs.Common.{◌++◌, ◌∙◌, ap, append_assoc, map, refl, subst}
use Rattle.std.specs.String.{string_bytes}
use Rattle.page_findings.specs.Lines.{line_value}
use Rattle.page_data.specs.Systems.{system_value}
use Rattle.page_site.specs.Given.{site_source}
use Rattle.page_site.specs.Page.{IsFront}
use Rattle.page_site.specs.PrivatePage.{found_by}
use Rattle.page_site.proofs.page.page_with_lines.Goals as goal

pub returns : goal.returns
returns g c =
    let in_force = g.V.PolicyView.in_force in
    let site = c.args.site.now in
    let word = c.args.database.now in
    let beside = c.args.found.now in
    let lines = map line_value c.args.lines.now in
    let begun = string_bytes c.in_ok-page.page in
    let front =
    subst (λ given. IsFront (in_force site.view.now) site.heads.now site.proposals.now (found_by (map system_value given) beside lines) word begun)
    c.as_slice.ensures.value c.in_ok-page.ensures in
    let each = c.in_ok-push_each_of.ensures in
    let back = c.in_ok-push_lists_of.ensures in
    record {
      source = site_source in_force site;
      heads_are = refl;
      proposals_are = refl;
      is_source = c.requires.given.is;
      sound = c.requires.given.sound;
      found = found_by (map system_value c.args.systems.items) beside lines;
      is_found = record {
        systems = c.requires.systems;
        reasons = c.requires.found.reasons;
        decided = c.requires.found.decided;
        lines = c.requires.lines;
        maps = c.requires.found.maps;
      };
      widening = c.requires.found.widening;
      is = record {
        first = begun;
        second = each.text ++ back.text;
        is_first = front;
        is_second = record { first = each.text; second = back.text; is_first = each.is; is_second = back.is; text_is = refl };
        text_is = back.added ∙ ap (λ t. t ++ back.text) each.added ∙ append_assoc begun each.text back.text;
      };
    }

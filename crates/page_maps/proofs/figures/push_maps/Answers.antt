use Rattle.std.proofs.Common.{◌≡◌, ◌++◌, ◌∙◌, List, ap, drop, map, subst, sym, take}
use Rattle.std.specs.Prelude.{All}
use Rattle.std.specs.String.{string_bytes}
use Rattle.std.proofs.lemmas.List.{drop_min, take_min}
use Rattle.std.proofs.lemmas.List.Elements.{All-take}
use Rattle.desk_text.specs.Network.{Block}
use Rattle.page_data.specs.Classes.{class_run}
use Rattle.page_maps.specs.Maps.{IsWide}
use Rattle.page_maps.specs.DrawnMaps.{AreDrawnFrom}
use Rattle.page_maps.specs.Figures.{each_figure, not_drawn}
use Rattle.page_html.proofs.Gaining.{four_pieces}
use Rattle.page_html.specs.Blocks.{tag_html}
use Rattle.page_html.specs.declared.blocks.Tag.TheVariants.{MapsEnd, MapsStart}
use Rattle.page_maps.proofs.figures.push_maps.Goals as goal

pub push_figures-requires-clause-wide : goal.push_figures-requires-clause-wide
push_figures-requires-clause-wide c = subst (All IsWide) (sym c.split_at.ensures.front) (All-take IsWide _ c.args.networks.now c.requires.wide)

pub returns : goal.returns
unfolding each_figure
returns c =
    let all = c.args.networks.now in
    let most = c.args.most in
    let gained = c.in_ok-push_figures.ensures in
    let shown : c.split_at.result.0.now ≡ take most all = c.split_at.ensures.front ∙ ap (λ n. take n all) c.min.ensures ∙ take_min most all in
    let rest : c.split_at.result.1.now ≡ drop most all = c.split_at.ensures.back ∙ ap (λ n. drop n all) c.min.ensures ∙ drop_min most all in
    let s3 = string_bytes c.push_tag-2.new.page in
    record {
      drawn = gained.drawn;
      are = subst (λ (some : List Block). AreDrawnFrom (map class_run c.args.runs.now) some gained.drawn) shown gained.are;
      text = four_pieces (string_bytes c.args.page.now) (string_bytes c.push_tag.new.page) (string_bytes c.push_figures.new.page) s3 (string_bytes c.push_not_drawn.new.page)
          (tag_html MapsStart) (each_figure gained.drawn) (tag_html MapsEnd) (not_drawn (drop most all))
          c.in_ok-push_tag.ensures gained.text c.in_ok-push_tag-2.ensures (c.in_ok-push_not_drawn.ensures ∙ ap (λ some. s3 ++ not_drawn some) rest);
    }

use Rattle.std.proofs.Common.{◌++◌, ◌∙◌, ap, filter, subst, sym}
use Rattle.std.specs.Prelude.{All, not}
use Rattle.std.proofs.lemmas.List.{take_all}
use Rattle.page_maps.specs.Maps.{IsWide, fixed_maps, is_listed}
use Rattle.page_maps.proofs.Shown.{wide_with_fixed}
use Rattle.page_maps.proofs.maps.with_fixed_maps.Goals as goal

pub returns-clause-wide : goal.returns-clause-wide
returns-clause-wide c =
    subst (All IsWide)
    (sym (c.loop-map.invariant.are ∙ ap (λ xs. fixed_maps ++ filter (λ network. not (is_listed fixed_maps network)) xs) (take_all c.loop-map.map-index c.args.maps.now c.loop-map-test.false)))
    (wide_with_fixed c.args.maps.now c.requires)

use Rattle.std.proofs.Common.{◌∙◌, ap, sym}
use Rattle.std.specs.Prelude.{not}
use Rattle.std.specs.List.{position_or_len}
use Rattle.page_maps.proofs.Ends.{found_at, found_nowhere}
use Rattle.page_maps.proofs.paths.length_from.Goals as goal

pub returns-in-Some-clause-length : goal.returns-in-Some-clause-length
returns-in-Some-clause-length c =
    found_at not c.split_at.result.1.now c.in-Some.end (sym c.end_of.ensures ∙ c.in-Some.is) ∙ ap (λ rest. position_or_len not rest) c.split_at.ensures.back

pub returns-in-None-clause-length : goal.returns-in-None-clause-length
returns-in-None-clause-length c =
    found_nowhere not c.split_at.result.1.now (sym c.end_of.ensures ∙ c.in-None.is) ∙ ap (λ rest. position_or_len not rest) c.split_at.ensures.back

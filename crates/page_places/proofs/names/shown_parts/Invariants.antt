-- The parts of the title so far.
use Rattle.std.proofs.Common.{◌≡◌, map, take}
use Rattle.page_html.specs.Parts.{item_of}
use Rattle.page_html.specs.Titles.{title_of}
use Rattle.page_places.specs.Names.{shown}
use Rattle.page_places.proofs.names.shown_parts.Given as goal

abbrev pub invariant-loop-one : goal.invariant-loop-one
invariant-loop-one l = map item_of l.parts.items ≡ map (λ one. shown (title_of one)) (take l.one-index l.title)

-- The parts so far were added.
use Rattle.std.proofs.Common.{◌≡◌, ◌++◌, map, take}
use Rattle.std.specs.List.{flat_map}
use Rattle.std.specs.String.{string_bytes}
use Rattle.page_html.specs.Titles.{caption_html, title_of}
use Rattle.page_html.proofs.titles.push_captions.Given as goal

abbrev pub invariant-loop-part : goal.invariant-loop-part
invariant-loop-part l = string_bytes l.page ≡ string_bytes l.initial.page ++ flat_map caption_html (map title_of (take l.part-index l.title))

-- The names so far were added.
use Rattle.std.proofs.Common.{◌≡◌, ◌++◌, take}
use Rattle.std.specs.List.{flat_map}
use Rattle.page_html.specs.Titles.{titles_of}
use Rattle.page_places.specs.Names.{later, paths_in}
use Rattle.page_places.proofs.names.push_later_names.Given as goal

abbrev pub invariant-loop-path : goal.invariant-loop-path
invariant-loop-path l = titles_of l.title.items ≡ titles_of l.initial.title.items ++ flat_map later (paths_in (take l.path-index l.paths))

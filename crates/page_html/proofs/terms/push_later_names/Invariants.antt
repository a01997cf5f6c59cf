-- The names so far were added.
use Rattle.std.proofs.Common.{◌≡◌, ◌++◌, codes, take}
use Rattle.std.specs.List.{flat_map}
use Rattle.std.specs.String.{string_bytes}
use Rattle.desk_exports.specs.Flavours.{flavour_word}
use Rattle.page_html.proofs.terms.push_later_names.Given as goal

abbrev pub invariant-loop-flavour : goal.invariant-loop-flavour
invariant-loop-flavour l =
    string_bytes l.page ≡ string_bytes l.initial.page ++ flat_map (λ flavour. codes ":" ++ flavour_word flavour) (take l.flavour-index l.flavours)

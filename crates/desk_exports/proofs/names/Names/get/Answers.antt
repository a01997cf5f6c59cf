use Rattle.std.proofs.Common.{arith, length, ap, sym, ◌≡◌, ◌∙◌}
use Rattle.std.specs.String.{string_bytes}
use Rattle.desk_exports.specs.PrivateNames.{names_in, pieces_of}
use Rattle.desk_exports.proofs.NamePieces.{piece_count}
use Rattle.desk_exports.proofs.names.Names.get.Goals as goal

pub get-requires-clause-within : goal.get-requires-clause-within
get-requires-clause-within c =
    let names = c.deref.result.now in
    let is : c.deref.result.now ≡ c.in-Many.names.value = c.deref.ensures in
    let view : names_in c.self.inside.values ≡ c.args.self.now = c.self.view_is in
    let many : length (names_in c.self.inside.values) ≡ length names.ends.items =
    ap (λ v. length (names_in v)) c.in-Many.is ∙ ap (λ j. length (pieces_of j)) (sym is) ∙ piece_count 0 (string_bytes names.text) names.ends.items in
    omega (arith, c.requires, ap length view, many)

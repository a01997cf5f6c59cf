use Rattle.std.proofs.Common.{◌≡◌, ◌∙◌, ◌<◌, ◌-◌, ◌∷◌, get_or, take, drop, ap, sym, subst, arith}
use Rattle.std.specs.String.{string_bytes}
use Rattle.std.specs.Str.{IsCharBoundary}
use Rattle.std.proofs.lemmas.List.{get_or_default}
use Rattle.desk_exports.proofs.NamePieces.{begin_boundary, boundary_at, ordered_at, piece_at}
use Rattle.desk_exports.proofs.names.Joined.get.Goals as goal

pub range-requires-clause-start_le_end : goal.range-requires-clause-start_le_end
range-requires-clause-start_le_end c =
    let names = c.args.self.now in
    let ends = names.ends.items in
    let begin : c.begin_of-start.result ≡ get_or (0 ∷ ends) c.args.index 0 = c.begin_of-start.ensures ∙ ap (λ xs. get_or (0 ∷ xs) c.args.index 0) c.as_slice.ensures.value in
    let end : c.index.result.now ≡ get_or ends c.args.index 0 = c.index.ensures ∙ get_or_default ends c.args.index _ 0 c.requires.within in
    omega (arith, begin, end, ordered_at 0 (string_bytes names.text) ends c.args.index c.requires.within c.requires.cut)

pub range-requires-clause-start_boundary : goal.range-requires-clause-start_boundary
range-requires-clause-start_boundary c =
    let names = c.args.self.now in
    let ends = names.ends.items in
    let begin : c.begin_of-start.result ≡ get_or (0 ∷ ends) c.args.index 0 = c.begin_of-start.ensures ∙ ap (λ xs. get_or (0 ∷ xs) c.args.index 0) c.as_slice.ensures.value in
    subst (λ text. 0 < c.begin_of-start.result → IsCharBoundary text c.begin_of-start.result) (sym c.as_str.ensures.value)
    (subst (λ k. 0 < k → IsCharBoundary (string_bytes names.text) k) (sym begin) (begin_boundary (string_bytes names.text) ends c.args.index c.requires.within c.requires.cut))

pub range-requires-clause-end_boundary : goal.range-requires-clause-end_boundary
range-requires-clause-end_boundary c =
    let names = c.args.self.now in
    let ends = names.ends.items in
    let end : c.index.result.now ≡ get_or ends c.args.index 0 = c.index.ensures ∙ get_or_default ends c.args.index _ 0 c.requires.within in
    subst (λ text. IsCharBoundary text c.index.result.now) (sym c.as_str.ensures.value)
    (subst (λ k. IsCharBoundary (string_bytes names.text) k) (sym end) (boundary_at 0 (string_bytes names.text) ends c.args.index c.requires.within c.requires.cut))

pub returns : goal.returns
returns c =
    let names = c.args.self.now in
    let ends = names.ends.items in
    let begin : c.begin_of-start.result ≡ get_or (0 ∷ ends) c.args.index 0 = c.begin_of-start.ensures ∙ ap (λ xs. get_or (0 ∷ xs) c.args.index 0) c.as_slice.ensures.value in
    let end : c.index.result.now ≡ get_or ends c.args.index 0 = c.index.ensures ∙ get_or_default ends c.args.index _ 0 c.requires.within in
    c.range.ensures.value
    ∙ ap (λ text. take (c.index.result.now - c.begin_of-start.result) (drop c.begin_of-start.result text)) c.as_str.ensures.value
    ∙ ap (λ k. take (k - c.begin_of-start.result) (drop c.begin_of-start.result (string_bytes names.text))) end
    ∙ ap (λ k. take (get_or ends c.args.index 0 - k) (drop k (string_bytes names.text))) begin
    ∙ piece_at 0 (string_bytes names.text) ends c.args.index c.requires.within

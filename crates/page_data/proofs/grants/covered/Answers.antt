use Rattle.std.proofs.Common.{◌≡◌, ◌+◌, ◌-◌, ◌<◌, ◌^◌, ◌∙◌, List, ap, arith, get_or, map, max}
use Rattle.std.proofs.lemmas.List.{take_all}
use Rattle.desk_text.specs.Address.{number_of}
use Rattle.page_data.specs.PrivateGrants.{covered, piece_value}
use Rattle.page_data.specs.declared.grants.Piece.{Piece}
use Rattle.page_data.proofs.Covered.{swept_none, sweeps_to}
use Rattle.page_data.proofs.grants.covered.Goals as goal

pub loop-piece-init : goal.loop-piece-init
loop-piece-init c = swept_none

pub loop-piece-preserved : goal.loop-piece-preserved
loop-piece-preserved c =
    let pieces = c.args.pieces.now in
    let i = c.loop-piece.piece-index in
    let d : Piece = record { line = 0; first = record { number = 0 }; last = record { number = 0 } } in
    let piece = get_or pieces i d in
    let behind = c.loop-piece.behind in
    let fits : number_of piece.last < 2 ^ 32 = omega (arith, c.number-in-loop-piece.ensures, c.number-in-loop-piece.type_inv) in
    let high : c.max-behind.result ≡ max behind (number_of piece.last + 1) = omega (arith, c.max-behind.ensures, c.from-in-loop-piece.ensures, c.number-in-loop-piece.ensures) in
    let more : c.saturating_sub-count.result ≡ max behind (number_of piece.last + 1) - max behind (number_of piece.first) =
    omega (arith, high, c.saturating_sub-count.ensures, c.max-first.ensures, c.from.ensures, c.number.ensures) in
    sweeps_to pieces c.requires i d c.loop-piece-test.true fits c.loop-piece.count behind c.max-behind.result c.saturating_sub-count.result high more c.loop-piece.invariant

pub returns : goal.returns
returns c = c.loop-piece.invariant.counted ∙ ap (λ (some : List Piece). covered (map piece_value some)) (take_all c.loop-piece.piece-index c.args.pieces.now c.loop-piece-test.false)

use Rattle.std.proofs.Common.{◌≡◌, ◌+◌, ◌++◌, ◌∙◌, ℕ, Bool, [], ◌∷◌, ap, arith, map, sym}
use Rattle.std.specs.List.{range_with_len}
use Rattle.std.proofs.lemmas.List.FromFn.{map-range_with_len_more}
use Rattle.page_maps.specs.Paths.{is_whole, row_of, whole_rows}
use Rattle.page_maps.proofs.paths.whole_rows.Goals as goal

pub loop-y-preserved : goal.loop-y-preserved
loop-y-preserved c =
    let tell : ℕ → Bool = λ y. is_whole (row_of c.args.which.now y) in
    let at_place : 0 + c.loop-y.y ≡ c.loop-y.y = omega arith in
    record {
      few = (let less = c.loop-y-test.true in omega arith);
      told =
          c.in_ok-push.ensures.items
          ∙ ap (λ row. c.loop-y.wholes.items ++ row ∷ []) (c.is_whole.ensures ∙ ap is_whole c.row_of.ensures.row)
          ∙ ap (λ rows. rows ++ tell c.loop-y.y ∷ []) c.loop-y.invariant.told
          ∙ sym (map-range_with_len_more tell 0 c.loop-y.y c.loop-y.y at_place);
    }

pub returns : goal.returns
unfolding whole_rows
returns c =
    let few = c.loop-y.invariant.few in
    let past = c.loop-y-test.false in
    let all : c.loop-y.y ≡ 16 = omega arith in
    c.loop-y.invariant.told ∙ ap (λ n. map (λ y. is_whole (row_of c.args.which.now y)) (range_with_len 0 n)) all

-- Networks have one order.
use Rattle.std.proofs.Common.{◌≡◌, List, arith, inl, inr}
use Rattle.std.specs.Prelude.{Contains}
use Rattle.std.specs.List.{AllPairs}
use Rattle.desk_text.specs.Network.{Block}
use Rattle.page_data.proofs.OneOrder as lists
use Rattle.page_maps.specs.Order.{AreOrdered, ComesBefore}

-- of two networks only one comes before the other
not_both : (network other : Block) → ComesBefore network other → ComesBefore other network → ⊥
not_both network other before behind =
    elim before [
      | inl less ↦ elim behind [
        | inl more ↦ omega arith
        | inr more ↦ (let l = more.0 in omega arith)
      ]
      | inr less ↦
          let p = less.0 in
          let l = less.1 in
          elim behind [
            | inl more ↦ omega arith
            | inr more ↦ (let m = more.1 in omega arith)
          ]
    ]

-- networks in order are told by which they are
pub one_order : (xs ys : List Block) → AllPairs ComesBefore xs → AllPairs ComesBefore ys → ((z : Block) → Contains xs z → Contains ys z) → ((z : Block) → Contains ys z → Contains xs z)
    → xs ≡ ys
one_order = lists.one_order ComesBefore not_both

-- the same networks have one order
pub ordered_in_one_way : (networks ordered other : List Block) → AreOrdered networks ordered → AreOrdered networks other → ordered ≡ other
ordered_in_one_way networks ordered other are its =
    one_order ordered other are.order its.order (λ network has. (its.same network).1 ((are.same network).0 has)) (λ network has. (are.same network).1 ((its.same network).0 has))

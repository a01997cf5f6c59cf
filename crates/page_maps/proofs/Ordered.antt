-- Networks in order, each once, by their numbers.
use Rattle.std.proofs.Common.{◌≡◌, ℕ, zero, suc, ◌+◌, ◌<◌, ◌≤◌, ◌∙◌, Bool, eqb, List, [], ◌∷◌, ap, arith, get_or, inl, inr, length, subst, sym}
use Rattle.std.specs.Prelude.{All, Contains}
use Rattle.std.specs.List.{AllPairs, dedup, dedup_from}
use Rattle.std.specs.List.Sorted.{IsNonDecreasingBy, IsPermutation}
use Rattle.std.proofs.lemmas.Bool.{cases_Bool, cases_lt, cases_order, cond-false, cond-true, eqb-false, eqb-true}
use Rattle.std.proofs.lemmas.List.Elements.{All-contains, All-head, All-tail, Contains-get_or}
use Rattle.std.proofs.lemmas.List.Kept.{Contains-from_dedup}
use Rattle.std.proofs.lemmas.List.Sorted.{Contains-permutation, IsPermutation-sym}
use Rattle.desk_text.specs.Network.{Block, IsBlock}
use Rattle.page_maps.specs.Order.{AreOrdered, ComesBefore}
use Rattle.page_maps.specs.PrivateOrder.{order_of}
use Rattle.page_data.proofs.Containing.{here, here_or_there, there}

abbrev pub same : Block → Block → Bool
same network other = eqb (order_of network) (order_of other)

-- networks of one number are the same
same_networks : (network other : Block) → IsBlock network → IsBlock other → order_of network ≡ order_of other → network ≡ other
same_networks network other is is' number =
    let low = is.first in
    let low' = is'.first in
    let prefix : network.prefix ≡ other.prefix = omega arith in
    let first : network.first ≡ other.first = omega arith in
    ap (λ n. record { first = n; prefix = network.prefix }) first ∙ ap (λ n. record { first = other.first; prefix = n }) prefix

comes_before : (network other : Block) → IsBlock network → IsBlock other → order_of network < order_of other → ComesBefore network other
comes_before network other is is' number =
    let low = is.first in
    let low' = is'.first in
    elim (cases_order network.prefix other.prefix) as (λ _. ComesBefore network other) [
      | inl equal ↦ inr (equal, omega arith)
      | inr apart ↦ elim apart as (λ _. ComesBefore network other) [
        | inl less ↦ inl less
        | inr more ↦ absurd (omega arith)
      ]
    ]

-- numbers rise from that of a network on
abbrev Rise : Block → List Block → Type 0
Rise network [] = Unit {0}
Rise network (next ∷ networks) = (order_of network ≤ order_of next) × Rise next networks

rise : (network : Block) (networks : List Block) → IsNonDecreasingBy order_of (network ∷ networks) → Rise network networks
rise network [] up = tt
rise network (next ∷ networks) up = (up 0 1 network (omega arith) (omega arith), rise next networks (λ i j d le within. up (suc i) (suc j) d (omega arith) (omega arith)))

rise_from : (network next : Block) (networks : List Block) → order_of network ≤ order_of next → Rise next networks → Rise network networks
rise_from network next [] le up = tt
rise_from network next (more ∷ networks) le up = (let h = up.0 in omega arith, up.1)

-- each number is above the one before, and the first one at least a number
abbrev Above : ℕ → List Block → Type 0
Above n [] = Unit {0}
Above n (network ∷ networks) = (n ≤ order_of network) × Above (order_of network + 1) networks

above : (n : ℕ) (network : Block) (networks : List Block) → n ≤ order_of network → Rise network networks → Above n (dedup_from same network networks)
above n network [] le up = (le, tt)
above n network (next ∷ networks) le up =
    elim (cases_Bool (same next network)) as (λ _. Above n (dedup_from same network (next ∷ networks))) [
      | inl e ↦
          let equal = eqb-true (order_of next) (order_of network) e in
          subst (Above n) (sym (cond-true (same next network) (dedup_from same network networks) (network ∷ dedup_from same next networks) e))
          (above n network networks le (rise_from network next networks up.0 up.1))
      | inr e ↦
          let less : order_of network + 1 ≤ order_of next = (let h = up.0 in let apart = eqb-false (order_of next) (order_of network) e in by_apart network next h apart) in
          subst (Above n) (sym (cond-false (same next network) (dedup_from same network networks) (network ∷ dedup_from same next networks) e))
          (le, above (order_of network + 1) next networks less up.1)
    ]
  where
    by_apart : (network next : Block) → order_of network ≤ order_of next → (order_of next ≡ order_of network → ⊥) → order_of network + 1 ≤ order_of next
    by_apart network next le apart =
        elim (cases_lt (order_of network) (order_of next)) as (λ _. order_of network + 1 ≤ order_of next) [
          | inl less ↦ omega arith
          | inr le' ↦ absurd (apart (omega arith))
        ]

above_all : (networks : List Block) → IsNonDecreasingBy order_of networks → Above 0 (dedup same networks)
above_all [] up = tt
above_all (network ∷ networks) up = above 0 network networks (omega arith) (rise network networks up)

at_least : (n : ℕ) (networks : List Block) → Above n networks → (j : ℕ) (d : Block) → j < length networks → n ≤ order_of (get_or networks j d)
at_least n [] up j d within = absurd (omega arith)
at_least n (network ∷ networks) up zero d within = up.0
at_least n (network ∷ networks) up (suc j) d within = (let h = up.0 in let rest = at_least (order_of network + 1) networks up.1 j d (omega arith) in omega arith)

pairs : (n : ℕ) (networks : List Block) → Above n networks → AllPairs (λ network later. order_of network < order_of later) networks
pairs n [] up i j d less within = absurd (omega arith)
pairs n (network ∷ networks) up i zero d less within = absurd (omega arith)
pairs n (network ∷ networks) up zero (suc j) d less within = (let rest = at_least (order_of network + 1) networks up.1 j d (omega arith) in omega arith)
pairs n (network ∷ networks) up (suc i) (suc j) d less within = pairs (order_of network + 1) networks up.1 i j d (omega arith) (omega arith)

-- what is left has each network
kept : (network : Block) (networks : List Block) → All IsBlock (network ∷ networks) → (one : Block) → Contains (network ∷ networks) one → Contains (dedup_from same network networks) one
kept network [] are one has = has
kept network (next ∷ networks) are one has =
    elim (cases_Bool (same next network)) as (λ _. Contains (dedup_from same network (next ∷ networks)) one) [
      | inl e ↦
          let equal = same_networks next network (All-head IsBlock next networks (All-tail IsBlock network (next ∷ networks) are)) (All-head IsBlock network (next ∷ networks) are) (eqb-true (order_of next) (order_of network) e) in
          subst (λ xs. Contains xs one) (sym (cond-true (same next network) (dedup_from same network networks) (network ∷ dedup_from same next networks) e))
          (kept network networks (fewer network next networks are) one
          (elim (here_or_there network one (next ∷ networks) has) as (λ _. Contains (network ∷ networks) one) [
            | inl is ↦ here network one networks is
            | inr later ↦ elim (here_or_there next one networks later) as (λ _. Contains (network ∷ networks) one) [
              | inl is ↦ here network one networks (sym equal ∙ is)
              | inr rest ↦ there network one networks rest
            ]
          ]))
      | inr e ↦
          subst (λ xs. Contains xs one) (sym (cond-false (same next network) (dedup_from same network networks) (network ∷ dedup_from same next networks) e))
          (elim (here_or_there network one (next ∷ networks) has) as (λ _. Contains (network ∷ dedup_from same next networks) one) [
            | inl is ↦ here network one (dedup_from same next networks) is
            | inr later ↦ there network one (dedup_from same next networks) (kept next networks (All-tail IsBlock network (next ∷ networks) are) one later)
          ])
    ]
  where
    fewer : (one two : Block) (rest : List Block) → All IsBlock (one ∷ two ∷ rest) → All IsBlock (one ∷ rest)
    fewer one two rest all zero d within = all 0 d (omega arith)
    fewer one two rest all (suc k) d within = all (suc (suc k)) d (omega arith)

kept_all : (networks : List Block) → All IsBlock networks → (one : Block) → Contains networks one → Contains (dedup same networks) one
kept_all [] are one has = has
kept_all (network ∷ networks) are one has = kept network networks are one has

pub are_ordered : (networks sorted : List Block) → All IsBlock networks → IsPermutation networks sorted → IsNonDecreasingBy order_of sorted → AreOrdered networks (dedup same sorted)
are_ordered networks sorted are moved up =
    let back = IsPermutation-sym networks sorted moved in
    let in_sorted : All IsBlock sorted = λ k d within. All-contains IsBlock networks (get_or sorted k d) are (Contains-permutation sorted networks (get_or sorted k d) back (Contains-get_or sorted k d within)) in
    let in_left : (one : Block) → Contains (dedup same sorted) one → IsBlock one = λ one has. All-contains IsBlock sorted one in_sorted (Contains-from_dedup same sorted one has) in
    record {
      order = λ i j d less within.
          let up_there = pairs 0 (dedup same sorted) (above_all sorted up) i j d less within in
          comes_before (get_or (dedup same sorted) i d) (get_or (dedup same sorted) j d)
          (in_left (get_or (dedup same sorted) i d) (Contains-get_or (dedup same sorted) i d (omega arith)))
          (in_left (get_or (dedup same sorted) j d) (Contains-get_or (dedup same sorted) j d within)) up_there;
      same = λ one. (
        λ has. Contains-permutation sorted networks one back (Contains-from_dedup same sorted one has),
        λ has. kept_all sorted in_sorted one (Contains-permutation networks sorted one moved has),
      );
    }

-- what holds of networks holds of them in order
pub all_ordered : (P : Block → Type 0) (networks ordered : List Block) → AreOrdered networks ordered → All P networks → All P ordered
all_ordered P networks ordered are all k d within =
    All-contains P networks (get_or ordered k d) all ((are.same (get_or ordered k d)).0 (Contains-get_or ordered k d within))

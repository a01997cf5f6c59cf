-- The lines that write a directory stand together among the writings in byte order.
use Rattle.std.proofs.Common.{◌≡◌, ℕ, ◌+◌, ◌-◌, ◌<◌, ◌≤◌, Bool, true, false, List, [], ◌∷◌, ap, arith, drop, get_or, inl, inr, length, map, nat_cmp, refl, subst, sym, take, ◌∙◌}
use Rattle.std.specs.Cmp.Lexicographic.{slice_cmp}
use Rattle.std.specs.List.{All, Contains}
use Rattle.std.specs.List.Sorted.{IsPartitionPoint, IsPartitionedBy, IsPermutation}
use Rattle.std.specs.Ordering.{is_le, is_lt, ordering_index}
use Rattle.std.specs.declared.cmp.Ordering.{Ordering}
use Rattle.std.specs.declared.cmp.Ordering.TheVariants.{Less, Equal, Greater}
use Rattle.std.proofs.lemmas.Bool.{cases_lt, true≢false}
use Rattle.std.proofs.lemmas.Cmp.{nat_list_cmp_total, tied_itself}
use Rattle.std.proofs.lemmas.List.{get_or-drop, get_or-map, get_or-take, get_or_default, length-drop, length-map, length-take}
use Rattle.std.proofs.lemmas.List.Elements.{All-contains_itself, All-map}
use Rattle.std.proofs.lemmas.List.Sorted.{Contains-permutation, searchable_from_sorted}
use Rattle.desk_text.specs.Path.{path_text}
use Rattle.desk_impact.specs.Writings.{AreInByteOrder, Written, writing_value}
use Rattle.desk_impact.specs.PrivateWritings.{HasWriters}
use Rattle.desk_impact.specs.declared.writings.Writing.{Writing}
use Rattle.desk_impact.proofs.Same.{Path, contains_map}

-- sorted writings are the same
pub sorted_all : (given sorted : List Writing) (all : List Written) → IsPermutation given sorted → map writing_value given ≡ all → All (Contains (map writing_value sorted)) all
sorted_all given sorted all moved are =
    subst (All (Contains (map writing_value sorted))) are
    (All-map (Contains (map writing_value sorted)) writing_value given (λ k d inside. contains_map writing_value sorted _ (Contains-permutation given sorted _ moved (All-contains_itself given k d inside))))

-- ---- the writing that stands for one
record StandsFor (writings : List Writing) (one : Written) : Type 0 where
  pub lent : Writing
  pub place : ℕ
  pub within : place < length writings
  pub there : get_or writings place lent ≡ lent
  pub is : writing_value lent ≡ one

stands_for : (writings : List Writing) (one : Written) → Contains (map writing_value writings) one → StandsFor writings one
stands_for [] one at = absurd (let l = at.1 in omega arith)
stands_for (first ∷ writings) one at =
    let all = first ∷ writings in
    let within : at.0 < length all = (let l = at.1 in omega (arith, length-map all writing_value)) in
    record {
      lent = get_or all at.0 first;
      place = at.0;
      within = within;
      there = get_or_default all at.0 (get_or all at.0 first) first within;
      is = sym (get_or-map writing_value all at.0 first one within) ∙ at.2;
    }

le_rank : (o : Ordering) → is_le o ≡ true → ordering_index o ≤ 1
le_rank Less is = omega arith
le_rank Equal is = omega arith
le_rank Greater is = absurd (true≢false (sym is))

rank_le : (o : Ordering) → ordering_index o ≤ 1 → is_le o ≡ true
rank_le Less le = refl
rank_le Equal le = refl
rank_le Greater le = absurd (omega arith)

lt_rank : (o : Ordering) → is_lt o ≡ true → ordering_index o < 1
lt_rank Less is = omega arith
lt_rank Equal is = absurd (true≢false (sym is))
lt_rank Greater is = absurd (true≢false (sym is))

rank_lt : (o : Ordering) → ordering_index o < 1 → is_lt o ≡ true
rank_lt Less less = refl
rank_lt Equal less = absurd (omega arith)
rank_lt Greater less = absurd (omega arith)

abbrev compared : Path → Writing → Ordering
compared dir writing = slice_cmp nat_cmp (path_text writing.dir.now) (path_text dir)

-- the directory does not come before that of a writing; it comes behind it
abbrev pub up_to : Path → Writing → Bool
up_to dir writing = is_le (compared dir writing)

abbrev pub comes_before : Path → Writing → Bool
comes_before dir writing = is_lt (compared dir writing)

module _ (writings : List Writing) (order : AreInByteOrder writings) (dir : Path) where
  ranks : (i j : ℕ) (d : Writing) → i ≤ j → j < length writings → ordering_index (compared dir (get_or writings i d)) ≤ ordering_index (compared dir (get_or writings j d))
  ranks = searchable_from_sorted nat_list_cmp_total (λ (w : Writing). path_text w.dir.now) writings (path_text dir) order

  pub up_to_parted : IsPartitionedBy (up_to dir) writings
  up_to_parted i j d le within here = rank_le (compared dir (get_or writings i d)) (let r = ranks i j d le within in let l = le_rank (compared dir (get_or writings j d)) here in omega arith)

  module _ (end : ℕ) where
    taken_at : (i : ℕ) (d : Writing) → i < length (take end writings) → get_or (take end writings) i d ≡ get_or writings i d
    taken_at i d within = get_or-take end writings i d (omega (arith, length-take end writings))

    pub before_parted : IsPartitionedBy (comes_before dir) (take end writings)
    before_parted i j d le within here =
        let r = ranks i j d le (omega (arith, length-take end writings)) in
        let a = ap (λ w. ordering_index (compared dir w)) (taken_at i d (omega arith)) in
        let b = ap (λ w. ordering_index (compared dir w)) (taken_at j d within) in
        let l = lt_rank (compared dir (get_or (take end writings) j d)) here in
        rank_lt (compared dir (get_or (take end writings) i d)) (omega arith)

    pub have_writers : (begin : ℕ) → end ≤ length writings → begin ≤ length (take end writings)
        → IsPartitionPoint (λ w. up_to dir w ≡ true) (λ w. up_to dir w ≡ false) writings end
        → IsPartitionPoint (λ w. comes_before dir w ≡ true) (λ w. comes_before dir w ≡ false) (take end writings) begin
        → (slice : List Writing) → slice ≡ take (end - begin) (drop begin writings) → HasWriters writings dir (map (λ w. w.row.now) slice)
    have_writers begin le le' upper lower slice is one listed own =
        let stands = stands_for writings one listed in
        let k = stands.place in
        let lent = stands.lent in
        let here : lent.dir.now ≡ dir = ap (λ (w : Written). w.dir) stands.is ∙ own in
        let tied : compared dir lent ≡ Equal = ap (λ p. slice_cmp nat_cmp (path_text p) (path_text dir)) here ∙ tied_itself nat_list_cmp_total (path_text dir) in
        let below : k < end = elim (cases_lt k end) [
          | inl less ↦ less
          | inr ge ↦ absurd (true≢false (sym (ap is_le tied) ∙ ap (up_to dir) (sym stands.there) ∙ upper.1 k lent ge stands.within))
        ] in
        let few = length-take end writings in
        let above : begin ≤ k = elim (cases_lt k begin) [
          | inl less ↦ absurd (true≢false (sym (ap (comes_before dir) (sym (taken_at k lent (omega arith) ∙ stands.there)) ∙ lower.0 k lent (omega arith) less) ∙ ap is_lt tied))
          | inr ge ↦ ge
        ] in
        let there : get_or slice (k - begin) lent ≡ lent =
        ap (λ ws. get_or ws (k - begin) lent) is ∙ get_or-take (end - begin) (drop begin writings) (k - begin) lent (omega arith)
        ∙ get_or-drop begin writings (k - begin) lent ∙ ap (λ n. get_or writings n lent) (let e : begin + (k - begin) ≡ k = omega arith in e) ∙ stands.there in
        let count : length slice ≡ end - begin = ap length is ∙ (let a = length-take (end - begin) (drop begin writings) in let b = length-drop begin writings in omega arith) in
        subst (Contains (map (λ (w : Writing). w.row.now) slice)) (ap (λ (w : Written). w.row) stands.is)
        (contains_map (λ (w : Writing). w.row.now) slice lent (k - begin, omega arith, there))

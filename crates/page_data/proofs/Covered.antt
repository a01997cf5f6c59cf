-- How many addresses ranges have together that ascend by their first addresses: of each those behind all earlier ones are new.
use Rattle.std.proofs.Common.{◌≡◌, ℕ, zero, suc, ◌+◌, ◌-◌, ◌<◌, ◌≤◌, ◌^◌, ◌++◌, ◌||◌, ◌∙◌, Bool, true, false, cond, List, [], ◌∷◌, ap, arith, get_or, inl, inr, length, map, max, min, refl, subst, sym, take}
use Rattle.std.specs.List.{AllByRecursion, count_by, list_any, range_with_len}
use Rattle.std.proofs.lemmas.Bool.{and_from, and_parts, cases_Bool, cases_lt, false_from_ne_true, le-leb, leb-true, or_left, or_right, true≢false}
use Rattle.std.proofs.lemmas.List.{get_or-map, get_or-take, get_or_default, length-map, length-take, map-append, map-id, take-map}
use Rattle.std.proofs.lemmas.List.Elements.{recursion_from_All}
use Rattle.std.proofs.lemmas.List.Folds.{list_any-append}
use Rattle.std.proofs.lemmas.List.FromFn.{map-range_with_len_more}
use Rattle.std.proofs.lemmas.List.Sums.{sum_by_push}
use Rattle.page_data.specs.Counts.{count_within}
use Rattle.desk_text.specs.Address.{number_of}
use Rattle.page_data.specs.PrivateGrants.{Ascend, PieceValue, covered, has, piece_value}
use Rattle.page_data.specs.declared.grants.Piece.{Piece}
use Rattle.page_data.proofs.Gathered.{take_next}

abbrev covers_at : List PieceValue → ℕ → Bool
covers_at pieces address = list_any (has address) pieces

-- pieces that begin at an address or before it
abbrev BeginBy : ℕ → List PieceValue → Type 0
BeginBy address pieces = AllByRecursion (λ piece. piece.first ≤ address) pieces

-- what is known of the pieces so far
pub record Swept (pieces : List PieceValue) (count behind : ℕ) : Type 0 where
  pub counted : count ≡ covered pieces
  pub beyond : (address : ℕ) → behind ≤ address → covers_at pieces address ≡ false
  pub within : (first : ℕ) → BeginBy first pieces → (address : ℕ) → first ≤ address → address < behind → covers_at pieces address ≡ true
  pub few : count ≤ behind
  pub fits : behind ≤ 2 ^ 32

-- ---- addresses between two, that did not pass yet
module _ (test more : ℕ → Bool) (low high : ℕ) (new : (address : ℕ) → low ≤ address → address < high → (test address ≡ false) × (more address ≡ true))
    (old : (address : ℕ) → (low ≤ address → address < high → ⊥) → more address ≡ test address) where
  range_more : (n : ℕ) → range_with_len 0 (n + 1) ≡ range_with_len 0 n ++ n ∷ []
  range_more n = sym (map-id (range_with_len 0 (n + 1))) ∙ map-range_with_len_more (λ (x : ℕ). x) 0 n n (omega arith) ∙ ap (λ xs. xs ++ n ∷ []) (map-id (range_with_len 0 n))

  one_more : (tested : ℕ → Bool) (n : ℕ) → count_by tested (range_with_len 0 (n + 1)) ≡ count_by tested (range_with_len 0 n) + cond (tested n) 1 0
  one_more tested n = ap (count_by tested) (range_more n) ∙ sum_by_push (λ x. cond (tested x) 1 0) (range_with_len 0 n) n

  pub counts_more : (n : ℕ) → count_by more (range_with_len 0 n) ≡ count_by test (range_with_len 0 n) + (min high n - low)
  counts_more zero = omega arith
  counts_more (suc n) =
      let e : suc n ≡ n + 1 = omega arith in
      let rest = counts_more n in
      let left = ap (λ m. count_by more (range_with_len 0 m)) e ∙ one_more more n in
      let right = ap (λ m. count_by test (range_with_len 0 m)) e ∙ one_more test n in
      elim (cases_lt n low) as (λ _. count_by more (range_with_len 0 (suc n)) ≡ count_by test (range_with_len 0 (suc n)) + (min high (suc n) - low)) [
        | inl less ↦ (let same : cond {A = ℕ} (more n) 1 0 ≡ cond {A = ℕ} (test n) 1 0 = ap (λ b. cond {A = ℕ} b 1 0) (old n (λ le lt. omega arith)) in omega arith)
        | inr le ↦ elim (cases_lt n high) as (λ _. count_by more (range_with_len 0 (suc n)) ≡ count_by test (range_with_len 0 (suc n)) + (min high (suc n) - low)) [
          | inl lt ↦ (let is : cond {A = ℕ} (more n) 1 0 ≡ 1 = ap (λ b. cond {A = ℕ} b 1 0) (new n le lt).1 in let not : cond {A = ℕ} (test n) 1 0 ≡ 0 = ap (λ b. cond {A = ℕ} b 1 0) (new n le lt).0 in omega arith)
          | inr over ↦ (let same : cond {A = ℕ} (more n) 1 0 ≡ cond {A = ℕ} (test n) 1 0 = ap (λ b. cond {A = ℕ} b 1 0) (old n (λ le' lt'. omega arith)) in omega arith)
        ]
      ]

  -- a count up to any last address is not computed
  pub within_more : (last : ℕ) → high ≤ last + 1 → count_within more 0 last ≡ count_within test 0 last + (high - low)
  unfolding count_within
  within_more last le = (let more_is = counts_more (last + 1 - 0) in omega arith)

-- ---- one more piece
has_at : (piece : PieceValue) (address : ℕ) → piece.first ≤ address → address ≤ piece.last → has address piece ≡ true
has_at piece address low high = and_from _ _ (le-leb piece.first address low) (le-leb address piece.last high)

has_only : (piece : PieceValue) (address : ℕ) → has address piece ≡ true → (piece.first ≤ address) × (address ≤ piece.last)
has_only piece address is = (let p = and_parts _ _ is in (leb-true piece.first address p.0, leb-true address piece.last p.1))

covers_more : (pieces : List PieceValue) (piece : PieceValue) (address : ℕ) → covers_at (pieces ++ piece ∷ []) address ≡ (covers_at pieces address || (has address piece || false))
covers_more pieces piece address = list_any-append (has address) pieces (piece ∷ [])

covers_old : (pieces : List PieceValue) (piece : PieceValue) (address : ℕ) → covers_at pieces address ≡ true → covers_at (pieces ++ piece ∷ []) address ≡ true
covers_old pieces piece address is = covers_more pieces piece address ∙ or_left (covers_at pieces address) (has address piece || false) is

covers_new : (pieces : List PieceValue) (piece : PieceValue) (address : ℕ) → has address piece ≡ true → covers_at (pieces ++ piece ∷ []) address ≡ true
covers_new pieces piece address is = covers_more pieces piece address ∙ or_right (covers_at pieces address) (has address piece || false) (or_left (has address piece) false is)

covers_none : (pieces : List PieceValue) (piece : PieceValue) (address : ℕ) → (has address piece ≡ true → ⊥) → covers_at (pieces ++ piece ∷ []) address ≡ covers_at pieces address
covers_none pieces piece address not =
    covers_more pieces piece address ∙ ap (λ b. covers_at pieces address || (b || false)) (false_from_ne_true (has address piece) not) ∙ or_false (covers_at pieces address)
  where
    or_false : (b : Bool) → (b || (false || false)) ≡ b
    or_false true = refl
    or_false false = refl

begin_old : (address : ℕ) (pieces : List PieceValue) (piece : PieceValue) → BeginBy address (pieces ++ piece ∷ []) → BeginBy address pieces × (piece.first ≤ address)
begin_old address [] piece all = (tt, all.0)
begin_old address (one ∷ pieces) piece all = (let rest = begin_old address pieces piece all.1 in ((all.0, rest.0), rest.1))

module _ (pieces : List PieceValue) (count behind : ℕ) (swept : Swept pieces count behind) (piece : PieceValue) (later : BeginBy piece.first pieces) (small : piece.last < 2 ^ 32) where
  abbrev low : ℕ
  low = max behind piece.first

  abbrev high : ℕ
  high = max behind (piece.last + 1)

  new_there : (address : ℕ) → low ≤ address → address < high → (covers_at pieces address ≡ false) × (covers_at (pieces ++ piece ∷ []) address ≡ true)
  new_there address le lt = (swept.beyond address (omega arith), covers_new pieces piece address (has_at piece address (omega arith) (omega arith)))

  old_there : (address : ℕ) → (low ≤ address → address < high → ⊥) → covers_at (pieces ++ piece ∷ []) address ≡ covers_at pieces address
  old_there address out =
      elim (cases_Bool (has address piece)) as (λ _. covers_at (pieces ++ piece ∷ []) address ≡ covers_at pieces address) [
        | inl is ↦
            let own = has_only piece address is in
            let below : address < behind = elim (cases_lt address behind) as (λ _. address < behind) [ inl lt ↦ lt | inr le ↦ absurd (out (omega arith) (omega arith)) ] in
            covers_new pieces piece address is ∙ sym (swept.within piece.first later address own.0 below)
        | inr not ↦ covers_none pieces piece address (λ is. true≢false (sym is ∙ not))
      ]

  pub sweeps : Swept (pieces ++ piece ∷ []) (count + (high - low)) high
  sweeps = record {
    counted = (let c = swept.counted in let more = within_more (covers_at pieces) (covers_at (pieces ++ piece ∷ [])) low high new_there old_there (2 ^ 32 - 1) (let f = swept.fits in omega arith) in omega arith);
    beyond = λ address le.
        covers_none pieces piece address (λ is. let own = has_only piece address is in omega arith) ∙ swept.beyond address (omega arith);
    within = λ first all address le lt.
        let both = begin_old first pieces piece all in
        elim (cases_lt address behind) as (λ _. covers_at (pieces ++ piece ∷ []) address ≡ true) [
          | inl less ↦ covers_old pieces piece address (swept.within first both.0 address le less)
          | inr over ↦ covers_new pieces piece address (has_at piece address (let b = both.1 in omega arith) (omega arith))
        ];
    few = (let f = swept.few in omega arith);
    fits = (let f = swept.fits in omega arith);
  }

-- nothing yet
none_pass : (last : ℕ) → count_within (λ address. false) 0 last ≡ 0
unfolding count_within
none_pass last = counted (range_with_len 0 (last + 1 - 0))
  where
    counted : (xs : List ℕ) → count_by (λ address. false) xs ≡ 0
    counted [] = refl
    counted (x ∷ xs) = counted xs

pub swept_none : Swept [] 0 0
swept_none = record {
  counted = sym (none_pass (2 ^ 32 - 1));
  beyond = λ address le. refl;
  within = λ first all address le lt. absurd (omega arith);
  few = omega arith;
  fits = omega arith;
}

-- ---- pieces as they are kept
begin_by : (pieces : List PieceValue) → Ascend pieces → (i : ℕ) (piece : PieceValue) → i < length pieces → piece ≡ get_or pieces i piece → BeginBy piece.first (take i pieces)
begin_by pieces ascend i piece below is =
    recursion_from_All (λ (one : PieceValue). one.first ≤ piece.first) (take i pieces)
    (λ k d within.
    let few = length-take i pieces in
    let less : k < i = omega arith in
    let up = ascend k i d less below in
    omega (arith, ap (λ (p : PieceValue). p.first) (get_or-take i pieces k d less), ap (λ (p : PieceValue). p.first) (is ∙ get_or_default pieces i piece d below)))

-- the pieces so far with one more
pub sweeps_kept : (pieces : List Piece) → Ascend (map piece_value pieces) → (i : ℕ) (piece : Piece) → i < length pieces → piece ≡ get_or pieces i piece → number_of piece.last < 2 ^ 32 → (count behind : ℕ)
    → Swept (map piece_value (take i pieces)) count behind
    → Swept (map piece_value (take (i + 1) pieces)) (count + (max behind (number_of piece.last + 1) - max behind (number_of piece.first))) (max behind (number_of piece.last + 1))
sweeps_kept pieces ascend i piece below is fits count behind swept =
    let few = length-map pieces piece_value in
    let there : piece_value piece ≡ get_or (map piece_value pieces) i (piece_value piece) = ap piece_value is ∙ sym (get_or-map piece_value pieces i piece (piece_value piece) below) in
    let later = subst (BeginBy (number_of piece.first)) (take-map piece_value i pieces) (begin_by (map piece_value pieces) ascend i (piece_value piece) (omega arith) there) in
    subst (λ done. Swept done (count + (max behind (number_of piece.last + 1) - max behind (number_of piece.first))) (max behind (number_of piece.last + 1)))
    (sym (ap (map piece_value) (take_next pieces i piece below is) ∙ map-append piece_value (take i pieces) (piece ∷ [])))
    (sweeps (map piece_value (take i pieces)) count behind swept (piece_value piece) later fits)

pub sweeps_to : (pieces : List Piece) → Ascend (map piece_value pieces) → (i : ℕ) (d : Piece) → i < length pieces → number_of (get_or pieces i d).last < 2 ^ 32 → (count behind high more : ℕ)
    → high ≡ max behind (number_of (get_or pieces i d).last + 1) → more ≡ max behind (number_of (get_or pieces i d).last + 1) - max behind (number_of (get_or pieces i d).first)
    → Swept (map piece_value (take i pieces)) count behind → Swept (map piece_value (take (i + 1) pieces)) (count + more) high
sweeps_to pieces ascend i d below fits count behind high more e e' swept =
    subst (λ h. Swept (map piece_value (take (i + 1) pieces)) (count + more) h) (sym e)
    (subst (λ m. Swept (map piece_value (take (i + 1) pieces)) (count + m) (max behind (number_of (get_or pieces i d).last + 1))) (sym e')
    (sweeps_kept pieces ascend i (get_or pieces i d) below (get_or_default pieces i d (get_or pieces i d) below) fits count behind swept))

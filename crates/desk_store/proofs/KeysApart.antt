-- Keys that rise differ, and they do so in any order; and keys in ascending order that do not rise do not.
use Rattle.std.proofs.Common.{◌≡◌, ◌≢◌, ◌∙◌, ℕ, zero, suc, ℤ, ◌+◌, ◌-◌, ◌<◌, ◌<ℤ◌, Bool, true, false, List, [], ◌∷◌, pos, IsTrue, IsPermutation, get_or, length, map, sym, ap, subst, refl, arith}
use Rattle.std.specs.List.{AllAdjacentBelow, AllByRecursion, AllPairs, IsAllAdjacentAnswer}
use Rattle.std.specs.List.Sorted.{IsSorted}
use Rattle.std.specs.Cmp.{int_chain, int_ranks}
use Rattle.std.specs.Int.Signed.{<ℤ_irrefl}
use Rattle.std.specs.Ordering.{MatchOrdering, int_cmp, int_eq, is_lt}
use Rattle.std.specs.declared.cmp.Ordering.{Ordering}
use Rattle.std.specs.declared.cmp.Ordering.TheVariants.{Less, Equal, Greater}
use Rattle.std.proofs.lemmas.Bool.Decides.{Decides-int_eq, same_from_decides}
use Rattle.std.proofs.lemmas.List.{get_or-map, length-map}
use Rattle.std.proofs.lemmas.List.Elements.{recursion_from_All}
use Rattle.std.proofs.lemmas.List.Sorted.{All-permutation, IsPermutation-map, IsPermutation-sym}
use Rattle.std.proofs.lemmas.Map.Keys.{IsDistinct-IsPermutation}
use Rattle.std.proofs.lemmas.Map.Made.{AllPairs-from_IsDistinct, IsDistinct-from_AllPairs}
use Rattle.sqlite.specs.Order.{Row, column}
use Rattle.sqlite.specs.declared.types.Value.{Value}
use Rattle.sqlite.specs.declared.types.Value.TheVariants.{Null, Int, Real, Text as Words, Blob as Bytes}
use Rattle.sqlite_trees.specs.View.{is_int}
use Rattle.desk_store.specs.Keys.{AreKeysIf, is_below}
use Rattle.desk_store.specs.Tables.{AreKeys}

abbrev pub AreApart : List ℤ → Type 0
AreApart keys = AllPairs (λ key later. key ≢ later) keys

by_rank : (r : Ordering) (P Q R : Type 0) → is_lt r ≡ true → MatchOrdering r P Q R → P
by_rank Less P Q R is h = h
by_rank Equal P Q R is h = absurd (cc)
by_rank Greater P Q R is h = absurd (cc)

below_of : (a b : ℤ) → true ≡ is_below a b → a <ℤ b
below_of a b is = by_rank (int_cmp a b) (a <ℤ b) (a ≡ b) (b <ℤ a) (sym is) (int_ranks a b)

-- keys each of which is below the next
module _ (keys : List ℤ) (rises : AllAdjacentBelow (λ key next. true ≡ is_below key next) keys (length keys)) where
  later_below : (i n : ℕ) (d : ℤ) → i + 1 + n < length keys → get_or keys i d <ℤ get_or keys (i + 1 + n) d
  later_below i zero d below =
      let next : i + 1 ≡ i + 1 + 0 = omega arith in
      subst (λ k. get_or keys i d <ℤ get_or keys k d) next (below_of (get_or keys i d) (get_or keys (i + 1) d) (rises i d (omega (arith, below))))
  later_below i (suc n) d below =
      let next : i + 1 + n + 1 ≡ i + 1 + suc n = omega arith in
      subst (λ k. get_or keys i d <ℤ get_or keys k d) next
      (int_chain (get_or keys i d) (get_or keys (i + 1 + n) d) (get_or keys (i + 1 + n + 1) d) (later_below i n d (omega (arith, below)))
      (below_of (get_or keys (i + 1 + n) d) (get_or keys (i + 1 + n + 1) d) (rises (i + 1 + n) d (omega (arith, below)))))

  rising_apart : AreApart keys
  rising_apart i j d less below equal =
      let at : i + 1 + (j - (i + 1)) ≡ j = omega (arith, less) in
      let up : get_or keys i d <ℤ get_or keys j d = subst (λ k. get_or keys i d <ℤ get_or keys k d) at (later_below i (j - (i + 1)) d (omega (arith, below, at))) in
      <ℤ_irrefl (subst (λ x. x <ℤ get_or keys j d) equal up)

neither : (r s : Ordering) (a b : ℤ) → MatchOrdering r (a <ℤ b) (a ≡ b) (b <ℤ a) → MatchOrdering s (b <ℤ a) (b ≡ a) (a <ℤ b) → is_lt r ≡ false → is_lt s ≡ false → a ≡ b
neither Less s a b one other not_less not_more = absurd (cc)
neither Equal s a b one other not_less not_more = one
neither Greater Less a b one other not_less not_more = absurd (cc)
neither Greater Equal a b one other not_less not_more = sym other
neither Greater Greater a b one other not_less not_more = absurd (<ℤ_irrefl (int_chain a b a other one))

flips : (a b : ℤ) → int_eq a b ≡ int_eq b a
flips a b = same_from_decides (int_eq a b) (int_eq b a) (Decides-int_eq a b) (λ same. sym ((Decides-int_eq b a).0 same), λ e. (Decides-int_eq b a).1 (sym e))

-- keys that are apart are apart in any order
apart_too : (keys sorted : List ℤ) → IsPermutation keys sorted → AreApart sorted → AreApart keys
apart_too keys sorted same apart =
    AllPairs-from_IsDistinct Decides-int_eq keys (IsDistinct-IsPermutation int_eq flips sorted keys (IsPermutation-sym keys sorted same) (IsDistinct-from_AllPairs Decides-int_eq sorted apart))

int_injective : {a b : ℤ} → Int a ≡ Int b → a ≡ b
int_injective e = cc

-- rows that say keys
module _ (rows : List Row) (keys : List ℤ) (say : map (λ r. column r 0) rows ≡ map Int keys) where
  long : length rows ≡ length keys
  long = sym (length-map rows (λ r. column r 0)) ∙ ap length say ∙ length-map keys Int

  said_at : (k : ℕ) (d : Row) (e : ℤ) → k < length rows → column (get_or rows k d) 0 ≡ Int (get_or keys k e)
  said_at k d e below =
      sym (get_or-map (λ r. column r 0) rows k d (Int (pos 0)) below) ∙ ap (λ vs. get_or vs k (Int (pos 0))) say ∙ get_or-map Int keys k e (Int (pos 0)) (omega (arith, below, long))

  -- if these are apart, they are keys
  pub are_keys : (sorted : List ℤ) → IsPermutation keys sorted → AreApart sorted → AreKeys rows
  are_keys sorted same apart =
      let all = apart_too keys sorted same apart in
      record {
        whole = λ k d below. subst (λ v. IsTrue (is_int v)) (sym (said_at k d (pos 0) below)) refl;
        apart = λ i j d less below equal.
            all i j (pos 0) less (omega (arith, below, long)) (int_injective (sym (said_at i d (pos 0) (omega (arith, less, below))) ∙ equal ∙ said_at j d (pos 0) below));
      }

  said_apart : AreKeys rows → AreApart keys
  said_apart are i j d less below equal =
      are.apart i j [] less (omega (arith, below, long)) (said_at i [] d (omega (arith, less, below, long)) ∙ ap Int equal ∙ sym (said_at j [] d (omega (arith, below, long))))

  -- if in ascending order one is not below the next, they are not
  not_keys : (sorted : List ℤ) → IsPermutation keys sorted → IsSorted int_cmp sorted → ((k : ℕ) × (k + 1 < length sorted) × ((d : ℤ) → false ≡ is_below (get_or sorted k d) (get_or sorted (k + 1) d))) → AreKeys rows → ⊥
  not_keys sorted same up (k, within, falls) are =
      let apart = apart_too sorted keys (IsPermutation-sym keys sorted same) (said_apart are) in
      let a : ℤ = get_or sorted k (pos 0) in
      let b : ℤ = get_or sorted (k + 1) (pos 0) in
      apart k (k + 1) (pos 0) (omega arith) within (neither (int_cmp a b) (int_cmp b a) a b (int_ranks a b) (int_ranks b a) (sym (falls (pos 0))) (up k (pos 0) (omega arith) within))

  -- so they are told to be rowids exactly if they are
  pub told_keys : (sorted : List ℤ) (told : Bool) → IsPermutation keys sorted → IsSorted int_cmp sorted → IsAllAdjacentAnswer (λ key next below. below ≡ is_below key next) sorted told → AreKeysIf rows told
  told_keys sorted true same up rises = (λ yes. are_keys sorted same (rising_apart sorted rises), λ are. refl)
  told_keys sorted false same up falls = (λ yes. absurd (cc), λ are. absurd (not_keys sorted same up falls are))

-- the integer that a row says, 0 if it says none
abbrev int_in : Value → ℤ
int_in (Int n) = n
int_in _ = pos 0

abbrev int_of : Row → ℤ
int_of row = int_in (column row 0)

int_is : (v : Value) → IsTrue (is_int v) → v ≡ Int (int_in v)
int_is (Int n) h = refl
int_is Null h = absurd (cc)
int_is (Real x) h = absurd (cc)
int_is (Words t) h = absurd (cc)
int_is (Bytes b) h = absurd (cc)

ints_said : (rows : List Row) → AllByRecursion (λ row. IsTrue (is_int (column row 0))) rows → map (λ r. column r 0) rows ≡ map Int (map int_of rows)
ints_said [] h = refl
ints_said (row ∷ rows) h = ap (λ v. v ∷ map (λ r. column r 0) rows) (int_is (column row 0) h.0) ∙ ap (λ vs. Int (int_of row) ∷ vs) (ints_said rows h.1)

-- rows that are keys in one order are keys in another
pub keys_before : (before rows : List Row) → IsPermutation before rows → AreKeys rows → AreKeys before
keys_before before rows same keys =
    let all : AllByRecursion (λ row. IsTrue (is_int (column row 0))) before = recursion_from_All (λ row. IsTrue (is_int (column row 0))) before (All-permutation (λ row. IsTrue (is_int (column row 0))) rows before (IsPermutation-sym before rows same) keys.whole) in
    let long : length rows ≡ length (map int_of rows) = sym (length-map rows int_of) in
    let at : (k : ℕ) (d : ℤ) → k < length rows → column (get_or rows k []) 0 ≡ Int (get_or (map int_of rows) k d) = λ k d below.
    int_is (column (get_or rows k []) 0) (keys.whole k [] below) ∙ ap Int (sym (get_or-map int_of rows k [] d below)) in
    are_keys before (map int_of before) (ints_said before all) (map int_of rows) (IsPermutation-map int_of before rows same)
    (λ i j d less below equal. keys.apart i j [] less (omega (arith, below, long)) (at i d (omega (arith, less, below, long)) ∙ ap Int equal ∙ sym (at j d (omega (arith, below, long)))))

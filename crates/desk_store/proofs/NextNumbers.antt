-- Revisions whose numbers follow one another, file by file, and the newest of them.
use Rattle.std.proofs.Common.{◌≡◌, ◌∙◌, sym, ap, subst, inl, inr, refl, All, ℕ, zero, suc, ◌+◌, ◌-◌, ◌<◌, ◌≤◌, ◌==◌, ◌++◌, Bool, true, false, cond, List, [], ◌∷◌, Some, find, map, length, get_or, take, drop, unwrap_or, arith, append-nil}
use Rattle.std.specs.Prelude.{◌≢◌, Contains, String, filter, slice_get, string_bytes}
use Rattle.std.specs.List.{range_with_len}
use Rattle.std.specs.Str.{bytes_eq}
use Rattle.std.specs.BTreeMap.{BTreeMap, is_at}
use Rattle.std.specs.Cmp.Lexicographic.{slice_cmp}
use Rattle.std.specs.Map.{lookup}
use Rattle.std.specs.Ordering.{nat_cmp}
use Rattle.std.proofs.Math.Path.{fun_ext}
use Rattle.std.proofs.lemmas.Bool.{cases_Bool, eqb-true, eq-eqb}
use Rattle.std.proofs.lemmas.List.{length-append, map-append, take_more}
use Rattle.std.proofs.lemmas.List.Elements.{filter-append}
use Rattle.std.proofs.lemmas.List.FromFn.{get_or-range_with_len}
use Rattle.std.proofs.lemmas.Slice.Eq.{bytes_eq-Decides}
use Rattle.desk_core.specs.Head.{Newest, Revision, last_revision, newest_in, newest_number}
use Rattle.desk_core.specs.History.{IsHistory, newest_of}
use Rattle.desk_core.specs.Laws.{StandingOfALongerHistory}
use Rattle.desk_core.specs.Standing.{Standing}
use Rattle.desk_core.specs.declared.entry.Entry.{Entry}
use Rattle.desk_core.specs.declared.entry.Entry.TheVariants.{Revised}
use Rattle.desk_store.specs.Desk.{IsStorable}
use Rattle.desk_store.specs.NewestRevisions.{AreNewest, number_in}
use Rattle.desk_store.proofs.Members.{default, find_none, find_only, from_filter, in_filter}
use Rattle.desk_store.proofs.Revisions.{AreNumbered, IsNumbered, history_of, newest_by, last, newest_revised, numbered_in, one_number, own, rev_at}

number_get : (xs : List Revision) (i : ℕ) → newest_number (slice_get xs i) ≡ get_or (map (λ (r : Revision). r.rev) xs) i 0
number_get [] i = refl
number_get (x ∷ xs) zero = refl
number_get (x ∷ xs) (suc i) = number_get xs i

-- the number of the newest of numbered revisions is how many there are
count_is : (xs : List Revision) → AreNumbered xs → newest_number (slice_get xs (length xs - 1)) ≡ length xs
count_is [] e = refl
count_is (x ∷ xs) e =
    let n = length (x ∷ xs) in
    let below : n - 1 < n = omega arith in
    let at = get_or-range_with_len 1 n (n - 1) 0 below in
    number_get (x ∷ xs) (n - 1) ∙ ap (λ ns. get_or ns (n - 1) 0) e ∙ at ∙ omega arith

pub newest_count : (history : List Revision) (file : List ℕ) → IsNumbered history → newest_number (newest_by history file) ≡ length (own file history)
newest_count history file h = count_is (own file history) (h file)

range_more : (a n : ℕ) → range_with_len a n ++ (a + n) ∷ [] ≡ range_with_len a (n + 1)
range_more a zero = let e : a + 0 ≡ a = omega arith in ap (λ k. k ∷ []) e
range_more a (suc n) =
    let e : suc n + 1 ≡ suc (n + 1) = omega arith in
    let f : a + suc n ≡ a + 1 + n = omega arith in
    ap (λ k. a ∷ (range_with_len (a + 1) n ++ k ∷ [])) f ∙ ap (λ ns. a ∷ ns) (range_more (a + 1) n) ∙ ap (range_with_len a) (sym e)

map_more : (xs : List Revision) (r : Revision) → map (λ (x : Revision). x.rev) (xs ++ r ∷ []) ≡ map (λ (x : Revision). x.rev) xs ++ r.rev ∷ []
map_more [] r = refl
map_more (x ∷ xs) r = ap (λ ns. x.rev ∷ ns) (map_more xs r)

numbered_more : (xs : List Revision) (r : Revision) → AreNumbered xs → r.rev ≡ length xs + 1 → AreNumbered (xs ++ r ∷ [])
numbered_more xs r h e =
    let n : length xs + 1 ≡ length (xs ++ r ∷ []) = omega (arith, length-append xs (r ∷ [])) in
    let same : r.rev ≡ 1 + length xs = omega (arith, e) in
    map_more xs r ∙ ap (λ ns. ns ++ r.rev ∷ []) h ∙ ap (λ k. range_with_len 1 (length xs) ++ k ∷ []) same ∙ range_more 1 (length xs) ∙ ap (range_with_len 1) n

-- with the next revision of a file a history stays one
pub numbers_more : (history : List Revision) (r : Revision) → IsNumbered history → r.rev ≡ newest_number (newest_by history r.file) + 1 → IsNumbered (history ++ r ∷ [])
numbers_more history r h is file = elim (cases_Bool (bytes_eq r.file file)) [
  | inl mine ↦
      let same : r.file ≡ file = (bytes_eq-Decides r.file file).0 mine in
      let count = newest_count history r.file h in
      let base : r.rev ≡ length (own r.file history) + 1 = omega (arith, is, count) in
      let next : r.rev ≡ length (own file history) + 1 = base ∙ ap (λ f. length (own f history) + 1) same in
      let more : own file (history ++ r ∷ []) ≡ own file history ++ r ∷ [] =
      filter-append (λ (x : Revision). bytes_eq x.file file) history (r ∷ []) ∙ ap (λ b. own file history ++ cond b (r ∷ []) []) mine in
      subst AreNumbered (sym more) (numbered_more (own file history) r (h file) next)
  | inr other ↦
      let same : own file (history ++ r ∷ []) ≡ own file history =
      filter-append (λ (x : Revision). bytes_eq x.file file) history (r ∷ []) ∙ ap (λ b. own file history ++ cond b (r ∷ []) []) other ∙ append-nil (own file history) in
      subst AreNumbered (sym same) (h file)
]

at_middle : (xs ys : List Revision) (r d : Revision) → get_or (xs ++ r ∷ ys) (length xs) d ≡ r
at_middle [] ys r d = refl
at_middle (x ∷ xs) ys r d = at_middle xs ys r d

-- in a history each revision is the next of its file after those before it
pub is_next : (history rest : List Revision) (r : Revision) → IsNumbered history → IsNumbered (history ++ r ∷ rest) → r.rev ≡ newest_number (newest_by history r.file) + 1
is_next history rest r h whole =
    let mine : bytes_eq r.file r.file ≡ true = (bytes_eq-Decides r.file r.file).1 refl in
    let front = own r.file history in
    let back = own r.file rest in
    let is : own r.file (history ++ r ∷ rest) ≡ front ++ r ∷ back =
    filter-append (λ (x : Revision). bytes_eq x.file r.file) history (r ∷ rest) ∙ ap (λ b. front ++ cond b (r ∷ back) back) mine in
    let numbered : AreNumbered (front ++ r ∷ back) = subst AreNumbered is (whole r.file) in
    let count : length (front ++ r ∷ back) ≡ length front + length (r ∷ back) = length-append front (r ∷ back) in
    let at = rev_at (front ++ r ∷ back) (length front) r numbered (omega (arith, count)) in
    let number : r.rev ≡ 1 + length front = ap (λ (x : Revision). x.rev) (sym (at_middle front back r r)) ∙ at in
    omega (arith, number, newest_count history r.file h)

split_at : (xs : List Revision) (i : ℕ) (d : Revision) → i < length xs → take i xs ++ get_or xs i d ∷ drop (suc i) xs ≡ xs
split_at [] i d below = absurd (omega arith)
split_at (x ∷ xs) zero d below = refl
split_at (x ∷ xs) (suc i) d below = ap (λ ys. x ∷ ys) (split_at xs i d (omega arith))

-- what is kept before any revision, after one more, and where a number is not the next one
module _ {Y : Type 0} where
  pub none_kept : (numbers : BTreeMap (String Y) ℕ) → numbers.entries ≡ [] → AreNewest numbers []
  unfolding newest_of
  none_kept numbers none file = ap (λ es. unwrap_or (lookup (is_at (λ (k : String Y). slice_cmp nat_cmp file (string_bytes k))) es) 0) none

  newest_more : (old new : BTreeMap (String Y) ℕ) (history : List Entry) (r : Revision) → StandingOfALongerHistory → AreNewest old history
      → ((file : List ℕ) → number_in new file ≡ cond (bytes_eq r.file file) r.rev (number_in old file)) → AreNewest new (history ++ Revised r ∷ [])
  newest_more old new history r law newest kept file =
      kept file ∙ step (bytes_eq r.file file) ∙ ap (λ (s : Standing). newest_number (s.newest file)) (sym (law history (Revised r)))
    where
      step : (b : Bool) → cond b r.rev (number_in old file) ≡ newest_number (cond b (Some r) (newest_of history file))
      step true = refl
      step false = newest file

  -- the number that is kept of a file is that of its newest revision
  kept_is : (numbers : BTreeMap (String Y) ℕ) (xs : List Revision) (file : List ℕ) → AreNewest numbers (map Revised xs) → number_in numbers file ≡ newest_number (newest_by xs file)
  kept_is numbers xs file newest = newest file ∙ ap (λ (n : Newest). newest_number (n file)) (newest_revised xs)

  pub kept_more : (old new : BTreeMap (String Y) ℕ) (xs : List Revision) (i : ℕ) (r : Revision) → StandingOfALongerHistory → i < length xs → r ≡ get_or xs i r
      → IsHistory (map Revised (take i xs)) × AreNewest old (map Revised (take i xs)) → r.rev ≡ number_in old r.file + 1
      → ((file : List ℕ) → number_in new file ≡ cond (bytes_eq r.file file) r.rev (number_in old file)) → IsHistory (map Revised (take (i + 1) xs)) × AreNewest new (map Revised (take (i + 1) xs))
  kept_more old new xs i r law below is h next kept =
      let front = take i xs in
      let more : take (i + 1) xs ≡ front ++ r ∷ [] = take_more xs i r below ∙ ap (λ x. front ++ x ∷ []) (sym is) in
      let number : r.rev ≡ newest_number (newest_by front r.file) + 1 = next ∙ ap (λ n. n + 1) (kept_is old front r.file h.1) in
      let newest : AreNewest new (map Revised (front ++ r ∷ [])) = subst (AreNewest new) (sym (map-append Revised front (r ∷ []))) (newest_more old new (map Revised front) r law h.1 kept) in
      let both : IsHistory (map Revised (front ++ r ∷ [])) × AreNewest new (map Revised (front ++ r ∷ [])) = (history_of (front ++ r ∷ []) (numbers_more front r (numbered_in front h.0) number), newest) in
      subst (λ ys. IsHistory (map Revised ys) × AreNewest new (map Revised ys)) (sym more) both

  pub not_next : (old : BTreeMap (String Y) ℕ) (xs : List Revision) (i : ℕ) (r : Revision) → i < length xs → r ≡ get_or xs i r
      → IsHistory (map Revised (take i xs)) × AreNewest old (map Revised (take i xs)) → r.rev ≢ number_in old r.file + 1 → IsHistory (map Revised xs) → ⊥
  not_next old xs i r below is h gap whole =
      let split : xs ≡ take i xs ++ r ∷ drop (suc i) xs = sym (split_at xs i r below) ∙ ap (λ x. take i xs ++ x ∷ drop (suc i) xs) (sym is) in
      let next = is_next (take i xs) (drop (suc i) xs) r (numbered_in (take i xs) h.0) (subst IsNumbered split (numbered_in xs whole)) in
      gap (next ∙ ap (λ n. n + 1) (sym (kept_is old (take i xs) r.file h.1)))

pub slice_at : (xs : List Revision) (k : ℕ) (d : Revision) → k < length xs → slice_get xs k ≡ Some (get_or xs k d)
slice_at [] k d below = absurd (omega arith)
slice_at (x ∷ xs) zero d below = refl
slice_at (x ∷ xs) (suc k) d below = slice_at xs k d (omega arith)

-- the number of a newest revision is one that a revision may have
low_in : (xs : List Revision) (file : List ℕ) (zs : List Revision) → own file xs ≡ zs → All IsStorable xs → newest_number (last zs) ≤ last_revision
low_in xs file [] is each = omega arith
low_in xs file (z ∷ zs) is each =
    let all : List Revision = z ∷ zs in
    let below : length all - 1 < length all = omega arith in
    let end : Revision = get_or all (length all - 1) z in
    let from = from_filter (λ (r : Revision). bytes_eq r.file file) xs end (subst (λ rs. Contains rs end) (sym is) (length all - 1, below, default all (length all - 1) end z below)) in
    let storable : IsStorable end = subst IsStorable from.0.2 (each from.0.0 end from.0.1) in
    let low : end.rev ≤ last_revision = storable.rev in
    let number : newest_number (last all) ≡ end.rev = ap newest_number (slice_at all (length all - 1) z below) in
    omega (arith, number, low)

pub low_newest : (xs : List Revision) → All IsStorable xs → (file : List ℕ) → newest_number (newest_by xs file) ≤ last_revision
low_newest xs each file = low_in xs file (own file xs) refl each

-- those that have the number of their file's newest revision are the newest revisions
module _ {Y : Type 0} (numbers : BTreeMap (String Y) ℕ) (xs : List Revision) (h : IsNumbered xs) (newest : AreNewest numbers (map Revised xs)) where
  abbrev pub chosen : Revision → Bool
  chosen r = number_in numbers r.file == r.rev

  has_number : (file : List ℕ) → number_in numbers file ≡ length (own file xs)
  has_number file = newest file ∙ ap (λ (n : Newest). newest_number (n file)) (newest_revised xs) ∙ newest_count xs file h

  last_found : (file : List ℕ) (zs : List Revision) → own file xs ≡ zs → find (λ (r : Revision). bytes_eq r.file file) (filter chosen xs) ≡ slice_get zs (length zs - 1)
  last_found file [] e = find_none (λ (r : Revision). bytes_eq r.file file) (filter chosen xs) (λ x there passes.
      let from = from_filter chosen xs x there in
      let mine : Contains [] x = subst (λ zs. Contains zs x) e (in_filter (λ (r : Revision). bytes_eq r.file file) xs x from.0 passes) in
      omega (arith, mine.1))
  last_found file (z ∷ zs) e =
      let n = length (z ∷ zs) in
      let below : n - 1 < n = omega arith in
      let r : Revision = get_or (z ∷ zs) (n - 1) z in
      let here : Contains (z ∷ zs) r = (n - 1, below, default (z ∷ zs) (n - 1) r z below) in
      let numbered : AreNumbered (z ∷ zs) = subst AreNumbered e (h file) in
      let number : r.rev ≡ 1 + (n - 1) = rev_at (z ∷ zs) (n - 1) z numbered below in
      let from = from_filter (λ (x : Revision). bytes_eq x.file file) xs r (subst (λ ws. Contains ws r) (sym e) here) in
      let count : number_in numbers file ≡ n = has_number file ∙ ap length e in
      let mine : number_in numbers r.file ≡ r.rev = ap (number_in numbers) ((bytes_eq-Decides r.file file).0 from.1) ∙ omega (arith, count, number) in
      find_only (λ (x : Revision). bytes_eq x.file file) (filter chosen xs) r (in_filter chosen xs r from.0 (eq-eqb (number_in numbers r.file) r.rev mine)) from.1
      (λ x there passes.
      let other = from_filter chosen xs x there in
      let its : number_in numbers x.file ≡ x.rev = eqb-true (number_in numbers x.file) x.rev other.1 in
      let named : number_in numbers x.file ≡ number_in numbers file = ap (number_in numbers) ((bytes_eq-Decides x.file file).0 passes) in
      one_number (z ∷ zs) x r numbered (subst (λ ws. Contains ws x) e (in_filter (λ (y : Revision). bytes_eq y.file file) xs x other.0 passes)) here (omega (arith, its, named, count, number)))
      ∙ sym (slice_at (z ∷ zs) (n - 1) z below)

  found_by : newest_in (filter chosen xs) ≡ newest_by xs
  unfolding newest_in
  found_by = fun_ext (λ file. last_found file (own file xs) refl)

  pub newest_chosen : newest_in (filter chosen xs) ≡ newest_of (map Revised xs)
  newest_chosen = found_by ∙ sym (newest_revised xs)

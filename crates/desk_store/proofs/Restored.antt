-- The histories that revisions stand for of which the older ones have lost their texts.
use Rattle.std.proofs.Common.{◌≡◌, ◌∙◌, inl, inr, sym, ap, subst, refl, ℕ, zero, suc, ◌+◌, ◌-◌, ◌<◌, Bool, true, false, cond, List, [], ◌∷◌, Option, Some, None, All, IsPermutation, filter, filter_map, get_or, length, map, option_map, arith}
use Rattle.std.specs.Prelude.{Contains, slice_get}
use Rattle.std.specs.List.{AllByRecursion, cons_option, range_with_len}
use Rattle.std.specs.Str.{bytes_eq}
use Rattle.std.proofs.Math.Path.{fun_ext}
use Rattle.std.proofs.lemmas.List.{length-map}
use Rattle.std.proofs.lemmas.List.Elements.{All-contains, All-from_recursion, recursion_from_All}
use Rattle.std.proofs.lemmas.List.Sorted.{All-permutation, Contains-permutation, IsPermutation-map, IsPermutation-sym}
use Rattle.std.proofs.lemmas.Option.{slice_get-map}
use Rattle.std.proofs.lemmas.Simd.{map-map}
use Rattle.sqlite_trees.proofs.ListLemmas.{filter-map, pull_back}
use Rattle.sqlite.specs.Order.{Row}
use Rattle.desk_core.specs.Head.{Revision}
use Rattle.desk_core.specs.History.{IsHistory, newest_of}
use Rattle.desk_core.specs.declared.entry.Entry.TheVariants.{Revised}
use Rattle.desk_store.specs.Desk.{IsStorable}
use Rattle.desk_store.specs.PrivateGatheredRevisions.{AreKept, AreOf, IsForeign, IsKept, IsOutdated}
use Rattle.desk_store.specs.History.{approval_of, row_of}
use Rattle.desk_store.specs.StoredRows.{AreNewestOf}
use Rattle.desk_store.proofs.Kept.{found_in, same_file, same_rev}
use Rattle.desk_store.proofs.Members.{default, from_filter, from_map, in_filter, in_map}
use Rattle.desk_store.proofs.OneOrder.{same_revision}
use Rattle.desk_store.proofs.Revisions.{AreNumbered, history_of, last, newest_revised, numbered_in, own, rev_at}

abbrev Pair : Type 0
Pair = Revision × Revision

-- lists of which two functions give the same, one beside the other
zipped : {A B C : Type 0} (f : A → C) (g : B → C) (xs : List A) (ys : List B) → map f xs ≡ map g ys
    → (both : List (A × B)) × (map (λ one. one.0) both ≡ xs) × (map (λ one. one.1) both ≡ ys) × AllByRecursion (λ one. f one.0 ≡ g one.1) both
zipped f g [] [] e = ([], refl, refl, tt)
zipped f g [] (y ∷ ys) e = absurd (cc)
zipped f g (x ∷ xs) [] e = absurd (cc)
zipped f g (x ∷ xs) (y ∷ ys) e =
    let here : f x ≡ g y = cc in
    let later : map f xs ≡ map g ys = cc in
    let rest = zipped f g xs ys later in
    ((x, y) ∷ rest.0, ap (λ zs. x ∷ zs) rest.1, ap (λ zs. y ∷ zs) rest.2, (here, rest.3))

-- ---- two lists of revisions, of which each two have one file, one number and one approver

module _ {T : Type 0} (h k : T → Revision) where
  pub record Alike (t : T) : Type 0 where
    pub file : (h t).file ≡ (k t).file
    pub rev : (h t).rev ≡ (k t).rev
    pub approver : (h t).approver ≡ (k t).approver

  same_approval : (t : T) → Alike t → approval_of (h t) ≡ approval_of (k t)
  same_approval t alike =
      let of : List ℕ → ℕ → Option (List ℕ) → Option Row = λ file rev approver. approval_of (record (h t) { file = file; rev = rev; approver = approver }) in
      ap (λ file. of file (h t).rev (h t).approver) alike.file ∙ ap (λ rev. of (k t).file rev (h t).approver) alike.rev ∙ ap (λ approver. of (k t).file (k t).rev approver) alike.approver

  same_approvals : (ts : List T) → AllByRecursion Alike ts → filter_map approval_of (map h ts) ≡ filter_map approval_of (map k ts)
  same_approvals [] all = refl
  same_approvals (t ∷ ts) all =
      ap (λ o. cons_option o (filter_map approval_of (map h ts))) (same_approval t all.0) ∙ ap (λ rows. cons_option (approval_of (k t)) rows) (same_approvals ts all.1)

  numbers_step : (file : List ℕ) (t : T) (ts : List T) (a b : Bool) → a ≡ b → (h t).rev ≡ (k t).rev → map (λ (r : Revision). r.rev) (own file (map h ts)) ≡ map (λ (r : Revision). r.rev) (own file (map k ts))
      → map (λ (r : Revision). r.rev) (cond a (h t ∷ own file (map h ts)) (own file (map h ts))) ≡ map (λ (r : Revision). r.rev) (cond b (k t ∷ own file (map k ts)) (own file (map k ts)))
  numbers_step file t ts true true e rev rest = ap (λ n. n ∷ map (λ (r : Revision). r.rev) (own file (map h ts))) rev ∙ ap (λ ns. (k t).rev ∷ ns) rest
  numbers_step file t ts false false e rev rest = rest
  numbers_step file t ts true false e rev rest = absurd (cc)
  numbers_step file t ts false true e rev rest = absurd (cc)

  same_numbers : (file : List ℕ) (ts : List T) → AllByRecursion Alike ts → map (λ (r : Revision). r.rev) (own file (map h ts)) ≡ map (λ (r : Revision). r.rev) (own file (map k ts))
  same_numbers file [] all = refl
  same_numbers file (t ∷ ts) all =
      numbers_step file t ts (bytes_eq (h t).file file) (bytes_eq (k t).file file) (ap (λ name. bytes_eq name file) all.0.file) all.0.rev (same_numbers file ts all.1)

  numbered_alike : (xs ys : List Revision) → map (λ (r : Revision). r.rev) xs ≡ map (λ (r : Revision). r.rev) ys → AreNumbered ys → AreNumbered xs
  numbered_alike xs ys same numbered =
      let long : length ys ≡ length xs = sym (length-map ys (λ (r : Revision). r.rev)) ∙ ap length (sym same) ∙ length-map xs (λ (r : Revision). r.rev) in
      same ∙ numbered ∙ ap (range_with_len 1) long

  same_history : (ts : List T) → AllByRecursion Alike ts → IsHistory (map Revised (map k ts)) → IsHistory (map Revised (map h ts))
  same_history ts all history = history_of (map h ts) (λ file. numbered_alike (own file (map h ts)) (own file (map k ts)) (same_numbers file ts all) (numbered_in (map k ts) history file))

  -- those of a file, in both
  own_step : (file : List ℕ) (t : T) (ts : List T) (a b : Bool) → a ≡ b → own file (map h ts) ≡ map h (filter (λ t. bytes_eq (k t).file file) ts)
      → cond a (h t ∷ own file (map h ts)) (own file (map h ts)) ≡ map h (cond b (t ∷ filter (λ t. bytes_eq (k t).file file) ts) (filter (λ t. bytes_eq (k t).file file) ts))
  own_step file t ts true true e rest = ap (λ rs. h t ∷ rs) rest
  own_step file t ts false false e rest = rest
  own_step file t ts true false e rest = absurd (cc)
  own_step file t ts false true e rest = absurd (cc)

  own_of : (file : List ℕ) (ts : List T) → AllByRecursion Alike ts → own file (map h ts) ≡ map h (filter (λ t. bytes_eq (k t).file file) ts)
  own_of file [] all = refl
  own_of file (t ∷ ts) all = own_step file t ts (bytes_eq (h t).file file) (bytes_eq (k t).file file) (ap (λ name. bytes_eq name file) all.0.file) (own_of file ts all.1)

  same_at : (o : Option T) → ((t : T) → o ≡ Some t → h t ≡ k t) → option_map h o ≡ option_map k o
  same_at None each = refl
  same_at (Some t) each = ap Some (each t refl)

  same_last : (ts : List T) → ((t : T) → slice_get ts (length ts - 1) ≡ Some t → h t ≡ k t) → last (map h ts) ≡ last (map k ts)
  same_last ts each =
      ap (λ n. slice_get (map h ts) (n - 1)) (length-map ts h) ∙ slice_get-map h ts (length ts - 1) ∙ same_at (slice_get ts (length ts - 1)) each
      ∙ sym (slice_get-map k ts (length ts - 1)) ∙ ap (λ n. slice_get (map k ts) (n - 1)) (sym (length-map ts k))

  -- they have the same newest revisions, if those that are the last of their file are the same
  same_newest : (ts : List T) → AllByRecursion Alike ts → ((file : List ℕ) (t : T) → slice_get (filter (λ t. bytes_eq (k t).file file) ts) (length (filter (λ t. bytes_eq (k t).file file) ts) - 1) ≡ Some t → h t ≡ k t)
      → newest_of (map Revised (map k ts)) ≡ newest_of (map Revised (map h ts))
  same_newest ts all each =
      newest_revised (map k ts)
      ∙ fun_ext (λ file.
      ap last (filter-map (λ (r : Revision). bytes_eq r.file file) k ts) ∙ sym (same_last (filter (λ t. bytes_eq (k t).file file) ts) (each file)) ∙ ap last (sym (own_of file ts all)))
      ∙ sym (newest_revised (map h ts))

-- ---- from what is kept of revisions to the revisions, and back

-- a revision with the approver of another
abbrev with_own : Revision → Revision → Revision
with_own r other = record r { approver = other.approver }

module _ (revisions : List Revision) (pairs : List Pair) (each : All (IsKept revisions) pairs) (from_side to_side : Pair → Revision)
    (named : (one : Pair) → IsKept revisions one → (to_side one).file ≡ (from_side one).file) (numbered : (one : Pair) → IsKept revisions one → (to_side one).rev ≡ (from_side one).rev)
    (history : List Revision) (same : IsPermutation (map (λ one. row_of (from_side one)) pairs) (map row_of history)) where
  turned : (to : List Pair) × IsPermutation pairs to × (map row_of history ≡ map (λ one. row_of (from_side one)) to)
  turned = pull_back (λ one. row_of (from_side one)) (map (λ one. row_of (from_side one)) pairs) (map row_of history) same pairs refl

  joined : (both : List (Pair × Revision)) × (map (λ one. one.0) both ≡ turned.0) × (map (λ one. one.1) both ≡ history) × AllByRecursion (λ one. row_of (from_side one.0) ≡ row_of one.1) both
  joined = zipped (λ one. row_of (from_side one)) row_of turned.0 history (sym turned.2)

  abbrev moved_one : Pair × Revision → Revision
  moved_one one = with_own (to_side one.0) one.1

  abbrev moved : List Revision
  moved = map moved_one joined.0

  kept_pairs : AllByRecursion (IsKept revisions) turned.0
  kept_pairs = recursion_from_All (IsKept revisions) turned.0 (All-permutation (IsKept revisions) pairs turned.0 turned.1 each)

  alike_one : (one : Pair × Revision) → IsKept revisions one.0 → row_of (from_side one.0) ≡ row_of one.1 → Alike moved_one (λ one. one.1) one
  alike_one one kept row =
      let file : (from_side one.0).file ≡ one.1.file = cc in
      let rev : (from_side one.0).rev ≡ one.1.rev = cc in
      record { file = named one.0 kept ∙ file; rev = numbered one.0 kept ∙ rev; approver = refl }

  alike_all : (both : List (Pair × Revision)) → AllByRecursion (IsKept revisions) (map (λ one. one.0) both) → AllByRecursion (λ one. row_of (from_side one.0) ≡ row_of one.1) both → AllByRecursion (Alike moved_one (λ one. one.1)) both
  alike_all [] kept rows = tt
  alike_all (one ∷ more) kept rows = (alike_one one kept.0 rows.0, alike_all more kept.1 rows.1)

  alike : AllByRecursion (Alike moved_one (λ one. one.1)) joined.0
  alike = alike_all joined.0 (subst (AllByRecursion (IsKept revisions)) (sym joined.1) kept_pairs) joined.3

  moved_rows : IsPermutation (map row_of moved) (map (λ one. row_of (to_side one)) pairs)
  moved_rows =
      let to_row : Pair → Row = λ one. row_of (to_side one) in
      let is : map row_of moved ≡ map to_row turned.0 =
      map-map row_of moved_one joined.0 ∙ sym (map-map to_row (λ (one : Pair × Revision). one.0) joined.0) ∙ ap (map to_row) joined.1 in
      subst (λ rows. IsPermutation rows (map to_row pairs)) (sym is) (IsPermutation-sym (map to_row pairs) (map to_row turned.0) (IsPermutation-map to_row pairs turned.0 turned.1))

  moved_approvals : filter_map approval_of moved ≡ filter_map approval_of history
  moved_approvals = same_approvals moved_one (λ one. one.1) joined.0 alike ∙ ap (filter_map approval_of) joined.2

  moved_history : IsHistory (map Revised history) → IsHistory (map Revised moved)
  moved_history is = same_history moved_one (λ one. one.1) joined.0 alike (subst (λ rs. IsHistory (map Revised rs)) (sym joined.2) is)

-- in a file whose revisions are numbered, none has a greater number than the last
last_greatest : (xs : List Revision) (newest other : Revision) → AreNumbered xs → slice_get xs (length xs - 1) ≡ Some newest → Contains xs other → newest.rev < other.rev → ⊥
last_greatest xs newest other numbered is there above =
    let n = length xs in
    let at : slice_get xs (n - 1) ≡ Some (get_or xs (n - 1) newest) = slice_at xs (n - 1) newest (omega (arith, there.1)) in
    let found : Some (get_or xs (n - 1) newest) ≡ Some newest = sym at ∙ is in
    let same : get_or xs (n - 1) newest ≡ newest = cc in
    let end : newest.rev ≡ 1 + (n - 1) = ap (λ (r : Revision). r.rev) (sym same) ∙ rev_at xs (n - 1) newest numbered (omega (arith, there.1)) in
    let its : other.rev ≡ 1 + there.0 = ap (λ (r : Revision). r.rev) (sym there.2) ∙ rev_at xs there.0 other numbered there.1 in
    omega (arith, end, its, above, there.1)
  where
    slice_at : (ys : List Revision) (k : ℕ) (d : Revision) → k < length ys → slice_get ys k ≡ Some (get_or ys k d)
    slice_at [] k d below = absurd (omega arith)
    slice_at (y ∷ ys) zero d below = refl
    slice_at (y ∷ ys) (suc k) d below = slice_at ys k d (omega arith)

-- ---- the history of the whole revisions, from that of what is kept of them

abbrev whole_of : Pair → Revision
whole_of one = one.0

abbrev kept_of : Pair → Revision
kept_of one = one.1

module _ (revisions : List Revision) (pairs : List Pair) (whole : map whole_of pairs ≡ revisions) (each : All (IsKept revisions) pairs) (history : List Revision)
    (same : IsPermutation (map (λ one. row_of (kept_of one)) pairs) (map row_of history)) where
  named : (one : Pair) → IsKept revisions one → (whole_of one).file ≡ (kept_of one).file
  named one kept = sym (same_file revisions one kept)

  numbered : (one : Pair) → IsKept revisions one → (whole_of one).rev ≡ (kept_of one).rev
  numbered one kept = sym (same_rev revisions one kept)

  abbrev restored : List Revision
  restored = moved revisions pairs each kept_of whole_of named numbered history same

  abbrev Both : Type 0
  Both = Pair × Revision

  abbrev both : List Both
  both = (joined revisions pairs each kept_of whole_of named numbered history same).0

  is_turned : map (λ (b : Both). b.0) both ≡ (turned revisions pairs each kept_of whole_of named numbered history same).0
  is_turned = (joined revisions pairs each kept_of whole_of named numbered history same).1

  is_history : map (λ (b : Both). b.1) both ≡ history
  is_history = (joined revisions pairs each kept_of whole_of named numbered history same).2

  turned_same : IsPermutation pairs (turned revisions pairs each kept_of whole_of named numbered history same).0
  turned_same = (turned revisions pairs each kept_of whole_of named numbered history same).1

  in_pairs : (b : Both) → Contains both b → Contains pairs b.0
  in_pairs b there =
      let to = (turned revisions pairs each kept_of whole_of named numbered history same).0 in
      Contains-permutation to pairs b.0 (IsPermutation-sym pairs to turned_same) (subst (λ ps. Contains ps b.0) is_turned (in_map (λ (b : Both). b.0) both b there))

  kept_at : (b : Both) → Contains both b → IsKept revisions b.0
  kept_at b there = All-contains (IsKept revisions) pairs b.0 each (in_pairs b there)

  row_at : (b : Both) → Contains both b → row_of (kept_of b.0) ≡ row_of b.1
  row_at b there =
      let Same : Both → Type 0 = λ b. row_of (kept_of b.0) ≡ row_of b.1 in
      All-contains Same both b (All-from_recursion Same both (joined revisions pairs each kept_of whole_of named numbered history same).3) there

  -- where a revision stands whose whole is this one
  back_at : (r : Revision) → Contains revisions r → (b : Both) × Contains both b × (whole_of b.0 ≡ r)
  back_at r there =
      let to = (turned revisions pairs each kept_of whole_of named numbered history same).0 in
      let p = from_map whole_of pairs r (subst (λ rs. Contains rs r) (sym whole) there) in
      let b = from_map (λ (b : Both). b.0) both p.0 (subst (λ ps. Contains ps p.0) (sym is_turned) (Contains-permutation pairs to p.0 turned_same p.1)) in
      (b.0, b.1, ap whole_of b.2 ∙ p.2)

  whole_file : (b : Both) → Contains both b → (whole_of b.0).file ≡ b.1.file
  whole_file b there =
      let row : row_of (kept_of b.0) ≡ row_of b.1 = row_at b there in
      let file : (kept_of b.0).file ≡ b.1.file = cc in
      named b.0 (kept_at b there) ∙ file

  whole_rev : (b : Both) → Contains both b → (whole_of b.0).rev ≡ b.1.rev
  whole_rev b there =
      let row : row_of (kept_of b.0) ≡ row_of b.1 = row_at b there in
      let rev : (kept_of b.0).rev ≡ b.1.rev = cc in
      numbered b.0 (kept_at b there) ∙ rev

  abbrev mine : List ℕ → List Both
  mine file = filter (λ (b : Both). bytes_eq b.1.file file) both

  -- no later one of its file is behind the last
  not_outdated : (file : List ℕ) (b : Both) → IsHistory (map Revised history) → slice_get (mine file) (length (mine file) - 1) ≡ Some b → Contains both b → bytes_eq b.1.file file ≡ true → IsOutdated revisions (whole_of b.0) → ⊥
  not_outdated file b is_numbered is there own_file (later, in_revisions, later_file, later_rev) =
      let at : Both → Revision = λ b. b.1 in
      let other = back_at later in_revisions in
      let its_file : other.0.1.file ≡ b.1.file = sym (whole_file other.0 other.1) ∙ ap (λ (r : Revision). r.file) other.2 ∙ later_file ∙ whole_file b there in
      let its_rev : other.0.1.rev ≡ later.rev = sym (whole_rev other.0 other.1) ∙ ap (λ (r : Revision). r.rev) other.2 in
      let passes : bytes_eq other.0.1.file file ≡ true = ap (λ name. bytes_eq name file) its_file ∙ own_file in
      let in_mine : Contains (map at (mine file)) other.0.1 = in_map at (mine file) other.0 (in_filter (λ (b : Both). bytes_eq b.1.file file) both other.0 other.1 passes) in
      let own_is : own file history ≡ map at (mine file) = ap (own file) (sym is_history) ∙ filter-map (λ (r : Revision). bytes_eq r.file file) at both in
      let last_is : slice_get (map at (mine file)) (length (map at (mine file)) - 1) ≡ Some b.1 =
      ap (λ n. slice_get (map at (mine file)) (n - 1)) (length-map (mine file) at) ∙ slice_get-map at (mine file) (length (mine file) - 1) ∙ ap (option_map at) is in
      let above : b.1.rev < other.0.1.rev = omega (arith, its_rev, whole_rev b there, later_rev) in
      last_greatest (map at (mine file)) b.1 other.0.1 (subst AreNumbered own_is (numbered_in history is_numbered file)) last_is in_mine above

  newest_whole : (file : List ℕ) (b : Both) → IsHistory (map Revised history) → slice_get (mine file) (length (mine file) - 1) ≡ Some b → with_own (whole_of b.0) b.1 ≡ b.1
  newest_whole file b is_numbered is =
      let from = from_filter (λ (b : Both). bytes_eq b.1.file file) both b (found_in (mine file) (length (mine file) - 1) b is) in
      elim (kept_at b from.0) [
        | inl all ↦ same_revision (with_own (whole_of b.0) b.1) b.1 (ap row_of (sym all) ∙ row_at b from.0) refl
        | inr light ↦ absurd (not_outdated file b is_numbered is from.0 from.1 light.1)
      ]

  restored_newest : IsHistory (map Revised history) → newest_of (map Revised history) ≡ newest_of (map Revised restored)
  restored_newest is_numbered =
      ap (λ rs. newest_of (map Revised rs)) (sym is_history)
      ∙ same_newest (λ (b : Both). with_own (whole_of b.0) b.1) (λ (b : Both). b.1) both (alike revisions pairs each kept_of whole_of named numbered history same) (λ file b is. newest_whole file b is_numbered is)

  restored_storable : All IsStorable revisions → All IsStorable history → All IsStorable restored
  restored_storable all own_all = λ k d below.
      let r : Revision = get_or restored k d in
      let b = from_map (λ (b : Both). with_own (whole_of b.0) b.1) both r (k, below, default restored k r d below) in
      let one : IsStorable (whole_of b.0.0) = All-contains IsStorable revisions (whole_of b.0.0) all (subst (λ rs. Contains rs (whole_of b.0.0)) whole (in_map whole_of pairs b.0.0 (in_pairs b.0 b.1))) in
      let own_one : IsStorable b.0.1 = All-contains IsStorable history b.0.1 own_all (subst (λ rs. Contains rs b.0.1) is_history (in_map (λ (b : Both). b.1) both b.0 b.1)) in
      subst IsStorable b.2 (record {
        name = one.name;
        from = one.from;
        rev = one.rev;
        file = one.file;
        author = one.author;
        approver = own_one.approver;
        body = one.body;
        short = one.short;
      })

-- ---- of the rows of a database

-- the rows of what is kept, and of the whole revisions
rows_of_kept : (revisions kept : List Revision) (are : AreKept revisions kept) → map row_of kept ≡ map (λ one. row_of (kept_of one)) are.both
rows_of_kept revisions kept are = ap (map row_of) (sym are.light) ∙ map-map row_of kept_of are.both

rows_of_whole : (rows : List Row) (kept : List Revision) (of : AreOf rows kept) → rows ≡ map (λ one. row_of (whole_of one)) of.are_kept.both
rows_of_whole rows kept of = sym of.of_rows ∙ ap (map row_of) (sym of.are_kept.whole) ∙ map-map row_of whole_of of.are_kept.both

pub heads_restored : (rows approvals : List Row) (kept heads : List Revision) → AreOf rows kept → (history : List Revision) × AreNewestOf (map row_of kept) approvals heads history → (history : List Revision) × AreNewestOf rows approvals heads history
heads_restored rows approvals kept heads of (history, are) =
    let k = of.are_kept in
    let side : IsPermutation (map (λ one. row_of (kept_of one)) k.both) (map row_of history) =
    subst (λ rs. IsPermutation rs (map row_of history)) (rows_of_kept of.revisions kept k) (IsPermutation-sym (map row_of history) (map row_of kept) are.revised) in
    let its_names = named of.revisions k.both k.whole k.each history side in
    let its_numbers = numbered of.revisions k.both k.whole k.each history side in
    let new = restored of.revisions k.both k.whole k.each history side in (
      new,
      record {
        revised = subst (IsPermutation (map row_of new)) (sym (rows_of_whole rows kept of)) (moved_rows of.revisions k.both k.each kept_of whole_of its_names its_numbers history side);
        approved = subst (λ rs. IsPermutation rs approvals) (sym (moved_approvals of.revisions k.both k.each kept_of whole_of its_names its_numbers history side)) are.approved;
        storable = restored_storable of.revisions k.both k.whole k.each history side of.storable are.storable;
        numbered = moved_history of.revisions k.both k.each kept_of whole_of its_names its_numbers history side are.numbered;
        newest = are.newest ∙ restored_newest of.revisions k.both k.whole k.each history side are.numbered;
      },
    )

-- a history with these rows is one of what is kept, too, but for the texts
pub lightened : (rows : List Row) (kept : List Revision) → AreOf rows kept → (history : List Revision) → IsPermutation (map row_of history) rows
    → (light : List Revision) × IsPermutation (map row_of light) (map row_of kept) × (filter_map approval_of light ≡ filter_map approval_of history) × (IsHistory (map Revised history) → IsHistory (map Revised light))
lightened rows kept of history same =
    let k = of.are_kept in
    let side : IsPermutation (map (λ one. row_of (whole_of one)) k.both) (map row_of history) =
    subst (λ rs. IsPermutation rs (map row_of history)) (rows_of_whole rows kept of) (IsPermutation-sym (map row_of history) rows same) in
    let its_names : (one : Pair) → IsKept of.revisions one → (kept_of one).file ≡ (whole_of one).file = λ one is. same_file of.revisions one is in
    let its_numbers : (one : Pair) → IsKept of.revisions one → (kept_of one).rev ≡ (whole_of one).rev = λ one is. same_rev of.revisions one is in
    let light = moved of.revisions k.both k.each whole_of kept_of its_names its_numbers history side in (
      light,
      subst (IsPermutation (map row_of light)) (sym (rows_of_kept of.revisions kept k)) (moved_rows of.revisions k.both k.each whole_of kept_of its_names its_numbers history side),
      moved_approvals of.revisions k.both k.each whole_of kept_of its_names its_numbers history side,
      moved_history of.revisions k.both k.each whole_of kept_of its_names its_numbers history side,
    )

-- rows of which one is foreign are not those of a history
pub none_foreign : (rows : List Row) → (row : Row) × Contains rows row × IsForeign row → (history : List Revision) → All IsStorable history → IsPermutation (map row_of history) rows → ⊥
none_foreign rows (row, there, foreign) history all same =
    let it = from_map row_of history row (Contains-permutation rows (map row_of history) row (IsPermutation-sym (map row_of history) rows same) there) in
    foreign it.0 (All-contains IsStorable history it.0 all it.1) it.2

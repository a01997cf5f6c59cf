-- By which marks the first line of a group that lists a path is found.
use Rattle.std.proofs.Common.{◌≡◌, ℕ, zero, suc, ◌<◌, ◌≤◌, ◌⊎◌, ◌&&◌, ◌||◌, Bool, true, false, eqb, leb, List, [], ◌∷◌, filter, map, length, get_or, Option, Some, None, sym, ◌∙◌, ap, refl, inl, inr, arith}
use Rattle.std.specs.Prelude.{find, slice_get}
use Rattle.std.specs.List.{AllPairs, list_any}
use Rattle.std.proofs.lemmas.Bool.{and_parts, cases_Bool, cases_lt, cond-true, cond-false, eq-eqb, eqb-true, false_from_ne_true, leb-false, leb-true, or_left, or_right, true≢false}
use Rattle.std.proofs.lemmas.List.Folds.{Any-from_list_any}
use Rattle.std.proofs.lemmas.List.Kept.{AllPairs-filter}
use Rattle.std.proofs.lemmas.Option.{get_or_from_slice_get, slice_get-get_or, slice_get_cases}
use Rattle.std.proofs.lemmas.Slice.Eq.{bytes_eq-Decides, slice_eq-Decides}
use Rattle.desk_text.specs.Path.{path_text, same_path}
use Rattle.desk_policy.specs.Verdict.{is_directory_among, lists_here}
use Rattle.desk_policy.specs.declared.row.Row.{Row}
use Rattle.desk_index.specs.PrivateMarks.{AreMarked, IsWritten, first_of, group_of, is_named, lists_at, mark_of, names_at, passes_at, row_passes, same_group, spot_passes, text_at, text_of}
use Rattle.desk_index.specs.PrivateSlot.{is_under, lines_of}
use Rattle.desk_index.specs.declared.marks.Group.{Group}
use Rattle.desk_index.specs.declared.marks.Group.TheVariants as groups
use Rattle.desk_index.specs.declared.marks.Spot.{Spot}
use Rattle.desk_index.proofs.FirstFound.{FindsUpTo, ascend_by, finds_up_to, first_found, found_passes, none_found}

-- ---- a line and its directories

pub same_paths : (path other : List (List ℕ)) → same_path path other ≡ true → path ≡ other
same_paths path other = (slice_eq-Decides bytes_eq-Decides path other (same_path path other) refl).0

-- where a line writes a path that it lists
pub record ListsBy (row : Row) (path : List (List ℕ)) : Type 0 where
  pub dir : ℕ
  pub written : IsWritten row dir
  pub names : names_at row dir path ≡ true
  pub text : (text_at row dir ≡ path_text path) ⊎ (text_at row dir ≡ [])

pub past_end : {X : Type 0} (xs : List X) → slice_get xs (length xs) ≡ None
past_end [] = refl
past_end (x ∷ xs) = past_end xs

pub lists_by : (row : Row) (path : List (List ℕ)) → lists_here path row ≡ true → ListsBy row path
lists_by row path e =
    let dirs = row.entry.dirs in
    elim (cases_Bool (is_directory_among path dirs)) [
      | inl among ↦
          let any = Any-from_list_any (λ dir. same_path dir path) dirs among in
          let at : slice_get dirs any.0 ≡ Some any.1 = slice_get-get_or dirs any.0 any.1 any.2 ∙ ap (λ d. Some d) any.3 in
          record {
            dir = any.0;
            written = inl any.2;
            names = ap (λ o. is_named o row.entry.alldirs path) at ∙ any.4;
            text = inl (ap text_of at ∙ ap path_text (same_paths any.1 path any.4));
          }
      | inr not ↦
          let all : row.entry.alldirs ≡ true = sym (ap (λ b. b || row.entry.alldirs) not) ∙ e in
          record {
            dir = length dirs;
            written = inr (refl, all);
            names = ap (λ o. is_named o row.entry.alldirs path) (past_end dirs) ∙ all;
            text = inr (ap text_of (past_end dirs));
          }
    ]

named_listed : (dirs : List (List (List ℕ))) (dir : ℕ) (alldirs : Bool) (path : List (List ℕ)) → is_named (slice_get dirs dir) alldirs path ≡ true → (is_directory_among path dirs || alldirs) ≡ true
named_listed [] dir alldirs path e = e
named_listed (x ∷ xs) zero alldirs path e = ap (λ b. (b || is_directory_among path xs) || alldirs) e
named_listed (x ∷ xs) (suc dir) alldirs path e =
    elim (cases_Bool (same_path x path)) [
      | inl t ↦ ap (λ b. (b || is_directory_among path xs) || alldirs) t
      | inr f ↦ ap (λ b. (b || is_directory_among path xs) || alldirs) f ∙ named_listed xs dir alldirs path e
    ]

-- ---- a directory that passes

pub record PassesBy (rows : List Row) (spots : List Spot) (group : Group) (path : List (List ℕ)) (number : ℕ) : Type 0 where
  pub spot : Spot
  pub within : number < length spots
  pub at : slice_get spots number ≡ Some spot
  pub row : Row
  pub row_within : spot.row < length rows
  pub row_at : slice_get rows spot.row ≡ Some row
  pub lists : lists_at group path row ≡ true

row_of_spot : (rows : List Row) (group : Group) (path : List (List ℕ)) (spot : Spot) → row_passes group path spot.dir (slice_get rows spot.row) ≡ true
    → (row : Row) × (spot.row < length rows) × (slice_get rows spot.row ≡ Some row) × (lists_at group path row ≡ true)
row_of_spot rows group path spot e =
    elim (slice_get_cases rows spot.row).1 [
      | inl there ↦
          let parts = and_parts (same_group (group_of there.0) group) (names_at there.0 spot.dir path) (sym (ap (row_passes group path spot.dir) there.2) ∙ e) in
          (there.0, there.1, there.2, ap (λ b. b && lists_here path there.0) parts.0 ∙ named_listed there.0.entry.dirs spot.dir there.0.entry.alldirs path parts.1)
      | inr past ↦ absurd (true≢false (sym e ∙ ap (row_passes group path spot.dir) past.1))
    ]

pub passes_by : (rows : List Row) (spots : List Spot) (group : Group) (path : List (List ℕ)) (number : ℕ) → passes_at rows spots group path number ≡ true → PassesBy rows spots group path number
passes_by rows spots group path number e =
    elim (slice_get_cases spots number).1 [
      | inl there ↦
          let r = row_of_spot rows group path there.0 (sym (ap (spot_passes rows group path) there.2) ∙ e) in
          record { spot = there.0; within = there.1; at = there.2; row = r.0; row_within = r.1; row_at = r.2; lists = r.3 }
      | inr past ↦ absurd (true≢false (sym e ∙ ap (spot_passes rows group path) past.1))
    ]

-- ---- marks

-- the numbers under a mark ascend
marked_ascend : (pairs : List (ℕ × ℕ)) → ((k : ℕ) (d : ℕ × ℕ) → k < length pairs → (get_or pairs k d).1 ≡ k) → (mark : ℕ) → AllPairs (λ one later. one < later) (lines_of pairs mark)
marked_ascend pairs numbers mark =
    ascend_by (λ (pair : ℕ × ℕ). pair.1) (filter (is_under mark) pairs)
    (AllPairs-filter (λ (one later : ℕ × ℕ). one.1 < later.1) (is_under mark) pairs
    (λ i j d lt l. let a = numbers i d (omega arith) in let b = numbers j d l in omega arith))

-- a number is under its mark
under_mark : (pairs : List (ℕ × ℕ)) (k mark n : ℕ) (d : ℕ × ℕ) → k < length pairs → get_or pairs k d ≡ (mark, n) → list_any (λ m. eqb m n) (lines_of pairs mark) ≡ true
under_mark [] k mark n d l e = absurd (omega arith)
under_mark (x ∷ xs) zero mark n d l e =
    let t : is_under mark x ≡ true = eq-eqb x.0 mark (ap (λ p. p.0) e) in
    ap (λ ys. list_any (λ m. eqb m n) (map (λ (p : ℕ × ℕ). p.1) ys)) (cond-true (is_under mark x) (x ∷ filter (is_under mark) xs) (filter (is_under mark) xs) t)
    ∙ or_left (eqb x.1 n) _ (eq-eqb x.1 n (ap (λ p. p.1) e))
under_mark (x ∷ xs) (suc k) mark n d l e =
    let rest = under_mark xs k mark n d (omega arith) e in
    elim (cases_Bool (is_under mark x)) [
      | inl t ↦
          ap (λ ys. list_any (λ m. eqb m n) (map (λ (p : ℕ × ℕ). p.1) ys)) (cond-true (is_under mark x) (x ∷ filter (is_under mark) xs) (filter (is_under mark) xs) t)
          ∙ or_right (eqb x.1 n) _ rest
      | inr f ↦ ap (λ ys. list_any (λ m. eqb m n) (map (λ (p : ℕ × ℕ). p.1) ys)) (cond-false (is_under mark x) (x ∷ filter (is_under mark) xs) (filter (is_under mark) xs) f) ∙ rest
    ]

pub same_groups : (group other : Group) → same_group group other ≡ true → group ≡ other
same_groups (groups.Line line) (groups.Line other) e = ap (λ n. groups.Line n) (eqb-true line other e)
same_groups (groups.Line line) (groups.Network first prefix) e = absurd (true≢false (sym e))
same_groups (groups.Line line) groups.Everybody e = absurd (true≢false (sym e))
same_groups (groups.Network first prefix) (groups.Line line) e = absurd (true≢false (sym e))
same_groups (groups.Network first prefix) (groups.Network another length) e =
    let parts = and_parts (eqb first another) (eqb prefix length) e in
    ap (λ n. groups.Network n prefix) (eqb-true first another parts.0) ∙ ap (λ n. groups.Network another n) (eqb-true prefix length parts.1)
same_groups (groups.Network first prefix) groups.Everybody e = absurd (true≢false (sym e))
same_groups groups.Everybody (groups.Line line) e = absurd (true≢false (sym e))
same_groups groups.Everybody (groups.Network first prefix) e = absurd (true≢false (sym e))
same_groups groups.Everybody groups.Everybody e = refl

-- ---- the lesser of two numbers

first_of_left : (one other : Option ℕ) (n k : ℕ) → one ≡ Some n → n ≤ k → (m : ℕ) × (first_of one other ≡ Some m) × (m ≤ k)
first_of_left None other n k e le = cc
first_of_left (Some a) None n k e le = (a, refl, (let s : a ≡ n = cc in omega arith))
first_of_left (Some a) (Some b) n k e le =
    let s : a ≡ n = cc in
    elim (cases_Bool (leb a b)) [
      | inl t ↦ (a, ap (λ i. Some i) (cond-true (leb a b) a b t), omega arith)
      | inr f ↦ (b, ap (λ i. Some i) (cond-false (leb a b) a b f), (let g = leb-false a b f in omega arith))
    ]

first_of_right : (one other : Option ℕ) (n k : ℕ) → other ≡ Some n → n ≤ k → (m : ℕ) × (first_of one other ≡ Some m) × (m ≤ k)
first_of_right None other n k e le = (n, e, le)
first_of_right (Some a) None n k e le = cc
first_of_right (Some a) (Some b) n k e le =
    let s : b ≡ n = cc in
    elim (cases_Bool (leb a b)) [
      | inl t ↦ (a, ap (λ i. Some i) (cond-true (leb a b) a b t), (let g = leb-true a b t in omega arith))
      | inr f ↦ (b, ap (λ i. Some i) (cond-false (leb a b) a b f), omega arith)
    ]

first_of_either : (one other : Option ℕ) (n : ℕ) → first_of one other ≡ Some n → (one ≡ Some n) ⊎ (other ≡ Some n)
first_of_either None other n e = inr e
first_of_either (Some a) None n e = inl e
first_of_either (Some a) (Some b) n e =
    elim (cases_Bool (leb a b)) [
      | inl t ↦ inl (sym (ap (λ i. Some i) (cond-true (leb a b) a b t)) ∙ e)
      | inr f ↦ inr (sym (ap (λ i. Some i) (cond-false (leb a b) a b f)) ∙ e)
    ]

-- ---- what is found by both marks

module _ (pairs : List (ℕ × ℕ)) (spots : List Spot) (rows : List Row) (marked : AreMarked pairs spots rows (length rows) 0) (group : Group) (path : List (List ℕ)) where
  abbrev here : Option ℕ
  here = find (passes_at rows spots group path) (lines_of pairs (mark_of group (path_text path)))

  abbrev all : Option ℕ
  all = find (passes_at rows spots group path) (lines_of pairs (mark_of group []))

  -- a directory of the line at a place, and what is found is not behind it
  record FindsFor (place : ℕ) : Type 0 where
    number : ℕ
    found : first_of here all ≡ Some number
    later : ℕ
    within : later < length spots
    is : (d : Spot) → (get_or spots later d).row ≡ place
    least : number ≤ later

  finds_under : (k : ℕ) (text : List ℕ) → k < length spots → ((d : ℕ × ℕ) → get_or pairs k d ≡ (mark_of group text, k)) → passes_at rows spots group path k ≡ true
      → FindsUpTo (passes_at rows spots group path) (lines_of pairs (mark_of group text)) k
  finds_under k text l at t =
      finds_up_to (passes_at rows spots group path) (lines_of pairs (mark_of group text)) (marked_ascend pairs marked.numbers (mark_of group text)) k
      (under_mark pairs k (mark_of group text) k (0, 0) (let e = marked.each in omega arith) (at (0, 0))) t

  finds : (place : ℕ) (d : Row) → place < length rows → lists_at group path (get_or rows place d) ≡ true → FindsFor place
  finds place d l e =
      let row = get_or rows place d in
      let parts = and_parts (same_group (group_of row) group) (lists_here path row) e in
      let by = lists_by row path parts.1 in
      let mark = marked.all place by.dir d l by.written (inl l) in
      let spot : Spot = record { row = place; dir = by.dir } in
      let group_is = same_groups (group_of row) group parts.0 in
      let passes : passes_at rows spots group path mark.number ≡ true =
      ap (spot_passes rows group path) (slice_get-get_or spots mark.number spot mark.within ∙ ap (λ s. Some s) (mark.spot spot))
      ∙ ap (row_passes group path by.dir) (slice_get-get_or rows place d l)
      ∙ ap (λ b. b && names_at row by.dir path) parts.0
      ∙ by.names in
      let pair : (text : List ℕ) → text_at row by.dir ≡ text → (q : ℕ × ℕ) → get_or pairs mark.number q ≡ (mark_of group text, mark.number) = λ text t q.
      mark.pair q ∙ ap (λ (g : Group). let p : ℕ × ℕ = (mark_of g (text_at row by.dir), mark.number) in p) group_is ∙ ap (λ (x : List ℕ). let p : ℕ × ℕ = (mark_of group x, mark.number) in p) t in
      let is : (q : Spot) → (get_or spots mark.number q).row ≡ place = λ q. ap (λ (s : Spot). s.row) (mark.spot q) in
      elim by.text [
        | inl t ↦
            let f = finds_under mark.number (path_text path) mark.within (pair (path_text path) t) passes in
            let m = first_of_left here all f.number mark.number f.found f.least in
            record { number = m.0; found = m.1; later = mark.number; within = mark.within; is = is; least = m.2 }
        | inr t ↦
            let f = finds_under mark.number [] mark.within (pair [] t) passes in
            let m = first_of_right here all f.number mark.number f.found f.least in
            record { number = m.0; found = m.1; later = mark.number; within = mark.within; is = is; least = m.2 }
      ]

  pub none_marked : first_of here all ≡ None → find (lists_at group path) rows ≡ None
  none_marked e =
      none_found (lists_at group path) rows (λ k d l. false_from_ne_true (lists_at group path (get_or rows k d)) (λ t.
      let f = finds k d l t in absurd (let g : None ≡ Some f.number = sym e ∙ f.found in cc)))

  module _ (number : ℕ) (e : first_of here all ≡ Some number) where
    passes : passes_at rows spots group path number ≡ true
    passes = elim (first_of_either here all number e) [
      | inl h ↦ found_passes (passes_at rows spots group path) (lines_of pairs (mark_of group (path_text path))) number h
      | inr h ↦ found_passes (passes_at rows spots group path) (lines_of pairs (mark_of group [])) number h
    ]

    by : PassesBy rows spots group path number
    by = passes_by rows spots group path number passes

    pub is_there : length spots ≤ number → {B : Type 0} → B
    is_there past = (let w = by.within in absurd (omega arith))

    before : (k : ℕ) (d : Row) → k < by.spot.row → lists_at group path (get_or rows k d) ≡ false
    before k d less = false_from_ne_true (lists_at group path (get_or rows k d)) (λ t.
        let f = finds k d (let w = by.row_within in omega arith) t in
        let same : f.number ≡ number = (let g : Some f.number ≡ Some number = sym f.found ∙ e in cc) in
        let here_row : (get_or spots number by.spot).row ≡ by.spot.row = ap (λ (s : Spot). s.row) (get_or_from_slice_get spots number by.spot by.spot by.at) in
        let there_row = f.is by.spot in
        elim (cases_lt number f.later) [
          | inl lt ↦ (let up = marked.rising number f.later by.spot lt f.within in absurd (omega arith))
          | inr ge ↦
              let one : f.later ≡ number = (let h = f.least in omega arith) in
              let e : (get_or spots f.later by.spot).row ≡ (get_or spots number by.spot).row = ap (λ n. (get_or spots n by.spot).row) one in
              absurd (omega arith)
        ])

    pub first_marked : (spot : Spot) → slice_get spots number ≡ Some spot → slice_get rows spot.row ≡ find (lists_at group path) rows
    first_marked spot at =
        let same : by.spot ≡ spot = (let g : Some by.spot ≡ Some spot = sym by.at ∙ at in cc) in
        ap (λ (s : Spot). slice_get rows s.row) (sym same)
        ∙ by.row_at
        ∙ sym (first_found (lists_at group path) rows by.spot.row by.row by.row_within (get_or_from_slice_get rows by.spot.row by.row by.row by.row_at) by.lists before)

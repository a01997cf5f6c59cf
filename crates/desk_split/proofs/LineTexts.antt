-- The lines of texts that stand one behind another, and those of the joined text.
use Rattle.std.proofs.Common.{◌≡◌, ◌⊎◌, ℕ, zero, suc, ◌+◌, ◌-◌, ◌<◌, Bool, true, false, ◌||◌, cond, eqb, ltb, ◌/◌, ◌%◌, List, [], ◌∷◌, ◌++◌, get_or, length, map, take, refl, sym, ap, subst, ◌∙◌, inl, inr, append_assoc, length-append, arith}
use Rattle.std.specs.Prelude.{codes}
use Rattle.std.specs.Fmt.{decimal, digit_glyph, digits, digits_onto}
use Rattle.std.specs.List.{AllByRecursion, onto_first, slice_split}
use Rattle.std.specs.Str.Lines.{lines, lines_of_parts, strip_carriage_return}
use Rattle.std.proofs.lemmas.Bool.{cases_Bool, cond-true, cond-false, cond_both, eqb-true, ne_eqb}
use Rattle.std.proofs.lemmas.List.{append-nil, get_or_at, get_or-append_right, take_at}
use Rattle.std.proofs.lemmas.List.Elements.{All-from_recursion}
use Rattle.std.proofs.lemmas.List.Splits.{length-slice_split, slice_split_at, slice_split_none}
use Rattle.desk_split.specs.Splitting.{ends_with_return, line_end}
use Rattle.desk_split.specs.Joining.{StoredFile, comment, comment_line, ends_with_feed, has_feed, last_line_end, section}

abbrev pub Bytes : Type 0
Bytes = List ℕ

abbrev pub is_feed : ℕ → Bool
is_feed b = eqb b 10

-- no byte is a line feed
abbrev pub HasNoFeed : Bytes → Type 0
HasNoFeed line = AllByRecursion (λ b. is_feed b ≡ false) line

no_feed-append : (a b : Bytes) → HasNoFeed a → HasNoFeed b → HasNoFeed (a ++ b)
no_feed-append [] b h k = k
no_feed-append (x ∷ a) b h k = (h.0, no_feed-append a b h.1 k)

-- 1. A line that is ended.

some_part : (text : Bytes) → 0 < length (slice_split is_feed text)
some_part text = omega (arith, length-slice_split is_feed text)

more_lines : (part : Bytes) (parts : List Bytes) → 0 < length parts → lines_of_parts (part ∷ parts) ≡ strip_carriage_return part ∷ lines_of_parts parts
more_lines part [] h = absurd (omega arith)
more_lines part (next ∷ parts) h = refl

-- a part of a text before a line feed
first_part : (part rest : Bytes) → HasNoFeed part → slice_split is_feed (part ++ 10 ∷ rest) ≡ part ∷ slice_split is_feed rest
first_part part rest h = slice_split_at is_feed part 10 rest (All-from_recursion (λ b. is_feed b ≡ false) part h) refl

pub first_line : (part rest : Bytes) → HasNoFeed part → lines (part ++ 10 ∷ rest) ≡ strip_carriage_return part ∷ lines rest
first_line part rest h = ap lines_of_parts (first_part part rest h) ∙ more_lines part (slice_split is_feed rest) (some_part rest)

-- the last byte of a text
last_of : (front : Bytes) (b : ℕ) → get_or (front ++ b ∷ []) (length (front ++ b ∷ []) - 1) 0 ≡ b
last_of front b =
    let last : length front ≡ length (front ++ b ∷ []) - 1 = omega (arith, length-append front (b ∷ [])) in
    get_or_at front b [] 0 (length (front ++ b ∷ []) - 1) last

strip_return : (line : Bytes) → strip_carriage_return (line ++ 13 ∷ []) ≡ line
strip_return line =
    let last : length line ≡ length (line ++ 13 ∷ []) - 1 = omega (arith, length-append line (13 ∷ [])) in
    cond-true (eqb (get_or (line ++ 13 ∷ []) (length (line ++ 13 ∷ []) - 1) 0) 13) (take (length (line ++ 13 ∷ []) - 1) (line ++ 13 ∷ [])) (line ++ 13 ∷ []) (ap (λ b. eqb b 13) (last_of line 13))
    ∙ take_at line (13 ∷ []) (length (line ++ 13 ∷ []) - 1) last

strips_none : (line : Bytes) → ends_with_return line ≡ false → strip_carriage_return line ≡ line
strips_none line e = cond-false (ends_with_return line) (take (length line - 1) line) line e

-- a line that is ended as it is written
ended_line : (line rest : Bytes) → HasNoFeed line → lines ((line ++ line_end line) ++ rest) ≡ line ∷ lines rest
ended_line line rest h =
    elim (cases_Bool (ends_with_return line)) [
      | inl e ↦
          let text : (line ++ line_end line) ++ rest ≡ (line ++ 13 ∷ []) ++ 10 ∷ rest =
          ap (λ end. (line ++ end) ++ rest) (cond-true (ends_with_return line) (13 ∷ 10 ∷ []) (10 ∷ []) e)
          ∙ append_assoc line (13 ∷ 10 ∷ []) rest ∙ sym (append_assoc line (13 ∷ []) (10 ∷ rest)) in
          ap lines text ∙ first_line (line ++ 13 ∷ []) rest (no_feed-append line (13 ∷ []) h (refl, tt)) ∙ ap (λ l. l ∷ lines rest) (strip_return line)
      | inr e ↦
          let text : (line ++ line_end line) ++ rest ≡ line ++ 10 ∷ rest =
          ap (λ end. (line ++ end) ++ rest) (cond-false (ends_with_return line) (13 ∷ 10 ∷ []) (10 ∷ []) e) ∙ append_assoc line (10 ∷ []) rest in
          ap lines text ∙ first_line line rest h ∙ ap (λ l. l ∷ lines rest) (strips_none line e)
    ]

-- 2. A text that ends with a line feed, or is empty, and what stands behind it.

abbrev pub IsWhole : Bytes → Type 0
IsWhole front = (front ≡ []) ⊎ ((a : Bytes) × (front ≡ a ++ 10 ∷ []))

onto_more : (b : ℕ) (parts rest : List Bytes) → 0 < length parts → onto_first b (parts ++ rest) ≡ onto_first b parts ++ rest
onto_more b [] rest h = absurd (omega arith)
onto_more b (part ∷ parts) rest h = refl

-- the parts of a text that stands before a line feed
parts_before : (a rest : Bytes) → slice_split is_feed (a ++ 10 ∷ rest) ≡ slice_split is_feed a ++ slice_split is_feed rest
parts_before [] rest = refl
parts_before (b ∷ a) rest =
    ap (λ ps. cond (is_feed b) ([] ∷ ps) (onto_first b ps)) (parts_before a rest)
    ∙ by_cases (is_feed b) (onto_more b (slice_split is_feed a) (slice_split is_feed rest) (some_part a))
  where
    by_cases : (c : Bool) → onto_first b (slice_split is_feed a ++ slice_split is_feed rest) ≡ onto_first b (slice_split is_feed a) ++ slice_split is_feed rest
        → cond c ([] ∷ (slice_split is_feed a ++ slice_split is_feed rest)) (onto_first b (slice_split is_feed a ++ slice_split is_feed rest))
        ≡ cond c ([] ∷ slice_split is_feed a) (onto_first b (slice_split is_feed a)) ++ slice_split is_feed rest
    by_cases true e = refl
    by_cases false e = e

-- parts that stand before others
lines_before : (parts rest : List Bytes) → 0 < length rest → lines_of_parts (parts ++ rest) ≡ map strip_carriage_return parts ++ lines_of_parts rest
lines_before [] rest h = refl
lines_before (part ∷ parts) rest h =
    more_lines part (parts ++ rest) (omega (arith, length-append parts rest)) ∙ ap (λ ls. strip_carriage_return part ∷ ls) (lines_before parts rest h)

pub behind_feed : (a rest : Bytes) → lines (a ++ 10 ∷ rest) ≡ map strip_carriage_return (slice_split is_feed a) ++ lines rest
behind_feed a rest = ap lines_of_parts (parts_before a rest) ∙ lines_before (slice_split is_feed a) (slice_split is_feed rest) (some_part rest)

behind_whole : (front : Bytes) → IsWhole front → (rest : Bytes) → lines (front ++ rest) ≡ lines front ++ lines rest
behind_whole front (inl none) rest = ap (λ t. lines (t ++ rest)) none ∙ ap (λ t. lines t ++ lines rest) (sym none)
behind_whole front (inr ended) rest =
    let a : Bytes = ended.0 in
    ap (λ t. lines (t ++ rest)) ended.1 ∙ ap lines (append_assoc a (10 ∷ []) rest) ∙ behind_feed a rest
    ∙ ap (λ ls. ls ++ lines rest) (sym (ap lines ended.1 ∙ behind_feed a [] ∙ append-nil (map strip_carriage_return (slice_split is_feed a))))

-- 3. A text falls into whole lines and a last one that is not ended.

record Falls (text : Bytes) : Type 0 where
  front : Bytes
  last : Bytes
  are : text ≡ front ++ last
  whole : IsWhole front
  clean : HasNoFeed last

falls_more : (b : ℕ) (text : Bytes) (feed : Bool) → is_feed b ≡ feed → Falls text → Falls (b ∷ text)
falls_more b text feed e f = by f.whole feed e
  where
    by : IsWhole f.front → (feed : Bool) → is_feed b ≡ feed → Falls (b ∷ text)
    by (inl none) true e = record {
      front = b ∷ [];
      last = f.last;
      are = ap (λ t. b ∷ t) (f.are ∙ ap (λ t. t ++ f.last) none);
      whole = inr ([], ap (λ x. x ∷ []) (eqb-true b 10 e));
      clean = f.clean;
    }
    by (inl none) false e = record {
      front = [];
      last = b ∷ f.last;
      are = ap (λ t. b ∷ t) (f.are ∙ ap (λ t. t ++ f.last) none);
      whole = inl refl;
      clean = (e, f.clean);
    }
    by (inr ended) feed e = record {
      front = b ∷ f.front;
      last = f.last;
      are = ap (λ t. b ∷ t) f.are;
      whole = inr (b ∷ ended.0, ap (λ t. b ∷ t) ended.1);
      clean = f.clean;
    }

falls : (text : Bytes) → Falls text
falls [] = record { front = []; last = []; are = refl; whole = inl refl; clean = tt }
falls (b ∷ text) = falls_more b text (is_feed b) refl (falls text)

-- the last byte of a text with a last line is that of the line
same_end : (front : Bytes) (b : ℕ) (last : Bytes) → get_or (front ++ b ∷ last) (length (front ++ b ∷ last) - 1) 0 ≡ get_or (b ∷ last) (length (b ∷ last) - 1) 0
same_end front b last =
    let long : length (front ++ b ∷ last) ≡ length front + length (b ∷ last) = length-append front (b ∷ last) in
    let at : length (front ++ b ∷ last) - 1 - length front ≡ length (b ∷ last) - 1 = omega arith in
    get_or-append_right front (b ∷ last) (length front) (length (front ++ b ∷ last) - 1) 0 refl (omega arith) ∙ ap (λ k. get_or (b ∷ last) k 0) at

-- the last byte of a line is not a line feed
no_feed_last : (b : ℕ) (last : Bytes) → HasNoFeed (b ∷ last) → eqb (get_or (b ∷ last) (length (b ∷ last) - 1) 0) 10 ≡ false
no_feed_last b last h = All-from_recursion (λ x. is_feed x ≡ false) (b ∷ last) h (length (b ∷ last) - 1) 0 (omega arith)

some_long : (front : Bytes) (b : ℕ) (last : Bytes) → eqb (length (front ++ b ∷ last)) 0 ≡ false
some_long front b last =
    let long : length (front ++ b ∷ last) ≡ length front + length (b ∷ last) = length-append front (b ∷ last) in
    ne_eqb (length (front ++ b ∷ last)) 0 (λ e. omega arith)

or_true : (a : Bool) → (a || true) ≡ true
or_true true = refl
or_true false = refl

whole_end : (a : Bytes) → last_line_end (a ++ 10 ∷ []) ≡ []
whole_end a =
    let ends : ends_with_feed (a ++ 10 ∷ []) ≡ true = ap (λ b. eqb b 10) (last_of a 10) in
    cond-true (eqb (length (a ++ 10 ∷ [])) 0 || ends_with_feed (a ++ 10 ∷ [])) [] (line_end (a ++ 10 ∷ []))
    (ap (λ b. eqb (length (a ++ 10 ∷ [])) 0 || b) ends ∙ or_true (eqb (length (a ++ 10 ∷ [])) 0))

one_line : (b : ℕ) (last : Bytes) → HasNoFeed (b ∷ last) → lines (b ∷ last) ≡ (b ∷ last) ∷ []
one_line b last h =
    ap lines_of_parts (slice_split_none is_feed (b ∷ last) (All-from_recursion (λ x. is_feed x ≡ false) (b ∷ last) h))
    ∙ cond-false (eqb (length (b ∷ last)) 0) [] ((b ∷ last) ∷ []) (ne_eqb (length (b ∷ last)) 0 (λ e. omega arith))

-- a text whose last line is ended has the same lines
abbrev Closes : Bytes → Bytes → Type 0
Closes rest text = lines ((text ++ last_line_end text) ++ rest) ≡ lines text ++ lines rest

closes : (front last rest : Bytes) → IsWhole front → HasNoFeed last → Closes rest (front ++ last)
closes front [] rest (inl none) clean = subst (Closes rest) (sym (append-nil front ∙ none)) refl
closes front [] rest (inr ended) clean =
    let a : Bytes = ended.0 in
    let whole : Closes rest (a ++ 10 ∷ []) =
    ap (λ end. lines (((a ++ 10 ∷ []) ++ end) ++ rest)) (whole_end a) ∙ ap (λ t. lines (t ++ rest)) (append-nil (a ++ 10 ∷ [])) ∙ behind_whole (a ++ 10 ∷ []) (inr (a, refl)) rest in
    subst (Closes rest) (sym (append-nil front ∙ ended.1)) whole
closes front (b ∷ last) rest whole clean =
    let text : Bytes = front ++ b ∷ last in
    let open_end : (eqb (length text) 0 || ends_with_feed text) ≡ false =
    ap (λ none. none || ends_with_feed text) (some_long front b last) ∙ ap (λ x. eqb x 10) (same_end front b last) ∙ no_feed_last b last clean in
    let end : last_line_end text ≡ line_end (b ∷ last) =
    cond-false (eqb (length text) 0 || ends_with_feed text) [] (line_end text) open_end ∙ ap (λ x. cond (eqb x 13) (13 ∷ 10 ∷ []) (10 ∷ [])) (same_end front b last) in
    ap (λ e. lines ((text ++ e) ++ rest)) end
    ∙ ap (λ t. lines (t ++ rest)) (append_assoc front (b ∷ last) (line_end (b ∷ last)))
    ∙ ap lines (append_assoc front ((b ∷ last) ++ line_end (b ∷ last)) rest)
    ∙ behind_whole front whole (((b ∷ last) ++ line_end (b ∷ last)) ++ rest)
    ∙ ap (λ ls. lines front ++ ls) (ended_line (b ∷ last) rest clean)
    ∙ sym (append_assoc (lines front) ((b ∷ last) ∷ []) (lines rest))
    ∙ ap (λ ls. ls ++ lines rest) (ap (λ ls. lines front ++ ls) (sym (one_line b last clean)) ∙ sym (behind_whole front whole (b ∷ last)))

-- 4. The joined text.

text_lines : (text rest : Bytes) → lines ((text ++ last_line_end text) ++ 10 ∷ rest) ≡ lines text ++ [] ∷ lines rest
text_lines text rest =
    let f = falls text in
    subst (Closes (10 ∷ rest)) (sym f.are) (closes f.front f.last (10 ∷ rest) f.whole f.clean) ∙ ap (λ ls. lines text ++ ls) (first_line [] rest tt)

no_feed_more : (b : ℕ) (text : Bytes) (feed : Bool) → is_feed b ≡ feed → (has_feed text ≡ false → HasNoFeed text) → (feed || has_feed text) ≡ false → HasNoFeed (b ∷ text)
no_feed_more b text true is rest e = absurd (cc)
no_feed_more b text false is rest e = (is, rest e)

no_feed_in : (text : Bytes) → has_feed text ≡ false → HasNoFeed text
no_feed_in [] e = tt
no_feed_in (b ∷ text) e = no_feed_more b text (is_feed b) refl (no_feed_in text) e

glyph_no_feed : (d : ℕ) → is_feed (digit_glyph false d) ≡ false
glyph_no_feed d = cond_both (ltb d 10) (48 + d) (87 + d) (λ b. is_feed b ≡ false) (λ _. ne_eqb (48 + d) 10 (λ e. omega arith)) (λ _. ne_eqb (87 + d) 10 (λ e. omega arith))

onto_no_feed : (k n : ℕ) (acc : Bytes) → HasNoFeed acc → HasNoFeed (digits_onto k 10 false n acc)
onto_no_feed zero n acc h = h
onto_no_feed (suc k) n acc h =
    let more : HasNoFeed (digit_glyph false (n % 10) ∷ acc) = (glyph_no_feed (n % 10), h) in
    cond_both (eqb (n / 10) 0) (digit_glyph false (n % 10) ∷ acc) (digits_onto k 10 false (n / 10) (digit_glyph false (n % 10) ∷ acc)) (λ ds. HasNoFeed ds)
    (λ _. more) (λ _. onto_no_feed k (n / 10) (digit_glyph false (n % 10) ∷ acc) more)

decimal_no_feed : (n : ℕ) → HasNoFeed (decimal n)
unfolding digits
decimal_no_feed n = onto_no_feed 64 n [] tt

module _ (file : StoredFile) where
  comment_clean : has_feed file.name ≡ false → has_feed file.author ≡ false → HasNoFeed (comment file.name file.rev file.author)
  comment_clean name author =
      let one : Bytes = codes "# " ++ file.name in
      let two : Bytes = one ++ codes " rev " in
      let three : Bytes = two ++ decimal file.rev in
      let four : Bytes = three ++ codes " (" in
      let in_one : HasNoFeed one = no_feed-append (codes "# ") file.name (refl, (refl, tt)) (no_feed_in file.name name) in
      let in_two : HasNoFeed two = no_feed-append one (codes " rev ") in_one (refl, (refl, (refl, (refl, (refl, tt))))) in
      let in_three : HasNoFeed three = no_feed-append two (decimal file.rev) in_two (decimal_no_feed file.rev) in
      let in_four : HasNoFeed four = no_feed-append three (codes " (") in_three (refl, (refl, tt)) in
      no_feed-append (four ++ file.author) (codes ")") (no_feed-append four file.author in_four (no_feed_in file.author author)) (refl, tt)

  -- the comment line of a file, if it has one
  unfoldable pub comment_lines : List Bytes
  comment_lines = cond (has_feed file.name || has_feed file.author) [] (comment file.name file.rev file.author ∷ [])

  behind_comment : (rest : Bytes) → lines (comment_line file ++ rest) ≡ comment_lines ++ lines rest
  unfolding comment_lines
  behind_comment rest = by (has_feed file.name) (has_feed file.author) refl refl
    where
      by : (name author : Bool) → has_feed file.name ≡ name → has_feed file.author ≡ author
          → lines (cond (name || author) [] (comment file.name file.rev file.author ++ 10 ∷ []) ++ rest) ≡ cond (name || author) [] (comment file.name file.rev file.author ∷ []) ++ lines rest
      by true author n a = refl
      by false true n a = refl
      by false false n a =
          let keeps : strip_carriage_return (comment file.name file.rev file.author) ≡ comment file.name file.rev file.author =
          strips_none (comment file.name file.rev file.author) (ap (λ b. eqb b 13) (last_of (codes "# " ++ file.name ++ codes " rev " ++ decimal file.rev ++ codes " (" ++ file.author) 41)) in
          ap lines (append_assoc (comment file.name file.rev file.author) (10 ∷ []) rest)
          ∙ first_line (comment file.name file.rev file.author) rest (comment_clean n a)
          ∙ ap (λ l. l ∷ lines rest) keeps

  pub section_lines : (rest : Bytes) → lines (section file ++ rest) ≡ comment_lines ++ (lines file.text ++ [] ∷ lines rest)
  section_lines rest =
      let start : Bytes = comment_line file in
      let end : Bytes = last_line_end file.text in
      ap lines (append_assoc (start ++ file.text ++ end) (10 ∷ []) rest ∙ ap (λ t. t ++ 10 ∷ rest) (append_assoc start file.text end) ∙ append_assoc start (file.text ++ end) (10 ∷ rest))
      ∙ behind_comment ((file.text ++ end) ++ 10 ∷ rest)
      ∙ ap (λ ls. comment_lines ++ ls) (text_lines file.text rest)

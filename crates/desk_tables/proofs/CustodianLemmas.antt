-- What a line of custodians answers, by the tests of its rules.
use Rattle.std.proofs.Common.{◌≡◌, ℕ, ◌==◌, Bool, true, false, not, ◌||◌, List, [], ◌∷◌, Some, None, Result, Ok, Err, Option, ◌<◌, ◌+◌, ◌++◌, cond, find, get_or, length, map, take, refl, ap, sym, ◌∙◌, arith}
use Rattle.std.specs.List.{cons_option, list_any}
use Rattle.std.proofs.lemmas.List.{take_more}
use Rattle.std.proofs.lemmas.List.Elements.{filter_map-append}
use Rattle.std.specs.Cmp.Lexicographic.{on_texts_equal}
use Rattle.std.specs.Option.{is_some, option_map, option_or}
use Rattle.std.specs.Result.{is_err, result_ok}
use Rattle.std.specs.Str.{bytes_eq}
use Rattle.hex.specs.Hex.{decode_sized}
use Rattle.desk_text.specs.Lines.{LogicalLine}
use Rattle.desk_tables.proofs.QuotedLineLemmas.{unless_ok}
use Rattle.desk_tables.specs.Rules.{unless_rule}
use Rattle.desk_tables.specs.QuotedLines.{line_values}
use Rattle.desk_tables.specs.Custodians.{breaks, digest_of, digest_word, is_custodian_name, name_in, name_word, names_on, row_of, rules, values_answer}
use Rattle.desk_tables.specs.declared.custodians.Custodian.{Custodian}
use Rattle.desk_tables.specs.declared.rules.TableRule.{TableRule}
use Rattle.desk_tables.specs.declared.rules.TableRule.TheVariants as rule

-- the names of custodians
abbrev pub names : List Custodian → List (List ℕ)
names rows = map (λ row. row.name) rows

-- the digest of a custodian that may be
abbrev digest_in : Option Custodian → Option (List ℕ)
digest_in o = option_map (λ custodian. custodian.digest) o

listed_or : (b x : Bool) (row : Custodian) (rest : Option Custodian) → x ≡ is_some (digest_in rest) → (b || x) ≡ is_some (digest_in (cond b (Some row) rest))
listed_or true x row rest h = refl
listed_or false x row rest h = h

-- a name that is listed has a digest
pub listed_names : (name : List ℕ) (rows : List Custodian) → list_any (bytes_eq name) (names rows) ≡ is_some (digest_of rows name)
listed_names name [] = refl
listed_names name (row ∷ rows) =
    ap (λ b. b || list_any (bytes_eq name) (names rows)) ((on_texts_equal (λ t. t)).symm name row.name)
    ∙ listed_or (bytes_eq row.name name) (list_any (bytes_eq name) (names rows)) row (find (λ custodian. bytes_eq custodian.name name) rows) (listed_names name rows)

digest_first : (b : Bool) (first : Custodian) (rest more : Option Custodian) (o : Option (List ℕ)) → digest_in more ≡ option_or (digest_in rest) o → digest_in (cond b (Some first) more) ≡ option_or (digest_in (cond b (Some first) rest)) o
digest_first true first rest more o h = refl
digest_first false first rest more o h = h

digest_alone : (b : Bool) (row : Custodian) → digest_in (cond b (Some row) None) ≡ cond b (Some row.digest) None
digest_alone true row = refl
digest_alone false row = refl

by_names : (rows : List Custodian) (row : Custodian) (q : List ℕ) → digest_of (rows ++ row ∷ []) q ≡ option_or (digest_of rows q) (cond (bytes_eq row.name q) (Some row.digest) None)
by_names [] row q = digest_alone (bytes_eq row.name q) row
by_names (first ∷ rows) row q =
    digest_first (bytes_eq first.name q) first (find (λ custodian. bytes_eq custodian.name q) rows) (find (λ custodian. bytes_eq custodian.name q) (rows ++ row ∷ []))
    (cond (bytes_eq row.name q) (Some row.digest) None) (by_names rows row q)

-- the digests with one custodian more: the first of a name counts
pub digest_push : (rows : List Custodian) (row : Custodian) (q : List ℕ) → option_or (digest_of rows q) (cond (bytes_eq q row.name) (Some row.digest) None) ≡ digest_of (rows ++ row ∷ []) q
digest_push rows row q =
    ap (λ b. option_or (digest_of rows q) (cond b (Some row.digest) None)) ((on_texts_equal (λ t. t)).symm q row.name) ∙ sym (by_names rows row q)

-- the answer by the four tests
abbrev by_tests : Bool → Bool → Bool → Bool → Option Custodian → Result (Option Custodian) TableRule
by_tests fields name duplicate digest row =
    unless_rule (cond fields (Some rule.Fields) (cond name (Some rule.Name) (cond duplicate (Some rule.Duplicate) (cond digest (Some rule.Digest) None)))) row

module _ (before : List (List ℕ)) (words : List (List ℕ)) where
  answer : (fields name duplicate digest : Bool) → not (length words == 2) ≡ fields → not (is_custodian_name (name_word words)) ≡ name → list_any (bytes_eq (name_word words)) before ≡ duplicate → is_err (decode_sized (digest_word words) 32) ≡ digest
      → values_answer before (Ok words) ≡ by_tests fields name duplicate digest (row_of words)
  answer fields name duplicate digest f n u d =
      ap (λ b. by_tests b (not (is_custodian_name (name_word words))) (list_any (bytes_eq (name_word words)) before) (is_err (decode_sized (digest_word words) 32)) (row_of words)) f
      ∙ ap (λ b. by_tests fields b (list_any (bytes_eq (name_word words)) before) (is_err (decode_sized (digest_word words) 32)) (row_of words)) n
      ∙ ap (λ b. by_tests fields name b (is_err (decode_sized (digest_word words) 32)) (row_of words)) u
      ∙ ap (λ b. by_tests fields name duplicate b (row_of words)) d

  pub is_duplicate : length words ≡ 2 → is_custodian_name (name_word words) ≡ true → list_any (bytes_eq (name_word words)) before ≡ true → values_answer before (Ok words) ≡ Err rule.Duplicate
  is_duplicate two n u = answer false false true (is_err (decode_sized (digest_word words) 32)) (ap (λ k. not (k == 2)) two) (ap not n) u refl

  pub is_bad_digest : length words ≡ 2 → is_custodian_name (name_word words) ≡ true → list_any (bytes_eq (name_word words)) before ≡ false → is_err (decode_sized (digest_word words) 32) ≡ true → values_answer before (Ok words) ≡ Err rule.Digest
  is_bad_digest two n u d = answer false false false true (ap (λ k. not (k == 2)) two) (ap not n) u d

  pub is_custodian : length words ≡ 2 → is_custodian_name (name_word words) ≡ true → list_any (bytes_eq (name_word words)) before ≡ false → is_err (decode_sized (digest_word words) 32) ≡ false → values_answer before (Ok words) ≡ Ok (row_of words)
  is_custodian two n u d = answer false false false false (ap (λ k. not (k == 2)) two) (ap not n) u d

-- the words of a line of two
pub first_word : (words : List (List ℕ)) (x : List ℕ) → length words ≡ 2 → x ≡ get_or words 0 x → x ≡ name_word words
first_word [] x two h = absurd (omega arith)
first_word (word ∷ words) x two h = h

pub second_word : (words : List (List ℕ)) (x : List ℕ) → length words ≡ 2 → x ≡ get_or words 1 x → x ≡ digest_word words
second_word [] x two h = absurd (omega arith)
second_word (word ∷ []) x two h = absurd (omega arith)
second_word (word ∷ next ∷ words) x two h = h

name_of_row : (words : List (List ℕ)) (digest : Option (List ℕ)) (row : Custodian) → option_map (λ d. record { name = name_word words; digest = d }) digest ≡ Some row → name_word words ≡ row.name
name_of_row words None row h = absurd (cc)
name_of_row words (Some d) row h = let same : record { name = name_word words; digest = d } ≡ row = cc in ap (λ (k : Custodian). k.name) same

-- a row's name is the name that its line lists
pub named_on : (before : List (List ℕ)) (words : Result (List (List ℕ)) TableRule) (row : Custodian) → values_answer before words ≡ Ok (Some row) → name_in words ≡ Some row.name
named_on before (Ok words) row h = ap Some (name_of_row words (result_ok (decode_sized (digest_word words) 32)) row (unless_ok (find (breaks before words) rules) (row_of words) row h))
named_on before (Err rule) row h = absurd (cc)

pub names-append : (rows : List Custodian) (row : Custodian) → names (rows ++ row ∷ []) ≡ names rows ++ row.name ∷ []
names-append [] row = refl
names-append (other ∷ rows) row = ap (λ ns. other.name ∷ ns) (names-append rows row)

-- the names of one row more are those of one line more
pub next_names : (ls : List LogicalLine) (i : ℕ) (x : LogicalLine) (before : List (List ℕ)) (rows : List Custodian) (row : Custodian) → i < length ls → x ≡ get_or ls i x → values_answer before (line_values x) ≡ Ok (Some row) → names rows ≡ names_on (take i ls)
    → names (rows ++ row ∷ []) ≡ names_on (take (i + 1) ls)
next_names ls i x before rows row below is good same =
    names-append rows row
    ∙ ap (λ ns. ns ++ row.name ∷ []) same
    ∙ ap (λ o. names_on (take i ls) ++ cons_option o []) (sym (named_on before (line_values x) row good))
    ∙ ap (λ (l : LogicalLine). names_on (take i ls) ++ cons_option (name_in (line_values l)) []) is
    ∙ sym (filter_map-append (λ l. name_in (line_values l)) (take i ls) (get_or ls i x ∷ []))
    ∙ ap names_on (sym (take_more ls i x below))

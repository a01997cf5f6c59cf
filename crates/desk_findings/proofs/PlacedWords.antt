-- Where words stand, by the crates that read their lines, and the line of a number.
use Rattle.std.proofs.Common.{◌≡◌, ◌<◌, ◌∷◌, ◌++◌, ◌∙◌, [], ℕ, Bool, true, false, ltb, List, Option, Some, None, Result, Ok, Err, IfSome, ap, arith, get_or, inl, inr, length, subst, sym}
use Rattle.std.specs.Prelude.{slice_get}
use Rattle.std.specs.List.{All, AllZip, IsAmong}
use Rattle.std.specs.List.Sorted.{IsPartitionPoint, IsPartitionedBy}
use Rattle.std.specs.Option.{IsSomeAnd, MatchOption}
use Rattle.std.proofs.lemmas.Bool.{cases_lt, cases_order, lt-ltb, ltb-false, ltb-true}
use Rattle.std.proofs.lemmas.Option.{get_or_from_slice_get, slice_get-get_or, slice_get_within}
use Rattle.std.proofs.lemmas.Slice.Zip.{AllZip-left}
use Rattle.desk_text.specs.Lines.{AreNumberedUp, LogicalLine, logical_lines}
use Rattle.desk_text.specs.Reading.{ReadsAs, split_answer}
use Rattle.desk_text.specs.Word.{RawWord, read_words}
use Rattle.desk_text.specs.declared.place.Place.{Place}
use Rattle.desk_text.specs.declared.reading.ReadError.{ReadError}
use Rattle.desk_text.specs.declared.reading.ReadError.TheVariants.{Fault, Memory}
use Rattle.desk_text.specs.declared.word.OpenQuote.{OpenQuote}
use Rattle.desk_exports.specs.Places as exports
use Rattle.desk_netgroup.specs.Slices as netgroup
use Rattle.desk_findings.specs.CheckOdd.{IsOfWord, IsOn, IsOnNumbered, IsToldAt, IsToldOn, word_numbered}
use Rattle.desk_findings.specs.PrivateCheckOdd.{AreOfWords, AreWordsOn, IsAtIndex}
use Rattle.desk_findings.specs.declared.check_odd.Among.{Among}
use Rattle.desk_findings.specs.declared.check_odd.Among.TheVariants.{Clients, Members, Words}

pub of_clients : (line : LogicalLine) (places : List Place) → All (exports.IsOnLine line) places → (text : List ℕ) → IsAmong (logical_lines text) line → All (IsOn text line) places
of_clients line places all text among k d below = let on = all k d below in record { own = on.own text among; lies = on.lies text among }

pub of_members : (line : LogicalLine) (places : List Place) → All (netgroup.IsOnLine line) places → (text : List ℕ) → IsAmong (logical_lines text) line → All (IsOn text line) places
of_members line places all text among k d below = let on = all k d below in record { own = on.own text among; lies = on.lies text among }

-- of clients and members no word is told of
client_at : (line : LogicalLine) (index : ℕ) (place : Option Place) → IsAtIndex line Clients index place
client_at line index (Some place) = tt
client_at line index None = λ place. tt

pub clients_at : (line : LogicalLine) (kind : Among) (places : List Place) → kind ≡ Clients → AreOfWords line kind places
clients_at line kind places is = subst (λ (k : Among). AreOfWords line k places) (sym is) (λ index. client_at line index (slice_get places index))

member_at : (line : LogicalLine) (index : ℕ) (place : Option Place) → IsAtIndex line Members index place
member_at line index (Some place) = tt
member_at line index None = λ place. tt

pub members_at : (line : LogicalLine) (kind : Among) (places : List Place) → kind ≡ Members → AreOfWords line kind places
members_at line kind places is = subst (λ (k : Among). AreOfWords line k places) (sym is) (λ index. member_at line index (slice_get places index))

-- ---- the places of all words

abbrev OneAt : LogicalLine → Option RawWord → Option Place → Type 0
OneAt line word (Some place) = IfSome word (IsOfWord line place)
OneAt line word None = (place : Place) → IfSome word (IsOfWord line place)

matched : (line : LogicalLine) (word : Option RawWord) (place : Option Place) → MatchOption word (Unit {0}) (λ w. IsSomeAnd place (λ p. IsOfWord line p w)) → OneAt line word place
matched line (Some word) (Some place) own = own
matched line (Some word) None own = absurd own
matched line None (Some place) own = tt
matched line None None own = λ place. tt

no_word : (line : LogicalLine) (place : Option Place) → OneAt line None place
no_word line (Some place) = tt
no_word line None = λ place. tt

to_index : (line : LogicalLine) (index : ℕ) (place : Option Place) → OneAt line (word_numbered index (read_words line)) place → IsAtIndex line Words index place
to_index line index (Some place) one = one
to_index line index None one = one

pub words_at : (line : LogicalLine) (words : List RawWord) (places : List Place) → read_words line ≡ Ok words → AllZip (λ word place. IsOfWord line place word) words places → AreOfWords line Words places
words_at line words places read all index =
    to_index line index (slice_get places index)
    (subst (λ (r : Result (List RawWord) OpenQuote). OneAt line (word_numbered index r) (slice_get places index)) (sym read)
    (matched line (slice_get words index) (slice_get places index) (AllZip-left (λ (word : RawWord) place. IsOfWord line place word) words places all index)))

pub no_words_at : (line : LogicalLine) (fault : OpenQuote) (places : List Place) → read_words line ≡ Err fault → AreOfWords line Words places
no_words_at line fault places read index =
    to_index line index (slice_get places index)
    (subst (λ (r : Result (List RawWord) OpenQuote). OneAt line (word_numbered index r) (slice_get places index)) (sym read) (no_word line (slice_get places index)))

-- one more
pub zip_push : {A B : Type 0} (R : A → B → Type 0) (xs : List A) (ys : List B) (x : A) (y : B) → AllZip R xs ys → R x y → AllZip R (xs ++ x ∷ []) (ys ++ y ∷ [])
zip_push R [] [] x y all one = (one, tt)
zip_push R [] (b ∷ ys) x y all one = absurd all
zip_push R (a ∷ xs) [] x y all one = absurd all
zip_push R (a ∷ xs) (b ∷ ys) x y all one = (all.0, zip_push R xs ys x y all.1 one)

-- ---- the line of a number

-- an element is the same whatever stands for a missing one
any_default : (lines : List LogicalLine) (i : ℕ) (d e : LogicalLine) → i < length lines → get_or lines i d ≡ get_or lines i e
any_default lines i d e within =
    let both : Some (get_or lines i d) ≡ Some (get_or lines i e) = sym (slice_get-get_or lines i d within) ∙ slice_get-get_or lines i e within in
    cc

at_one : (lines : List LogicalLine) (i j : ℕ) (d e : LogicalLine) → i < length lines → i ≡ j → get_or lines i d ≡ get_or lines j e
at_one lines i j d e within equal = any_default lines i d e within ∙ ap (λ k. get_or lines k e) equal

pub same_line : (lines : List LogicalLine) → AreNumberedUp lines → (line other : LogicalLine) → IsAmong lines line → IsAmong lines other → line.number ≡ other.number → line ≡ other
same_line lines up line other has also same =
    let i = has.0 in
    let j = also.0 in
    let own : get_or lines i line ≡ line = sym has.1.1 in
    let its : get_or lines j other ≡ other = sym also.1.1 in
    elim (cases_order i j) [
      | inl equal ↦ sym own ∙ at_one lines i j line other has.1.0 equal ∙ its
      | inr apart ↦ elim apart [
        | inl less ↦
            (let lt = up i j line less also.1.0 in
            let left = ap (λ (l : LogicalLine). l.number) own in
            let right = ap (λ (l : LogicalLine). l.number) (any_default lines j line other also.1.0 ∙ its) in
            absurd (omega arith))
        | inr more ↦
            (let lt = up j i line more has.1.0 in
            let left = ap (λ (l : LogicalLine). l.number) own in
            let right = ap (λ (l : LogicalLine). l.number) (any_default lines j line other also.1.0 ∙ its) in
            absurd (omega arith))
      ]
    ]

abbrev pub is_before : ℕ → LogicalLine → Bool
is_before number line = ltb line.number number

pub parted : (lines : List LogicalLine) → AreNumberedUp lines → (number : ℕ) → IsPartitionedBy (is_before number) lines
parted lines up number i j d le within here =
    let lt = ltb-true (get_or lines j d).number number here in
    elim (cases_lt i j) [
      | inl less ↦ lt-ltb (get_or lines i d).number number (let rise = up i j d less within in omega arith)
      | inr more ↦ (let same : i ≡ j = omega arith in ap (λ k. is_before number (get_or lines k d)) same ∙ here)
    ]

-- the line of a number is at the first place that is not before it
pub at_place : (lines : List LogicalLine) → AreNumberedUp lines → (number place : ℕ) → IsPartitionPoint (λ line. is_before number line ≡ true) (λ line. is_before number line ≡ false) lines place
    → (line : LogicalLine) → IsAmong lines line → line.number ≡ number → slice_get lines place ≡ Some line
at_place lines up number place point line has same =
    let j = has.0 in
    let is : get_or lines j line ≡ line = sym has.1.1 in
    let own = ap (λ (l : LogicalLine). l.number) is in
    elim (cases_order j place) [
      | inl equal ↦ ap (slice_get lines) (sym equal) ∙ slice_get-get_or lines j line has.1.0 ∙ ap Some is
      | inr s ↦ elim s [
        | inl less ↦ (let lt = ltb-true (get_or lines j line).number number (point.0 j line (omega arith) less) in absurd (omega arith))
        | inr more ↦
            let within : place < length lines = (let b = has.1.0 in omega arith) in
            let le = ltb-false (get_or lines place line).number number (point.1 place line (omega arith) within) in
            let rise = up place j line more has.1.0 in
            absurd (omega arith)
      ]
    ]

-- ---- a place at a word is on its line

pub on_numbered : (text : List ℕ) (number : ℕ) (kind : Among) (index : ℕ) (at : Option Place) → IsToldOn text number kind index at → IfSome at (IsOnNumbered text number)
on_numbered text number kind index None absent = tt
on_numbered text number kind index (Some place) told = record { line = told.line; among = told.among; same = told.same; on = told.on }

-- ---- what is told at the place of an index, or where there is none

pub told_at : (text : List ℕ) (number : ℕ) (kind : Among) (index : ℕ) (line : LogicalLine) (places : List Place) (place : Place) → IsAmong (logical_lines text) line → line.number ≡ number → AreWordsOn text line kind places
    → slice_get places index ≡ Some place → IsToldAt text number kind index place
told_at text number kind index line places place among same placed found = record {
  line = line;
  among = among;
  same = same;
  on = subst (IsOn text line) (get_or_from_slice_get places index place place found) (placed.on index place (slice_get_within places index place found));
  word = subst (λ (at : Option Place). IsAtIndex line kind index at) found (placed.are index);
}

pub told_anyhow : (text : List ℕ) (number : ℕ) (kind : Among) (index : ℕ) (line : LogicalLine) (places : List Place) (place : Place) → IsAmong (logical_lines text) line → line.number ≡ number → AreWordsOn text line kind places
    → slice_get places index ≡ None → IsOn text line place → IsToldAt text number kind index place
told_anyhow text number kind index line places place among same placed none on = record {
  line = line;
  among = among;
  same = same;
  on = on;
  word = subst (λ (at : Option Place). IsAtIndex line kind index at) none (placed.are index) place;
}

-- ---- what a call read

pub read_as : {T X F : Type 0} (view : T → X) (answer : Result T (ReadError F)) (spelled : Result X F) (value : T) → split_answer answer ≡ Ok (Ok value) → ReadsAs view answer spelled → spelled ≡ Ok (view value)
read_as view (Ok own) spelled value is reads = (let same : own ≡ value = cc in reads ∙ ap (λ v. Ok (view v)) same)
read_as view (Err (Fault fault)) spelled value is reads = absurd (cc)
read_as view (Err Memory) spelled value is reads = absurd (cc)

pub read_not : {T X F : Type 0} (view : T → X) (answer : Result T (ReadError F)) (spelled : Result X F) (fault : F) → split_answer answer ≡ Ok (Err fault) → ReadsAs view answer spelled → spelled ≡ Err fault
read_not view (Ok own) spelled fault is reads = absurd (cc)
read_not view (Err (Fault own)) spelled fault is reads = (let same : own ≡ fault = cc in reads ∙ ap (λ f. Err f) same)
read_not view (Err Memory) spelled fault is reads = absurd (cc)

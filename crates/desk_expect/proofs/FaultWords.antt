-- The word at fault of a line, found word by word.
use Rattle.std.proofs.Common.{◌≡◌, ◌⊎◌, ◌∙◌, ◌<◌, ◌≤◌, ◌+◌, ◌∷◌, ℕ, Bool, true, false, cond, List, [], Option, Some, None, Result, Ok, Err, IfSome, ap, arith, get_or, inl, inr, length, map, refl, subst, sym}
use Rattle.std.specs.Prelude.{find, is_none, is_some, not, slice_get}
use Rattle.std.specs.List.{position_or_len}
use Rattle.std.specs.Option.{option_map}
use Rattle.std.proofs.lemmas.Bool.{cases_lt}
use Rattle.std.proofs.lemmas.List.{get_or_default}
use Rattle.std.proofs.lemmas.List.Sums.{position_or_len_is}
use Rattle.std.proofs.lemmas.Option.{slice_get-map, slice_get_past, slice_get_read}
use Rattle.desk_text.specs.Lines.{LogicalLine}
use Rattle.desk_text.specs.Views.{word_of}
use Rattle.desk_text.specs.Word.{RawWord, read_words}
use Rattle.desk_text.specs.declared.place.Place.{Place}
use Rattle.desk_text.specs.declared.raw_word.Word.{Word}
use Rattle.desk_text.specs.declared.word.OpenQuote.{OpenQuote}
use Rattle.desk_tables.specs.declared.hosts.HostRow.{HostRow}
use Rattle.desk_netgroup.specs.declared.group_line.GroupLine.{GroupLine}
use Rattle.desk_expect.specs.Expectation.{Promise}
use Rattle.desk_expect.specs.Faults.{IsAtWord, IsOfWord, first_name, word_at_fault, word_numbered, word_out_of_form}
use Rattle.desk_expect.specs.Form as form
use Rattle.desk_expect.specs.Form.{has_form}
use Rattle.desk_expect.specs.PrivateFaults.{IsFirst, first_among, test_of}
use Rattle.desk_expect.specs.Reading.{line_answer, line_values, promise_of, unless_rule, values_answer}
use Rattle.desk_expect.specs.Rules.{breaks, rules}
use Rattle.desk_expect.specs.declared.rules.Rule.{Rule}
use Rattle.desk_expect.specs.declared.rules.Rule.TheVariants as rule_of

-- ---- none of the first passes
abbrev pub NoneUpTo : (List ℕ → Bool) → List (List ℕ) → ℕ → Type 0
NoneUpTo passes names count = (k : ℕ) → k < count → passes (get_or names k []) ≡ false

pub one_more : (passes : List ℕ → Bool) (names : List (List ℕ)) (i : ℕ) (name : List ℕ) → i < length names → name ≡ get_or names i name → NoneUpTo passes names i → passes name ≡ false → NoneUpTo passes names (i + 1)
one_more passes names i name below is none fails k within = elim (cases_lt k i) [
  | inl before ↦ none k before
  | inr over ↦
      (let same : k ≡ i = omega arith in
      ap (λ n. passes (get_or names n [])) same ∙ ap passes (get_or_default names i [] name below ∙ sym is) ∙ fails)
]

pub here : (passes : List ℕ → Bool) (names : List (List ℕ)) (i : ℕ) (name : List ℕ) → i < length names → name ≡ get_or names i name → NoneUpTo passes names i → passes name ≡ true → i ≡ position_or_len passes names
here passes names i name below is none good =
    sym (position_or_len_is passes names i [] (omega arith) none (λ within. ap passes (get_or_default names i [] name below ∙ sym is) ∙ good))

pub nowhere : (passes : List ℕ → Bool) (names : List (List ℕ)) → NoneUpTo passes names (length names) → length names ≡ position_or_len passes names
nowhere passes names none = sym (position_or_len_is passes names (length names) [] (omega arith) none (λ within. absurd (omega arith)))

-- ---- whether there is something

pub none_of : {X : Type 0} (o : Option X) → is_some o ≡ true → is_none o ≡ false
none_of None is = absurd (cc)
none_of (Some x) is = refl

pub some_of : {X : Type 0} (o : Option X) → is_some o ≡ false → is_none o ≡ true
some_of None is = refl
some_of (Some x) is = absurd (cc)

-- ---- the word of an index

of_found : (line : LogicalLine) (place : Place) (word : Option RawWord) (found : Option Word) → word ≡ option_map word_of found → ((one : Word) → found ≡ Some one → IsOfWord line place (word_of one)) → IfSome word (IsOfWord line place)
of_found line place word None is each = subst (λ (o : Option RawWord). IfSome o (IsOfWord line place)) (sym is) tt
of_found line place word (Some one) is each = subst (λ (o : Option RawWord). IfSome o (IsOfWord line place)) (sym is) (each one refl)

pub at_word : (line : LogicalLine) (words : List Word) (index : ℕ) (place : Place) → read_words line ≡ Ok (map word_of words) → ((one : Word) → slice_get words index ≡ Some one → IsOfWord line place (word_of one)) → IsAtWord line index place
at_word line words index place read each =
    of_found line place (word_numbered index (read_words line)) (slice_get words index) (ap (word_numbered index) read ∙ slice_get-map word_of words index) each

pub at_found : (line : LogicalLine) (words : List Word) (index : ℕ) (place : Place) (word : Word) → read_words line ≡ Ok (map word_of words) → index < length words → word ≡ get_or words index word → IsOfWord line place (word_of word) → IsAtWord line index place
at_found line words index place word read within is of_word =
    let there : slice_get words index ≡ Some word = slice_get_read words (length words) index word refl within is in
    at_word line words index place read (λ one found. let same : word ≡ one = cc in subst (λ (w : Word). IsOfWord line place (word_of w)) same of_word)

pub at_past : (line : LogicalLine) (words : List Word) (index : ℕ) (place : Place) → read_words line ≡ Ok (map word_of words) → length words ≤ index → IsAtWord line index place
at_past line words index place read past =
    let none : slice_get words index ≡ None = slice_get_past words index past in
    at_word line words index place read (λ one found. absurd (cc))

pub at_open : (line : LogicalLine) (fault : OpenQuote) (index : ℕ) (place : Place) → read_words line ≡ Err fault → IsAtWord line index place
at_open line fault index place read = subst (λ (r : Result (List RawWord) OpenQuote). IfSome (word_numbered index r) (IsOfWord line place)) (sym read) tt

-- ---- the first rule that a line breaks

rule_is : (o : Option Rule) (promise : Option Promise) (rule : Rule) → unless_rule o promise ≡ Err rule → o ≡ Some rule
rule_is None promise rule is = absurd (cc)
rule_is (Some own) promise rule is = (let same : own ≡ rule = cc in ap Some same)

pub first_of : (netgroups : List GroupLine) (hosts : List HostRow) (line : LogicalLine) (words : List (List ℕ)) (rule : Rule) → line_values line ≡ Ok words → line_answer netgroups hosts line ≡ Err rule → IsFirst netgroups hosts words rule
first_of netgroups hosts line words rule cut bad =
    rule_is (find (breaks netgroups hosts words) rules) (promise_of line.number words) rule (ap (values_answer netgroups hosts line.number) (sym cut) ∙ bad)

pub out_of_form : (netgroups : List GroupLine) (hosts : List HostRow) (words : List (List ℕ)) (rule : Rule) → has_form words ≡ false → IsFirst netgroups hosts words rule → word_out_of_form words ≡ word_at_fault netgroups hosts words rule
out_of_form netgroups hosts words rule none first =
    let found : Some rule_of.Form ≡ Some rule = ap (λ b. cond (not b) (Some rule_of.Form) (find (breaks netgroups hosts words) (rule_of.BadAction ∷ rule_of.BadPath ∷ rule_of.BadAddress ∷ rule_of.UnknownName ∷ rule_of.Nobody ∷ []))) (sym none) ∙ first in
    let same : rule_of.Form ≡ rule = cc in
    ap (word_at_fault netgroups hosts words) same

-- the word of the first name that breaks a rule
name_by : (netgroups : List GroupLine) (hosts : List HostRow) (words : List (List ℕ)) (rule : Rule) → (rule ≡ rule_of.BadAddress) ⊎ (rule ≡ rule_of.UnknownName) → first_name (test_of netgroups hosts rule) words ≡ word_at_fault netgroups hosts words rule
name_by netgroups hosts words rule (inl is) = subst (λ (r : Rule). first_name (test_of netgroups hosts r) words ≡ word_at_fault netgroups hosts words r) (sym is) refl
name_by netgroups hosts words rule (inr is) = subst (λ (r : Rule). first_name (test_of netgroups hosts r) words ≡ word_at_fault netgroups hosts words r) (sym is) refl

pub name_of : (netgroups : List GroupLine) (hosts : List HostRow) (words whom but : List (List ℕ)) (rule : Rule) → whom ≡ form.whom words → but ≡ form.but words → (rule ≡ rule_of.BadAddress) ⊎ (rule ≡ rule_of.UnknownName) → first_among (test_of netgroups hosts rule) whom but ≡ word_at_fault netgroups hosts words rule
name_of netgroups hosts words whom but rule whom_is but_is which =
    ap (λ w. first_among (test_of netgroups hosts rule) w but) whom_is ∙ ap (λ b. first_among (test_of netgroups hosts rule) (form.whom words) b) but_is
    ∙ name_by netgroups hosts words rule which

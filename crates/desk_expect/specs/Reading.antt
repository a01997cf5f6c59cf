-- Expectations, as a text writes them. (this project's own)
use Rattle.std.specs.Prelude.{◌≡◌, ℕ, List, Option, None, Some, Result, Ok, Err, find, map}
use Rattle.std.specs.List.{AllZip, filter_map, join_with_byte}
use Rattle.std.specs.Option.{option_map}
use Rattle.desk_text.specs.Lines.{LogicalLine, logical_lines}
use Rattle.desk_text.specs.Place.{IsOfLine, LiesIn}
use Rattle.desk_text.specs.Reading.{AnsweredLine, read_lines}
use Rattle.desk_text.specs.Word.{RawWord, read_words, word_value}
use Rattle.std.specs.List.{IsAmong}
use Rattle.desk_text.specs.declared.reading.LineFault.{LineFault}
use Rattle.desk_text.specs.declared.reading.ReadError.{ReadError}
use Rattle.desk_text.specs.declared.reading.ReadError.TheVariants.{Fault, Memory}
use Rattle.desk_text.specs.declared.word.OpenQuote.{OpenQuote as Unclosed}
use Rattle.desk_tables.specs.declared.hosts.HostRow.{HostRow}
use Rattle.desk_netgroup.specs.declared.group_line.GroupLine.{GroupLine}
use Rattle.desk_expect.specs.Action.{action_of}
use Rattle.desk_expect.specs.Expectation.{IsExpectationOf, Promise}
use Rattle.desk_expect.specs.Faults.{IsAtWord, word_at_fault}
use Rattle.desk_expect.specs.Form as form
use Rattle.desk_expect.specs.Rules.{breaks, rules, subject_of}
use Rattle.desk_expect.specs.Scope.{read_scope}
use Rattle.desk_expect.specs.declared.action.Action.{Action}
use Rattle.desk_expect.specs.declared.expectation.Expectation.{Expectation}
use Rattle.desk_expect.specs.declared.rules.PlacedFault.{PlacedFault}
use Rattle.desk_expect.specs.declared.rules.Rule.{Rule}
use Rattle.desk_expect.specs.declared.rules.Rule.TheVariants.{OpenQuote}

-- words with a blank between them
abbrev pub joined : List (List ℕ) → List ℕ
joined words = join_with_byte 32 words

-- the values of words; an open quote breaks the first rule
abbrev pub word_values : Result (List RawWord) Unclosed → Result (List (List ℕ)) Rule
word_values (Ok words) = Ok (map (λ word. word_value word.raw) words)
word_values (Err quote) = Err OpenQuote

abbrev pub line_values : LogicalLine → Result (List (List ℕ)) Rule
line_values line = word_values (read_words line)

-- what a line of these words promises with this action
abbrev pub promise_with : ℕ → List (List ℕ) → Action → Promise
promise_with number words action = record {
  line = number;
  text = joined words;
  subject = subject_of words;
  forbids = form.forbids words;
  action = action;
  scopes = filter_map read_scope (form.dirs words);
}

-- what a line of these words promises, if its action is one
abbrev pub promise_of : ℕ → List (List ℕ) → Option Promise
promise_of number words = option_map (promise_with number words) (action_of (form.action words))

abbrev pub unless_rule : Option Rule → Option Promise → Result (Option Promise) Rule
unless_rule None promise = Ok promise
unless_rule (Some rule) promise = Err rule

-- what a line of these words answers: what it promises, or the first rule that it breaks
abbrev pub words_answer : List GroupLine → List HostRow → ℕ → List (List ℕ) → Result (Option Promise) Rule
words_answer netgroups hosts number words = unless_rule (find (breaks netgroups hosts words) rules) (promise_of number words)

abbrev pub values_answer : List GroupLine → List HostRow → ℕ → Result (List (List ℕ)) Rule → Result (Option Promise) Rule
values_answer netgroups hosts number (Ok words) = words_answer netgroups hosts number words
values_answer netgroups hosts number (Err rule) = Err rule

abbrev pub line_answer : List GroupLine → List HostRow → LogicalLine → Result (Option Promise) Rule
line_answer netgroups hosts line = values_answer netgroups hosts line.number (line_values line)

abbrev pub answered : List GroupLine → List HostRow → LogicalLine → AnsweredLine Promise Rule
answered netgroups hosts line = record { number = line.number; answer = line_answer netgroups hosts line }

-- what a text of expectations says: what its lines promise, in order, or its first faulty line and the first rule that it breaks
abbrev pub read_promises : List GroupLine → List HostRow → List ℕ → Result (List Promise) (LineFault Rule)
read_promises netgroups hosts text = read_lines (map (answered netgroups hosts) (logical_lines text))

-- each is the expectation of a promise, in order
abbrev pub AreExpectationsOf : List GroupLine → List HostRow → List Promise → List Expectation → Type 0
AreExpectationsOf netgroups hosts promises expectations = AllZip (IsExpectationOf netgroups hosts) promises expectations

-- the expectations are what the lines of the text promise
pub record AreExpectationsIn (netgroups : List GroupLine) (hosts : List HostRow) (text : List ℕ) (expectations : List Expectation) : Type 0 where
  pub promises : List Promise
  pub read : read_promises netgroups hosts text ≡ Ok promises
  pub are : AreExpectationsOf netgroups hosts promises expectations

-- The fault is that of the text. It is reported at a place of the text, on a physical line of the faulty line: that of the word at
-- fault, if each quote of the line closes.
pub record IsFaultIn (netgroups : List GroupLine) (hosts : List HostRow) (text : List ℕ) (placed : PlacedFault) : Type 0 where
  pub read : read_promises netgroups hosts text ≡ Err placed.fault
  pub line : LogicalLine
  pub among : IsAmong (logical_lines text) line
  pub number : placed.fault.line ≡ line.number
  pub own : IsOfLine line placed.place
  pub lies : LiesIn text placed.place
  pub word : (words : List (List ℕ)) → line_values line ≡ Ok words → IsAtWord line (word_at_fault netgroups hosts words placed.fault.rule) placed.place

-- What was read is what the text expects, or its fault; out of memory says nothing.
abbrev pub ReadsExpectations : List GroupLine → List HostRow → List ℕ → Result (List Expectation) (ReadError PlacedFault) → Type 0
ReadsExpectations netgroups hosts text (Ok expectations) = AreExpectationsIn netgroups hosts text expectations
ReadsExpectations netgroups hosts text (Err (Fault placed)) = IsFaultIn netgroups hosts text placed
ReadsExpectations netgroups hosts text (Err Memory) = Unit {0}

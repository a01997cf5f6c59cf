-- The expectations of the lines of a text, line by line.
use Rattle.std.proofs.Common.{◌≡◌, ℕ, ◌+◌, ◌<◌, ◌++◌, List, [], ◌∷◌, Option, Result, Ok, Err, ap, get_or, length, map, sym, subst, take, ◌∙◌}
use Rattle.desk_text.specs.Lines.{LogicalLine}
use Rattle.desk_text.specs.Reading.{read_lines, split_answer}
use Rattle.desk_text.specs.declared.reading.ReadError.{ReadError}
use Rattle.desk_text.specs.declared.reading.ReadError.TheVariants.{Fault, Memory}
use Rattle.desk_tables.specs.declared.hosts.HostRow.{HostRow}
use Rattle.desk_netgroup.specs.declared.group_line.GroupLine.{GroupLine}
use Rattle.desk_expect.specs.Expectation.{IsExpectationOf, Promise}
use Rattle.desk_expect.specs.PrivateReading.{AnswersLine, ReadsLine}
use Rattle.desk_expect.specs.Reading.{AreExpectationsOf, answered, line_answer}
use Rattle.desk_expect.specs.declared.expectation.Expectation.{Expectation}
use Rattle.desk_expect.specs.declared.rules.Rule.{Rule}
use Rattle.desk_expect.proofs.Lines.{AllGood, first_faulty, good_more, zip_push}

module _ (netgroups : List GroupLine) (hosts : List HostRow) where
  -- no line is faulty, and the expectations are what the lines promise
  pub record AreGathered (lines : List LogicalLine) (found : List Expectation) : Type 0 where
    pub promises : List Promise
    pub good : AllGood (answered netgroups hosts) lines promises
    pub are : AreExpectationsOf netgroups hosts promises found

  pub one_more : (lines : List LogicalLine) (i : ℕ) (line : LogicalLine) → i < length lines → line ≡ get_or lines i line → (expectation : Expectation)
      → AnswersLine netgroups hosts (line_answer netgroups hosts line) expectation → (old new : List Expectation) → new ≡ old ++ expectation ∷ []
      → AreGathered (take i lines) old → AreGathered (take (i + 1) lines) new
  one_more lines i line below is expectation answers old new added so_far = record {
    promises = so_far.promises ++ answers.promise ∷ [];
    good = good_more (answered netgroups hosts) lines i line below is answers.promise answers.is so_far.promises so_far.good;
    are = subst (AreExpectationsOf netgroups hosts (so_far.promises ++ answers.promise ∷ [])) (sym added)
        (zip_push (IsExpectationOf netgroups hosts) so_far.promises old answers.promise expectation so_far.are answers.of);
  }

  pub faulty_line : (lines : List LogicalLine) (i : ℕ) (line : LogicalLine) → i < length lines → line ≡ get_or lines i line → (rule : Rule) → line_answer netgroups hosts line ≡ Err rule
      → (found : List Expectation) → AreGathered (take i lines) found → read_lines (map (answered netgroups hosts) lines) ≡ Err (record { line = line.number; rule = rule })
  faulty_line lines i line below is rule bad found so_far = first_faulty (answered netgroups hosts) lines i line below is rule bad so_far.promises so_far.good

  -- what a line answers, if it was read
  pub told_rule : (answer : Result (Option Promise) Rule) (r : Result Expectation (ReadError Rule)) (rule : Rule) → split_answer r ≡ Ok (Err rule) → ReadsLine netgroups hosts answer r → answer ≡ Err rule
  told_rule answer (Ok expectation) rule is reads = absurd (cc)
  told_rule answer (Err (Fault own)) rule is reads = (let same : own ≡ rule = cc in reads ∙ ap Err same)
  told_rule answer (Err Memory) rule is reads = absurd (cc)

  pub told_expectation : (answer : Result (Option Promise) Rule) (r : Result Expectation (ReadError Rule)) (expectation : Expectation) → split_answer r ≡ Ok (Ok expectation) → ReadsLine netgroups hosts answer r
      → AnswersLine netgroups hosts answer expectation
  told_expectation answer (Ok own) expectation is reads = (let same : own ≡ expectation = cc in subst (AnswersLine netgroups hosts answer) same reads)
  told_expectation answer (Err (Fault rule)) expectation is reads = absurd (cc)
  told_expectation answer (Err Memory) expectation is reads = absurd (cc)

-- What the lines of a text answer: their entries, or the first fault.
use Rattle.std.proofs.Common.{◌≡◌, ◌<◌, ℕ, Bool, true, false, not, cond, List, [], ◌∷◌, Option, Some, None, Result, Ok, Err, All, filter, length, map, refl, sym, ap, subst, ◌∙◌}
use Rattle.std.specs.List.{cons_option}
use Rattle.std.specs.Option.{option_zip}
use Rattle.std.specs.Result.{result_map_both}
use Rattle.desk_text.specs.Lines.{LogicalLine, logical_lines}
use Rattle.desk_text.specs.Reading.{answered_value, fault_at, read_lines, unless_fault}
use Rattle.desk_text.specs.declared.reading.LineFault.{LineFault}
use Rattle.desk_text.specs.declared.word.OpenQuote.{OpenQuote}
use Rattle.desk_tables.specs.FileSystems.{fs_of}
use Rattle.desk_tables.specs.declared.filesystems.FsId.{FsId}
use Rattle.desk_exports.specs.Clients.{clients_of}
use Rattle.desk_exports.specs.Entry.{entry_of, mapping_of, terms_of}
use Rattle.desk_exports.specs.Files.{answered_line, home_of, line_says, text_answer, words_say}
use Rattle.desk_exports.specs.Flavours.{flavours_of}
use Rattle.desk_exports.specs.Laws.{AnswersSayWhat, EntriesAreTheAnswers, FirstFaultIsReported, IsFirstFault, SaysWhat, faults, takes_part, takes_part_in}
use Rattle.desk_exports.specs.Lines.{read_grammar_line, unless_broken}
use Rattle.desk_exports.specs.Options.{has_option}
use Rattle.desk_exports.specs.Rules.{first_broken_rule}
use Rattle.desk_exports.specs.Tables.{TableRows}
use Rattle.desk_exports.specs.declared.entry.Entry.{Entry}
use Rattle.desk_exports.specs.declared.files.Scope.{Scope}
use Rattle.desk_exports.specs.declared.grammar.GrammarLine.{GrammarLine}
use Rattle.desk_exports.specs.declared.options.Keyword.TheVariants as keyword
use Rattle.desk_exports.specs.declared.rules.Rule.{Rule}
use Rattle.desk_exports.specs.declared.rules.Rule.TheVariants.{StrayComment}
use Rattle.desk_exports.proofs.FileLemmas.{found}
use Rattle.desk_exports.proofs.EntryLemmas.{entry_parts, term_parts}
use Rattle.desk_exports.proofs.RuleOrder.{named_if_broken}
use Rattle.desk_exports.proofs.SoundLines.{lines_are_sound}

-- an answer beside the file system that the line is read for
abbrev beside : Option FsId → Result (Option Entry) Rule → Result (Option (FsId × Entry)) Rule
beside home answer = result_map_both (option_zip home) (λ broken. broken) answer

-- what a line that is not of `V4:` answers, unless it breaks this rule
abbrev answer_unless : Option FsId → Option Rule → Option Entry → Result (Option (FsId × Entry)) Rule
answer_unless home broken entry = beside home (unless_broken broken entry)

-- what a line answers: the definition of `words_say`, with its parts as variables
abbrev answer_for : Bool → Bool → Option FsId → Option Rule → Option Entry → Result (Option (FsId × Entry)) Rule
answer_for v4 stray home broken entry = beside home (cond v4 (cond stray (Err StrayComment) (Ok None)) (unless_broken broken entry))

nothing_beside : (home : Option FsId) → option_zip {U = Entry} home None ≡ None
nothing_beside None = refl
nothing_beside (Some fs) = refl

module _ (tables : TableRows) (scope : Scope) (line : LogicalLine) where
  -- a line that breaks no rule says what it writes
  of_sound : (parts : GrammarLine) (fs : FsId) (entry : Entry) → read_grammar_line line ≡ Ok parts → home_of tables scope parts ≡ Some fs
      → first_broken_rule tables (Some fs) parts ≡ None → entry_of tables line.number parts ≡ Some entry → SaysWhat tables scope line (fs, entry)
  of_sound parts fs entry written home none spelled =
      let sound = lines_are_sound tables (Some fs) line.number parts none in
      let same : sound.entry ≡ entry = (let e : Some sound.entry ≡ Some entry = sym sound.spells ∙ spelled in cc) in
      let same_fs : sound.fs ≡ fs = (let e : Some fs ≡ Some sound.fs = sound.read_for in cc) in
      let all = entry_parts line.number parts entry (terms_of tables parts.settings) (clients_of tables.networks parts.settings parts.names) spelled in
      let terms = term_parts (has_option keyword.ReadOnly parts.settings) entry.terms (flavours_of parts.settings) (mapping_of tables parts.settings) all.terms in
      record {
        parts = parts;
        written = written;
        home = home;
        sound = (named_if_broken tables (Some fs) parts).0 none;
        number = all.number_is;
        dirs = subst (λ (x : Entry). parts.directories ≡ map Ok x.dirs) same sound.reads;
        some = subst (λ (x : Entry). 0 < length x.dirs) same sound.some;
        within = subst (λ (x : Entry). All (λ dir. fs_of tables.filesystems dir ≡ Some fs.0) x.dirs) same
            (subst (λ (f : FsId). All (λ dir. fs_of tables.filesystems dir ≡ Some f.0) sound.entry.dirs) same_fs sound.within);
        alldirs = all.alldirs;
        ro = terms.ro_is;
        flavours = terms.flavours;
        map = terms.map_is;
        clients = all.clients;
      }

  module _ (placed : FsId × Entry) (parts : GrammarLine) (written : read_grammar_line line ≡ Ok parts) where
    of_entry : (fs : FsId) (entry : Option Entry) → home_of tables scope parts ≡ Some fs → first_broken_rule tables (Some fs) parts ≡ None → entry_of tables line.number parts ≡ entry
        → answer_unless (Some fs) None entry ≡ Ok (Some placed) → SaysWhat tables scope line placed
    of_entry fs None home none spelled e = absurd (cc)
    of_entry fs (Some entry) home none spelled e =
        let same : (fs, entry) ≡ placed = cc in
        subst (SaysWhat tables scope line) same (of_sound parts fs entry written home none spelled)

    of_rule : (home : Option FsId) (broken : Option Rule) → home_of tables scope parts ≡ home → first_broken_rule tables home parts ≡ broken
        → answer_unless home broken (entry_of tables line.number parts) ≡ Ok (Some placed) → SaysWhat tables scope line placed
    of_rule home (Some r) homed first e = absurd (cc)
    of_rule None None homed first e = absurd (cc)
    of_rule (Some fs) None homed first e = of_entry fs (entry_of tables line.number parts) homed first refl e

    of_version : (v4 stray : Bool) (home : Option FsId) → home_of tables scope parts ≡ home
        → answer_for v4 stray home (first_broken_rule tables home parts) (entry_of tables line.number parts) ≡ Ok (Some placed) → SaysWhat tables scope line placed
    of_version true true home homed e = absurd (cc)
    of_version true false home homed e = absurd (let none : Ok None ≡ Ok (Some placed) = ap Ok (sym (nothing_beside home)) ∙ e in cc)
    of_version false stray home homed e = of_rule home (first_broken_rule tables home parts) homed refl e

  of_words : (placed : FsId × Entry) (parts : Result GrammarLine OpenQuote) → read_grammar_line line ≡ parts → words_say tables scope line.number parts ≡ Ok (Some placed) → SaysWhat tables scope line placed
  of_words placed (Err quote) written e = absurd (cc)
  of_words placed (Ok parts) written e = of_version placed parts written parts.is_v4 parts.has_stray_comment (home_of tables scope parts) refl e

pub answers_say_what : AnswersSayWhat
answers_say_what tables scope line placed e = of_words tables scope line placed (read_grammar_line line) refl e

record Gives {X : Type 0} (answer : Result (Option X) Rule) : Type 0 where
  value : X
  is : answer ≡ Ok (Some value)

-- a line that takes part gives something, and another line nothing
abbrev GivesIf : {X : Type 0} → Bool → Result (Option X) Rule → Type 0
GivesIf true answer = Gives answer
GivesIf false answer = answer ≡ Ok None

module _ (tables : TableRows) (scope : Scope) (number : ℕ) where
  given_by_rule : (home : Option FsId) (parts : GrammarLine) (broken : Option Rule) → first_broken_rule tables home parts ≡ broken
      → fault_at number (answer_unless home broken (entry_of tables number parts)) ≡ None → Gives (answer_unless home broken (entry_of tables number parts))
  given_by_rule home parts (Some r) first f = absurd (cc)
  given_by_rule home parts None first f =
      let sound = lines_are_sound tables home number parts first in
      record {
        value = (sound.fs, sound.entry);
        is = ap (λ o. answer_unless o None (entry_of tables number parts)) sound.read_for ∙ ap (answer_unless (Some sound.fs) None) sound.spells;
      }

  given_by_version : (v4 stray : Bool) (home : Option FsId) (parts : GrammarLine)
      → fault_at number (answer_for v4 stray home (first_broken_rule tables home parts) (entry_of tables number parts)) ≡ None
      → GivesIf (not v4) (answer_for v4 stray home (first_broken_rule tables home parts) (entry_of tables number parts))
  given_by_version true true home parts f = absurd (cc)
  given_by_version true false home parts f = ap Ok (nothing_beside home)
  given_by_version false stray home parts f = given_by_rule home parts (first_broken_rule tables home parts) refl f

  given_by_words : (parts : Result GrammarLine OpenQuote) → fault_at number (words_say tables scope number parts) ≡ None → GivesIf (takes_part_in parts) (words_say tables scope number parts)
  given_by_words (Err quote) f = absurd (cc)
  given_by_words (Ok parts) f = given_by_version parts.is_v4 parts.has_stray_comment (home_of tables scope parts) parts f

module _ {X : Type 0} (answer : LogicalLine → Result (Option X) Rule) where
  -- what lines answer, and what they give
  abbrev AreAnswers : List X → List LogicalLine → Type 0
  AreAnswers xs ls = map answer ls ≡ map (λ (x : X). Ok (Some x)) xs

  module _ (given : (l : LogicalLine) → fault_at l.number (answer l) ≡ None → GivesIf (takes_part l) (answer l)) where
    -- the fault of a line that has one comes first
    parts_of_faults : (o : Option (LineFault Rule)) (more : List (LineFault Rule)) → cons_option o more ≡ [] → (o ≡ None) × (more ≡ [])
    parts_of_faults None more e = (refl, e)
    parts_of_faults (Some fault) more e = absurd (cc)

    one_more : (l : LogicalLine) (ls : List LogicalLine) (part : Bool) → GivesIf part (answer l) → AreAnswers (found answer ls) (filter takes_part ls)
        → AreAnswers (cons_option (answered_value (answer l)) (found answer ls)) (cond part (l ∷ filter takes_part ls) (filter takes_part ls))
    one_more l ls false h are =
        let none : cons_option (answered_value (answer l)) (found answer ls) ≡ found answer ls = ap (λ b. cons_option (answered_value b) (found answer ls)) h in
        subst (λ xs. AreAnswers xs (filter takes_part ls)) (sym none) are
    one_more l ls true h are =
        let first : cons_option (answered_value (answer l)) (found answer ls) ≡ h.value ∷ found answer ls = ap (λ b. cons_option (answered_value b) (found answer ls)) h.is in
        subst (λ xs. AreAnswers xs (l ∷ filter takes_part ls)) (sym first)
        (ap (λ a. a ∷ map answer (filter takes_part ls)) h.is ∙ ap (λ rest. Ok (Some h.value) ∷ rest) are)

    each : (ls : List LogicalLine) → faults answer ls ≡ [] → AreAnswers (found answer ls) (filter takes_part ls)
    each [] e = refl
    each (l ∷ ls) e =
        let both = parts_of_faults (fault_at l.number (answer l)) (faults answer ls) e in
        one_more l ls (takes_part l) (given l both.0) (each ls both.1)

    found_of : (fs : List (LineFault Rule)) (xs found : List X) → unless_fault fs xs ≡ Ok found → (fs ≡ []) × (xs ≡ found)
    found_of [] xs found e = (refl, (cc))
    found_of (f ∷ fs) xs found e = absurd (cc)

    have_answers : (ls : List LogicalLine) (xs : List X) → read_lines (map (answered_line answer) ls) ≡ Ok xs → AreAnswers xs (filter takes_part ls)
    have_answers ls xs e =
        let both = found_of (faults answer ls) (found answer ls) xs e in
        subst (λ ys. AreAnswers ys (filter takes_part ls)) both.1 (each ls both.0)

  -- values that have the numbers of their lines are numbered as the lines are
  numbers_of : (number_of : X → ℕ) → ((l : LogicalLine) (x : X) → answer l ≡ Ok (Some x) → number_of x ≡ l.number) → (ls : List LogicalLine) (xs : List X) → AreAnswers xs ls
      → map number_of xs ≡ map (λ (l : LogicalLine). l.number) ls
  numbers_of number_of numbered [] [] e = refl
  numbers_of number_of numbered [] (x ∷ xs) e = absurd (cc)
  numbers_of number_of numbered (l ∷ ls) [] e = absurd (cc)
  numbers_of number_of numbered (l ∷ ls) (x ∷ xs) e =
      let first : answer l ≡ Ok (Some x) = cc in
      let others : AreAnswers xs ls = cc in
      ap (λ n. n ∷ map number_of xs) (numbered l x first) ∙ ap (λ ns. l.number ∷ ns) (numbers_of number_of numbered ls xs others)

pub entries_are_the_answers : EntriesAreTheAnswers
entries_are_the_answers tables scope text entries e =
    have_answers (line_says tables scope) (λ l f. given_by_words tables scope l.number (read_grammar_line l) f) (logical_lines text) entries e

-- entries have the numbers of the lines that take part
pub entry_numbers : (tables : TableRows) (scope : Scope) (text : List ℕ) (entries : List (FsId × Entry)) → text_answer tables scope text ≡ Ok entries
    → map (λ (placed : FsId × Entry). placed.1.line) entries ≡ map (λ (l : LogicalLine). l.number) (filter takes_part (logical_lines text))
entry_numbers tables scope text entries e =
    numbers_of (line_says tables scope) (λ (placed : FsId × Entry). placed.1.line) (λ l placed says. (answers_say_what tables scope l placed says).number)
    (filter takes_part (logical_lines text)) entries (entries_are_the_answers tables scope text entries e)

-- the rule of a fault is what the line answers
rule_of : {X : Type 0} (number : ℕ) (answer : Result (Option X) Rule) (fault : (LineFault Rule)) → fault_at number answer ≡ Some fault → (fault.line ≡ number) × (answer ≡ Err fault.rule)
rule_of number (Ok o) fault e = absurd (cc)
rule_of number (Err r) fault e =
    let same : fault ≡ record { line = number; rule = r } = (cc) in
    (ap (λ (f : (LineFault Rule)). f.line) same, ap Err (sym (ap (λ (f : (LineFault Rule)). f.rule) same)))

module _ {X : Type 0} (answer : LogicalLine → Result (Option X) Rule) where
  first_at : (l : LogicalLine) (ls : List LogicalLine) (fault : (LineFault Rule)) (more : List (LineFault Rule)) (o : Option (LineFault Rule)) → fault_at l.number (answer l) ≡ o → cons_option o (faults answer ls) ≡ fault ∷ more
      → (faults answer ls ≡ fault ∷ more → IsFirstFault answer ls fault) → IsFirstFault answer (l ∷ ls) fault
  first_at l ls fault more (Some f) is e later =
      let same : f ≡ fault = cc in
      let named = rule_of l.number (answer l) fault (is ∙ ap Some same) in
      record { before = []; line = l; after = ls; all = refl; sound = refl; number = named.0; rule = named.1 }
  first_at l ls fault more None is e later =
      let rest = later e in
      record {
        before = l ∷ rest.before;
        line = rest.line;
        after = rest.after;
        all = ap (λ more. l ∷ more) rest.all;
        sound = ap (λ o. cons_option o (faults answer rest.before)) is ∙ rest.sound;
        number = rest.number;
        rule = rest.rule;
      }

  first_fault : (ls : List LogicalLine) (fault : (LineFault Rule)) (more : List (LineFault Rule)) → faults answer ls ≡ fault ∷ more → IsFirstFault answer ls fault
  first_fault [] fault more e = absurd (cc)
  first_fault (l ∷ ls) fault more e = first_at l ls fault more (fault_at l.number (answer l)) refl e (λ f. first_fault ls fault more f)

  first_of : (fs : List (LineFault Rule)) (xs : List X) (fault : (LineFault Rule)) → unless_fault fs xs ≡ Err fault → (more : List (LineFault Rule)) × (fs ≡ fault ∷ more)
  first_of [] xs fault e = absurd (cc)
  first_of (f ∷ fs) xs fault e = (fs, (let same : f ≡ fault = cc in ap (λ g. g ∷ fs) same))

  first_named : (ls : List LogicalLine) (fault : (LineFault Rule)) → read_lines (map (answered_line answer) ls) ≡ Err fault → IsFirstFault answer ls fault
  first_named ls fault e =
      let first = first_of (faults answer ls) (found answer ls) fault e in
      first_fault ls fault first.0 first.1

pub first_fault_is_reported : FirstFaultIsReported
first_fault_is_reported tables scope text fault e = first_named (line_says tables scope) (logical_lines text) fault e

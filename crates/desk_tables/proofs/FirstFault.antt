-- For the law `first_fault_is_reported`: a table that is refused reports its first faulty line.
use Rattle.std.proofs.Common.{◌≡◌, ℕ, ◌⊎◌, inl, inr, List, [], ◌∷◌, Option, Some, None, Result, Ok, Err, refl, ap, sym, ◌∙◌}
use Rattle.std.specs.Prelude.{codes}
use Rattle.std.specs.List.{cons_option, filter_map}
use Rattle.desk_text.specs.Lines.{logical_lines}
use Rattle.desk_text.specs.Reading.{AnsweredLine, fault_at, fault_of, unless_fault, value_of}
use Rattle.desk_tables.specs.Custodians as custodians
use Rattle.desk_tables.specs.FileSystemsText as filesystems
use Rattle.desk_tables.specs.Groups as groups
use Rattle.desk_tables.specs.Hosts as hosts
use Rattle.desk_tables.specs.Laws.{FirstFaultIsReported, IsFirstFault, LacksSite}
use Rattle.desk_tables.specs.Networks as networks
use Rattle.desk_tables.specs.QuotedLines.{answers, lines_table}
use Rattle.desk_tables.specs.Rows.{answered_lines}
use Rattle.desk_tables.specs.Rules.{TableFault}
use Rattle.desk_tables.specs.Users as users
use Rattle.desk_tables.specs.declared.custodians.Custodian.{Custodian}
use Rattle.desk_tables.specs.declared.filesystems.Mount.{Mount}
use Rattle.desk_tables.specs.declared.rules.TableRule.{TableRule}
use Rattle.desk_tables.specs.declared.rules.TableRule.TheVariants as variant

module _ {Row : Type 0} where
  -- one good line more in front
  behind : (x : AnsweredLine Row TableRule) (xs : List (AnsweredLine Row TableRule)) (fault : TableFault) → fault_of x ≡ None → IsFirstFault xs fault → IsFirstFault (x ∷ xs) fault
  behind x xs fault good found = record {
    before = x ∷ found.before;
    line = found.line;
    after = found.after;
    all = ap (λ more. x ∷ more) found.all;
    sound = ap (λ o. cons_option o (filter_map fault_of found.before)) good ∙ found.sound;
    number = found.number;
    rule = found.rule;
  }

  by_answer : (x : AnsweredLine Row TableRule) (xs : List (AnsweredLine Row TableRule)) (fault : TableFault) (more : List TableFault) (a : Result (Option Row) TableRule) → x.answer ≡ a
      → ((rest : List TableFault) → filter_map fault_of xs ≡ fault ∷ rest → IsFirstFault xs fault) → cons_option (fault_at x.number a) (filter_map fault_of xs) ≡ fault ∷ more → IsFirstFault (x ∷ xs) fault
  by_answer x xs fault more (Ok row) is further h = behind x xs fault (ap (fault_at x.number) is) (further more h)
  by_answer x xs fault more (Err broken) is further h =
      let same : record { line = x.number; rule = broken } ≡ fault = cc in
      record {
        before = [];
        line = x;
        after = xs;
        all = refl;
        sound = refl;
        number = sym (ap (λ (f : TableFault). f.line) same);
        rule = is ∙ ap (λ (f : TableFault). Err f.rule) same;
      }

  first_by : (lines : List (AnsweredLine Row TableRule)) (fault : TableFault) (more : List TableFault) → filter_map fault_of lines ≡ fault ∷ more → IsFirstFault lines fault
  first_by [] fault more h = absurd (cc)
  first_by (x ∷ xs) fault more h = by_answer x xs fault more x.answer refl (λ rest e. first_by xs fault rest e) h

  by_faults : (lines : List (AnsweredLine Row TableRule)) (fault : TableFault) (faults : List TableFault) (values : List Row) → filter_map fault_of lines ≡ faults → unless_fault faults values ≡ Err fault → IsFirstFault lines fault
  by_faults lines fault [] values is h = absurd (cc)
  by_faults lines fault (first ∷ more) values is h =
      let same : first ≡ fault = cc in
      first_by lines fault more (is ∙ ap (λ f. f ∷ more) same)

  -- the fault that lines answer is the first
  pub first_of : (lines : List (AnsweredLine Row TableRule)) (fault : TableFault) → unless_fault (filter_map fault_of lines) (filter_map value_of lines) ≡ Err fault → IsFirstFault lines fault
  first_of lines fault h = by_faults lines fault (filter_map fault_of lines) (filter_map value_of lines) refl h

unordered : (read : Result (List Mount) TableFault) (fault : TableFault) → filesystems.in_order read ≡ Err fault → read ≡ Err fault
unordered (Ok table) fault h = absurd (cc)
unordered (Err first) fault h = h

missing_site : (text : List ℕ) (fault : TableFault) (rows : List Custodian) (found : Option Custodian) → lines_table custodians.line_answer (logical_lines text) ≡ Ok rows
    → custodians.custodian_named rows (codes "site") ≡ found → custodians.unless_missing rows found ≡ Err fault → LacksSite text fault
missing_site text fault rows (Some site) good none h = absurd (cc)
missing_site text fault rows None good none h =
    let same : record { line = 0; rule = variant.Custodian } ≡ fault = cc in
    record { rows = rows; good = good; missing = none; number = sym (ap (λ (f : TableFault). f.line) same); rule = sym (ap (λ (f : TableFault). f.rule) same) }

site_by : (text : List ℕ) (fault : TableFault) (read : Result (List Custodian) TableFault) → lines_table custodians.line_answer (logical_lines text) ≡ read → custodians.with_site read ≡ Err fault
    → IsFirstFault (answers custodians.line_answer [] (logical_lines text)) fault ⊎ LacksSite text fault
site_by text fault (Ok rows) is h = inr (missing_site text fault rows (custodians.custodian_named rows (codes "site")) is refl h)
site_by text fault (Err first) is h = inl (first_of (answers custodians.line_answer [] (logical_lines text)) fault (is ∙ h))

pub first_fault_is_reported : FirstFaultIsReported
first_fault_is_reported = record {
  of_hosts = λ text fault h. first_of (answered_lines hosts.line_answer text) fault h;
  of_networks = λ text fault h. first_of (answered_lines networks.line_answer text) fault h;
  of_users = λ text fault h. first_of (answered_lines users.line_answer text) fault h;
  of_groups = λ text fault h. first_of (answered_lines groups.line_answer text) fault h;
  of_filesystems = λ text fault h. first_of (answers filesystems.line_answer [] (logical_lines text)) fault (unordered (lines_table filesystems.line_answer (logical_lines text)) fault h);
  of_custodians = λ text fault h. site_by text fault (lines_table custodians.line_answer (logical_lines text)) refl h;
}

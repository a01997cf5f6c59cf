-- What the contracts of the reader from line to line cite.
use Rattle.std.specs.Prelude.{◌≡◌, ◌++◌, ℕ, List, [], Some, None, Option, Result, Ok, Err}
use Rattle.std.specs.Borrow.{Bor}
use Rattle.std.specs.List.{cons_option}
use Rattle.desk_text.specs.Reading.{Reads}
use Rattle.desk_text.specs.declared.reading.ReadError.{ReadError}
use Rattle.desk_text.specs.declared.reading.ReadError.TheVariants.{Fault, Memory}
use Rattle.desk_text.specs.Reading.{AnsweredLine, fault_of, value_of}
use Rattle.desk_tables.specs.Rules.{TableFault}
use Rattle.desk_tables.specs.declared.rules.TableRule.{TableRule}

-- Each call of a reader of lines answers what the line spells; `returned` relates its arguments and its result.
abbrev pub ReadsEachLine : {Alloc Row : Type 0} → (Alloc → Bor (List ℕ) → Result (Option Row) (ReadError TableRule) → Type 0) → (List ℕ → Result (Option Row) TableRule) → Type 0
ReadsEachLine {Alloc = Alloc} {Row = Row} returned answer = (alloc : Alloc) (line : Bor (List ℕ)) (read : Result (Option Row) (ReadError TableRule)) → returned alloc line read → Reads read (answer line.now)

-- The row of a line is added to those before it, or its fault is returned; out of memory says nothing.
abbrev pub PushesRow : {Row : Type 0} → Result (Unit {0}) (ReadError TableFault) → List Row → List Row → AnsweredLine Row TableRule → Type 0
PushesRow (Ok done) old new line = (fault_of line ≡ None) × (new ≡ old ++ cons_option (value_of line) [])
PushesRow (Err Memory) old new line = Unit {0}
PushesRow (Err (Fault fault)) old new line = fault_of line ≡ Some fault

-- What a reader answers: the value that the text spells, the first fault of the text, or that memory ran out. And what the
-- lines of a text come to together. (this project's own)
use Rattle.std.specs.Prelude.{◌≡◌, ℕ, List, [], ◌∷◌, Option, None, Some, Result, Ok, Err}
use Rattle.std.specs.Allocator.{alloc_error}
use Rattle.std.specs.List.{filter_map}
use Rattle.std.specs.declared.alloc.AllocError.{AllocError}
use Rattle.desk_text.specs.declared.reading.LineFault.{LineFault}
use Rattle.desk_text.specs.declared.reading.ReadError.{ReadError}
use Rattle.desk_text.specs.declared.reading.ReadError.TheVariants.{Fault, Memory}

-- The answer is what the text spells, with its value as `view` shows it; out of memory says nothing of the text.
abbrev pub ReadsAs : {T X F : Type 0} → (T → X) → Result T (ReadError F) → Result X F → Type 0
ReadsAs view (Ok value) spelled = spelled ≡ Ok (view value)
ReadsAs view (Err (Fault fault)) spelled = spelled ≡ Err fault
ReadsAs view (Err Memory) spelled = Unit {0}

-- The answer is what the text spells; out of memory says nothing of the text.
abbrev pub Reads : {X F : Type 0} → Result X (ReadError F) → Result X F → Type 0
Reads answer spelled = ReadsAs (λ value. value) answer spelled

-- an answer of which the fault is a value, and memory alone an error
abbrev pub split_answer : {X F : Type 0} → Result X (ReadError F) → Result (Result X F) AllocError
split_answer (Ok value) = Ok (Ok value)
split_answer (Err (Fault fault)) = Ok (Err fault)
split_answer (Err Memory) = Err alloc_error

-- the fault is what `returned` relates to the former one; out of memory stays that
abbrev pub MapsFault : {F G : Type 0} → (F → G → Type 0) → ReadError F → ReadError G → Type 0
MapsFault returned (Fault fault) (Fault changed) = returned fault changed
MapsFault returned (Fault fault) Memory = ⊥
MapsFault returned Memory (Fault changed) = ⊥
MapsFault returned Memory Memory = Unit {0}

-- the rule that a line breaks, with the number of the line
abbrev pub at_line : {R : Type 0} → ℕ → ReadError R → ReadError (LineFault R)
at_line number (Fault rule) = Fault (record { line = number; rule = rule })
at_line number Memory = Memory

-- a line with its number, and what it answers: a value, nothing, or the first rule that it breaks
pub record AnsweredLine (X R : Type 0) : Type 0 where
  pub number : ℕ
  pub answer : Result (Option X) R

module _ {X R : Type 0} where
  -- the fault of a line, if it breaks a rule
  abbrev pub fault_at : ℕ → Result (Option X) R → Option (LineFault R)
  fault_at number (Ok value) = None
  fault_at number (Err rule) = Some (record { line = number; rule = rule })

  abbrev pub fault_of : AnsweredLine X R → Option (LineFault R)
  fault_of line = fault_at line.number line.answer

  -- the value that was answered, if one was
  abbrev pub answered_value : Result (Option X) R → Option X
  answered_value (Ok value) = value
  answered_value (Err rule) = None

  -- the value of a line, if it has one
  abbrev pub value_of : AnsweredLine X R → Option X
  value_of line = answered_value line.answer

  -- the values, unless there is a fault: then the first
  abbrev pub unless_fault : List (LineFault R) → List X → Result (List X) (LineFault R)
  unless_fault [] values = Ok values
  unless_fault (fault ∷ more) values = Err fault

  -- The values of the lines in order, unless a line breaks a rule: then the first faulty line, and its first rule.
  abbrev pub read_lines : List (AnsweredLine X R) → Result (List X) (LineFault R)
  read_lines lines = unless_fault (filter_map fault_of lines) (filter_map value_of lines)

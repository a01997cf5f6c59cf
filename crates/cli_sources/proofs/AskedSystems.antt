-- What comes after the file systems of which a command is asked.
use Rattle.std.proofs.Common.{◌≡◌, ℕ, Bool, List, Option, Result, Ok, Err, refl, subst}
use Rattle.clap.specs.Words.{Row}
use Rattle.desk_tables.specs.declared.filesystems.Mount.{Mount}
use Rattle.cli_output.specs.declared.failure.Failure.{Failure}
use Rattle.cli_output.specs.declared.printed.Printed.{Printed}
use Rattle.cli_sources.specs.Systems.{AfterSystems, LeavesSystems, ReadsSystems}
use Rattle.cli_sources.specs.declared.subject.Subject.{Subject}

module _ (json : Bool) (subject : Subject) (rows : List Row) (others count : ℕ) (same : others ≡ count) (known left : Option (List ℕ)) (leaves : LeavesSystems subject rows known left)
    (Next : Option (List ℕ) → List Mount → Result Printed Failure → Type 0) where
  counted : (read : Result (Result (List Mount) Printed) Failure) → ReadsSystems json subject rows others known read → ReadsSystems json subject rows count known read
  counted read reads = subst (λ (n : ℕ). ReadsSystems json subject rows n known read) same reads

  -- they are there
  pub with_table : (table : List Mount) (result : Result Printed Failure) → ReadsSystems json subject rows others known (Ok (Ok table)) → Next left table result → AfterSystems json subject rows count known Next result
  with_table table result reads next = record {
    left = left;
    leaves = leaves;
    after = record { step = Ok (Ok table); is = counted (Ok (Ok table)) reads; next = next };
  }

  -- their text has a fault
  pub with_fault : (printed : Printed) → ReadsSystems json subject rows others known (Ok (Err printed)) → AfterSystems json subject rows count known Next (Ok printed)
  with_fault printed reads = record {
    left = left;
    leaves = leaves;
    after = record { step = Ok (Err printed); is = counted (Ok (Err printed)) reads; next = refl };
  }

  -- there are none
  pub without : (failure : Failure) → ReadsSystems json subject rows others known (Err failure) → AfterSystems json subject rows count known Next (Err failure)
  without failure reads = record {
    left = left;
    leaves = leaves;
    after = record { step = Err failure; is = counted (Err failure) reads; next = refl };
  }

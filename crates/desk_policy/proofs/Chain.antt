-- Files that are read one after the other.
use Rattle.std.proofs.Common.{◌≡◌, IfOk, ap, subst, sym}
use Rattle.std.specs.Prelude.{Result, Ok, Err}
use Rattle.desk_text.specs.Reading.{ReadsAs}
use Rattle.desk_text.specs.declared.reading.ReadError.{ReadError}
use Rattle.desk_text.specs.declared.reading.ReadError.TheVariants.{Fault, Memory}
use Rattle.desk_policy.specs.Parsing.{then_read}
use Rattle.desk_policy.specs.declared.site_fault.SiteFault.{SiteFault}

-- a file that is refused ends the reading
pub refused : {T U X Y : Type 0} (view : T → X) (shown : U → Y) (error : ReadError SiteFault) (read : Result X SiteFault) (next : X → Result Y SiteFault)
    → ReadsAs view (Err error) read → ReadsAs shown (Err error) (then_read read next)
refused view shown (Fault fault) read next told = ap (λ r. then_read r next) told
refused view shown Memory read next told = tt

-- after a file that was read comes the next
pub goes_on : {T X Y : Type 0} (shown : T → Y) (read : Result X SiteFault) (next : X → Result Y SiteFault) (value : X) (result : Result T (ReadError SiteFault))
    → read ≡ Ok value → ReadsAs shown result (next value) → ReadsAs shown result (then_read read next)
goes_on shown read next value result is told = subst (λ r. ReadsAs shown result (then_read r next)) (sym is) told

-- what holds of a value holds of it where it is kept
pub if_kept : {X E F : Type 0} (P : X → Type 0) (answer : Result X E) (result : Result X F) → IfOk result (λ value. answer ≡ Ok value) → IfOk answer P → IfOk result P
if_kept P answer (Ok value) kept holds = subst (λ r. IfOk r P) kept holds
if_kept P answer (Err fault) kept holds = tt

-- A text that gains pieces.
use Rattle.std.proofs.Common.{◌≡◌, Err, List, Ok, OnOk, Result, if◌then◌else◌, is_ok, ℕ}

pub on_ok : {T E P Q : Type 0} (r : Result T E) → (P → Q) → OnOk r P → OnOk r Q
on_ok (Ok value) f p = f p
on_ok (Err error) f p = p

pub added : {T E : Type 0} (r : Result T E) (text more less : List ℕ) → text ≡ (if is_ok r then more else less) → OnOk r (text ≡ more)
added (Ok value) text more less e = e
added (Err error) text more less e = tt

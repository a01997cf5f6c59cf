-- What the private contracts of the addresses cite: one part after another.
use Rattle.std.specs.Prelude.{ℕ, ◌+◌, ◌*◌, ◌^◌, ◌%◌, nat_le, not, Result, Ok, Err, List, if◌then◌else◌}
use Rattle.std.specs.Str.Parse.{digits_value}
use Rattle.desk_text.specs.Bytes.{has_leading_zero, is_digits}
use Rattle.desk_text.specs.Address.{addr_fault_number, is_byte}
use Rattle.desk_text.specs.declared.address.AddrFault.{AddrFault}
use Rattle.desk_text.specs.declared.address.AddrFault.TheVariants.{Digits, Range, LeadingZero}

-- the number that one part writes, or its first fault
abbrev pub read_octet : List ℕ → Result ℕ AddrFault
read_octet part =
    if not (is_digits part) then Err Digits
    else (if not (is_byte part) then Err Range
    else (if has_leading_zero part then Err LeadingZero
    else Ok (digits_value 10 part)))

-- the fault that is reported of two
abbrev pub first_fault : AddrFault → AddrFault → AddrFault
first_fault fault other = if nat_le (addr_fault_number fault) (addr_fault_number other) then fault else other

-- a number, in 32 bits, with one more octet behind it
abbrev pub with_octet : Result ℕ AddrFault → Result ℕ AddrFault → Result ℕ AddrFault
with_octet (Ok number) (Ok octet) = Ok ((number * 256 % 2 ^ 32 + octet) % 2 ^ 32)
with_octet (Ok number) (Err fault) = Err fault
with_octet (Err fault) (Ok octet) = Err fault
with_octet (Err fault) (Err other) = Err (first_fault fault other)

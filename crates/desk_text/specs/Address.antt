-- Addresses as text: four decimal parts of 0 to 255 with dots between them. (inet(3), in this project's own strict form)
use Rattle.std.specs.Prelude.{ℕ, ◌+◌, ◌-◌, ◌*◌, ◌/◌, ◌%◌, ◌^◌, ◌==◌, nat_le, nat_lt, Bool, not, ◌||◌, Result, Ok, Err, is_ok, List, [], ◌∷◌, length, map, fold, if◌then◌else◌}
use Rattle.std.specs.List.{slice_split, list_any, list_all, join_with_byte}
use Rattle.std.specs.Char.{is_ascii_digit}
use Rattle.std.specs.Str.Parse.{digits_value}
use Rattle.std.specs.Fmt.{decimal}
use Rattle.desk_text.specs.Bytes.{has_leading_zero, is_digits}
use Rattle.desk_text.specs.declared.address.Addr.{Addr}
use Rattle.desk_text.specs.declared.address.AddrFault.{AddrFault}
use Rattle.desk_text.specs.declared.address.AddrFault.TheVariants.{Parts, Digits, Range, LeadingZero, Prefix}

-- the number of a fault
abbrev pub addr_fault_number : AddrFault → ℕ
addr_fault_number Parts = 1
addr_fault_number Digits = 2
addr_fault_number Range = 3
addr_fault_number LeadingZero = 4
addr_fault_number Prefix = 5

-- the number of an address, its first part the highest; it is below 2^32
abbrev pub number_of : Addr → ℕ
number_of address = address.number

-- the parts of a text between its dots
abbrev pub dotted_parts : List ℕ → List (List ℕ)
dotted_parts text = slice_split (λ b. b == 46) text

-- the number that the digits write is at most 255
abbrev pub is_byte : List ℕ → Bool
is_byte part = nat_le (digits_value 10 part) 255

-- the number with these parts, the first the highest
abbrev pub parts_value : List (List ℕ) → ℕ
parts_value parts = fold (λ n part. n * 256 + digits_value 10 part) 0 parts

-- the number that the parts write; each fault is asked of all parts before the next
abbrev pub read_parts : List (List ℕ) → Result ℕ AddrFault
read_parts parts =
    if not (list_all is_digits parts) then Err Digits
    else (if not (list_all is_byte parts) then Err Range
    else (if list_any has_leading_zero parts then Err LeadingZero
    else Ok (parts_value parts)))

-- the number of the address that a text writes, or its first fault
abbrev pub read_addr : List ℕ → Result ℕ AddrFault
read_addr text = if length (dotted_parts text) == 4 then read_parts (dotted_parts text) else Err Parts

-- a text that writes an address
abbrev pub is_address : List ℕ → Bool
is_address text = is_ok (read_addr text)

-- a number whose last parts are left out: each of them is 0
abbrev pub filled : ℕ → Result ℕ AddrFault → Result ℕ AddrFault
filled missing (Ok number) = Ok (number * 256 ^ missing)
filled missing (Err fault) = Err fault

-- the number of a text of one to four parts, of which the last may be left out, or its first fault (networks(5))
abbrev pub read_short : List ℕ → Result ℕ AddrFault
read_short text =
    if nat_lt 4 (length (dotted_parts text)) then Err Parts
    else filled (4 - length (dotted_parts text)) (read_parts (dotted_parts text))

-- a text of digits and dots alone, which is never taken for the name of a host or a group (the empty text is one, too)
abbrev pub is_dotted : List ℕ → Bool
is_dotted text = list_all (λ b. is_ascii_digit b || b == 46) text

-- the four octets of an address, the first the highest
abbrev pub octets : ℕ → List ℕ
octets a = a / 2 ^ 24 ∷ a / 2 ^ 16 % 256 ∷ a / 2 ^ 8 % 256 ∷ a % 256 ∷ []

-- an address as it is printed
abbrev pub addr_text : ℕ → List ℕ
addr_text a = join_with_byte 46 (map decimal (octets a))

-- A name that writes an address has digits and dots alone, and stands for that address.
use Rattle.std.proofs.Common.{◌≡◌, ℕ, ◌==◌, ◌||◌, ◌&&◌, Bool, true, false, cond, List, [], ◌∷◌, ◌++◌, ◌∙◌, ap, arith, map, refl, sym}
use Rattle.std.specs.Prelude.{Err, not, Ok, Result, Some}
use Rattle.std.specs.Char.{is_ascii_digit}
use Rattle.std.specs.List.{list_all, onto_first}
use Rattle.std.specs.Result.{result_ok}
use Rattle.std.proofs.lemmas.Bool.{cond-false, cond-true, or_right}
use Rattle.std.proofs.lemmas.Bool.Decides.{nat_tests}
use Rattle.std.proofs.lemmas.List.{map-append}
use Rattle.std.proofs.lemmas.List.Folds.{list_any-append}
use Rattle.desk_text.specs.Address.{dotted_parts, is_dotted, number_of, read_addr}
use Rattle.desk_text.specs.AddrSet.{is_among, sorted_set}
use Rattle.desk_text.specs.Bytes.{is_digits, is_ipv6}
use Rattle.desk_text.specs.declared.address.Addr.{Addr}
use Rattle.desk_text.specs.declared.address.AddrFault.{AddrFault}
use Rattle.desk_text.specs.declared.address.AddrFault.TheVariants.{Digits, Parts}
use Rattle.desk_tables.specs.declared.hosts.HostRow.{HostRow}
use Rattle.desk_netgroup.specs.declared.group_line.GroupLine.{GroupLine}
use Rattle.desk_policy.specs.Names.{addresses_of_names, host_stands_for, is_address_like, is_read_as, number_read, stands_for}
use Rattle.desk_policy.specs.PrivateNames.{Gains}

abbrev are_digits : List (List ℕ) → Bool
are_digits parts = list_all (list_all is_ascii_digit) parts

-- ---- of tests
right_of : (x y : Bool) → (x && y) ≡ true → y ≡ true
right_of true y e = e
right_of false true e = refl
right_of false false e = e

weaker : (x y z w : Bool) → ((x && y) && z) ≡ true → (z ≡ true → w ≡ true) → (y && w) ≡ true
weaker true true z w e f = f e
weaker true false z w e f = e
weaker false true z w e f = absurd cc
weaker false false z w e f = e

regroup : (x y z : Bool) → ((x && y) && z) ≡ (x && (y && z))
regroup true y z = refl
regroup false y z = refl

or_false : (x : Bool) → (x || false) ≡ x
or_false true = refl
or_false false = refl

no_colon : (b : ℕ) (rest other : Bool) → ((is_ascii_digit b || (b == 46)) && rest) ≡ true → other ≡ false → ((b == 58) || other) ≡ false
no_colon b rest other h none = grind (arith, nat_tests)

ok_digits : (four digits : Bool) (rest : Result ℕ AddrFault) (n : ℕ) → cond four (cond (not digits) (Err Digits) rest) (Err Parts) ≡ Ok n → digits ≡ true
ok_digits true true rest n e = refl
ok_digits true false rest n e = cc
ok_digits false digits rest n e = cc

-- ---- of the parts of a text
dotted_is_no_ipv6 : (name : List ℕ) → is_dotted name ≡ true → is_ipv6 name ≡ false
dotted_is_no_ipv6 [] dotted = refl
dotted_is_no_ipv6 (b ∷ name) dotted = no_colon b (is_dotted name) (is_ipv6 name) dotted (dotted_is_no_ipv6 name (right_of _ (is_dotted name) dotted))

digits_of_parts : (parts : List (List ℕ)) → list_all is_digits parts ≡ true → are_digits parts ≡ true
digits_of_parts [] e = refl
digits_of_parts (part ∷ parts) e = weaker _ (list_all is_ascii_digit part) (list_all is_digits parts) (are_digits parts) e (digits_of_parts parts)

digits_onto : (b : ℕ) (parts : List (List ℕ)) → are_digits (onto_first b parts) ≡ (is_ascii_digit b && are_digits parts)
digits_onto b [] = regroup (is_ascii_digit b) true true
digits_onto b (part ∷ parts) = regroup (is_ascii_digit b) (list_all is_ascii_digit part) (are_digits parts)

one_more : (dot : Bool) (b : ℕ) (parts : List (List ℕ)) (rest : Bool) → are_digits parts ≡ rest → are_digits (cond dot ([] ∷ parts) (onto_first b parts)) ≡ ((is_ascii_digit b || dot) && rest)
one_more true b parts rest e = e ∙ sym (ap (λ (x : Bool). x && rest) (or_right (is_ascii_digit b) true refl))
one_more false b parts rest e =
    digits_onto b parts ∙ ap (λ (x : Bool). is_ascii_digit b && x) e ∙ ap (λ (x : Bool). x && rest) (sym (or_false (is_ascii_digit b)))

parts_dotted : (name : List ℕ) → are_digits (dotted_parts name) ≡ is_dotted name
parts_dotted [] = refl
parts_dotted (b ∷ name) = one_more (b == 46) b (dotted_parts name) (is_dotted name) (parts_dotted name)

-- ---- of addresses
read_digits : (name : List ℕ) (n : ℕ) → read_addr name ≡ Ok n → list_all is_digits (dotted_parts name) ≡ true
read_digits name n e = ok_digits _ (list_all is_digits (dotted_parts name)) _ n e

read_dotted : (name : List ℕ) (n : ℕ) → read_addr name ≡ Ok n → is_dotted name ≡ true
read_dotted name n e = sym (parts_dotted name) ∙ digits_of_parts (dotted_parts name) (read_digits name n e)

was_ok : (read : Result ℕ AddrFault) (n : ℕ) → Some n ≡ result_ok read → read ≡ Ok n
was_ok (Ok m) n e = cc
was_ok (Err fault) n e = cc

-- an address more
pub gains_one_more : (old new : List Addr) (more : Addr) → new ≡ old ++ more ∷ [] → Gains old new (λ a. number_of more == a)
gains_one_more old new more is a =
    ap (λ (xs : List Addr). is_among a (map number_of xs)) is
    ∙ ap (is_among a) (map-append number_of old (more ∷ []))
    ∙ list_any-append _ (map number_of old) (number_of more ∷ [])
    ∙ ap (λ (b : Bool). is_among a (map number_of old) || b) (or_false (number_of more == a))

module _ (hosts : List HostRow) (name : List ℕ) (a : ℕ) where
  -- a name that writes an address stands for it
  pub host_written : (n : ℕ) → Some n ≡ result_ok (read_addr name) → host_stands_for hosts name a ≡ (n == a)
  host_written n e =
      let read = was_ok (read_addr name) n e in
      let dotted = read_dotted name n read in
      cond-false (is_ipv6 name) _ _ (dotted_is_no_ipv6 name dotted) ∙ cond-true (is_dotted name) _ _ dotted ∙ ap (λ (r : Result ℕ AddrFault). is_read_as r a) read

  module _ (netgroups : List GroupLine) where
    pub name_written : (n : ℕ) → Some n ≡ result_ok (read_addr name) → stands_for netgroups hosts name a ≡ (n == a)
    name_written n e =
        cond-true (is_address_like name) _ _ (or_right (is_ipv6 name) (is_dotted name) (read_dotted name n (was_ok (read_addr name) n e))) ∙ host_written n e

-- a name that writes an address, by itself, stands for it alone
pub only_written : (netgroups : List GroupLine) (hosts : List HostRow) (name : List ℕ) (n : ℕ) → Some n ≡ result_ok (read_addr name)
    → addresses_of_names netgroups hosts (name ∷ []) ≡ n ∷ []
only_written netgroups hosts name n e =
    let read = was_ok (read_addr name) n e in
    let dotted = read_dotted name n read in
    ap (λ (xs : List ℕ). sorted_set (xs ++ [])) (
    cond-true (is_address_like name) _ _ (or_right (is_ipv6 name) (is_dotted name) dotted)
    ∙ cond-false (is_ipv6 name) _ _ (dotted_is_no_ipv6 name dotted) ∙ cond-true (is_dotted name) _ _ dotted ∙ ap number_read read)

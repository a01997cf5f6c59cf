-- The addresses under a name, for `Hosts::addresses`: as a set they are those of the rows that have the name.
use Rattle.std.proofs.Common.{◌≡◌, ◌++◌, ◌||◌, ◌==◌, ℕ, Bool, true, false, List, [], ◌∷◌, cond, filter, map, ap, sym, ◌∙◌, refl, inl, inr, arith}
use Rattle.std.specs.Prelude.{nat_lt}
use Rattle.std.specs.List.{flat_map, list_any}
use Rattle.std.specs.Str.{str_eq_ignore_ascii_case, str_to_ascii_lowercase}
use Rattle.std.proofs.lemmas.Bool.{cases_Bool, cond-true, cond-false}
use Rattle.std.proofs.lemmas.Bool.Decides.{nat_tests}
use Rattle.std.proofs.lemmas.List.{map-append}
use Rattle.desk_text.specs.AddrSet.{insert_sorted, sorted_set}
use Rattle.desk_text.specs.Address.{number_of}
use Rattle.desk_text.specs.declared.address.Addr.{Addr}
use Rattle.desk_tables.specs.PrivateIndex.{addresses_under, under}
use Rattle.desk_tables.specs.Hosts.{addresses_of_host, is_host}
use Rattle.desk_tables.specs.declared.hosts.HostRow.{HostRow}

not_less : (a : ℕ) → nat_lt a a ≡ false
not_less a = grind (arith, nat_tests)

same : (a : ℕ) → (a == a) ≡ true
same a = grind (arith, nat_tests)

-- a number that comes first, put in once more
in_front : (a : ℕ) (others : List ℕ) → insert_sorted a (a ∷ others) ≡ a ∷ others
in_front a others =
    ap (λ b. cond b (a ∷ a ∷ others) (cond (a == a) (a ∷ others) (a ∷ insert_sorted a others))) (not_less a)
    ∙ ap (λ b. cond b (a ∷ others) (a ∷ insert_sorted a others)) (same a)

by_place : (a first : ℕ) (others : List ℕ) (less equal : Bool) → nat_lt a first ≡ less → (a == first) ≡ equal → insert_sorted a (insert_sorted a others) ≡ insert_sorted a others
    → insert_sorted a (cond less (a ∷ first ∷ others) (cond equal (first ∷ others) (first ∷ insert_sorted a others))) ≡ cond less (a ∷ first ∷ others) (cond equal (first ∷ others) (first ∷ insert_sorted a others))
by_place a first others true equal l e again = in_front a (first ∷ others)
by_place a first others false true l e again =
    ap (λ b. cond b (a ∷ first ∷ others) (cond (a == first) (first ∷ others) (first ∷ insert_sorted a others))) l
    ∙ ap (λ b. cond b (first ∷ others) (first ∷ insert_sorted a others)) e
by_place a first others false false l e again =
    ap (λ b. cond b (a ∷ first ∷ insert_sorted a others) (cond (a == first) (first ∷ insert_sorted a others) (first ∷ insert_sorted a (insert_sorted a others)))) l
    ∙ ap (λ b. cond b (first ∷ insert_sorted a others) (first ∷ insert_sorted a (insert_sorted a others))) e
    ∙ ap (λ s. first ∷ s) again

-- a number put in twice is there once
insert_twice : (a : ℕ) (set : List ℕ) → insert_sorted a (insert_sorted a set) ≡ insert_sorted a set
insert_twice a [] = in_front a []
insert_twice a (first ∷ others) = by_place a first others (nat_lt a first) (a == first) refl refl (insert_twice a others)

with_first : (a : ℕ) (b : Bool) (set : List ℕ) → insert_sorted a (cond b (insert_sorted a set) set) ≡ insert_sorted a set
with_first a true set = insert_twice a set
with_first a false set = refl

module _ (name : List ℕ) where
  abbrev key : List ℕ
  key = str_to_ascii_lowercase name

  -- the addresses of one row come to its address, if one of its names is the name
  of_names : (addr : Addr) (names : List (List ℕ)) (rest : List ℕ) → sorted_set (map number_of (flat_map (λ n. under key addr (str_to_ascii_lowercase n)) names) ++ rest)
      ≡ cond (list_any (str_eq_ignore_ascii_case name) names) (insert_sorted (number_of addr) (sorted_set rest)) (sorted_set rest)
  of_names addr [] rest = refl
  of_names addr (n ∷ names) rest =
      let others : List Addr = flat_map (λ n. under key addr (str_to_ascii_lowercase n)) names in
      let is : Bool = str_eq_ignore_ascii_case name n in
      let put : List ℕ = insert_sorted (number_of addr) (sorted_set rest) in
      elim (cases_Bool is) [
        | inl e ↦
            ap (λ (found : List Addr). sorted_set (map number_of (found ++ others) ++ rest)) (cond-true is (addr ∷ []) [] e)
            ∙ ap (insert_sorted (number_of addr)) (of_names addr names rest)
            ∙ with_first (number_of addr) (list_any (str_eq_ignore_ascii_case name) names) (sorted_set rest)
            ∙ ap (λ b. cond (b || list_any (str_eq_ignore_ascii_case name) names) put (sorted_set rest)) (sym e)
        | inr e ↦
            ap (λ (found : List Addr). sorted_set (map number_of (found ++ others) ++ rest)) (cond-false is (addr ∷ []) [] e)
            ∙ of_names addr names rest
            ∙ ap (λ b. cond (b || list_any (str_eq_ignore_ascii_case name) names) put (sorted_set rest)) (sym e)
      ]

  -- the set of the addresses under a name is that of the host
  pub index_is : (rows : List HostRow) → sorted_set (map number_of (addresses_under key rows)) ≡ addresses_of_host rows name
  index_is [] = refl
  index_is (row ∷ rows) =
      let here : List Addr = flat_map (λ n. under key row.addr (str_to_ascii_lowercase n)) row.names in
      let rest : List Addr = addresses_under key rows in
      let kept : List HostRow = filter (is_host name) rows in
      let more : sorted_set (map number_of rest) ≡ addresses_of_host rows name = index_is rows in
      ap sorted_set (map-append number_of here rest)
      ∙ of_names row.addr row.names (map number_of rest)
      ∙ ap (λ set. cond (is_host name row) (insert_sorted (number_of row.addr) set) set) more
      ∙ choose (is_host name row) row kept
    where
      choose : (b : Bool) (row : HostRow) (kept : List HostRow) → cond b (insert_sorted (number_of row.addr) (sorted_set (map (λ r. number_of r.addr) kept))) (sorted_set (map (λ r. number_of r.addr) kept))
          ≡ sorted_set (map (λ r. number_of r.addr) (cond b (row ∷ kept) kept))
      choose true row kept = refl
      choose false row kept = refl

-- The first row of a name, row by row.
use Rattle.std.proofs.Common.{◌≡◌, ◌<◌, ◌+◌, ◌++◌, ◌||◌, ℕ, Bool, true, false, List, [], ◌∷◌, Option, None, Some, find, length, take, get_or, ap, sym, ◌∙◌, refl, inl, inr}
use Rattle.std.specs.Prelude.{if◌then◌else◌}
use Rattle.std.specs.List.{list_any}
use Rattle.std.specs.Option.{option_map, option_or}
use Rattle.std.specs.Str.{bytes_eq}
use Rattle.std.proofs.lemmas.Bool.{cases_Bool, cond-true, cond-false}
use Rattle.std.proofs.lemmas.List.{take_more}
use Rattle.std.proofs.lemmas.List.Folds.{find-append, list_any_more}
use Rattle.desk_text.specs.declared.address.Addr.{Addr}
use Rattle.desk_tables.specs.PrivateIndex.{is_named, numbered}
use Rattle.desk_tables.specs.declared.index.Listing.{Listing}
use Rattle.desk_tables.specs.Networks.{is_network, network_number}
use Rattle.desk_tables.specs.declared.networks.NetworkName.{NetworkName}

-- the number, if the test holds
abbrev pub given : Bool → Addr → Option Addr
given b number = if b then Some number else None

or_given : (o : Option Addr) (b c : Bool) (number : Addr) → option_or (option_or o (given b number)) (given c number) ≡ option_or o (given (b || c) number)
or_given (Some found) b c number = refl
or_given None true c number = refl
or_given None false c number = refl

-- one more name
pub names_more : (o : Option Addr) (q : List ℕ) (names : List (List ℕ)) (i : ℕ) (name : List ℕ) (number : Addr) → i < length names → name ≡ get_or names i name
    → option_or (option_or o (given (list_any (bytes_eq q) (take i names)) number)) (given (bytes_eq q name) number) ≡ option_or o (given (list_any (bytes_eq q) (take (i + 1) names)) number)
names_more o q names i name number below is =
    or_given o (list_any (bytes_eq q) (take i names)) (bytes_eq q name) number
    ∙ ap (λ n. option_or o (given (list_any (bytes_eq q) (take i names) || bytes_eq q n) number)) is
    ∙ ap (λ b. option_or o (given b number)) (sym (list_any_more (bytes_eq q) names i name below))

number_of_last : (q : List ℕ) (rows : List NetworkName) (row : NetworkName) → network_number (rows ++ row ∷ []) q ≡ option_or (network_number rows q) (given (is_network q row) row.number)
number_of_last q [] row =
    elim (cases_Bool (is_network q row)) [
      | inl e ↦
          ap (option_map (λ (r : NetworkName). r.number)) (cond-true (is_network q row) (Some row) None e)
          ∙ sym (cond-true (is_network q row) (Some row.number) None e)
      | inr e ↦
          ap (option_map (λ (r : NetworkName). r.number)) (cond-false (is_network q row) (Some row) None e)
          ∙ sym (cond-false (is_network q row) (Some row.number) None e)
    ]
number_of_last q (first ∷ rows) row =
    elim (cases_Bool (is_network q first)) [
      | inl e ↦
          ap (option_map (λ (r : NetworkName). r.number)) (cond-true (is_network q first) (Some first) (find (is_network q) (rows ++ row ∷ [])) e)
          ∙ ap (λ o. option_or (option_map (λ (r : NetworkName). r.number) o) (given (is_network q row) row.number)) (sym (cond-true (is_network q first) (Some first) (find (is_network q) rows) e))
      | inr e ↦
          ap (option_map (λ (r : NetworkName). r.number)) (cond-false (is_network q first) (Some first) (find (is_network q) (rows ++ row ∷ [])) e)
          ∙ number_of_last q rows row
          ∙ ap (λ o. option_or (option_map (λ (r : NetworkName). r.number) o) (given (is_network q row) row.number)) (sym (cond-false (is_network q first) (Some first) (find (is_network q) rows) e))
    ]

-- one more row
pub rows_more : (q : List ℕ) (rows : List NetworkName) (i : ℕ) (row : NetworkName) → i < length rows → row ≡ get_or rows i row
    → option_or (network_number (take i rows) q) (given (is_network q row) row.number) ≡ network_number (take (i + 1) rows) q
rows_more q rows i row below is =
    sym (ap (λ rs. network_number rs q) (take_more rows i row below ∙ ap (λ r. take i rows ++ r ∷ []) (sym is)) ∙ number_of_last q (take i rows) row)

-- one more listing
module _ (rows : List NetworkName) (q : List ℕ) where
  or_number : (o : Option Listing) (b : Bool) (listing : Listing) → option_map (λ (l : Listing). l.addr) (option_or o (if b then Some listing else None)) ≡ option_or (option_map (λ (l : Listing). l.addr) o) (given b listing.addr)
  or_number (Some found) b listing = refl
  or_number None true listing = refl
  or_number None false listing = refl

  pub numbered_more : (old : List Listing) (listing : Listing) → numbered rows (old ++ listing ∷ []) q ≡ option_or (numbered rows old q) (given (is_named rows q listing) listing.addr)
  numbered_more old listing =
      ap (option_map (λ (l : Listing). l.addr)) (find-append (is_named rows q) old (listing ∷ []))
      ∙ or_number (find (is_named rows q) old) (is_named rows q listing) listing

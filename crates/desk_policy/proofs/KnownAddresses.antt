-- A name more is kept with its addresses, and addresses are gained that a set has.
use Rattle.std.proofs.Common.{◌≡◌, ◌∙◌, ◌++◌, ◌||◌, ℕ, Bool, true, false, cond, List, [], ◌∷◌, ap, inl, inr, map, refl, subst, sym}
use Rattle.std.specs.Prelude.{Err, IfOk, IfSome, is_ok, Ok, OnOk, Option, Result, Some}
use Rattle.std.specs.Map.{update}
use Rattle.std.specs.Str.{bytes_eq}
use Rattle.std.proofs.lemmas.Bool.{cases_Bool, cond-false, cond-true}
use Rattle.std.proofs.lemmas.List.{map-append}
use Rattle.std.proofs.lemmas.List.Folds.{list_any-append}
use Rattle.std.proofs.lemmas.Slice.Eq.{bytes_eq-Decides}
use Rattle.desk_text.specs.Address.{number_of}
use Rattle.desk_text.specs.AddrSet.{is_among}
use Rattle.desk_text.specs.Laws.{SortedSetsAreUnique}
use Rattle.desk_text.specs.declared.address.Addr.{Addr}
use Rattle.desk_tables.specs.declared.hosts.HostRow.{HostRow}
use Rattle.desk_netgroup.specs.declared.group_line.GroupLine.{GroupLine}
use Rattle.desk_policy.specs.Names.{addresses_of_names, stands_for}
use Rattle.desk_policy.specs.PrivateNames.{Gains}
use Rattle.desk_policy.proofs.RowAddresses.{unique_by_sets}

pub if_ok : {A E : Type 0} {P Q : A → Type 0} → (result : Result A E) → ((x : A) → P x → Q x) → IfOk result P → IfOk result Q
if_ok (Ok value) f h = f value h
if_ok (Err error) f h = tt

-- what holds of each value that is kept, and of the new one under its name, holds of each then
pub one_kept : (P : List ℕ → List ℕ → Type 0) (old : List ℕ → Option (List ℕ)) (name addresses : List ℕ) → ((other : List ℕ) → IfSome (old other) (P other)) → P name addresses
    → (other : List ℕ) → IfSome (update bytes_eq old name (Some addresses) other) (P other)
one_kept P old name addresses known here other =
    elim (cases_Bool (bytes_eq name other)) as (λ _. IfSome (update bytes_eq old name (Some addresses) other) (P other)) [
      | inl same ↦ subst (λ o. IfSome o (P other)) (sym (cond-true (bytes_eq name other) (Some addresses) (old other) same))
          (subst (λ n. P n addresses) ((bytes_eq-Decides name other).0 same) here)
      | inr apart ↦ subst (λ o. IfSome o (P other)) (sym (cond-false (bytes_eq name other) (Some addresses) (old other) apart)) (known other)
    ]

or_false : (b : Bool) → (b || false) ≡ b
or_false true = refl
or_false false = refl

-- an address is among those of one name exactly if the name stands for it
pub one_name_among : SortedSetsAreUnique → (netgroups : List GroupLine) (hosts : List HostRow) (name : List ℕ) (a : ℕ)
    → is_among a (addresses_of_names netgroups hosts (name ∷ [])) ≡ stands_for netgroups hosts name a
one_name_among sets netgroups hosts name a =
    ((unique_by_sets sets netgroups hosts (name ∷ []) (addresses_of_names netgroups hosts (name ∷ []))).1 refl).each a ∙ or_false (stands_for netgroups hosts name a)

-- addresses are added at the end
pub gains_all : {X E : Type 0} (result : Result X E) (old new more : List Addr) (passes : ℕ → Bool) → new ≡ cond (is_ok result) (old ++ more) old
    → ((a : ℕ) → is_among a (map number_of more) ≡ passes a) → OnOk result (Gains old new passes)
gains_all (Ok value) old new more passes is among = λ a.
    ap (λ (xs : List Addr). is_among a (map number_of xs)) is
    ∙ ap (is_among a) (map-append number_of old more)
    ∙ list_any-append _ (map number_of old) (map number_of more)
    ∙ ap (λ b. is_among a (map number_of old) || b) (among a)
gains_all (Err error) old new more passes is among = tt

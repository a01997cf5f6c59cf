-- A user and groups that each have a number have no fault.
use Rattle.std.proofs.Common.{◌≡◌, ◌==◌, ◌&&◌, ◌∙◌, ◌||◌, ℕ, Bool, true, false, not, List, [], ◌∷◌, Option, Some, None, Ok, ap, ap₂, sym, refl, inl, inr, drop, find, get_or, length, map, arith}
use Rattle.std.specs.Prelude.{if◌then◌else◌, is_none, nat_lt}
use Rattle.std.specs.List.{cons_option, filter_map, list_any}
use Rattle.std.specs.Option.{option_map}
use Rattle.std.proofs.lemmas.Bool.{cases_Bool, cond-false}
use Rattle.std.proofs.lemmas.Bool.Decides.{nat_tests}
use Rattle.desk_text.specs.Bytes.{is_digits}
use Rattle.desk_tables.specs.ColonLines.{number_in}
use Rattle.desk_tables.specs.CredentialText.{cred_faults, gid_of, is_name, is_out_of_range, uid_of, unless_cred_fault, user_and_groups_breaks, user_and_groups_value}
use Rattle.desk_tables.specs.Groups.{group_of_name}
use Rattle.desk_tables.specs.PrivateCredentialText.{AreSoundGids, sound_gid, sound_uid, user_and_groups_answer}
use Rattle.desk_tables.specs.Users.{user_of_name}
use Rattle.desk_tables.specs.declared.credential_text.CredFault.{CredFault}
use Rattle.desk_tables.specs.declared.credential_text.CredFault.TheVariants.{UnknownUser, UnknownGroup, TooManyGroups, EmptyElement, Range}
use Rattle.desk_tables.specs.declared.groups.Group.{Group}
use Rattle.desk_tables.specs.declared.users.User.{User}

and_false : (b : Bool) → (b && false) ≡ false
and_false true = refl
and_false false = refl

is_there : {X : Type 0} (found : Option X) (n : ℕ) (f : X → ℕ) → option_map f found ≡ Some n → is_none found ≡ false
is_there None n f is = absurd (let wrong : None ≡ Some n = is in cc)
is_there (Some x) n f is = refl

-- an element with this number is no name without a row, and not out of range
record IsNumbered {X : Type 0} (element : List ℕ) (row : Option X) : Type 0 where
  pub known : (is_name element && is_none row) ≡ false
  pub in_range : is_out_of_range element ≡ false

numbered : {X : Type 0} (element : List ℕ) (row : Option X) (f : X → ℕ) (n : ℕ) → (if is_digits element then number_in element else option_map f row) ≡ Some n → IsNumbered element row
numbered element row f n is =
    elim (cases_Bool (is_digits element)) [
      | inl digits ↦
          let number : number_in element ≡ Some n = sym (ap (λ b. if b then number_in element else option_map f row) digits) ∙ is in
          record {
            known = ap (λ b. (not b && not (length element == 0)) && is_none row) digits;
            in_range = ap (λ o. is_digits element && is_none o) number ∙ and_false (is_digits element);
          }
      | inr name ↦
          let there : is_none row ≡ false = is_there row n f (sym (ap (λ b. if b then number_in element else option_map f row) name) ∙ is) in
          record {
            known = ap (λ b. is_name element && b) there ∙ and_false (is_name element);
            in_range = ap (λ b. b && is_none (number_in element)) name;
          }
    ]

-- an element that has a number is not empty, and has it as it is written
filled : (element : List ℕ) (number : Option ℕ) (n : ℕ) → (if length element == 0 then None else number) ≡ Some n → ((length element == 0) ≡ false) × (number ≡ Some n)
filled element number n is =
    elim (cases_Bool (length element == 0)) [
      | inl empty ↦ absurd (let wrong : None ≡ Some n = sym (ap (λ b. if b then None else number) empty) ∙ is in cc)
      | inr some ↦ (some, sym (ap (λ b. if b then None else number) some) ∙ is)
    ]

no_break : (p : CredFault → Bool) → p UnknownUser ≡ false → p UnknownGroup ≡ false → p TooManyGroups ≡ false → p EmptyElement ≡ false → p Range ≡ false → find p cred_faults ≡ None
no_break p a b c d e =
    cond-false (p UnknownUser) (Some UnknownUser) (find p (UnknownGroup ∷ TooManyGroups ∷ EmptyElement ∷ Range ∷ [])) a
    ∙ cond-false (p UnknownGroup) (Some UnknownGroup) (find p (TooManyGroups ∷ EmptyElement ∷ Range ∷ [])) b
    ∙ cond-false (p TooManyGroups) (Some TooManyGroups) (find p (EmptyElement ∷ Range ∷ [])) c
    ∙ cond-false (p EmptyElement) (Some EmptyElement) (find p (Range ∷ [])) d
    ∙ cond-false (p Range) (Some Range) None e

module _ (users : List User) (groups : List Group) where
  -- groups that have these numbers
  record Numbered (others : List (List ℕ)) (gids : List ℕ) : Type 0 where
    pub known : list_any (λ e. is_name e && is_none (group_of_name groups e)) others ≡ false
    pub some : list_any (λ e. length e == 0) others ≡ false
    pub in_range : list_any is_out_of_range others ≡ false
    pub numbers : filter_map (gid_of groups) others ≡ gids
    pub count : length others ≡ length gids

  groups_numbered : (others : List (List ℕ)) (gids : List ℕ) → map (sound_gid groups) others ≡ map Some gids → Numbered others gids
  groups_numbered [] [] is = record { known = refl; some = refl; in_range = refl; numbers = refl; count = refl }
  groups_numbered [] (gid ∷ gids) is = absurd (omega (arith, ap length is))
  groups_numbered (e ∷ es) [] is = absurd (omega (arith, ap length is))
  groups_numbered (e ∷ es) (gid ∷ gids) is =
      let here = filled e (gid_of groups e) gid (ap (λ l. get_or l 0 None) is) in
      let one = numbered e (group_of_name groups e) (λ (g : Group). g.gid) gid here.1 in
      let rest = groups_numbered es gids (ap (drop 1) is) in
      record {
        known = ap₂ (λ x y. x || y) one.known rest.known;
        some = ap₂ (λ x y. x || y) here.0 rest.some;
        in_range = ap₂ (λ x y. x || y) one.in_range rest.in_range;
        numbers = ap₂ (λ o l. cons_option o l) here.1 rest.numbers;
        count = omega (arith, rest.count);
      }

  -- a user and groups that each have a number stand for their credential
  pub sound_answer : (user : List ℕ) (others : List (List ℕ)) (uid : ℕ) (gids : List ℕ) → sound_uid users user ≡ Some uid → AreSoundGids groups others gids → user_and_groups_answer users groups user others ≡ Some (Ok (record { uid = uid; gids = gids }))
  sound_answer user others uid gids known sound =
      let here = filled user (uid_of users user) uid known in
      let one = numbered user (user_of_name users user) (λ (u : User). u.uid) uid here.1 in
      let rest = groups_numbered others gids sound.0 in
      let few : nat_lt 16 (length others) ≡ false = grind (arith, nat_tests, rest.count, sound.1) in
      let none : find (user_and_groups_breaks users groups user others) cred_faults ≡ None =
      no_break (user_and_groups_breaks users groups user others) one.known rest.known few (ap₂ (λ x y. x || y) here.0 rest.some) (ap₂ (λ x y. x || y) one.in_range rest.in_range) in
      ap (λ fault. unless_cred_fault fault (user_and_groups_value users groups user others)) none
      ∙ ap₂ (λ found (ids : List ℕ). option_map Ok (option_map (λ n. record { uid = n; gids = ids }) found)) here.1 rest.numbers

-- What stands for a credential has none of the faults of credentials.
use Rattle.std.proofs.Common.{◌≡◌, ◌⊎◌, inl, inr, Bool, true, false, List, [], ◌∷◌, Option, Some, None, Result, Ok, Err, find, refl, sym, ◌∙◌}
use Rattle.std.specs.Prelude.{is_ok}
use Rattle.std.specs.List.{list_any}
use Rattle.std.proofs.lemmas.Bool.{cases_Bool, cond-true, cond-false, or_parts}
use Rattle.desk_tables.specs.CredentialText.{cred_faults, unless_cred_fault}
use Rattle.desk_tables.specs.declared.credentials.Cred.{Cred}
use Rattle.desk_tables.specs.declared.credential_text.CredFault.{CredFault}
use Rattle.desk_tables.specs.declared.credential_text.CredFault.TheVariants.{UnknownUser, UnknownGroup, TooManyGroups, EmptyElement, Range}
use Rattle.desk_exports.proofs.RulesAsked.{neither}

none_passes : {X : Type 0} (p : X → Bool) (xs : List X) → find p xs ≡ None → list_any p xs ≡ false
none_passes p [] e = refl
none_passes p (x ∷ xs) e =
    let tested : (p x ≡ true) ⊎ (p x ≡ false) = cases_Bool (p x) in
    elim tested [
      | inl passes ↦ (let found : Some x ≡ None = sym (cond-true (p x) (Some x) (find p xs) passes) ∙ e in absurd (cc))
      | inr fails ↦ neither (p x) (list_any p xs) fails (none_passes p xs (sym (cond-false (p x) (Some x) (find p xs) fails) ∙ e))
    ]

none_found : (found : Option CredFault) (value : Option Cred) (cred : Cred) → unless_cred_fault found value ≡ Some (Ok cred) → found ≡ None
none_found None value cred e = refl
none_found (Some fault) value cred e = absurd (cc)

among_all : (p : CredFault → Bool) → list_any p cred_faults ≡ false → (fault : CredFault) → p fault ≡ false
among_all p e UnknownUser = (or_parts (p UnknownUser) _ e).0
among_all p e UnknownGroup = (or_parts (p UnknownGroup) _ (or_parts (p UnknownUser) _ e).1).0
among_all p e TooManyGroups = (or_parts (p TooManyGroups) _ (or_parts (p UnknownGroup) _ (or_parts (p UnknownUser) _ e).1).1).0
among_all p e EmptyElement = (or_parts (p EmptyElement) _ (or_parts (p TooManyGroups) _ (or_parts (p UnknownGroup) _ (or_parts (p UnknownUser) _ e).1).1).1).0
among_all p e Range = (or_parts (p Range) _ (or_parts (p EmptyElement) _ (or_parts (p TooManyGroups) _ (or_parts (p UnknownGroup) _ (or_parts (p UnknownUser) _ e).1).1).1).1).0

pub faultless : (p : CredFault → Bool) (value : Option Cred) (answer : Result Cred CredFault) → is_ok answer ≡ true → Some answer ≡ unless_cred_fault (find p cred_faults) value
    → (fault : CredFault) → p fault ≡ false
faultless p value (Ok cred) ok e = among_all p (none_passes p cred_faults (none_found (find p cred_faults) value cred (sym e)))
faultless p value (Err wrong) ok e = absurd (cc)

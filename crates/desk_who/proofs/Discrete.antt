-- Two verdicts are the same or not.
use Rattle.std.proofs.Common.{zero, suc, ◌≡◌, ◌≢◌, ℕ, Bool, true, false, List, [], ◌∷◌, ap, refl, sym, ◌∙◌, inl, inr, ◌⊎◌}
use Rattle.std.specs.Prelude.{Result, Ok, Err}
use Rattle.std.proofs.lemmas.Bool.{cases_eq}
use Rattle.desk_tables.specs.declared.credentials.Cred.{Cred}
use Rattle.desk_tables.specs.declared.filesystems.FsId.{FsId}
use Rattle.desk_exports.specs.declared.entry.Flavour.{Flavour}
use Rattle.desk_exports.specs.declared.entry.Flavour.TheVariants.{Sys, Krb5, Krb5i, Krb5p}
use Rattle.desk_exports.specs.declared.entry.Mapping.{Mapping}
use Rattle.desk_exports.specs.declared.entry.Mapping.TheVariants.{Root, All}
use Rattle.desk_exports.specs.declared.entry.Terms.{Terms}
use Rattle.desk_policy.specs.Verdict.{Grant}
use Rattle.desk_policy.specs.declared.verdict.Denial.{Denial}
use Rattle.desk_policy.specs.declared.verdict.Denial.TheVariants.{NoFileSystem, NoLine, NotListed}

abbrev IsSameOrNot : {A : Type 0} → A → A → Type 0
IsSameOrNot x y = (x ≡ y) ⊎ (x ≢ y)

-- by a function that tells values apart, and keeps equal ones equal
by_part : {A B : Type 0} (x y : A) (part : A → B) → IsSameOrNot (part x) (part y) → (part x ≡ part y → IsSameOrNot x y) → IsSameOrNot x y
by_part x y part compared next = elim compared as (λ _. IsSameOrNot x y) [ inl is ↦ next is | inr apart ↦ inr (λ e. apart (ap part e)) ]

two_lists : {A : Type 0} → ((x y : A) → IsSameOrNot x y) → (xs ys : List A) → IsSameOrNot xs ys
two_lists compare [] [] = inl refl
two_lists compare [] (y ∷ ys) = inr (λ e. cc)
two_lists compare (x ∷ xs) [] = inr (λ e. cc)
two_lists compare (x ∷ xs) (y ∷ ys) =
    elim (compare x y) as (λ _. IsSameOrNot (x ∷ xs) (y ∷ ys)) [
      | inl is ↦ elim (two_lists compare xs ys) as (λ _. IsSameOrNot (x ∷ xs) (y ∷ ys)) [
        | inl are ↦ inl (ap (λ z. z ∷ xs) is ∙ ap (λ zs. y ∷ zs) are)
        | inr apart ↦ inr (λ e. apart (cc))
      ]
      | inr apart ↦ inr (λ e. apart (cc))
    ]

two_bools : (x y : Bool) → IsSameOrNot x y
two_bools true true = inl refl
two_bools true false = inr (λ e. cc)
two_bools false true = inr (λ e. cc)
two_bools false false = inl refl

place : Flavour → ℕ
place Sys = 0
place Krb5 = 1
place Krb5i = 2
place Krb5p = 3

at_place : ℕ → Flavour
at_place n = elim n [ zero ↦ Sys | suc a ↦ elim a [ zero ↦ Krb5 | suc b ↦ elim b [ zero ↦ Krb5i | suc c ↦ Krb5p ] ] ]

back : (flavour : Flavour) → at_place (place flavour) ≡ flavour
unfolding place at_place
back Sys = refl
back Krb5 = refl
back Krb5i = refl
back Krb5p = refl

two_flavours : (x y : Flavour) → IsSameOrNot x y
two_flavours x y = by_part x y place (cases_eq (place x) (place y)) (λ is. inl (sym (back x) ∙ ap at_place is ∙ back y))

two_creds : (x y : Cred) → IsSameOrNot x y
two_creds x y =
    by_part x y (λ cred. cred.uid) (cases_eq x.uid y.uid)
    (λ uid. by_part x y (λ cred. cred.gids) (two_lists cases_eq x.gids y.gids)
    (λ gids. inl (ap (λ n. record { uid = n; gids = x.gids }) uid ∙ ap (λ ns. record { uid = y.uid; gids = ns }) gids)))

two_mappings : (x y : Mapping) → IsSameOrNot x y
two_mappings (Root x) (Root y) = elim (two_creds x y) as (λ _. IsSameOrNot (Root x) (Root y)) [ inl is ↦ inl (ap Root is) | inr apart ↦ inr (λ e. apart (cc)) ]
two_mappings (Root x) (All y) = inr (λ e. cc)
two_mappings (All x) (Root y) = inr (λ e. cc)
two_mappings (All x) (All y) = elim (two_creds x y) as (λ _. IsSameOrNot (All x) (All y)) [ inl is ↦ inl (ap All is) | inr apart ↦ inr (λ e. apart (cc)) ]

two_terms : (x y : Terms) → IsSameOrNot x y
two_terms x y =
    by_part x y (λ terms. terms.ro) (two_bools x.ro y.ro)
    (λ ro. by_part x y (λ terms. terms.flavours) (two_lists two_flavours x.flavours y.flavours)
    (λ flavours. by_part x y (λ terms. terms.map) (two_mappings x.map y.map)
    (λ map. inl (ap (λ b. record { ro = b; flavours = x.flavours; map = x.map }) ro ∙ ap (λ f. record { ro = y.ro; flavours = f; map = x.map }) flavours ∙ ap (λ m. record { ro = y.ro; flavours = y.flavours; map = m }) map))))

two_places : (x y : FsId) → IsSameOrNot x y
two_places x y = by_part x y (λ fs. fs.0) (cases_eq x.0 y.0) (λ is. inl (ap (λ n. record { 0 = n }) is))

two_grants : (x y : Grant) → IsSameOrNot x y
two_grants x y =
    by_part x y (λ grant. grant.fs) (two_places x.fs y.fs)
    (λ fs. by_part x y (λ grant. grant.line) (cases_eq x.line y.line)
    (λ line. by_part x y (λ grant. grant.terms) (two_terms x.terms y.terms)
    (λ terms. inl (ap (λ f. record { fs = f; line = x.line; terms = x.terms }) fs ∙ ap (λ n. record { fs = y.fs; line = n; terms = x.terms }) line ∙ ap (λ t. record { fs = y.fs; line = y.line; terms = t }) terms))))

two_denials : (x y : Denial) → IsSameOrNot x y
two_denials NoFileSystem NoFileSystem = inl refl
two_denials NoFileSystem (NoLine fs) = inr (λ e. cc)
two_denials NoFileSystem (NotListed fs line) = inr (λ e. cc)
two_denials (NoLine fs) NoFileSystem = inr (λ e. cc)
two_denials (NoLine fs) (NoLine other) = elim (two_places fs other) as (λ _. IsSameOrNot (NoLine fs) (NoLine other)) [ inl is ↦ inl (ap NoLine is) | inr apart ↦ inr (λ e. apart (cc)) ]
two_denials (NoLine fs) (NotListed other line) = inr (λ e. cc)
two_denials (NotListed fs line) NoFileSystem = inr (λ e. cc)
two_denials (NotListed fs line) (NoLine other) = inr (λ e. cc)
two_denials (NotListed fs line) (NotListed other number) =
    elim (two_places fs other) as (λ _. IsSameOrNot (NotListed fs line) (NotListed other number)) [
      | inl is ↦ elim (cases_eq line number) as (λ _. IsSameOrNot (NotListed fs line) (NotListed other number)) [
        | inl same ↦ inl (ap (λ f. NotListed f line) is ∙ ap (NotListed other) same)
        | inr apart ↦ inr (λ e. apart (cc))
      ]
      | inr apart ↦ inr (λ e. apart (cc))
    ]

pub two_verdicts : (x y : Result Grant Denial) → IsSameOrNot x y
two_verdicts (Ok x) (Ok y) = elim (two_grants x y) as (λ _. IsSameOrNot {A = Result Grant Denial} (Ok x) (Ok y)) [ inl is ↦ inl (ap Ok is) | inr apart ↦ inr (λ e. apart (cc)) ]
two_verdicts (Ok x) (Err y) = inr (λ e. cc)
two_verdicts (Err x) (Ok y) = inr (λ e. cc)
two_verdicts (Err x) (Err y) = elim (two_denials x y) as (λ _. IsSameOrNot {A = Result Grant Denial} (Err x) (Err y)) [ inl is ↦ inl (ap Err is) | inr apart ↦ inr (λ e. apart (cc)) ]

-- What lines list, with one line more.
use Rattle.std.proofs.Common.{◌≡◌, ◌∙◌, ◌||◌, ◌&&◌, Bool, Bor, List, [], ◌∷◌, None, Option, Some, ap, inl, inr, not, refl, sym}
use Rattle.std.specs.Prelude.{find}
use Rattle.std.specs.List.{list_any}
use Rattle.std.specs.Option.{is_some, option_copied}
use Rattle.std.proofs.lemmas.Bool.{cases_Bool, cond-false, cond-true, or_left}
use Rattle.desk_policy.specs.Listings.{written}
use Rattle.desk_policy.specs.declared.row.Row.{Row}
use Rattle.desk_idle.specs.Laws.{brings}
use Rattle.desk_idle.specs.Listed.{IsListedBy}
use Rattle.desk_idle.specs.declared.listed.Listed.{Listed}
use Rattle.desk_idle.proofs.Directories.{Path, is_new}

pub brings_by : (listed : Listed) (earlier : List Row) (row : Row) (new brought : Bool) → IsListedBy listed earlier → new ≡ list_any (is_new (written earlier)) row.entry.dirs
    → brought ≡ (not listed.alldirs && (row.entry.alldirs || new)) → brought ≡ brings earlier row
brings_by listed earlier row new brought is any e =
    e ∙ ap (λ b. not b && (row.entry.alldirs || new)) is.alldirs ∙ ap (λ b. not (list_any (λ (r : Row). r.entry.alldirs) earlier) && (row.entry.alldirs || b)) any

pub some_copied : (o : Option (Bor Path)) → is_some o ≡ is_some (option_copied o)
some_copied None = refl
some_copied (Some dir) = refl

-- a directory that passes is found exactly if there is one
pub any_found : (p : Path → Bool) (dirs : List Path) → is_some (find p dirs) ≡ list_any p dirs
any_found p [] = refl
any_found p (dir ∷ dirs) =
    elim (cases_Bool (p dir)) [
      | inl t ↦ ap is_some (cond-true (p dir) (Some dir) (find p dirs) t) ∙ sym (or_left (p dir) (list_any p dirs) t)
      | inr f ↦ ap is_some (cond-false (p dir) (Some dir) (find p dirs) f) ∙ any_found p dirs ∙ sym (ap (λ b. b || list_any p dirs) f)
    ]

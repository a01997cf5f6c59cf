-- Refusals as they are printed. (this project's own)
use Rattle.std.specs.Prelude.{ℕ, List, ◌∷◌, ◌++◌, codes}
use Rattle.std.specs.Fmt.{decimal}
use Rattle.desk_policy.specs.SiteFault.{fault_line}
use Rattle.desk_core.specs.Edit.{refusal_name, refusal_number}
use Rattle.desk_core.specs.declared.edit.Refusal.{Refusal}
use Rattle.desk_core.specs.declared.edit.Refusal.TheVariants as refusal

-- a refusal by its number and name, as `refused 4 NotCustodian`
abbrev pub numbered_line : Refusal → List ℕ
numbered_line refused = codes "refused " ++ decimal (refusal_number refused) ++ 32 ∷ refusal_name refused

-- a refusal: by its number and name, with that of the newest revision if it is stale, as `refused 7 Stale 2`; or by the
-- fault of the site alone
abbrev pub refusal_line : Refusal → List ℕ
refusal_line (refusal.Stale newest) = numbered_line (refusal.Stale newest) ++ 32 ∷ decimal newest
refusal_line (refusal.Fault fault) = fault_line fault
refusal_line refused = numbered_line refused

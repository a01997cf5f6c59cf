use denote.Enum.Bare.{same_true}
use denote.Enum.Declared.{tag_of}
use Rattle.std.proofs.Common.{◌≡◌, ap, rules}
use Rattle.std.specs.Bool.{Decides}
use Rattle.std.proofs.lemmas.Bool.{eq-eqb}
use Rattle.std.proofs.lemmas.Slice.Eq.{slice_eq-Decides}
use Rattle.desk_exports.specs.Flavours.{same_flavour}
use Rattle.desk_exports.specs.contracts.entry.Flavour.{the_type}
use Rattle.desk_exports.specs.declared.entry.Flavour.{Flavour}
use Rattle.desk_policy.proofs.terms.same_flavours.Goals as goal

same_Decides : (a b : Flavour) → Decides (same_flavour a b) (a ≡ b)
same_Decides a b = (λ e. same_true the_type (search rules) a b e, λ e. eq-eqb (tag_of the_type a) (tag_of the_type b) (ap (tag_of the_type) e))

pub returns : goal.returns
returns c = slice_eq-Decides same_Decides _ _ _ c.eq.ensures

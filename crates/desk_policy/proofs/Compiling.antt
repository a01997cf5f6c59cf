-- A view of the policy that was read is a view of the site.
use Rattle.std.proofs.Common.{◌≡◌, ◌∙◌, ap, refl, subst, sym}
use Rattle.std.specs.Prelude.{Result, Ok, Err}
use Rattle.desk_text.specs.Reading.{Reads}
use Rattle.desk_text.specs.declared.reading.ReadError.{ReadError}
use Rattle.desk_text.specs.declared.reading.ReadError.TheVariants.{Fault, Memory}
use Rattle.desk_policy.specs.Contradiction.{HasNoContradiction}
use Rattle.desk_policy.specs.Parsing.{read_site}
use Rattle.desk_policy.specs.Policy.{Content}
use Rattle.desk_policy.specs.Site.{SiteTexts}
use Rattle.desk_policy.specs.View.{Builds, Compiles, IsFaultOf}
use Rattle.desk_policy.specs.declared.site_fault.SiteFault.{SiteFault}

pub refused_site : {V : Type 0} (in_force : V → Content) (texts : SiteTexts) (error : ReadError SiteFault) → Reads {X = Content} (Err error) (read_site texts) → Compiles in_force texts (Err error)
refused_site in_force texts (Fault fault) told = let P : Result Content SiteFault → Type 0 = λ read. IsFaultOf read fault in subst P (sym told) refl
refused_site in_force texts Memory told = tt

pub compiles : {V : Type 0} (in_force : V → Content) (policy : Content) (texts : SiteTexts) (result : Result V (ReadError SiteFault)) → read_site texts ≡ Ok policy → Builds in_force policy result → Compiles in_force texts result
compiles in_force policy texts (Ok view) e built = (e ∙ ap Ok (sym built.0), subst HasNoContradiction (sym built.0) built.1)
compiles in_force policy texts (Err (Fault fault)) e built = let P : Result Content SiteFault → Type 0 = λ read. IsFaultOf read fault in subst P (sym e) built
compiles in_force policy texts (Err Memory) e built = tt

use Rattle.std.proofs.Common.{◌∙◌, Bor, List, rules}
use borrow.Author.Tests.{tests}
use Rattle.std.proofs.lemmas.Iterator.{YieldsList-from_slice}
use Rattle.std.proofs.lemmas.Iterator.Search.{any_from_yields_List}
use Rattle.desk_exports.specs.declared.entry.Flavour.{Flavour}
use Rattle.page_findings.specs.Flavours.{same_flavours}
use Rattle.page_findings.proofs.Mapped.{any_mapped}
use Rattle.page_findings.proofs.flavours.is_among.Goals as goal

pub returns : goal.returns
returns c =
    any_from_yields_List (λ (other : Bor (List Flavour)). same_flavours other.now c.args.flavours.now) _ _ _ c.any.ensures.ran (YieldsList-from_slice c.args.lists.now cc) (λ x b q k. search (rules, tests))
    ∙ any_mapped (λ (list : Bor (List Flavour)). list.now) (λ other. same_flavours other c.args.flavours.now) c.args.lists.now

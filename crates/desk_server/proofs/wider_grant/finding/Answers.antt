use Rattle.std.proofs.Common.{◌≡◌, ◌∙◌, ◌∷◌, Some, None, ap, nat_cmp, subst, sym}
use Rattle.std.specs.BTreeMap as tree
use Rattle.desk_exports.specs.declared.entry.Entry.{Entry}
use Rattle.desk_policy.specs.Policy.{rows_of}
use Rattle.desk_server.specs.PrivateWiderGrants.{IsTold}
use Rattle.desk_server.proofs.Finding.{finding, no_finding}
use Rattle.desk_server.proofs.wider_grant.finding.Goals as goal

pub returns-in-Some : goal.returns-in-Some
returns-in-Some c = λ content fs is told.
    let line = c.args.row.now.entry.line in
    let known = c.args.known.now in
    let found : Some c.in-Some.look ≡ tree.get nat_cmp known line = c.in-Some.ensures ∙ c.get.ensures.value ∙ ap (λ (entry : Entry). tree.get nat_cmp known entry.line) c.deref.ensures in
    finding content fs is told.starts told.are line c.in-Some.look (subst (IsTold (rows_of content fs) (0 ∷ told.starts) line) (sym found) (told.tell line))

pub returns-in-None : goal.returns-in-None
returns-in-None c = λ content fs is told.
    let line = c.args.row.now.entry.line in
    let known = c.args.known.now in
    let found : None ≡ tree.get nat_cmp known line = c.in-None.ensures ∙ c.get.ensures.value ∙ ap (λ (entry : Entry). tree.get nat_cmp known entry.line) c.deref.ensures in
    no_finding content fs is told.starts told.are line (subst (IsTold (rows_of content fs) (0 ∷ told.starts) line) (sym found) (told.tell line))

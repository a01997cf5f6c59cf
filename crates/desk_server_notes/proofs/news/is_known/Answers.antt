-- By what is kept of its address.
use Rattle.std.proofs.Common.{◌≡◌, ◌∙◌, ℕ, None, Option, Some, ap, nat_cmp}
use Rattle.std.specs.BTreeMap as tree
use Rattle.desk_text.specs.Address.{number_of}
use Rattle.desk_server.specs.declared.wider_grant.WiderGrant.{WiderGrant}
use Rattle.desk_server_notes.specs.PrivateNews.{is_known_as}
use Rattle.desk_server_notes.proofs.news.is_known.Goals as goal

pub returns-in-Some : goal.returns-in-Some
returns-in-Some c =
    let one = c.args.one in
    let known = c.args.known.now in
    let found : Some c.in-Some.old ≡ tree.get nat_cmp known (number_of one.address) = c.in-Some.ensures ∙ c.get.ensures.value ∙ ap (λ (n : ℕ). tree.get nat_cmp known n) c.number.ensures in
    c.is_same_directory.ensures ∙ ap (λ (o : Option WiderGrant). is_known_as o one) found

pub returns-in-None : goal.returns-in-None
returns-in-None c =
    let one = c.args.one in
    let known = c.args.known.now in
    let found : None ≡ tree.get nat_cmp known (number_of one.address) = c.in-None.ensures ∙ c.get.ensures.value ∙ ap (λ (n : ℕ). tree.get nat_cmp known n) c.number.ensures in
    ap (λ (o : Option WiderGrant). is_known_as o one) found

use Rattle.std.proofs.Common.{◌∙◌, [], ◌∷◌, Some, ap, cond, map, sym}
use Rattle.std.specs.BTreeMap.{is_at}
use Rattle.std.specs.BTreeMap as tree
use Rattle.std.proofs.lemmas.List.{append-nil}
use Rattle.desk_text.specs.Address.{number_of}
use Rattle.desk_impact.specs.Sections.{section_value}
use Rattle.page_findings.specs.PrivateDeciding.{HasList, host_order, lines_on}
use Rattle.page_findings.specs.declared.lists.Lists.{Lists}
use Rattle.page_findings.proofs.Kept.{has_added, known_on}
use Rattle.page_findings.proofs.lists.Lists.place_for_addresses.Goals as goal

pub returns-in-Some : goal.returns-in-Some
returns-in-Some c = λ known. record {
  known = known;
  more = [];
  are = sym (append-nil c.args.self.now.lists);
  has = known.hosts c.args.addresses c.in-Some.place.now (sym c.in-Some.ensures.value);
}

pub returns : goal.returns
returns c = λ known.
    let sections = map section_value c.args.sections.now in
    let addresses = c.args.addresses in
    let numbers = lines_on (map number_of addresses.now) sections in
    let old = c.args.self.now in
    let place = c.in_ok-place.place in
    let list = c.in_ok-list.list.items in
    let adds = c.in_ok-place.ensures in
    let new : Lists = record { lists = c.add.new.self.lists; networks = c.add.new.self.networks; hosts = c.insert.new.self } in
    let has : HasList new.lists place numbers = has_added old c.add.new.self place list numbers adds c.in_ok-list.ensures in
    record {
      known = known_on sections old new (list ∷ []) adds.are known addresses place
          (λ key. c.in_ok-insert.ensures.updates.0 key ∙ ap (λ hosts. cond (is_at (host_order addresses) key) (Some place) (tree.get host_order hosts key)) adds.hosts)
          adds.networks has;
      more = list ∷ [];
      are = adds.are;
      has = has;
    }

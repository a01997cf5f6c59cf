use Rattle.std.proofs.Common.{◌∙◌, [], ◌∷◌, Some, ap, cond, map, sym}
use Rattle.std.specs.BTreeMap.{is_at}
use Rattle.std.specs.BTreeMap as tree
use Rattle.std.proofs.lemmas.List.{append-nil}
use Rattle.desk_text.specs.Address.{number_of}
use Rattle.desk_impact.specs.Sections.{section_value}
use Rattle.page_findings.specs.PrivateDeciding.{HasList, key_order, lines_between}
use Rattle.page_findings.specs.declared.lists.Lists.{Lists}
use Rattle.page_findings.proofs.Kept.{has_added, known_between}
use Rattle.page_findings.proofs.lists.Lists.place_for_network.Goals as goal

pub returns-in-Some : goal.returns-in-Some
returns-in-Some c = λ known.
    let networks = c.args.self.now.networks in
    let first = number_of c.args.first in
    let last = number_of c.args.last in
    record {
      known = known;
      more = [];
      are = sym (append-nil c.args.self.now.lists);
      has = known.networks first last c.in-Some.place.now
          (ap (λ a. tree.get key_order networks (a, last)) (sym c.number.ensures) ∙ ap (λ b. tree.get key_order networks (c.number.result, b)) (sym c.number-2.ensures) ∙ sym c.in-Some.ensures.value);
    }

pub returns : goal.returns
returns c = λ known.
    let sections = map section_value c.args.sections.now in
    let first = number_of c.args.first in
    let last = number_of c.args.last in
    let old = c.args.self.now in
    let place = c.in_ok-place.place in
    let list = c.in_ok-list.list.items in
    let adds = c.in_ok-place.ensures in
    let new : Lists = record { lists = c.add.new.self.lists; networks = c.insert.new.self; hosts = c.add.new.self.hosts } in
    let has : HasList new.lists place (lines_between first last sections) = has_added old c.add.new.self place list (lines_between first last sections) adds c.in_ok-list.ensures in
    record {
      known = known_between sections old new (list ∷ []) adds.are known first last place
          (λ key. c.in_ok-insert.ensures.updates.0 key
          ∙ ap (λ networks. cond (is_at (key_order (c.number.result, c.number-2.result)) key) (Some place) (tree.get key_order networks key)) adds.networks
          ∙ ap (λ a. cond (is_at (key_order (a, c.number-2.result)) key) (Some place) (tree.get key_order old.networks key)) c.number.ensures
          ∙ ap (λ b. cond (is_at (key_order (first, b)) key) (Some place) (tree.get key_order old.networks key)) c.number-2.ensures)
          adds.hosts has;
      more = list ∷ [];
      are = adds.are;
      has = has;
    }

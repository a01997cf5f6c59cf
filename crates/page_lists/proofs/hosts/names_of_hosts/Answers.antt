use Rattle.std.proofs.Common.{◌≡◌, map, subst, sym, Bor, List, ℕ}
use Rattle.std.specs.Prelude.{Contains, filter}
use Rattle.desk_core.proofs.SortedTexts.{all_kept, ascending, only_given}
use Rattle.page_lists.specs.Hosts.{is_host_name}
use Rattle.page_lists.specs.NameIndex.{name_key}
use Rattle.page_lists.proofs.Kept.{in_kept, kept_in}
use Rattle.page_lists.proofs.hosts.names_of_hosts.Goals as goal

abbrev text_of : Bor (List ℕ) → List ℕ
text_of name = name.now

pub returns : goal.returns
returns c =
    let test = is_host_name c.args.netgroups.now in
    let written = map name_key c.args.index.now in
    let given = c.in_ok-names.names.items in
    let sorted = c.sort_unstable.new.self.items in
    let kept = c.dedup.new.self.items in
    let same : map text_of given ≡ filter test written = c.in_ok-names.ensures in
    record {
      ascending = ascending text_of given sorted kept c.sort_unstable.ensures.permutation c.sort_unstable.ensures.sorted c.dedup.ensures.filtered;
      each = λ name has.
          kept_in test written name (subst (λ names. Contains names name) same (only_given text_of given sorted kept c.sort_unstable.ensures.permutation c.sort_unstable.ensures.sorted c.dedup.ensures.filtered name has));
      all = λ name has is.
          all_kept text_of given sorted kept c.sort_unstable.ensures.permutation c.sort_unstable.ensures.sorted c.dedup.ensures.filtered name (subst (λ names. Contains names name) (sym same) (in_kept test written name has is));
    }

use Rattle.std.proofs.Common.{rules}
use Rattle.std.proofs.lemmas.Cmp.{nat_list_cmp_total}
use Rattle.std.proofs.lemmas.Fn.{always_returns_same}
use Rattle.std.proofs.lemmas.List.Sorted.{ranks_by}
use Rattle.std.proofs.lemmas.Result.{on_ok_weaker}
use Rattle.page_lists.specs.NameIndex.{name_key}
use Rattle.page_lists.proofs.Keyed.{is_below, kept}
use Rattle.page_lists.proofs.name_index.sort_by_name.Goals as goal

pub returns-clause-order : goal.returns-clause-order
returns-clause-order c =
    on_ok_weaker c.sort_by.result (λ sorted. sorted (is_below name_key) (ranks_by nat_list_cmp_total name_key) (always_returns_same _ _ _ (λ a r f k. search rules))) c.sort_by.ensures.sorted

pub returns-clause-kept : goal.returns-clause-kept
returns-clause-kept c =
    kept name_key c.args.written.now.items c.sort_by.new.self.items
    (c.sort_by.ensures.stable (is_below name_key) (ranks_by nat_list_cmp_total name_key) (always_returns_same _ _ _ (λ a r f k. search rules)))

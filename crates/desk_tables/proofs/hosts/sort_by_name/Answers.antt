use Rattle.std.proofs.Common.{rules}
use Rattle.std.proofs.lemmas.Cmp.{nat_list_cmp_total}
use Rattle.std.proofs.lemmas.Fn.{always_returns_same}
use Rattle.std.proofs.lemmas.List.Sorted.{ranks_by}
use Rattle.std.proofs.lemmas.Result.{on_ok_weaker}
use Rattle.desk_tables.specs.PrivateIndex.{host_key}
use Rattle.desk_tables.proofs.ListingLemmas.{is_below, kept}
use Rattle.desk_tables.proofs.hosts.sort_by_name.Goals as goal

pub returns-clause-order : goal.returns-clause-order
returns-clause-order c =
    let key = host_key c.args.rows.now in
    on_ok_weaker c.sort_by.result (λ sorted. sorted (is_below key) (ranks_by nat_list_cmp_total key) (always_returns_same _ _ _ (λ a r f k. search rules))) c.sort_by.ensures.sorted

pub returns-clause-kept : goal.returns-clause-kept
returns-clause-kept c =
    let key = host_key c.args.rows.now in
    kept key c.args.listings.now.items c.sort_by.new.self.items
    (c.sort_by.ensures.stable (is_below key) (ranks_by nat_list_cmp_total key) (always_returns_same _ _ _ (λ a r f k. search rules)))

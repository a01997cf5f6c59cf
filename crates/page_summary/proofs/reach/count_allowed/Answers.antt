use Rattle.std.proofs.Common.{◌≡◌, ◌+◌, ◌-◌, ◌^◌, arith, map, subst}
use Rattle.desk_text.specs.Address.{number_of}
use Rattle.page_data.specs.Classes.{class_run}
use Rattle.page_data.specs.Counts.{AreCountsFrom}
use Rattle.page_summary.proofs.reach.count_allowed.Goals as goal

pub granted-requires : goal.granted-requires
granted-requires c =
    let counts = c.counts_within-counts.result in
    let first = c.from_number-first.result in
    let last = c.from_number-last.result in
    let all : counts.denied + counts.read_only + counts.read_write + counts.root_kept ≡ number_of last + 1 - number_of first =
    c.counts_add_up.ensures c.requires.value_at (number_of first) (number_of last) counts (c.counts_within-counts.ensures c.requires.value_at c.requires.are) in
    omega (arith, all, c.from_number-first.ensures, c.from_number-last.ensures)

pub returns : goal.returns
returns c =
    let runs = map class_run c.args.runs.now in
    let counts = c.counts_within-counts.result in
    record {
      counts = counts;
      are = subst (λ n. AreCountsFrom runs n (2 ^ 32 - 1) counts) c.from_number-first.ensures
          (subst (λ n. AreCountsFrom runs (number_of c.from_number-first.result) n counts) c.from_number-last.ensures c.counts_within-counts.ensures);
      count_is = c.granted.ensures;
    }

use Rattle.std.proofs.Common.{◌≡◌, ◌+◌, ◌-◌, arith}
use Rattle.desk_text.specs.Address.{number_of}
use Rattle.page_filesystem.proofs.counting.counts_between.Goals as goal

pub returns-clause-size : goal.returns-clause-size
returns-clause-size c =
    let counts = c.counts_within.result in
    let sum : counts.denied + counts.read_only + counts.read_write + counts.root_kept ≡ number_of c.from_number-2.result + 1 - number_of c.from_number.result =
    c.counts_add_up.ensures c.requires.value_at (number_of c.from_number.result) (number_of c.from_number-2.result) counts
    (c.counts_within.ensures c.requires.value_at c.requires.are) in
    omega (arith, sum, c.from_number.ensures, c.from_number-2.ensures)

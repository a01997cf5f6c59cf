use Rattle.std.proofs.Common.{◌<◌, ◌^◌, ◌∙◌, arith, map, sym}
use Rattle.desk_text.specs.Address.{number_of}
use Rattle.page_data.specs.Classes.{class_run}
use Rattle.page_data.specs.declared.class.Class.TheVariants.{Denied, ReadOnly, ReadWrite, RootKept}
use Rattle.page_data.proofs.Counted.{counted_is}
use Rattle.page_data.proofs.counts.counts_within.Goals as goal

pub returns : goal.returns
returns c = λ class_at are.
    let given = map class_run c.args.runs.now in
    let first = number_of c.args.first in
    let last = number_of c.args.last in
    let fits : last < 2 ^ 32 = omega (arith, c.number-last.type_inv, c.number-last.ensures) in
    record {
      denied = c.count_of.ensures ∙ sym (counted_is class_at given are Denied first last fits);
      read_only = c.count_of-2.ensures ∙ sym (counted_is class_at given are ReadOnly first last fits);
      read_write = c.count_of-3.ensures ∙ sym (counted_is class_at given are ReadWrite first last fits);
      root_kept = c.count_of-4.ensures ∙ sym (counted_is class_at given are RootKept first last fits);
    }

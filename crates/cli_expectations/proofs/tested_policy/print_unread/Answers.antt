-- All faults of the text are shown.
use Rattle.std.proofs.Common.{List, subst, sym}
use Rattle.std.specs.List.{All}
use Rattle.std.proofs.lemmas.Result.{IfOk-weaker}
use Rattle.desk_text.specs.Place.{LiesIn}
use Rattle.desk_expect.specs.declared.rules.PlacedFault.{PlacedFault}
use Rattle.cli_output.specs.declared.printed.Printed.{Printed}
use Rattle.cli_expectations.specs.RefusedText.{PrintsFaults}
use Rattle.cli_expectations.specs.TestedPolicy.{PrintsUnread, expected_of}
use Rattle.cli_expectations.proofs.tested_policy.print_unread.Goals as goal

pub print_faults-requires : goal.print_faults-requires
print_faults-requires c =
    subst (All (λ (placed : PlacedFault). LiesIn c.args.file.text.now placed.place)) (sym c.as_slice.ensures) (λ k d below. (c.in_ok-found.ensures.placed k d below).lies)

pub returns : goal.returns
returns c =
    let file = c.args.file in
    let fault = c.args.fault in
    let Told : List PlacedFault → Printed → Type 0 = PrintsFaults file.form file.path.now file.text.now fault in
    IfOk-weaker c.print_faults.result (Told c.as_slice.result.now) (PrintsUnread c.args.tables.now (expected_of file))
    (λ (printed : Printed) told. record {
      fault = fault;
      read = c.requires;
      found = c.in_ok-found.found;
      are = c.in_ok-found.ensures;
      prints = subst (λ (found : List PlacedFault). Told found printed) c.as_slice.ensures told;
    })
    c.print_faults.ensures

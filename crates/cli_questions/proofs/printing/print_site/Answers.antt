-- The site is printed by its policy and its own tables.
use Rattle.std.proofs.Common.{◌≡◌, Bool, ap, subst, sym}
use Rattle.desk_service.specs.Sites.{WholeSite, site_of}
use Rattle.cli_output.specs.declared.printed.Printed.{Printed}
use Rattle.cli_verdict.specs.TryText.{mount_question_of}
use Rattle.cli_expectations.specs.TestedPolicy.{expected_of}
use Rattle.cli_questions.specs.Questions.{Breaches, Mounts, PrintsSite, Printer, Ranges, printer_of}
use Rattle.cli_questions.specs.declared.answering.Printer.{Printer as LentPrinter}
use Rattle.cli_questions.proofs.DeskAnswers.{exports_printed, shows_exports}
use Rattle.cli_questions.proofs.printing.print_site.Goals as goal

-- the printer is this
by_printer : (json : Bool) (site : WholeSite) (printer known : Printer) (printed : Printed) → printer ≡ known → PrintsSite json site known printed → PrintsSite json site printer printed
by_printer json site printer known printed is prints = subst (λ (p : Printer). PrintsSite json site p printed) (sym is) prints

pub returns-in_ok-print_tested-in-Breaches : goal.returns-in_ok-print_tested-in-Breaches
returns-in_ok-print_tested-in-Breaches c =
    by_printer c.args.json (site_of (λ content. content) c.args.site.now) (printer_of c.args.printer) (Breaches (expected_of c.in-Breaches.expected)) _ (ap printer_of c.in-Breaches.is)
    (rw (← c.tables.ensures, ← c.view.ensures) c.in_ok-print_tested-in-Breaches.ensures)

pub returns-in_ok-tried-in-Mounts : goal.returns-in_ok-tried-in-Mounts
returns-in_ok-tried-in-Mounts c =
    by_printer c.args.json (site_of (λ content. content) c.args.site.now) (printer_of c.args.printer) (Mounts (mount_question_of c.in-Mounts.question)) _ (ap printer_of c.in-Mounts.is)
    (c.in_ok-tried-in-Mounts.tried, (rw (← c.tables-in-Mounts.ensures, ← c.view-in-Mounts.ensures) c.in_ok-tried-in-Mounts.ensures), c.print_tried.ensures)

pub returns-in_ok-print_ranges-in-Ranges : goal.returns-in_ok-print_ranges-in-Ranges
returns-in_ok-print_ranges-in-Ranges c =
    by_printer c.args.json (site_of (λ content. content) c.args.site.now) (printer_of c.args.printer) (Ranges c.in-Ranges.path.now c.in-Ranges.mountd) _ (ap printer_of c.in-Ranges.is)
    (rw (← c.view-in-Ranges.ensures) c.in_ok-print_ranges-in-Ranges.ensures)

pub returns-in-Plain : goal.returns-in-Plain
returns-in-Plain c =
    exports_printed c.args.json (site_of (λ content. content) c.args.site.now) (printer_of c.args.printer) c.print_exports.result
    (ap (λ (printer : LentPrinter). shows_exports (printer_of printer)) c.in-Plain.is) c.print_exports.ensures

pub returns-in-Terms : goal.returns-in-Terms
returns-in-Terms c =
    exports_printed c.args.json (site_of (λ content. content) c.args.site.now) (printer_of c.args.printer) c.print_exports-in-Terms.result
    (ap (λ (printer : LentPrinter). shows_exports (printer_of printer)) c.in-Terms.is) c.print_exports-in-Terms.ensures

pub returns-in-Changes : goal.returns-in-Changes
returns-in-Changes c =
    exports_printed c.args.json (site_of (λ content. content) c.args.site.now) (printer_of c.args.printer) c.print_exports-in-Changes.result
    (ap (λ (printer : LentPrinter). shows_exports (printer_of printer)) c.in-Changes.is) c.print_exports-in-Changes.ensures

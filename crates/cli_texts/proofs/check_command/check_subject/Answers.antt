-- The file that the first word names is asked of.
use Rattle.std.proofs.Common.{◌≡◌, ℕ, Bor, List, Option, Result, codes, subst}
use Rattle.std.specs.Option.{option_map}
use Rattle.clap.specs.Words.{Row}
use Rattle.cli_output.specs.declared.failure.Failure.{Failure}
use Rattle.cli_output.specs.declared.printed.Printed.{Printed}
use Rattle.cli_words.specs.Words.{rows_in}
use Rattle.cli_texts.specs.CheckCommand.{AnswersGiven, AnswersSubject}
use Rattle.cli_sources.specs.WholeFiles.{whole_files}
use Rattle.cli_sources.specs.declared.subject.Subject.{Subject}
use Rattle.cli_sources.specs.declared.subject.Subject.TheVariants.{File, Site}
use Rattle.cli_texts.proofs.check_command.check_subject.Goals as goal

of_file : (rows : List Row) (ignored : Option (List ℕ)) (known : Option (List ℕ)) (result : Result Printed Failure) (files : List (List ℕ × Option (List ℕ))) (subject : Subject) (file : Bor (List ℕ))
    → subject ≡ File file → files ≡ whole_files subject (codes "FILE") rows → AnswersGiven subject rows ignored files known result → AnswersSubject rows ignored known subject result
of_file rows ignored known result files (File other) file is are answers = subst (λ (given : List (List ℕ × Option (List ℕ))). AnswersGiven (File other) rows ignored given known result) are answers
of_file rows ignored known result files (Site folder) file is are answers = absurd (cc)

pub returns-in-File : goal.returns-in-File
returns-in-File g c =
    of_file (rows_in c.args.words.now) (option_map (λ numbers. numbers.now) c.args.ignored) (g.I.Read.remaining c.args.input.now) c.check_given.result _ c.args.subject.now c.in-File.field-0 c.in-File.is c.whole_files-files.ensures c.check_given.ensures

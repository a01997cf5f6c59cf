-- No command prints anything but a refusal with the status 4, for `laws::four_is_refused`.
use Rattle.std.proofs.Common.{◌≡◌, ◌∙◌, ◌∷◌, ℕ, Bool, true, false, List, [], Option, Some, None, Result, Ok, Err, arith, inl, inr, subst, sym}
use Rattle.std.specs.Prelude.{IsErrAnd, MatchResult, codes, if◌then◌else◌}
use Rattle.std.specs.String.{string_bytes}
use Rattle.clap.specs.Words.{Row, first_of}
use Rattle.desk_text.specs.declared.reading.LineFault.{LineFault}
use Rattle.desk_tables.specs.FileSystemsText.{read_filesystems}
use Rattle.desk_tables.specs.Rules.{TableFault}
use Rattle.desk_tables.specs.declared.filesystems.Mount.{Mount}
use Rattle.desk_exports.specs.declared.rules.Rule.{Rule}
use Rattle.desk_policy.specs.Policy.{Content}
use Rattle.desk_policy.specs.Site.{SiteTexts}
use Rattle.desk_policy.specs.declared.parsing.SiteTables.{SiteTables}
use Rattle.desk_policy.specs.declared.site_fault.SiteFault.{SiteFault}
use Rattle.desk_split.specs.Splitting.{split_text}
use Rattle.desk_split.specs.declared.split_fault.SplitFault.{SplitFault}
use Rattle.desk_core.specs.declared.edit.Refusal.{Refusal}
use Rattle.desk_core.specs.declared.edit.Refusal.TheVariants as refusal
use Rattle.desk_store.specs.declared.desk.Done.{Done}
use Rattle.desk_store.specs.declared.error.CreateError.{CreateError}
use Rattle.desk_store.specs.declared.error.CreateError.TheVariants as create
use Rattle.desk_store.specs.declared.error.DeskError.{DeskError}
use Rattle.desk_store.specs.declared.error.DeskError.TheVariants as error
use Rattle.desk_service.specs.Approving.{Approval}
use Rattle.desk_service.specs.Questions as given
use Rattle.desk_service.specs.Refused.{refused_by}
use Rattle.desk_service.specs.Sites.{WholeSite}
use Rattle.desk_service.specs.declared.questions.FileQuestion.{FileQuestion}
use Rattle.desk_service.specs.declared.questions.FileQuestion.TheVariants as of_file
use Rattle.desk_service.specs.declared.refused.Refused.{Refused}
use Rattle.desk_service.specs.declared.refused.Refused.TheVariants as refused
use Rattle.cli_output.specs.Printed.{Prints, PrintsText}
use Rattle.cli_output.specs.declared.failure.Failure.{Failure}
use Rattle.cli_output.specs.declared.failure.TextFault.{TextFault}
use Rattle.cli_output.specs.declared.printed.Printed.{Printed}
use Rattle.cli_desk.specs.Desks.{HasNoCopiedDesk, HasNoDesk}
use Rattle.cli_desk.specs.RefusalLines.{IsRefused, Says, refusal_status}
use Rattle.cli_desk.specs.RefusalNotes.{IsRefusedBy}
use Rattle.cli_words.specs.Commands.{command_found}
use Rattle.cli_words.specs.LineWords.{words_of}
use Rattle.cli_words.specs.Values.{revision_number}
use Rattle.cli_words.specs.Words.{After, AnswersBy, Continues, is_set}
use Rattle.cli_words.specs.declared.commands.Subcommand.{Subcommand}
use Rattle.cli_words.specs.declared.commands.Subcommand.TheVariants as subcommand
use Rattle.cli_files.specs.Input.{first_line}
use Rattle.cli_verdict.specs.Asking.{asking_in}
use Rattle.cli_verdict.specs.Ranges.{PrintsRanges}
use Rattle.cli_verdict.specs.TryText.{MountQuestion, PrintsTried}
use Rattle.cli_verdict.specs.declared.asking.Asking.{Asking}
use Rattle.cli_verdict.specs.declared.try_text.Tried.{Tried}
use Rattle.cli_expectations.specs.TestedPolicy.{Expected, PrintsTested}
use Rattle.cli_sources.specs.Subject.{word_at}
use Rattle.cli_sources.specs.Systems as systems
use Rattle.cli_sources.specs.declared.subject.Subject.{Subject}
use Rattle.cli_sources.specs.declared.subject.Subject.TheVariants.{File, Site}
use Rattle.cli_texts.specs.CheckCommand as check
use Rattle.cli_texts.specs.ClientsCommand as clients
use Rattle.cli_texts.specs.CompareCommand as compare
use Rattle.cli_texts.specs.FaultyTexts.{AnswersOrFault}
use Rattle.cli_texts.specs.ListsCommand as lists
use Rattle.cli_texts.specs.SplitCommand as split
use Rattle.cli_texts.specs.SplitText.{split_answer}
use Rattle.cli_texts.specs.TermsCommand as terms
use Rattle.cli_texts.specs.TestCommand as test
use Rattle.cli_texts.specs.TryCommand as try
use Rattle.cli_texts.specs.declared.findings_form.FindingsForm.{FindingsForm}
use Rattle.cli_texts.specs.declared.split_command.SplitSources.{SplitSources}
use Rattle.desk_findings.specs.declared.check_text.Gathered.{Gathered}
use Rattle.desk_findings.specs.declared.check_faults.Source.{Source}
use Rattle.desk_findings.specs.declared.check_text.WholeSources.{WholeSources}
use Rattle.cli_questions.specs.AuditCommand as audit
use Rattle.cli_questions.specs.QuestionCommands as question
use Rattle.cli_questions.specs.Questions.{AnswersQuestion, Asked, Breaches, Changes, Mounts, Plain, Printer, PrintsBy, PrintsLines, PrintsObject, PrintsSite, PrintsWhy, Ranges, Terms, mount_in}
use Rattle.cli_questions.specs.ReportCommand as report
use Rattle.cli_edits.specs.InitCommand as init
use Rattle.cli_edits.specs.PutCommand as put
use Rattle.cli_serve.specs.ServeCommand as serve
use Rattle.cli_write.specs.CopyCommand as copy
use Rattle.cli_write.specs.WriteCommand as write
use Rattle.cli.specs.Commands.{AnswersCommand, AnswersFound, AnswersGiven, AnswersLine, AnswersProgram}
use Rattle.cli.specs.Laws.{FourIsRefused, IsRefusedAtFour}

-- ---- what each answer has

-- an answer with the status 4 is a refusal
abbrev Fine : Result Printed Failure → Type 0
Fine (Ok printed) = printed.status ≡ 4 → IsRefusedAtFour (string_bytes printed.text)
Fine (Err failure) = Unit {0}

fails : (result : Result Printed Failure) (failure : Failure) → result ≡ Err failure → Fine result
fails result failure is = subst Fine (sym is) tt

err_and : (P : Failure → Type 0) (result : Result Printed Failure) → IsErrAnd result P → Fine result
err_and P (Ok printed) is = absurd is
err_and P (Err failure) is = tt

-- ---- statuses

not_0 : (◌≡◌ {A = ℕ} 0 4) → ⊥
not_0 is = omega (arith, is)

not_1 : (◌≡◌ {A = ℕ} 1 4) → ⊥
not_1 is = omega (arith, is)

not_3 : (◌≡◌ {A = ℕ} 3 4) → ⊥
not_3 is = omega (arith, is)

none_of : (b : Bool) (one other : ℕ) → (one ≡ 4 → ⊥) → (other ≡ 4 → ⊥) → (if b then one else other) ≡ 4 → ⊥
none_of true one other first second = first
none_of false one other first second = second

has_status : (status : ℕ) (printed : Printed) → (status ≡ 4 → ⊥) → printed.status ≡ status → Fine (Ok printed)
has_status status printed other is = λ four. absurd (other (sym is ∙ four))

prints : (line : List ℕ) (status : ℕ) (printed : Printed) → (status ≡ 4 → ⊥) → Prints status line printed → Fine (Ok printed)
prints line status printed other is = has_status status printed other is.status_is

text : (line : List ℕ) (status : ℕ) (result : Result Printed Failure) → (status ≡ 4 → ⊥) → PrintsText status line result → Fine result
text line status (Ok printed) other is = prints line status printed other is
text line status (Err failure) other is = tt

-- ---- refusals

says : (why : Refused) (printed : Printed) → Says why printed → Fine (Ok printed)
says why printed is = λ four. (why, sym is.status_is ∙ four, is.text_is)

refuses : (why : Refused) (result : Result Printed Failure) → IsRefused why result → Fine result
refuses why (Ok printed) is = says why printed is
refuses why (Err failure) is = tt

refuses_by : (failed : DeskError) (result : Result Printed Failure) → IsRefusedBy failed result → Fine result
refuses_by (error.Refused refusal) result is = refuses (refused_by (error.Refused refusal)) result is
refuses_by (error.Store fault) result is = refuses (refused_by (error.Store fault)) result is
refuses_by error.Schema result is = refuses (refused_by error.Schema) result is
refuses_by error.Memory result is = fails result _ is

no_desk : (path : List ℕ) (result : Result Printed Failure) → HasNoDesk path result → Fine result
no_desk path (Ok printed) (inl is) = says refused.Store printed is
no_desk path (Ok printed) (inr is) = says refused.Schema printed is
no_desk path (Err failure) is = tt

no_copied_desk : (path : List ℕ) (result : Result Printed Failure) → HasNoCopiedDesk path result → Fine result
no_copied_desk path (Ok printed) (inl is) = says refused.Store printed is
no_copied_desk path (Ok printed) (inr is) = says refused.Schema printed is.0
no_copied_desk path (Err failure) is = tt

-- ---- steps

continues : {A : Type 0} (Next : A → Result Printed Failure → Type 0) (step : Result A Failure) (result : Result Printed Failure) → ((value : A) → Next value result → Fine result) → Continues step Next result → Fine result
continues Next (Ok value) result each is = each value is
continues Next (Err failure) result each is = fails result failure is

after : {A : Type 0} {IsStep : Result A Failure → Type 0} {Next : A → Result Printed Failure → Type 0} (result : Result Printed Failure) → After IsStep Next result → ((value : A) → Next value result → Fine result) → Fine result
after {A} {IsStep} {Next} result is each = continues Next is.step result each is.next

word : {X : Type 0} (name : List ℕ) (Answers : X → Result Printed Failure → Type 0) (found : Option X) (result : Result Printed Failure) → AnswersBy name found Answers result → ((value : X) → Answers value result → Fine result) → Fine result
word name Answers None result is each = err_and _ result is
word name Answers (Some value) result is each = each value is

or_fault : (json : Bool) (PrintsAnswer : Printed → Type 0) (sources : WholeSources) (table : List Mount) (result : Result Printed Failure) → AnswersOrFault json PrintsAnswer sources table result → ((printed : Printed) → PrintsAnswer printed → Fine (Ok printed)) → Fine result
or_fault json PrintsAnswer sources table (Ok printed) (inl is) each = each printed is
or_fault json PrintsAnswer sources table (Ok printed) (inr is) each = has_status 3 printed not_3 is.prints.status_is
or_fault json PrintsAnswer sources table (Err failure) is each = tt

either : (P : Printed → Type 0) (Q : Failure → Type 0) (result : Result Printed Failure) → MatchResult result P Q → ((printed : Printed) → P printed → Fine (Ok printed)) → Fine result
either P Q (Ok printed) is each = each printed is
either P Q (Err failure) is each = tt

-- ---- what several commands print

tried : (answer : Tried) (printed : Printed) → PrintsTried answer printed → Fine (Ok printed)
tried answer printed is = prints _ (if answer.granted then 0 else 1) printed (none_of answer.granted 0 1 not_0 not_1) is.prints

ranges : (mountd json : Bool) (content : Content) (path : List (List ℕ)) (printed : Printed) → PrintsRanges mountd json content path printed → Fine (Ok printed)
ranges true json content path printed is = prints _ 0 printed not_0 is.prints
ranges false json content path printed is = prints _ 0 printed not_0 is.prints

tested : (tables : SiteTables) (content : Content) (expected : Expected) (printed : Printed) → PrintsTested tables content expected printed → Fine (Ok printed)
tested tables content expected printed (inl is) = prints _ _ printed (none_of _ 0 1 not_0 not_1) is.prints.prints
tested tables content expected printed (inr is) = prints _ 3 printed not_3 is.prints.prints

-- ---- commands on texts

-- the fault of a folder's file systems
listed_fault : (json : Bool) (source : Source) (read : Result (List Mount) TableFault) (printed : Printed) → systems.AnswersText json source read (Err printed) → Fine (Ok printed)
listed_fault json source (Ok table) printed is = absurd is
listed_fault json source (Err fault) printed is = has_status 3 printed not_3 is.status_is

systems_fault : (json : Bool) (subject : Subject) (rows : List Row) (others : ℕ) (known : Option (List ℕ)) (printed : Printed) → systems.ReadsSystems json subject rows others known (Ok (Err printed)) → Fine (Ok printed)
systems_fault json (File file) rows others known printed is = absurd is
systems_fault json (Site folder) rows others known printed is = listed_fault json is.source (read_filesystems is.source.text.now) printed is.answers

systems_by : (json : Bool) (subject : Subject) (rows : List Row) (others : ℕ) (known : Option (List ℕ)) (Next : List Mount → Result Printed Failure → Type 0) (step : Result (Result (List Mount) Printed) Failure) (result : Result Printed Failure)
    → systems.ReadsSystems json subject rows others known step → Continues step (systems.ContinuesWith Next) result → ((table : List Mount) → Next table result → Fine result) → Fine result
systems_by json subject rows others known Next (Ok (Ok table)) result reads is each = each table is
systems_by json subject rows others known Next (Ok (Err printed)) result reads is each = subst Fine (sym is) (systems_fault json subject rows others known printed reads)
systems_by json subject rows others known Next (Err failure) result reads is each = fails result failure is

with_systems : (json : Bool) (subject : Subject) (rows : List Row) (others : ℕ) (known : Option (List ℕ)) (Next : Option (List ℕ) → List Mount → Result Printed Failure → Type 0) (result : Result Printed Failure)
    → systems.AfterSystems json subject rows others known Next result → ((left : Option (List ℕ)) (table : List Mount) → Next left table result → Fine result) → Fine result
with_systems json subject rows others known Next result is each = systems_by json subject rows others known (Next is.left) is.after.step result is.after.is is.after.next (each is.left)

tries : (asking : Result Asking Failure) (rows : List Row) (known : Option (List ℕ)) (result : Result Printed Failure) → try.AnswersTryIf asking rows known result → Fine result
tries (Err failure) rows known result is = fails result failure is
tries (Ok asking) rows known result is =
    after result is (λ subject is. after result is (λ request is. with_systems _ subject rows _ known _ result is (λ left table is. after result is (λ sources is. after result is (λ own is.
    or_fault _ _ _ _ result is (λ printed is. tried is.tried printed is.prints))))))

split_prints : (sources : SplitSources) (answer : Result (List ℕ) SplitFault) (printed : Printed) → split.PrintsSplit sources answer printed → Fine (Ok printed)
split_prints sources (Ok body) printed is = prints _ 0 printed not_0 is.prints
split_prints sources (Err fault) printed is = prints _ 3 printed not_3 is.prints

splits : (rows : List Row) (known : Option (List ℕ)) (result : Result Printed Failure) → split.AnswersSplit rows known result → Fine result
splits rows known result is =
    word _ _ (first_of (codes "FILE") rows) result is (λ file is. word _ _ (first_of (codes "FILESYSTEMS") rows) result is (λ filesystems is. after result is (λ sources is.
    either _ _ result is (λ printed is. split_prints sources (split_answer sources.file.text.now sources.filesystems.text.now) printed is))))

found : (IsFound : Gathered → Type 0) (form : FindingsForm) (ignored : Option (List ℕ)) (result : Result Printed Failure) → check.AnswersFound IsFound form ignored result → Fine result
found IsFound form ignored result is = either _ _ result is (λ printed is. let shown = is.1.1 in prints _ _ printed (none_of shown.checked.passes 0 3 not_0 not_3) shown.prints.prints)

checks_subject : (subject : Subject) (rows : List Row) (ignored known : Option (List ℕ)) (result : Result Printed Failure) → check.AnswersSubject rows ignored known subject result → Fine result
checks_subject (File file) rows ignored known result is = with_systems _ (File file) rows _ known _ result is (λ left table is. after result is (λ sources is. found _ _ _ result is))
checks_subject (Site folder) rows ignored known result is =
    after result is (λ custodians is. after result is.after (λ both is. after result is.answers (λ sources is. found _ _ _ result is.answers)))

checks : (option : Option (List ℕ)) (rows : List Row) (known : Option (List ℕ)) (result : Result Printed Failure) → check.AnswersCheckIf option rows known result → Fine result
checks (Some option) rows known result is = err_and _ result is
checks None rows known result is = after result is (λ ignored is. after result is (λ subject is. checks_subject subject rows ignored known result is))

lists_clients : (rows : List Row) (known : Option (List ℕ)) (result : Result Printed Failure) → clients.AnswersClients rows known result → Fine result
lists_clients rows known result is =
    after result is (λ subject is. after result is (λ path is. with_systems _ subject rows _ known _ result is (λ left table is. after result is (λ sources is.
    or_fault _ _ _ _ result is (λ printed is. ranges _ _ is.policy path printed is.prints)))))

lists_listing : (rows : List Row) (known : Option (List ℕ)) (result : Result Printed Failure) → lists.AnswersLists rows known result → Fine result
lists_listing rows known result is =
    after result is (λ subject is. after result is (λ address is. with_systems _ subject rows _ known _ result is (λ left table is. after result is (λ sources is.
    or_fault _ _ _ _ result is (λ printed is. prints _ 0 printed not_0 is.prints.prints)))))

lists_terms : (rows : List Row) (known : Option (List ℕ)) (result : Result Printed Failure) → terms.AnswersTerms rows known result → Fine result
lists_terms rows known result is =
    after result is (λ subject is. with_systems _ subject rows _ known _ result is (λ left table is. after result is (λ sources is.
    or_fault _ _ _ _ result is (λ printed is. prints _ 0 printed not_0 is.prints.prints))))

told : (json : Bool) (before after : Content) (all : Bool) (printed : Printed) → compare.TellsChanges json before after all printed.status (string_bytes printed.text) → Fine (Ok printed)
told false before after all printed is = has_status _ printed (none_of _ 0 1 not_0 not_1) is.status_is
told true before after all printed is = has_status _ printed (none_of _ 1 0 not_1 not_0) is.status_is

compared : (before : Content) (read : Result Content SiteFault) (all json : Bool) (printed : Printed) → compare.PrintsChanges before read all json printed → Fine (Ok printed)
compared before read all json printed is = told json before is.after all printed is.tells

compares : (rows : List Row) (known : Option (List ℕ)) (result : Result Printed Failure) → compare.AnswersCompare rows known result → Fine result
compares rows known result is =
    after result is (λ subject is. word _ _ (word_at subject (codes "OLD") (codes "NEW") rows) result is (λ new is. with_systems _ subject rows _ known _ result is (λ left table is. after result is (λ sources is.
    or_fault _ _ _ _ result is (λ printed is. elim is.prints [
      | inl changes ↦ compared _ _ _ _ printed changes
      | inr fault ↦ has_status 3 printed not_3 fault.prints.status_is
    ])))))

tests_texts : (rows : List Row) (known : Option (List ℕ)) (result : Result Printed Failure) → test.AnswersTest rows known result → Fine result
tests_texts rows known result is =
    after result is (λ form is. after result is (λ subject is. word _ _ (word_at subject (codes "FILE") (codes "EXPECTATIONS") rows) result is (λ expectations is. with_systems _ subject rows _ known _ result is (λ left table is. after result is (λ sources is.
    or_fault _ _ _ _ result is (λ printed is. tested is.tables is.policy _ printed is.prints))))))

-- ---- questions on a database

prints_site : (json : Bool) (site : WholeSite) (printer : Printer) (printed : Printed) → PrintsSite json site printer printed → Fine (Ok printed)
prints_site json site Plain printed is = prints _ 0 printed not_0 is
prints_site json site Terms printed is = prints _ 0 printed not_0 is
prints_site json site (Changes all) printed is = prints _ 0 printed not_0 is
prints_site json site (Breaches expected) printed is = tested site.tables site.content expected printed is
prints_site json site (Mounts question) printed is = tried is.0 printed is.2
prints_site json site (Ranges path mountd) printed is = ranges mountd json site.content path printed is

prints_why : (question : Option MountQuestion) (content : Content) (reasons : List ℕ) (printed : Printed) → PrintsWhy question content reasons printed → Fine (Ok printed)
prints_why (Some question) content reasons printed is = tried is.0 printed is.2
prints_why None content reasons printed is = prints _ 0 printed not_0 is

prints_lines : (asked : Asked) (answer : given.Answer) (printed : Printed) → PrintsLines asked answer printed → Fine (Ok printed)
prints_lines asked (given.VerdictIs content verdict) printed is = prints _ _ printed (none_of _ 0 1 not_0 not_1) is
prints_lines asked (given.WhyIs content reasons) printed is = prints_why (mount_in asked.printer) content reasons printed is
prints_lines asked given.NoRevision printed is = says refused.NoRevision printed is
prints_lines asked (given.ForeseenIs foreseen) printed is = prints _ _ printed (none_of _ 0 1 not_0 not_1) is.prints
prints_lines asked (given.SiteIs site) printed is = prints_site false site asked.printer printed is
prints_lines asked (given.RefusedBy refusal) printed is = says (refused.Edit refusal) printed is
prints_lines asked answer printed is = prints _ 0 printed not_0 is

-- no edit is refused with the status 4
not_refused_at_4 : (why : Refusal) → refusal_status why ≡ 4 → ⊥
not_refused_at_4 (refusal.Fault fault) = not_3
not_refused_at_4 why = not_1

prints_object : (asked : Asked) (answer : given.Answer) (printed : Printed) → PrintsObject asked answer printed → Fine (Ok printed)
prints_object asked (given.VerdictIs content verdict) printed is = prints _ _ printed (none_of _ 0 1 not_0 not_1) is
prints_object asked (given.WhyIs content reasons) printed is = prints_why (mount_in asked.printer) content reasons printed is
prints_object asked given.NoRevision printed is = prints _ 1 printed not_1 is
prints_object asked (given.ForeseenIs foreseen) printed is = prints _ _ printed (none_of _ 1 0 not_1 not_0) is.prints
prints_object asked (given.SiteIs site) printed is = prints_site true site asked.printer printed is
prints_object asked (given.RefusedBy refusal) printed is = prints _ _ printed (not_refused_at_4 refusal) is
prints_object asked answer printed is = prints _ 0 printed not_0 is

prints_by : (json : Bool) (asked : Asked) (answer : given.Answer) (printed : Printed) → PrintsBy json asked answer printed → Fine (Ok printed)
prints_by true asked answer printed is = prints_object asked answer printed is
prints_by false asked answer printed is = prints_lines asked answer printed is

asks : (path : List ℕ) (asked : Asked) (result : Result Printed Failure) → AnswersQuestion path asked result → Fine result
asks path asked (Ok printed) (inl is) = says refused.Store printed is
asks path asked (Ok printed) (inr is) = elim is.1 [
  | inl foreign ↦ says refused.Schema printed foreign.0
  | inr ours ↦ (let answer = ours.1 ours.0.0 ours.0.1 in prints_by asked.json asked answer.0 printed answer.2)
]
asks path asked (Err failure) is = tt

asks_if : (asking : Result Asking Failure) (rows : List Row) (result : Result Printed Failure) → question.AnswersAskIf asking rows result → Fine result
asks_if (Err failure) rows result is = fails result failure is
asks_if (Ok asking) rows result is =
    word _ _ (first_of (codes "DB") rows) result is (λ db is. word _ _ (first_of (codes "HOST") rows) result is (λ host is. word _ _ (first_of (codes "DIR") rows) result is (λ dir is.
    after result is (λ address is. after result is (λ path is. after result is (λ own is. asks _ (question.mounting _) result is))))))

shows : (rows : List Row) (result : Result Printed Failure) → question.AnswersShow rows result → Fine result
shows rows result is =
    word _ _ (first_of (codes "DB") rows) result is (λ db is. word _ _ (first_of (codes "HOST") rows) result is (λ host is. after result is (λ address is. asks db (question.plainly (given.Listing address.number) (question.asks_json rows)) result is)))

lists_exports : (rows : List Row) (result : Result Printed Failure) → question.AnswersExports rows result → Fine result
lists_exports rows result is = word _ _ (first_of (codes "DB") rows) result is (λ db is. asks db (question.of_exports _ _) result is)

lists_who : (rows : List Row) (result : Result Printed Failure) → question.AnswersWho rows result → Fine result
lists_who rows result is =
    word _ _ (first_of (codes "DB") rows) result is (λ db is. word _ _ (first_of (codes "DIR") rows) result is (λ dir is. after result is (λ path is. asks db (question.of_site (Ranges path (is_set (codes "mountd") rows)) (question.asks_json rows)) result is)))

asks_file : (what : FileQuestion) (rows : List Row) (result : Result Printed Failure) → question.AnswersOfFile what rows result → Fine result
asks_file what rows result is = word _ _ (first_of (codes "DB") rows) result is (λ db is. word _ _ (first_of (codes "NAME") rows) result is (λ name is. asks db (question.plainly (given.OfFile name what) (question.asks_json rows)) result is))

prints_file : (rows : List Row) (result : Result Printed Failure) → question.AnswersCat rows result → Fine result
prints_file rows result is =
    word _ _ (first_of (codes "DB") rows) result is (λ db is. word _ _ (first_of (codes "NAME") rows) result is (λ name is. after result is (λ rev is. asks db (question.plainly (given.Text name rev) (question.asks_json rows)) result is)))

lists_files : (rows : List Row) (result : Result Printed Failure) → question.AnswersFiles rows result → Fine result
lists_files rows result is = word _ _ (first_of (codes "DB") rows) result is (λ db is. asks db (question.plainly given.Files (question.asks_json rows)) result is)

foresees_by : (db name : List ℕ) (all json : Bool) (file : Option (List ℕ)) (proposal : Bool) (known : Option (List ℕ)) (result : Result Printed Failure) → question.AnswersImpactBy db name all json file proposal known result → Fine result
foresees_by db name all json (Some file) true known result is = fails result _ is
foresees_by db name all json (Some file) false known result is = after result is (λ text is. asks db (question.changes (given.Foresee name text) all json) result is)
foresees_by db name all json None true known result is = asks db (question.changes (given.ForeseeProposal name) all json) result is
foresees_by db name all json None false known result is = err_and _ result is

foresees : (rows : List Row) (known : Option (List ℕ)) (result : Result Printed Failure) → question.AnswersImpact rows known result → Fine result
foresees rows known result is =
    word _ _ (first_of (codes "DB") rows) result is (λ db is. word _ _ (first_of (codes "NAME") rows) result is (λ name is.
    foresees_by db name _ _ (first_of (codes "FILE") rows) _ known result is))

audits_if : (name file : Option (List ℕ)) (proposal : Bool) (words : audit.AuditWords) (known : Option (List ℕ)) (result : Result Printed Failure) → audit.AnswersIf name file proposal words known result → Fine result
audits_if None None false words known result is = after result is (λ texts is. asks _ (audit.auditing _ _) result is)
audits_if (Some name) (Some file) false words known result is = after result is (λ texts is. asks _ (audit.auditing _ _) result is)
audits_if (Some name) None true words known result is = after result is (λ texts is. asks _ (audit.auditing _ _) result is)
audits_if None (Some file) true words known result is = fails result _ is
audits_if (Some name) (Some file) true words known result is = fails result _ is
audits_if (Some name) None false words known result is = err_and _ result is
audits_if None (Some file) false words known result is = err_and _ result is
audits_if None None true words known result is = err_and _ result is

audits : (rows : List Row) (known : Option (List ℕ)) (result : Result Printed Failure) → audit.AnswersAudit rows known result → Fine result
audits rows known result is =
    after result is (λ form is. word _ _ (first_of (codes "DB") rows) result is (λ db is. word _ _ (first_of (codes "EXPECTATIONS") rows) result is (λ expectations is.
    audits_if (first_of (codes "NAME") rows) (first_of (codes "FILE") rows) _ (audit.words_in rows form db expectations) known result is)))

reports : (path : List ℕ) (result : Result Printed Failure) → report.AnswersOn path result → Fine result
reports path (Ok printed) (inl is) = says refused.Store printed is
reports path (Ok printed) (inr is) = elim is.1 [
  | inl foreign ↦ says refused.Schema printed foreign.0
  | inr ours ↦ has_status 0 printed not_0 (ours.1 ours.0.0 ours.0.1).1
]
reports path (Err failure) is = tt

-- ---- edits

created : (site : SiteTexts) (answer : Result Unit CreateError) (result : Result Printed Failure) → init.PrintsCreated site answer result → Fine result
created site (Ok made) (Ok printed) is = has_status 0 printed not_0 is.0
created site (Ok made) (Err failure) is = tt
created site (Err (create.Fault fault)) result is = refuses (refused.Edit (refusal.Fault fault)) result is
created site (Err (create.TooLarge file)) result is = text _ 1 result not_1 is
created site (Err create.Schema) result is = refuses refused.Schema result is
created site (Err (create.Store fault)) result is = refuses refused.Store result is
created site (Err create.Memory) result is = fails result _ is

made : (site : SiteTexts) (result : Result Printed Failure) → init.AnswersInitSite site result → Fine result
made site result (inl is) = refuses refused.Store result is
made site result (inr is) = created site is.answer result is.prints

made_of_parts : (seven : List (List ℕ)) (mounts : List Mount) (parts : Result (List (List ℕ)) (LineFault Rule)) (result : Result Printed Failure) → init.AnswersInitSplit seven mounts parts result → Fine result
made_of_parts seven mounts (Ok parts) result is = made is.0 result is.2
made_of_parts seven mounts (Err fault) result is = text _ 3 result not_3 is

made_by : (seven : List (List ℕ)) (exports : List ℕ) (read : Result (List Mount) TableFault) (result : Result Printed Failure) → init.AnswersInitBy seven exports read result → Fine result
made_by seven exports (Ok table) result is = made_of_parts seven table (split_text table exports) result is
made_by seven exports (Err fault) result is = made is.0 result is.2

made_of_texts : (texts : List (List ℕ)) (result : Result Printed Failure) → init.AnswersInitTexts texts result → Fine result
made_of_texts (custodians ∷ filesystems ∷ hosts ∷ networks ∷ passwd ∷ group ∷ netgroup ∷ exports ∷ []) result is = made_by _ exports (read_filesystems filesystems) result is
made_of_texts [] result is = absurd is
made_of_texts (a ∷ []) result is = absurd is
made_of_texts (a ∷ b ∷ []) result is = absurd is
made_of_texts (a ∷ b ∷ c ∷ []) result is = absurd is
made_of_texts (a ∷ b ∷ c ∷ d ∷ []) result is = absurd is
made_of_texts (a ∷ b ∷ c ∷ d ∷ e ∷ []) result is = absurd is
made_of_texts (a ∷ b ∷ c ∷ d ∷ e ∷ f ∷ []) result is = absurd is
made_of_texts (a ∷ b ∷ c ∷ d ∷ e ∷ f ∷ g ∷ []) result is = absurd is
made_of_texts (a ∷ b ∷ c ∷ d ∷ e ∷ f ∷ g ∷ h ∷ i ∷ more) result is = absurd is

makes : (rows : List Row) (known : Option (List ℕ)) (result : Result Printed Failure) → init.AnswersInit rows known result → Fine result
makes rows known result is =
    word _ _ (first_of (codes "DB") rows) result is (λ db is. word _ _ (first_of (codes "DIR") rows) result is (λ dir is. elim is [
      | inl memory ↦ fails result _ memory
      | inr read ↦ after result read (λ texts is. made_of_texts texts result is)
    ]))

put_prints : (answer : Result Done DeskError) (result : Result Printed Failure) → put.PrintsAnswer answer result → Fine result
put_prints (Ok done) (Ok printed) is = prints _ 0 printed not_0 is
put_prints (Ok done) (Err failure) is = tt
put_prints (Err failed) result is = refuses_by failed result is

puts_texts : (words : put.PutWords) (base : ℕ) (texts : List (List ℕ)) (result : Result Printed Failure) → put.AnswersPutTexts words base texts result → Fine result
puts_texts words base (body ∷ key_text ∷ []) result is = elim is.2 [
  | inl none ↦ no_desk _ result none
  | inr done ↦ put_prints done.answer result done.prints
]
puts_texts words base [] result is = absurd is
puts_texts words base (a ∷ []) result is = absurd is
puts_texts words base (a ∷ b ∷ c ∷ more) result is = absurd is

puts_key : (words : put.PutWords) (base : ℕ) (fault : Option Failure) (known : Option (List ℕ)) (result : Result Printed Failure) → put.AnswersPutKey words base fault known result → Fine result
puts_key words base (Some failure) known result is = fails result failure is
puts_key words base None known result is = after result is (λ texts is. puts_texts words base texts result is)

puts_base : (words : put.PutWords) (base : Option ℕ) (known : Option (List ℕ)) (result : Result Printed Failure) → put.AnswersPutBase words base known result → Fine result
puts_base words None known result is = err_and _ result is
puts_base words (Some base) known result is = puts_key words base (put.key_fault (Some words.file) words.key words.key_file) known result is

puts_file : (file : List ℕ) (rows : List Row) (known : Option (List ℕ)) (result : Result Printed Failure) → put.AnswersPutFile file rows known result → Fine result
puts_file file rows known result is =
    word _ _ (first_of (codes "DB") rows) result is (λ db is. word _ _ (first_of (codes "NAME") rows) result is (λ name is.
    word _ _ (first_of (codes "base") rows) result is (λ base is. word _ _ (first_of (codes "caller") rows) result is (λ caller is. puts_base (record { db = db; name = name; file = file; base = base; caller = caller; key = first_of (codes "key") rows; key_file = first_of (codes "key-file") rows }) (revision_number base) known result is))))

puts_approval : (path : List ℕ) (approval : Approval) (result : Result Printed Failure) → put.AnswersApproval path approval result → Fine result
puts_approval path approval result (inl none) = no_desk path result none
puts_approval path approval result (inr (inl put)) = put_prints put.puts.answer result put.puts.prints
puts_approval path approval result (inr (inr refused)) = refuses refused.why result refused.prints

puts_proposal : (digest : List ℕ) (rows : List Row) (known : Option (List ℕ)) (result : Result Printed Failure) → put.AnswersPutProposal digest rows known result → Fine result
puts_proposal digest rows known result is =
    word _ _ (first_of (codes "DB") rows) result is (λ db is. word _ _ (first_of (codes "NAME") rows) result is (λ name is.
    word _ _ (first_of (codes "base") rows) result is (λ base is. word _ _ (first_of (codes "caller") rows) result is (λ caller is.
    after result is (λ number is. after result is (λ fine is. after result is (λ fine is. after result is (λ text is. puts_approval db _ result is.2))))))))

puts_by : (file digest : Option (List ℕ)) (rows : List Row) (known : Option (List ℕ)) (result : Result Printed Failure) → put.AnswersPutBy file digest rows known result → Fine result
puts_by (Some file) (Some digest) rows known result is = fails result _ is
puts_by (Some file) None rows known result is = puts_file file rows known result is
puts_by None (Some digest) rows known result is = puts_proposal digest rows known result is
puts_by None None rows known result is = err_and _ result is

puts : (rows : List Row) (known : Option (List ℕ)) (result : Result Printed Failure) → put.AnswersPut rows known result → Fine result
puts rows known result is = puts_by (first_of (codes "FILE") rows) (first_of (codes "proposal") rows) rows known result is

-- ---- files of a database, and its service

writes_named : (long : Option (List ℕ)) (names paths : List (List ℕ)) (result : Result Printed Failure) → write.WritesUnless long names paths result → Fine result
writes_named None names paths (Ok printed) is = has_status 0 printed not_0 is.0
writes_named None names paths (Err failure) is = tt
writes_named (Some name) names paths result is = text _ 1 result not_1 is

writes : (rows : List Row) (result : Result Printed Failure) → write.AnswersWrite rows result → Fine result
writes rows result is =
    word _ _ (first_of (codes "DB") rows) result is (λ db is. word _ _ (first_of (codes "DIR") rows) result is (λ dir is. elim is [
      | inl none ↦ no_copied_desk _ result none
      | inr stored ↦ elim stored.3 [
        | inl written ↦ writes_named _ _ _ result written.1
        | inr other ↦ elim other [
          | inl fault ↦ refuses (refused.Edit (refusal.Fault fault.0)) result fault.2
          | inr memory ↦ fails result _ memory
        ]
      ]
    ]))

copied : (result : Result Printed Failure) → copy.TellsCopied result → Fine result
copied (Ok printed) (inl is) = prints _ 0 printed not_0 is
copied (Ok printed) (inr is) = says refused.Store printed is
copied (Err failure) is = tt

copies : (rows : List Row) (result : Result Printed Failure) → copy.AnswersCopy rows result → Fine result
copies rows result is =
    word _ _ (first_of (codes "DB") rows) result is (λ db is. word _ _ (first_of (codes "FILE") rows) result is (λ file is. elim is [
      | inl none ↦ no_copied_desk _ result none
      | inr stored ↦ copied result stored.3
    ]))

serves_not : (path : List ℕ) (port : ℕ) (result : Result Printed Failure) → serve.RefusesService path port result → Fine result
serves_not path port (Ok printed) is = no_desk path (Ok printed) is
serves_not path port (Err failure) is = tt

serves : (rows : List Row) (result : Result Printed Failure) → serve.AnswersServe rows result → Fine result
serves rows (Ok printed) (inl is) = prints _ 0 printed not_0 is.2
serves rows (Err failure) (inl is) = absurd is
serves rows result (inr is) = after result is (λ asked is. serves_not _ _ result is)

-- ---- the program

by_command : (command : Subcommand) (rows : List Row) (known : Option (List ℕ)) (result : Result Printed Failure) → AnswersGiven command rows known result → Fine result
by_command subcommand.Try rows known result is = tries (asking_in rows) rows known result is
by_command subcommand.Split rows known result is = splits rows known result is
by_command subcommand.Check rows known result is = checks (check.beside_sarif rows) rows known result is
by_command subcommand.Clients rows known result is = lists_clients rows known result is
by_command subcommand.Lists rows known result is = lists_listing rows known result is
by_command subcommand.Terms rows known result is = lists_terms rows known result is
by_command subcommand.Compare rows known result is = compares rows known result is
by_command subcommand.Test rows known result is = tests_texts rows known result is
by_command subcommand.Init rows known result is = makes rows known result is
by_command subcommand.Ask rows known result is = asks_if (asking_in rows) rows result is
by_command subcommand.Show rows known result is = shows rows result is
by_command subcommand.Exports rows known result is = lists_exports rows result is
by_command subcommand.Who rows known result is = lists_who rows result is
by_command subcommand.Put rows known result is = puts rows known result is
by_command subcommand.Impact rows known result is = foresees rows known result is
by_command subcommand.Audit rows known result is = audits rows known result is
by_command subcommand.Log rows known result is = asks_file of_file.Revisions rows result is
by_command subcommand.Cat rows known result is = prints_file rows result is
by_command subcommand.Proposal rows known result is = asks_file of_file.Proposal rows result is
by_command subcommand.Files rows known result is = lists_files rows result is
by_command subcommand.Report rows known result is = word _ _ (first_of (codes "DB") rows) result is (λ db is. reports db result is)
by_command subcommand.Write rows known result is = writes rows result is
by_command subcommand.Copy rows known result is = copies rows result is
by_command subcommand.Serve rows known result is = serves rows result is

by_found : (found : Option (Subcommand × List Row)) (known : Option (List ℕ)) (result : Result Printed Failure) → AnswersFound found known result → Fine result
by_found (Some found) known result is = by_command found.0 found.1 known result is
by_found None known result is = err_and _ result is

by_words : (words : List (List ℕ)) (known : Option (List ℕ)) (result : Result Printed Failure) → AnswersCommand words known result → Fine result
by_words words known (Ok printed) (inl is) = has_status 0 printed not_0 is.1
by_words words known (Err failure) (inl is) = tt
by_words words known result (inr is) = by_found (command_found words) known result is

by_line : (line : Result (List ℕ) TextFault) (rest : Option (List ℕ)) (result : Result Printed Failure) → AnswersLine line rest result → Fine result
by_line (Ok line) rest result (inl is) = fails result _ is
by_line (Ok line) rest result (inr is) = by_words (words_of line) rest result is
by_line (Err fault) rest result is = fails result _ is

by_program : (words : List (List ℕ)) (known : Option (List ℕ)) (result : Result Printed Failure) → AnswersProgram words known result → Fine result
by_program [] known result (inl is) = err_and _ result is
by_program [] known result (inr is) = by_line (first_line is.line) is.rest result is.answers
by_program (word ∷ words) known result is = by_words (word ∷ words) known result is

pub four_is_refused : FourIsRefused
four_is_refused words known printed is = by_program words known (Ok printed) is

-- EXPECTATIONS is read, and then FILE; at most one of them is standard input.
use Rattle.std.proofs.Common.{◌≡◌, ℕ, Bool, false, List, Option, Result, inl, inr, refl, subst, sym}
use Rattle.std.proofs.lemmas.Result.{err_from_is_err_and}
use Rattle.std.specs.String.{string_bytes}
use Rattle.cli_output.specs.declared.failure.Failure.{Failure}
use Rattle.cli_files.specs.Files.{ReadsFiles, ReadsInTurn, ReadsUnless, name_input_twice}
use Rattle.cli_questions.specs.AuditCommand.{audit_files, words_of}
use Rattle.cli_questions.proofs.audit_command.read_texts.Goals as goal

-- at most one of the files is standard input
once : (files : List (List ℕ × Option (List ℕ))) (known : Option (List ℕ)) (read : Result (List (List ℕ)) Failure) (twice : Bool) → twice ≡ name_input_twice files → twice ≡ false → ReadsInTurn files known read → ReadsFiles files known read
once files known read twice is single reads =
    subst (λ (b : Bool). ReadsUnless b files known read) is (subst (λ (b : Bool). ReadsUnless b files known read) (sym single) reads)

pub returns-in_err-expectations-clause-texts : goal.returns-in_err-expectations-clause-texts
returns-in_err-expectations-clause-texts g c =
    let p = err_from_is_err_and c.from_residual.result c.from_residual.ensures.1 in
    rw (p.1, p.2)
    (once (audit_files (words_of c.args.words)) (g.I.Read.remaining c.args.input.now) _ _ c.names_input_twice.ensures c.if-names_input_twice.false
    (inl c.in_err-expectations.ensures.text))

pub returns-in_err-other-clause-texts : goal.returns-in_err-other-clause-texts
returns-in_err-other-clause-texts g c =
    let p = err_from_is_err_and c.from_residual-in_err-other.result c.from_residual-in_err-other.ensures.1 in
    rw (p.1, p.2)
    (once (audit_files (words_of c.args.words)) (g.I.Read.remaining c.args.input.now) _ _ c.names_input_twice.ensures c.if-names_input_twice.false
    (inr (string_bytes c.in_ok-expectations.expectations, g.I.Read.remaining c.read_if_given.new.input, (c.in_ok-expectations.ensures.text, (c.read_if_given.ensures.left, inl c.in_err-other.ensures.text)))))

pub returns-clause-texts : goal.returns-clause-texts
returns-clause-texts g c =
    once (audit_files (words_of c.args.words)) (g.I.Read.remaining c.args.input.now) _ _ c.names_input_twice.ensures c.if-names_input_twice.false
    (c.in_ok-expectations.ensures.text, (g.I.Read.remaining c.read_if_given.new.input, (c.read_if_given.ensures.left, (c.in_ok-other.ensures.text, (g.I.Read.remaining c.read_if_given-2.new.input, (c.read_if_given-2.ensures.left, refl))))))

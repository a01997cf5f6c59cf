-- Where a service is not served to its end, what was printed before is a front of the answer all the same.
use Rattle.std.proofs.Common.{◌≡◌, ◌≢◌, ◌⊎◌, ℕ, List, [], eqb, true, false, inl, inr, sym, append-nil, Result}
use Rattle.std.proofs.lemmas.Bool.Decides.{eqb_tells}
use Rattle.cli_output.specs.Printed.{PrintsAtFour, text_of}
use Rattle.cli_output.specs.declared.failure.Failure.{Failure}
use Rattle.cli_output.specs.declared.printed.Printed.{Printed}
use Rattle.cli.proofs.finish.Goals as goal

at_any : (status : ℕ) (answer : Result Printed Failure) (Prints : List ℕ → Type 0) → ((eqb status 4 ≡ true) × (status ≡ 4)) ⊎ ((eqb status 4 ≡ false) × (status ≢ 4)) → (status ≢ 4 → Prints (text_of answer)) → (status ≡ 4 → PrintsAtFour answer Prints) → PrintsAtFour answer Prints
at_any status answer Prints (inl is) whole at_four = at_four is.1
at_any status answer Prints (inr other) whole at_four =
    inl (record { front = text_of answer; rest = []; text_is = sym (append-nil (text_of answer)); prints = whole other.1 })

pub returns-then-not-end-clause-at_four : goal.returns-then-not-end-clause-at_four
returns-then-not-end-clause-at_four g c = λ _. at_any c.report-reported.result.status c.args.answer _ (eqb_tells c.report-reported.result.status 4) c.report-reported.ensures.printed c.report-reported.ensures.at_four

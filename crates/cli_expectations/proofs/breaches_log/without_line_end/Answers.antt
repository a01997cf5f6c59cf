use Rattle.std.proofs.Common.{◌≡◌, ◌≢◌, ℕ, List, [], ◌∷◌, ◌++◌, Option, Some, None, sym, ◌∙◌, ap, lit<, unwrap_or, MatchOption}
use Rattle.std.specs.Borrow.{Bor}
use Rattle.std.proofs.lemmas.Str.Pattern.{strip_suffix_char}
use Rattle.cli_expectations.specs.BreachesLog.{without_line_end}
use Rattle.cli_expectations.proofs.LineEnds.{strip-none, strip-some}
use Rattle.cli_expectations.proofs.breaches_log.without_line_end.Goals as goal

stripped : (r : Option (Bor (List ℕ))) (text : Bor (List ℕ)) → MatchOption r ((front : List ℕ) → text.now ≢ front ++ 10 ∷ []) (λ x. text.now ≡ x.now ++ 10 ∷ []) → (unwrap_or r text).now ≡ without_line_end text.now
stripped None text h = sym (strip-none text.now h)
stripped (Some x) text h = sym (strip-some text.now x.now h)

pub returns : goal.returns
returns c =
    ap (λ x. x.now) c.unwrap_or.ensures ∙ stripped c.strip_suffix.result c.args.text (strip_suffix_char 10 c.args.text.now c.strip_suffix.result c.strip_suffix.ensures.cases (lit< tt))

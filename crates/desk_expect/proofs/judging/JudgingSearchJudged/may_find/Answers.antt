-- The line is not about the address, nor about the one before it, unless it begins or ceases to be.
use Rattle.std.proofs.Common.{◌≡◌, ℕ, ◌+◌, ◌<◌, ◌^◌, ◌∙◌, List, None, ap, arith, cond, false, sym}
use Rattle.desk_text.specs.Address.{number_of}
use Rattle.desk_text.specs.AddrSet.{is_among}
use Rattle.desk_policy.specs.Verdict.{verdict_of}
use Rattle.desk_server.specs.Server.{server_verdict_of}
use Rattle.desk_expect.specs.Audience.{contains}
use Rattle.desk_expect.specs.Judging.{judged, judged_of}
use Rattle.desk_expect.proofs.judging.JudgingSearchJudged.may_find.Goals as goal

pub returns : goal.returns
returns c silent =
    let judging = c.args.self.now in
    let expectation = judging.expectation.now in
    let content = judging.index.now in
    let away : contains expectation.audience (number_of c.args.address) ≡ false = sym c.contains.ensures ∙ silent in
    let nothing : (path : List (List ℕ)) (own : ℕ) → contains expectation.audience own ≡ false → judged_of expectation content path own ≡ None =
    λ path own none. ap (λ about. cond about (judged expectation.forbids expectation.action (verdict_of content own path) (server_verdict_of content own path)) None) none in
    record {
      here = λ own path is. sym (nothing path (number_of own) (ap (contains expectation.audience) is ∙ away));
      before = λ none own path is.
          let fits : number_of own + 1 < 2 ^ 32 = omega (arith, is) in
          let steady = judging.are.steady (number_of own) fits (ap (λ n. is_among n judging.starts.now) is ∙ none) in
          sym (nothing path (number_of own) (sym steady ∙ ap (contains expectation.audience) is ∙ away));
    }

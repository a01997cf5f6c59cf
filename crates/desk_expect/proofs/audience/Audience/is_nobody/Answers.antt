use Rattle.std.proofs.Common.{◌≡◌, ◌∙◌, ap, arith, false, not, sym, true}
use Rattle.std.proofs.lemmas.Bool.{true≢false}
use Rattle.desk_expect.specs.Audience.{contains}
use Rattle.desk_expect.proofs.Starts.{nobody, none_of_nobody}
use Rattle.desk_expect.proofs.audience.Audience.is_nobody.Goals as goal

pub returns-then-not-contains : goal.returns-then-not-contains
returns-then-not-contains c =
    let audience = c.args.self.now in
    let first : contains audience 0 ≡ false = ap (contains audience) (sym c.from_number.ensures) ∙ sym c.contains.ensures ∙ c.if-not-contains.true in (
      λ all. nobody audience c.starts-starts.result.now c.starts-starts.ensures c.as_slice.result.now c.as_slice.ensures.value first (sym c.has_none_of.ensures ∙ all),
      λ none. c.has_none_of.ensures ∙ none_of_nobody audience c.starts-starts.result.now c.starts-starts.ensures c.as_slice.result.now c.as_slice.ensures.value none,
    )

pub returns-else-not-contains : goal.returns-else-not-contains
returns-else-not-contains c =
    let audience = c.args.self.now in
    let first : contains audience 0 ≡ true = ap (contains audience) (sym c.from_number.ensures) ∙ sym c.contains.ensures ∙ c.if-not-contains.false in (
      λ none. absurd (true≢false (sym none ∙ ap not c.if-not-contains.false)),
      λ none. absurd (true≢false (sym first ∙ none 0 (omega arith))),
    )

use Rattle.std.proofs.Common.{ℕ, find, sym, ◌∙◌, subst, add-one}
use Rattle.desk_policy.specs.Verdict.{lists_here}
use Rattle.desk_index.proofs.LinesByNumber.{Fails, is_numbered, next_found, next_none}
use Rattle.desk_index.proofs.numbered.first_listing.Goals as goal
use Rattle.desk_index.proofs.numbered.first_listing.Goals.{in-Some+else-lists_here, in_default}

pub returns-then-lists_here : goal.returns-then-lists_here
returns-then-lists_here c =
    sym (next_found (λ number. find (is_numbered number) c.args.rows.now) (lists_here c.args.path.now) c.args.lines.now c.loop-number.number-index 0 c.in-Some.row.now
    c.loop-number-test.true c.loop-number.invariant (sym c.in-Some.ensures) (sym c.lists_here.ensures ∙ c.if-lists_here.true))

pub loop-number-preserved : goal.loop-number-preserved
loop-number-preserved c =
    rw add-one (next_none (λ number. find (is_numbered number) c.args.rows.now) (lists_here c.args.path.now) c.args.lines.now c.loop-number.number-index 0
    c.loop-number-test.true c.loop-number.invariant (elim c.match-numbered.branch [
      | in-Some+else-lists_here w ↦ subst (Fails (λ (n : ℕ). find (is_numbered n) c.args.rows.now) (lists_here c.args.path.now)) w.in-Some.ensures (sym w.lists_here.ensures ∙ w.if-lists_here.false)
      | in_default w ↦ subst (Fails (λ (n : ℕ). find (is_numbered n) c.args.rows.now) (lists_here c.args.path.now)) w.in_default.ensures tt
    ]))

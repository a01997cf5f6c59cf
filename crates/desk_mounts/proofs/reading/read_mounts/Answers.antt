use Rattle.std.proofs.Common.{◌∙◌, ℕ, Err, Global, Ok, Vec, subst}
use Rattle.std.proofs.lemmas.Result.{err_from_is_err_and}
use Rattle.desk_text.specs.declared.path.Path.{Path}
use Rattle.desk_mounts.specs.PrivateReading.{AddsListed}
use Rattle.desk_mounts.proofs.Lines.{added, refused}
use Rattle.desk_mounts.proofs.reading.read_mounts.Goals as goal

pub returns-in_err-push_listed : goal.returns-in_err-push_listed
returns-in_err-push_listed c =
    let adds = subst (λ (n : ℕ). AddsListed n c.read_line.result c.loop-line.found.items c.push_listed.new.found.items (Err c.in_err-push_listed.field-0.0)) c.number.ensures c.in_err-push_listed.ensures in
    let p = err_from_is_err_and c.from_residual-in_err-push_listed.result c.from_residual-in_err-push_listed.ensures.1 in
    rw (p.1, p.2) (refused (λ (v : Vec Path Global). v.items) c.args.text.now c.deref-line-items.result.now (c.deref-line-items.ensures.value ∙ c.in_ok-lines.ensures.lines)
    c.loop-line.line-index c.line-item.result c.loop-line-test.true c.line-item.is c.read_line.result c.read_line.ensures
    c.loop-line.found.items c.push_listed.new.found.items c.in_err-push_listed.field-0.0 adds c.loop-line.invariant)

pub loop-line-preserved : goal.loop-line-preserved
loop-line-preserved c =
    let adds = subst (λ (n : ℕ). AddsListed n c.read_line.result c.loop-line.found.items c.push_listed.new.found.items (Ok c.in_ok-push_listed.field-0)) c.number.ensures c.in_ok-push_listed.ensures in
    added c.deref-line-items.result.now c.loop-line.line-index c.line-item.result c.loop-line-test.true c.line-item.is c.read_line.result c.read_line.ensures
    c.loop-line.found.items c.push_listed.new.found.items c.in_ok-push_listed.field-0 adds c.loop-line.invariant

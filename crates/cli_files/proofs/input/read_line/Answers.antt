-- The bytes that were taken are the first line: behind its line end, at the end of the input, and at the limit.
use Rattle.std.proofs.Common.{arith, subst}
use Rattle.cli_files.specs.Input.{GivesByte}
use Rattle.cli_files.proofs.KnownBytes.{ended_line, line_at_limit, unended_line}
use Rattle.cli_files.proofs.input.read_line.Goals as goal

pub returns-in_default-clause-line : goal.returns-in_default-clause-line
returns-in_default-clause-line g c =
    let known = g.I.Read.remaining c.args.input.now in
    let mid = g.I.Read.remaining c.loop-input.input in
    let left = g.I.Read.remaining c.read_byte.new.input in
    unended_line known mid left c.loop-input.bytes.items c.loop-input.invariant.taken
    (subst (GivesByte mid left) c.in_default.is c.in_ok-byte.ensures) c.loop-input.invariant.one_line c.loop-input.invariant.short

pub returns-then-byte-eq10-clause-line : goal.returns-then-byte-eq10-clause-line
returns-then-byte-eq10-clause-line g c =
    let known = g.I.Read.remaining c.args.input.now in
    let mid = g.I.Read.remaining c.loop-input.input in
    let left = g.I.Read.remaining c.read_byte.new.input in
    ended_line known mid left c.loop-input.bytes.items _ c.in-Some.byte c.loop-input.invariant.taken
    (subst (GivesByte mid left) c.in-Some.is c.in_ok-byte.ensures) c.in_ok-push.ensures.items c.if-byte-eq10.true
    c.loop-input.invariant.one_line (omega arith)

pub returns-clause-line : goal.returns-clause-line
returns-clause-line g c =
    line_at_limit (g.I.Read.remaining c.args.input.now) (g.I.Read.remaining c.loop-input.input) c.loop-input.bytes.items 16777218
    c.loop-input.invariant.taken c.loop-input.invariant.one_line (omega arith)

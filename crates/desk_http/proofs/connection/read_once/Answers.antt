-- What a read left, as events of the connection.
use Rattle.std.proofs.Common.{◌+◌, [], length, ne_eqb, refl, subst, sym}
use Rattle.desk_http_messages.specs.Reading.{ReadOn}
use Rattle.desk_http_messages.specs.declared.requests.End.TheVariants.{ReadFault}
use Rattle.desk_http.specs.declared.connection.State.TheVariants.{Waits}
use Rattle.desk_http.specs.Connection.{IsLast, Place}
use Rattle.desk_http.proofs.KnownBytes.{Consumes-none}
use Rattle.desk_http.proofs.StepLemmas.{brought_last, fails_last, fewer, none_left, waits_last}
use Rattle.desk_http.proofs.connection.read_once.Goals as goal

pub returns-then-reads-eq-MAX_READS-clause-read : goal.returns-then-reads-eq-MAX_READS-clause-read
returns-then-reads-eq-MAX_READS-clause-read g c =
    let p : Place = record { waiting = c.args.buffer.now; state = Waits c.args.pending; reads = c.args.reads } in
    ([], Consumes-none (g.R.Source.left c.args.reader.now), none_left p refl c.if-reads-eq-MAX_READS.true (fails_last c.args.buffer.now c.args.pending c.requires.waits) c.args.reads)

pub returns-in-AtEnd-clause-read : goal.returns-in-AtEnd-clause-read
returns-in-AtEnd-clause-read g c =
    let p : Place = record { waiting = c.args.buffer.now; state = Waits c.args.pending; reads = c.args.reads } in
    let got = c.read_on-made.ensures.read in
    let n = c.read_on-made.result.0 in
    let bytes = c.read_on-made.new.buffer in
    let left = subst (λ o. ReadOn c.args.pending o (length c.args.buffer.now) bytes n 1 (g.R.Source.has_failed c.read_on-made.new.reader) (g.R.Source.left c.read_on-made.new.reader)) c.in-AtEnd.is c.read_on-made.ensures.outcome in
    let less = fewer c.args.reads c.requires.few (ne_eqb c.args.reads 1000000 c.if-reads-eq-MAX_READS.false) in
    let last = subst (λ end. IsLast bytes end) (sym c.end.ensures) (waits_last bytes c.args.pending left.0) in
    (got.0, got.2, brought_last p got.0 bytes refl got.1 c.read_on-made.ensures.fits c.end.result (c.args.reads + n) less last)

pub returns-in-Failed-clause-read : goal.returns-in-Failed-clause-read
returns-in-Failed-clause-read g c =
    let p : Place = record { waiting = c.args.buffer.now; state = Waits c.args.pending; reads = c.args.reads } in
    let got = c.read_on-made.ensures.read in
    let n = c.read_on-made.result.0 in
    let bytes = c.read_on-made.new.buffer in
    let left = subst (λ o. ReadOn c.args.pending o (length c.args.buffer.now) bytes n 1 (g.R.Source.has_failed c.read_on-made.new.reader) (g.R.Source.left c.read_on-made.new.reader)) c.in-Failed.is c.read_on-made.ensures.outcome in
    let less = fewer c.args.reads c.requires.few (ne_eqb c.args.reads 1000000 c.if-reads-eq-MAX_READS.false) in
    (got.0, got.2, brought_last p got.0 bytes refl got.1 c.read_on-made.ensures.fits ReadFault (c.args.reads + n) less (fails_last bytes c.args.pending left.0))

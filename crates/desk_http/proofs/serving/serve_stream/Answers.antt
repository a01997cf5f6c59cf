-- Each arm of the loop keeps what was done so far, or ends it.
use Rattle.std.proofs.Common.{◌+◌, ◌∙◌, ◌++◌, [], ap, append-nil, arith, inr, length, length-append, refl, subst, sym}
use Rattle.desk_http_messages.specs.Stream.{HasFault}
use Rattle.desk_http_messages.specs.declared.requests.End.TheVariants.{Closed}
use Rattle.desk_store.specs.Desk.{HasGoodDisk, StandsAt}
use Rattle.desk_http.specs.Connection.{Place, after_reply, has_ended}
use Rattle.desk_http.specs.Serving.{AnswersAll}
use Rattle.desk_http.specs.Stepping.{text_bytes}
use Rattle.desk_http.proofs.Progress.{Progress}
use Rattle.desk_http.proofs.RunLemmas.{Progress-more, Progress-next, Progress-none, closed, ended_by, read_last, refused, reply_cut, told_by}
use Rattle.desk_http.proofs.serving.serve_stream.Goals as goal

pub loop-text-init : goal.loop-text-init
loop-text-init g c = record {
  progress = Progress-none _ _ _ _ _ _ (ap (λ (p : Place). p.waiting) c.requires.fresh);
  goes_on = ap (λ (p : Place). has_ended p.state) c.requires.fresh;
  reads_is = omega (arith, ap (λ (p : Place). p.reads) c.requires.fresh);
  few = omega (arith, ap (λ (p : Place). p.reads) c.requires.fresh);
  fits = omega (arith, ap (λ (p : Place). length p.waiting) c.requires.fresh);
  received = omega (arith, ap (λ (p : Place). length p.waiting) c.requires.fresh);
  short = omega arith;
  reader_good = c.requires.reader_good;
  writer_good = c.requires.writer_good;
}

pub returns-in-Err-clause-session : goal.returns-in-Err-clause-session
returns-in-Err-clause-session g c =
    let moves = c.in-Reply.ensures.moves in
    let said = c.in-Err.ensures.cut in
    told_by (HasGoodDisk g.S.Store) (StandsAt g.S.Store) c.ended.result _ _ _ c.ended.ensures _ _ _ _ _ _
    (reply_cut (HasGoodDisk g.S.Store) (StandsAt g.S.Store) _ _ _ _ _ _ _ _ _ c.loop-text.invariant.progress moves.0 _ (text_bytes c.in-Reply.text) moves.2.1 moves.2.2 _ moves.3 _ c.in-Err.part said.0 said.1)

pub returns-then-ends-clause-session : goal.returns-then-ends-clause-session
returns-then-ends-clause-session g c =
    let l = c.loop-text in
    let moves = c.in-Reply.ensures.moves in
    let said = c.in-Ok.ensures.ok in
    told_by (HasGoodDisk g.S.Store) (StandsAt g.S.Store) c.ended-then-ends.result _ _ _ c.ended-then-ends.ensures _ _ _ _ _ _
    (subst (λ n. AnswersAll (HasGoodDisk g.S.Store) (StandsAt g.S.Store) Closed c.args.desk.now c.step.new.desk (g.R.Source.left c.args.reader.now) (g.R.Source.left l.reader) (g.W.Sink.held c.args.writer.now) (g.W.Sink.held c.write_reply-told.new.writer) (l.replies + 1) (l.written + n)) (sym said.1)
    (closed (HasGoodDisk g.S.Store) (StandsAt g.S.Store) _ _ _ _ _ _ _ _ _ l.invariant.progress moves.0 _ (text_bytes c.in-Reply.text) moves.2.1 moves.2.2 (sym moves.1 ∙ c.if-ends.true) _ moves.3 _ said.0))

pub loop-text-preserved-else-ends : goal.loop-text-preserved-else-ends
loop-text-preserved-else-ends g c =
    let l = c.loop-text in
    let inv = l.invariant in
    let moves = c.in-Reply.ensures.moves in
    let said = c.in-Ok.ensures.ok in
    let next = Progress-next (HasGoodDisk g.S.Store) (StandsAt g.S.Store) _ _ _ _ _ _ _ _ _ inv.progress moves.0 c.step.new.self.waiting (text_bytes c.in-Reply.text) moves.2.1 moves.2.2 (sym moves.1 ∙ c.if-ends.false) c.step.new.desk moves.3 (g.W.Sink.held c.write_reply-told.new.writer) said.0 in
    let less = c.in-Reply.ensures.shorter refl in
    record {
      progress = subst (λ n. Progress (HasGoodDisk g.S.Store) (StandsAt g.S.Store) c.args.desk.now c.step.new.desk (g.R.Source.left c.args.reader.now) (g.R.Source.left l.reader) (g.W.Sink.held c.args.writer.now) (g.W.Sink.held c.write_reply-told.new.writer) c.step.new.self.waiting (l.replies + 1) (l.written + n)) (sym said.1) next;
      goes_on = ap has_ended (moves.2.3 ∙ ap after_reply (sym moves.1 ∙ c.if-ends.false));
      reads_is = inv.reads_is ∙ ap (λ n. g.R.Source.reads c.args.reader.now + n) (sym moves.2.4);
      few = omega (arith, inv.few, moves.2.4);
      fits = omega (arith, less, inv.fits);
      received = omega (arith, less, inv.received, moves.2.4);
      short = omega (arith, inv.short);
      reader_good = inv.reader_good;
      writer_good = c.in-Ok.ensures.still_good;
    }

pub returns-in-Fault-clause-session : goal.returns-in-Fault-clause-session
returns-in-Fault-clause-session g c =
    let l = c.loop-text in
    let moves = c.in-Fault.ensures.moves in
    let always = moves.0.1 in
    let has = subst (λ b. HasFault b c.in-Fault.fault) (append-nil l.connection.waiting) (always []) in
    let p = subst (λ d. Progress (HasGoodDisk g.S.Store) (StandsAt g.S.Store) c.args.desk.now d (g.R.Source.left c.args.reader.now) (g.R.Source.left l.reader) (g.W.Sink.held c.args.writer.now) (g.W.Sink.held l.writer) l.connection.waiting l.replies l.written) (sym moves.1) l.invariant.progress in
    refused (HasGoodDisk g.S.Store) (StandsAt g.S.Store) _ _ _ _ _ _ _ _ _ p c.in-Fault.fault has (inr always) _ c.refuse.result c.refuse.ensures.refuses

pub loop-text-preserved : goal.loop-text-preserved
loop-text-preserved g c =
    let l = c.loop-text in
    let inv = l.invariant in
    let looks = c.in-Waits.ensures.moves in
    let got = c.in-None.ensures.read in
    let here = looks.0.1 in
    let p = subst (λ d. Progress (HasGoodDisk g.S.Store) (StandsAt g.S.Store) c.args.desk.now d (g.R.Source.left c.args.reader.now) (g.R.Source.left l.reader) (g.W.Sink.held c.args.writer.now) (g.W.Sink.held l.writer) l.connection.waiting l.replies l.written) (sym looks.1) inv.progress in
    let moves = got.2 in
    let size = ap length moves.2 ∙ length-append c.step.new.self.waiting got.0 in
    record {
      progress = Progress-more (HasGoodDisk g.S.Store) (StandsAt g.S.Store) _ _ _ _ _ _ _ _ _ p _ got.0 _ (moves.2 ∙ ap (λ b. b ++ got.0) here) got.1;
      goes_on = moves.3;
      reads_is = omega (arith, inv.reads_is, looks.0.3, moves.4, c.in-None.ensures.counted);
      few = moves.5;
      fits = c.in-None.ensures.fits;
      received = omega (arith, inv.received, looks.0.3, moves.4, size, ap length here, c.in-None.ensures.fits);
      short = inv.short;
      reader_good = c.in-None.ensures.ends;
      writer_good = inv.writer_good;
    }

pub returns-in-Some-clause-session : goal.returns-in-Some-clause-session
returns-in-Some-clause-session g c =
    let l = c.loop-text in
    let looks = c.in-Waits.ensures.moves in
    let got = c.in-Some.ensures.read in
    let here = looks.0.1 in
    let p = subst (λ d. Progress (HasGoodDisk g.S.Store) (StandsAt g.S.Store) c.args.desk.now d (g.R.Source.left c.args.reader.now) (g.R.Source.left l.reader) (g.W.Sink.held c.args.writer.now) (g.W.Sink.held l.writer) l.connection.waiting l.replies l.written) (sym looks.1) l.invariant.progress in
    let more = Progress-more (HasGoodDisk g.S.Store) (StandsAt g.S.Store) _ _ _ _ _ _ _ _ _ p _ got.0 _ (ap (λ b. b ++ got.0) here) got.1 in
    ended_by (HasGoodDisk g.S.Store) (StandsAt g.S.Store) _ _ _ _ _ _ _ _ _ more c.in-Some.end (read_last c.step.new.self c.read_from.new.self got.0 c.in-Some.end got.2) c.in-Some.ensures.ends.1 _ c.end_input.result c.end_input.ensures.ends

use Rattle.std.proofs.Common.{◌≡◌, [], length, ap, sym, subst, arith}
use Rattle.desk_http_messages.specs.Stream.{EndsSo}
use Rattle.desk_http_messages.proofs.StreamLemmas.{open_without_head, some_bytes, unfaulted_without_head}
use Rattle.desk_http_messages.proofs.framing.without_head.Goals as goal

pub returns-then-bytes-lt-HEAD_LIMIT : goal.returns-then-bytes-lt-HEAD_LIMIT
returns-then-bytes-lt-HEAD_LIMIT c = λ headers.
    let told = c.requires.none c.if-bytes-lt-HEAD_LIMIT.true in
    let none = told.0 in
    let some : c.args.bytes.now ≡ [] → ⊥ = λ e. absurd (omega (arith, c.requires.some, ap length e)) in
    record {
      ends = subst (EndsSo [] c.args.bytes.now) (sym told.3) (λ k d below. absurd (omega (arith, below)), (some, none));
      is_open = open_without_head c.args.bytes.now none;
      unfaulted = unfaulted_without_head c.args.bytes.now none;
      unfinished = λ _. told.1;
      room = omega (arith, c.if-bytes-lt-HEAD_LIMIT.true);
      pends = told.2;
    }

pub returns-else-bytes-lt-HEAD_LIMIT : goal.returns-else-bytes-lt-HEAD_LIMIT
returns-else-bytes-lt-HEAD_LIMIT c = λ headers more. (some_bytes _ more c.requires.some, c.requires.never (omega arith) more)

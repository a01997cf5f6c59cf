-- What the calls of a reader and writer over memory did. (this project's own)
use Rattle.std.specs.Prelude.{◌≡◌, ◌↔◌, ℕ, ◌+◌, ◌-◌, List, Some, Result, IfOk, IsErr, length, min}
use Rattle.desk_http_messages.specs.declared.in_memory.Bytes.{Bytes}
use Rattle.desk_http_messages.specs.declared.transport.Failed.{Failed}

-- a read into so much room: it fails if it is the call that is to fail, and only then; else it takes what is left, as far as the step
-- and the room allow
pub record ReadsBytes (old : Bytes) (room : ℕ) (result : Result ℕ Failed) (new : Bytes) : Type 0 where
  pub fails : IsErr result ↔ (old.fails_at ≡ Some old.calls)
  pub takes : IfOk result (λ n. n ≡ min old.step (min (length old.bytes.items - old.at) room))
  pub step : new.step ≡ old.step
  pub fails_at : new.fails_at ≡ old.fails_at

-- a write: it fails if it is the call that is to fail; if it does not fail, it takes as many bytes as the step allows
pub record WritesBytes (old : Bytes) (bytes : List ℕ) (result : Result ℕ Failed) (new : Bytes) : Type 0 where
  pub fails : old.fails_at ≡ Some old.calls → IsErr result
  pub takes : IfOk result (λ n. n ≡ min old.step (length bytes))
  pub counted : new.calls ≡ min (old.calls + 1) 18446744073709551615
  pub step : new.step ≡ old.step
  pub fails_at : new.fails_at ≡ old.fails_at

-- What a connection made of bytes that it was given.
use Rattle.std.proofs.Common.{◌≡◌, ◌⊎◌, inl, inr, sym, ap, ◌∙◌, subst, ℕ, ◌+◌, Bool, false, List, [], ◌∷◌, ◌++◌, Option, None, Some, append-nil, append_assoc, arith}
use Rattle.std.proofs.lemmas.List.{append_cancel_right}
use Rattle.std.specs.Prelude.{◌≢◌}
use Rattle.std.specs.Io.KnownBytes.{IsAtEnd}
use Rattle.desk_http_messages.specs.declared.requests.End.{End}
use Rattle.desk_http_messages.specs.declared.requests.End.TheVariants.{ReadFault}
use Rattle.desk_http.specs.Connection.{Came, EndsRead, Moves, Place, ReadMoves}
use Rattle.desk_http_sessions.specs.PrivateSession.{TakesIn}

one_more : (reads before after : ℕ) → reads + before ≡ after → after ≡ before + 1 → reads ≢ 0
one_more reads before after counted more none = omega (arith, counted, more, none)

-- a byte follows
something : (rest : List ℕ) → rest ++ 0 ∷ [] ≡ [] → ⊥
something [] h = cc
something (b ∷ rest) h = cc

-- some bytes, behind which more may follow
module _ (p q : Place) (all rest found : List ℕ) (consumed : all ++ 0 ∷ [] ≡ found ++ (rest ++ 0 ∷ [])) where
  parts : all ≡ found ++ rest
  parts = append_cancel_right all (found ++ rest) (0 ∷ []) (consumed ∙ sym (append_assoc found rest (0 ∷ [])))

  whole : rest ≡ [] → found ≡ all
  whole none = sym (parts ∙ ap (λ r. found ++ r) none ∙ append-nil found)

  fault : (end : End) → IsAtEnd (Some (rest ++ 0 ∷ [])) ⊎ (end ≡ ReadFault) → end ≡ ReadFault
  fault end (inl none) = absurd (something rest none)
  fault end (inr is) = is

  pub takes_in : (result : Option End) (reads : ℕ) (failed : Bool) → ReadMoves p found result q → reads + p.reads ≡ q.reads → EndsRead result q.reads failed (Some (rest ++ 0 ∷ [])) → (failed ≡ false → reads ≢ 0 → rest ≡ []) → TakesIn p all result q
  takes_in None reads failed moves counted ends left = subst (λ b. Moves p (Came b) q) (whole (left ends (one_more reads p.reads q.reads counted moves.4))) moves
  takes_in (Some end) reads failed moves counted ends left = (found, rest, parts, moves, inr (fault end ends.1))

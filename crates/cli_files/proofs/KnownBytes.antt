-- Bytes that a reader is known to have, for `input::read_bytes` and `input::read_line`.
use Rattle.std.proofs.Common.{◌≡◌, ◌≢◌, ◌+◌, ◌-◌, ◌<◌, ◌≤◌, ℕ, All, List, [], ◌∷◌, ◌++◌, append-nil, append_assoc, arith, length, take, subst, take_all, Option, Some, None, IfOk, IfSome, Result, Ok, Err, ◌∙◌, ap, sym, Bor}
use Rattle.std.proofs.BufReadLemmas.{take_through-append}
use Rattle.std.proofs.Math.Seq.{take-append-add}
use Rattle.std.proofs.lemmas.List.{length_push}
use Rattle.std.specs.Io.BufRead.{take_through}
use Rattle.std.specs.Io.KnownBytes.{Consumes, IsAtEnd, Keeps}
use Rattle.std.specs.Option.{option_map}
use Rattle.std.proofs.KnownBytes.{Consumes-trans, Keeps-trans}
use Rattle.cli_files.specs.Input.{GivesByte}

-- what f gives of the first n bytes was read
pub read_front : (f : List ℕ → List ℕ) (known : Option (List ℕ)) (n : ℕ) (before after : List ℕ) → before ≡ [] → IfSome (option_map (take n) known) (λ xs. after ≡ before ++ f xs) → IfSome known (λ given. after ≡ f (take n given))
read_front f None n before after empty read = tt
read_front f (Some given) n before after empty read = read ∙ ap (λ xs. xs ++ f (take n given)) empty

-- bytes without a line end are a line up to the limit
whole : (given line : List ℕ) (n : ℕ) → All (λ b. b ≢ 10) line → take n given ≡ line → line ≡ take_through 10 (take n given)
whole given line n others is =
    sym (ap (take_through 10) (is ∙ sym (append-nil line)) ∙ take_through-append 10 line [] others ∙ append-nil line)

-- a byte more was taken
pub pushed : (known mid left : Option (List ℕ)) (front line : List ℕ) (byte : ℕ) → Consumes known mid front → Consumes mid left (byte ∷ []) → line ≡ front ++ byte ∷ [] → Consumes known left line
pushed known mid left front line byte taken next is = subst (Consumes known left) (sym is) (Consumes-trans known mid left front (byte ∷ []) taken next)

-- bytes that were taken up to a line end are the first line
pub line_with_end : (known left : Option (List ℕ)) (front line : List ℕ) (n : ℕ) → Consumes known left line → line ≡ front ++ 10 ∷ [] → All (λ b. b ≢ 10) front → length front < n → IfSome known (λ given. line ≡ take_through 10 (take n given))
line_with_end None left front line n taken is others short = tt
line_with_end (Some given) None front line n taken is others short = absurd taken
line_with_end (Some given) (Some rest) front line n taken is others short =
    let long : length line ≡ length front + 1 = ap length is ∙ length_push front 10 in
    let sum : n ≡ length line + (n - length line) = omega (arith, long) in
    is ∙ sym (ap (λ xs. take_through 10 (take n xs)) taken
    ∙ ap (λ k. take_through 10 (take k (line ++ rest))) sum
    ∙ ap (take_through 10) (take-append-add line rest (n - length line))
    ∙ ap (λ xs. take_through 10 (xs ++ take (n - length line) rest)) is
    ∙ ap (take_through 10) (append_assoc front (10 ∷ []) (take (n - length line) rest))
    ∙ take_through-append 10 front (10 ∷ take (n - length line) rest) others)

-- bytes without a line end that are all of the input are the first line
pub line_at_end : (known left : Option (List ℕ)) (line : List ℕ) (n : ℕ) → Consumes known left line → IsAtEnd left → All (λ b. b ≢ 10) line → length line ≤ n → IfSome known (λ given. line ≡ take_through 10 (take n given))
line_at_end None left line n taken end others short = tt
line_at_end (Some given) None line n taken end others short = absurd taken
line_at_end (Some given) (Some rest) line n taken end others short =
    let all : given ≡ line = taken ∙ ap (λ xs. line ++ xs) end ∙ append-nil line in
    whole given line n others (ap (take n) all ∙ take_all n line short)

-- bytes without a line end that are as many as may be taken are the first line
pub line_at_limit : (known left : Option (List ℕ)) (line : List ℕ) (n : ℕ) → Consumes known left line → All (λ b. b ≢ 10) line → n ≡ length line → IfSome known (λ given. line ≡ take_through 10 (take n given))
line_at_limit None left line n taken others full = tt
line_at_limit (Some given) None line n taken others full = absurd taken
line_at_limit (Some given) (Some rest) line n taken others full =
    let sum : n ≡ length line + 0 = omega (arith, full) in
    whole given line n others (ap (take n) taken ∙ ap (λ k. take k (line ++ rest)) sum ∙ take-append-add line rest 0 ∙ append-nil line)

-- what is left at the end was left before a read that took nothing
end_before : (a b : Option (List ℕ)) → Keeps a b → IsAtEnd b → IsAtEnd a
end_before None b kept end = tt
end_before (Some x) None kept end = absurd kept
end_before (Some x) (Some y) kept end = sym kept ∙ end

-- what is given behind a read that took nothing
pub given_byte : {E : Type 0} (a b c : Option (List ℕ)) (read : Result (Option ℕ) E) → Keeps a b → IfOk read (GivesByte b c) → IfOk read (GivesByte a c)
given_byte a b c (Err e) kept given = tt
given_byte a b c (Ok None) kept given = (Keeps-trans a b c kept given.0, end_before a b kept given.1)
given_byte a b c (Ok (Some byte)) kept given = kept_byte a b c byte kept given
  where
    kept_byte : (a b c : Option (List ℕ)) (byte : ℕ) → Keeps a b → Consumes b c (byte ∷ []) → Consumes a c (byte ∷ [])
    kept_byte None b c byte kept taken = tt
    kept_byte (Some x) None c byte kept taken = absurd kept
    kept_byte (Some x) (Some y) None byte kept taken = absurd taken
    kept_byte (Some x) (Some y) (Some z) byte kept taken = sym kept ∙ taken

-- bytes that were taken one by one up to a line end are the first line
pub ended_line : (known mid left : Option (List ℕ)) (front line : List ℕ) (byte : ℕ) → Consumes known mid front → Consumes mid left (byte ∷ []) → line ≡ front ++ byte ∷ [] → byte ≡ 10 → All (λ b. b ≢ 10) front → length front < 16777218 → IfSome known (λ given. line ≡ take_through 10 (take 16777218 given))
ended_line known mid left front line byte taken next is end others short =
    let whole_line : line ≡ front ++ 10 ∷ [] = is ∙ ap (λ b. front ++ b ∷ []) end in
    line_with_end known left front line 16777218 (pushed known mid left front line byte taken next is) whole_line others short

-- bytes without a line end, behind which nothing is left, are the first line
pub unended_line : (known mid left : Option (List ℕ)) (line : List ℕ) → Consumes known mid line → Keeps mid left × IsAtEnd mid → All (λ b. b ≢ 10) line → length line ≤ 16777218 → IfSome known (λ given. line ≡ take_through 10 (take 16777218 given))
unended_line known mid left line taken end others short = line_at_end known mid line 16777218 taken end.1 others short

-- a reader that shows no bytes is at its end
pub shows_none : {E : Type 0} (old new : Option (List ℕ)) (shown : Result (Bor (List ℕ)) E) (bytes : Bor (List ℕ)) → shown ≡ Ok bytes → length bytes.now < 1 → Keeps old new
    → IfSome old (λ xs. IfOk shown (λ s. length s.now ≡ 0 → xs ≡ [])) → GivesByte old new None
shows_none None new shown bytes is short kept none = (tt, tt)
shows_none {E} (Some xs) new shown bytes is short kept none =
    (kept, subst (λ (r : Result (Bor (List ℕ)) E). IfOk r (λ s. length s.now ≡ 0 → xs ≡ [])) is none (omega (arith, short)))

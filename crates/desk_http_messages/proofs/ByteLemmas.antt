-- Bytes that are taken from a reader or given to a writer part by part.
use Rattle.std.proofs.Common.{◌≡◌, ℕ, ◌+◌, ◌-◌, ◌≤◌, ◌<◌, List, ◌++◌, length, take, drop, slice_range, sym, ap, ◌∙◌, arith, append_assoc, Option, Some, None, Ok, Bool, false, ◌||◌, length-take, length-drop}
use Rattle.std.proofs.lemmas.Grind.{common_steps}
use Rattle.desk_http_messages.specs.Transport.{took_none}
use Rattle.std.specs.Io.KnownBytes.{Appends}
use Rattle.std.proofs.lemmas.List.{drop-drop, drop-take}
use Rattle.std.proofs.Math.Seq.{take-add}

-- one part after another
pub Appends-append : (a b c : Option (List ℕ)) (xs ys : List ℕ) → Appends a b xs → Appends b c ys → Appends a c (xs ++ ys)
Appends-append None b c xs ys p q = tt
Appends-append (Some a) (Some b) (Some c) xs ys p q = q ∙ ap (λ l. l ++ ys) p ∙ append_assoc a xs ys
Appends-append (Some a) (Some b) None xs ys p q = q
Appends-append (Some a) None c xs ys p q = absurd p

-- a text whose first i bytes were written, and then n more of it
pub Appends_more : (a b c : Option (List ℕ)) (text : List ℕ) (i n : ℕ) → Appends a b (take i text) → Appends b c (take n (drop i text)) → Appends a c (take (i + n) text)
Appends_more a b c text i n p q = rw (take-add i n text) (Appends-append a b c (take i text) (take n (drop i text)) p q)

-- a range that begins later
pub slice_range-drop : (xs : List ℕ) (start n end : ℕ) → start + n ≤ end → slice_range xs (start + n) end ≡ drop n (slice_range xs start end)
slice_range-drop xs start n end h =
    let total : n + (end - (start + n)) ≡ end - start = omega arith in
    ap (λ l. take (end - (start + n)) l) (sym (drop-drop n start xs))
    ∙ sym (drop-take n (end - (start + n)) (drop start xs))
    ∙ ap (λ k. drop n (take k (drop start xs))) total

pub length-slice_range : (xs : List ℕ) (start end : ℕ) → end ≤ length xs → length (slice_range xs start end) ≡ end - start
length-slice_range xs start end h = simp (length-take, length-drop) (omega arith)

-- a buffer whose bytes moved to the front, with n more behind them
pub refilled : (was bytes now : List ℕ) (start end n : ℕ) → slice_range was start end ≡ now → take (end - start) bytes ≡ slice_range was start end → slice_range bytes 0 (end - start + n) ≡ now ++ take n (drop (end - start) bytes)
refilled was bytes now start end n is_now stays =
    let shorter : end - start + n - 0 ≡ end - start + n = omega arith in
    ap (λ k. take k bytes) shorter ∙ take-add (end - start) n bytes ∙ ap (λ l. l ++ take n (drop (end - start) bytes)) (stays ∙ is_now)

pub length-refilled : (bytes : List ℕ) (k n : ℕ) → k + n ≤ length bytes → length (take n (drop k bytes)) ≡ n
length-refilled bytes k n h = simp (length-take, length-drop) (omega arith)

-- a write that took some bytes is no failure
pub took_some : (E : Type 0) (was now : Bool) (n : ℕ) (bytes : List ℕ) → was ≡ false → 0 < n → now ≡ (was || took_none {E = E} bytes (Ok n)) → now ≡ false
took_some E was now n bytes good some is = grind (arith, common_steps)

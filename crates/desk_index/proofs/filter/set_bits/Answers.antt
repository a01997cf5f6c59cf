use Rattle.std.proofs.Common.{◌≡◌, ℕ, zero, suc, List, [], ◌∷◌, Some, ap, sym, ◌∙◌, subst, set, length, length-set, refl, arith, min}
use Rattle.std.specs.Prelude.{IfSome, bit_and, bit_or, slice_get}
use Rattle.std.specs.Int.{bit_at}
use Rattle.std.proofs.lemmas.Nat.{and_or_self}
use Rattle.std.proofs.lemmas.Nat.Bits.{bit_at_and, bit_at_or, same_from_bits}
use Rattle.std.proofs.lemmas.Option.{slice_get_past, slice_get_read}
use Rattle.desk_index.specs.PrivateFilter.{mark_of}
use Rattle.desk_index.proofs.filter.set_bits.Goals as goal

abbrev Has : List ℕ → ℕ × ℕ → Type 0
Has words mark = IfSome (slice_get words mark.0) (λ word. bit_and word mark.1 ≡ mark.1)

stay : (word more bits : ℕ) → bit_and word bits ≡ bits → bit_and (bit_or word more) bits ≡ bits
stay word more bits h = same_from_bits (bit_and (bit_or word more) bits) bits (λ i.
    let was : min (bit_at word i) (bit_at bits i) ≡ bit_at bits i = sym (bit_at_and word bits i) ∙ ap (λ n. bit_at n i) h in
    bit_at_and (bit_or word more) bits i ∙ ap (λ n. min n (bit_at bits i)) (bit_at_or word more i) ∙ omega arith)

set_here : (words : List ℕ) (mark : ℕ × ℕ) (word : ℕ) → Has (set words mark.0 (bit_or word mark.1)) mark
set_here [] mark word = tt
set_here (w ∷ ws) (zero, bits) word = and_or_self bits word
set_here (w ∷ ws) (suc place, bits) word = set_here ws (place, bits) word

set_there : (words : List ℕ) (place bits word : ℕ) (mark : ℕ × ℕ) → slice_get words place ≡ Some word → Has words mark → Has (set words place (bit_or word bits)) mark
set_there [] place bits word mark is h = tt
set_there (w ∷ ws) zero bits word (zero, others) is h = let e : w ≡ word = cc in subst (λ n. bit_and (bit_or n bits) others ≡ others) e (stay w bits others h)
set_there (w ∷ ws) zero bits word (suc other, others) is h = h
set_there (w ∷ ws) (suc place) bits word (zero, others) is h = h
set_there (w ∷ ws) (suc place) bits word (suc other, others) is h = set_there ws place bits word (other, others) is h

pub returns-in-Some-clause-sets : goal.returns-in-Some-clause-sets
returns-in-Some-clause-sets c =
    let words = c.args.words.now.items in
    let mark = c.mark_of-place.result in
    let value = bit_or c.in-Some.word.now mark.1 in
    let count : c.len.result ≡ length (set words mark.0 value) = omega (arith, length-set words mark.0 value) in
    subst (Has (set words mark.0 value)) (c.mark_of-place.ensures ∙ ap (mark_of c.args.key) count) (set_here words mark c.in-Some.word.now)

pub returns-in-Some-clause-keeps : goal.returns-in-Some-clause-keeps
returns-in-Some-clause-keeps c = λ other h.
    let words = c.args.words.now.items in
    let mark = c.mark_of-place.result in
    let value = bit_or c.in-Some.word.now mark.1 in
    subst (Has (set words mark.0 value)) (ap (mark_of other) (sym (length-set words mark.0 value)))
    (set_there words mark.0 mark.1 c.in-Some.word.now (mark_of other (length words)) (slice_get_read words (length words) mark.0 c.in-Some.word.now refl c.in-Some.ensures.item.3.0 c.in-Some.ensures.value) h)

pub returns-in_default-clause-sets : goal.returns-in_default-clause-sets
returns-in_default-clause-sets c =
    let words = c.args.words.now.items in
    let count : c.len.result ≡ length words = omega arith in
    subst (Has words) (c.mark_of-place.ensures ∙ ap (mark_of c.args.key) count)
    (subst (λ o. IfSome o (λ word. bit_and word c.mark_of-place.result.1 ≡ c.mark_of-place.result.1)) (sym (slice_get_past words c.mark_of-place.result.0 c.in_default.ensures.item.3)) tt)

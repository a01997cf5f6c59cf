-- A text that gains pieces.
use Rattle.std.proofs.Common.{◌≡◌, ◌∙◌, ◌+◌, ◌<◌, ◌++◌, ◌∷◌, ℕ, List, [], Err, Ok, OnOk, Result, ap, get_or, if◌then◌else◌, is_ok, length, sym, take}
use Rattle.std.specs.List.{flat_map}
use Rattle.std.proofs.lemmas.List.{append_assoc, flat_map_more, take_more}

pub on_ok : {T E P Q : Type 0} (r : Result T E) → (P → Q) → OnOk r P → OnOk r Q
on_ok (Ok value) f p = f p
on_ok (Err error) f p = p

pub added : {T E : Type 0} (r : Result T E) (text more less : List ℕ) → text ≡ (if is_ok r then more else less) → OnOk r (text ≡ more)
added (Ok value) text more less e = e
added (Err error) text more less e = tt

-- two pieces, and three
pub two : (t0 t1 t2 a b : List ℕ) → t1 ≡ t0 ++ a → t2 ≡ t1 ++ b → t2 ≡ t0 ++ (a ++ b)
two t0 t1 t2 a b first second = second ∙ ap (λ (t : List ℕ). t ++ b) first ∙ append_assoc t0 a b

pub three : (t0 t1 t2 t3 a b c : List ℕ) → t1 ≡ t0 ++ a → t2 ≡ t1 ++ b → t3 ≡ t2 ++ c → t3 ≡ t0 ++ (a ++ (b ++ c))
three t0 t1 t2 t3 a b c first second third = two t0 t1 t3 a (b ++ c) first (two t1 t2 t3 b c second third)

-- to the left
pub leftwards : (w a b c : List ℕ) → w ++ ((a ++ b) ++ c) ≡ ((w ++ a) ++ b) ++ c
leftwards w a b c = sym (append_assoc w (a ++ b) c) ∙ ap (λ (t : List ℕ). t ++ c) (sym (append_assoc w a b))

-- the texts of the values so far behind another
pub writes : {X : Type 0} (xs : List X) (i : ℕ) (x : X) → i < length xs → x ≡ get_or xs i x → (text_of : X → List ℕ) (start now next : List ℕ) → now ≡ start ++ flat_map text_of (take i xs) → next ≡ now ++ text_of x → next ≡ start ++ flat_map text_of (take (i + 1) xs)
writes xs i x below is text_of start now next before more =
    more ∙ ap (λ t. t ++ text_of x) before ∙ flat_map_more text_of start (take i xs) x
    ∙ ap (λ ys. start ++ flat_map text_of ys) (sym (take_more xs i x below ∙ ap (λ y. take i xs ++ y ∷ []) (sym is)))

-- A text that gains pieces one after the other.
use Rattle.std.proofs.Common.{◌≡◌, ◌∙◌, ◌++◌, Err, List, Ok, OnOk, Result, ap, if◌then◌else◌, is_ok, ℕ}
use Rattle.std.proofs.lemmas.List.{append_assoc}

pub on_ok : {T E P Q : Type 0} (r : Result T E) → (P → Q) → OnOk r P → OnOk r Q
on_ok (Ok value) f p = f p
on_ok (Err error) f p = p

pub added : {T E : Type 0} (r : Result T E) (text more less : List ℕ) → text ≡ (if is_ok r then more else less) → OnOk r (text ≡ more)
added (Ok value) text more less e = e
added (Err error) text more less e = tt

pub two : (start a b one both : List ℕ) → one ≡ start ++ a → both ≡ one ++ b → both ≡ start ++ (a ++ b)
two start a b one both p q = q ∙ ap (λ t. t ++ b) p ∙ append_assoc start a b

pub three : (start a b c one both all : List ℕ) → one ≡ start ++ a → both ≡ one ++ b → all ≡ both ++ c → all ≡ start ++ ((a ++ b) ++ c)
three start a b c one both all p q r = two start (a ++ b) c both all (two start a b one both p q) r

pub five : (start a b c d e one both three_of four_of all : List ℕ) → one ≡ start ++ a → both ≡ one ++ b → three_of ≡ both ++ c → four_of ≡ three_of ++ d → all ≡ four_of ++ e
    → all ≡ start ++ ((((a ++ b) ++ c) ++ d) ++ e)
five start a b c d e one both three_of four_of all p q r s t =
    three start ((a ++ b) ++ c) d e three_of four_of all (three start a b c one both three_of p q r) s t

-- a place, whose second piece is put together before it is added, and a line behind it
pub placed : (start a b c d e one both all : List ℕ) → one ≡ start ++ a → both ≡ one ++ ((b ++ c) ++ d) → all ≡ both ++ e → all ≡ start ++ ((((a ++ b) ++ c) ++ d) ++ e)
placed start a b c d e one both all p q r = r ∙ ap (λ t. t ++ e) (q ∙ ap (λ t. t ++ ((b ++ c) ++ d)) p) ∙ simp append_assoc

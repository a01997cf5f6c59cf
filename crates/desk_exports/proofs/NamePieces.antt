-- Lemmas on names in one text.
use Rattle.std.proofs.Common.{◌≡◌, ◌∙◌, ℕ, suc, zero, ◌<◌, ◌≤◌, ◌-◌, List, [], ◌∷◌, ◌++◌, length, take, drop, get_or, ap, sym, subst, refl, arith}
use Rattle.std.specs.Str.{IsCharBoundary, IsUtf8}
use Rattle.std.proofs.lemmas.List.{drop-append-le, drop_at, length-append, length-drop, take-append-le, take_all}
use Rattle.std.proofs.lemmas.Str.{IsCharBoundary-end, IsCharBoundary-from_drop, IsUtf8-append, IsUtf8-drop}
use Rattle.desk_exports.specs.PrivateNames.{AreEnds, pieces_from}

-- ---- one more name

-- a place in a text is a place in a longer one
boundary_more : (text name : List ℕ) (i : ℕ) → IsUtf8 text → IsUtf8 name → IsCharBoundary text i → IsCharBoundary (text ++ name) i
boundary_more text name i u v b =
    let rest : drop i (text ++ name) ≡ drop i text ++ name = drop-append-le i text name b.0 in
    IsCharBoundary-from_drop (text ++ name) i (omega (arith, b.0, length-append text name)) (subst IsUtf8 (sym rest) (IsUtf8-append (drop i text) name (IsUtf8-drop text i u b) v))

pub ends_more : (start : ℕ) (text ends name : List ℕ) → IsUtf8 text → IsUtf8 name → AreEnds start text ends → AreEnds start (text ++ name) (ends ++ length (text ++ name) ∷ [])
ends_more start text [] name u v h = (omega (arith, h, length-append text name), (IsCharBoundary-end (text ++ name), refl))
ends_more start text (end ∷ ends) name u v h = (h.0, (boundary_more text name end u v h.1.0, ends_more end text ends name u v h.1.1))

-- a piece of a text is the piece of a longer one
same_piece : (text name : List ℕ) (start end : ℕ) → start ≤ end → end ≤ length text → take (end - start) (drop start (text ++ name)) ≡ take (end - start) (drop start text)
same_piece text name start end l within =
    ap (take (end - start)) (drop-append-le start text name (omega arith))
    ∙ take-append-le (end - start) (drop start text) name (omega (arith, length-drop start text))

pub pieces_more : (start : ℕ) (text ends name : List ℕ) → AreEnds start text ends → pieces_from start (text ++ name) (ends ++ length (text ++ name) ∷ []) ≡ pieces_from start text ends ++ name ∷ []
pieces_more start text [] name h =
    let behind : drop start (text ++ name) ≡ name = drop_at text name start (sym h) in
    let len : length (text ++ name) - start ≡ length name = omega (arith, h, length-append text name) in
    ap (λ xs. xs ∷ []) (ap (take (length (text ++ name) - start)) behind ∙ take_all (length (text ++ name) - start) name (omega (arith, len)))
pieces_more start text (end ∷ ends) name h =
    ap (λ p. p ∷ pieces_from end (text ++ name) (ends ++ length (text ++ name) ∷ [])) (same_piece text name start end h.0 h.1.0.0)
    ∙ ap (λ ps. take (end - start) (drop start text) ∷ ps) (pieces_more end text ends name h.1.1)

-- ---- the name at a place

pub piece_at : (start : ℕ) (text ends : List ℕ) (i : ℕ) → i < length ends → take (get_or ends i 0 - get_or (start ∷ ends) i 0) (drop (get_or (start ∷ ends) i 0) text) ≡ get_or (pieces_from start text ends) i []
piece_at start text [] i h = absurd (omega (arith, h))
piece_at start text (end ∷ ends) zero h = refl
piece_at start text (end ∷ ends) (suc i) h = piece_at end text ends i (omega (arith, h))

pub ordered_at : (start : ℕ) (text ends : List ℕ) (i : ℕ) → i < length ends → AreEnds start text ends → get_or (start ∷ ends) i 0 ≤ get_or ends i 0
ordered_at start text [] i h e = absurd (omega (arith, h))
ordered_at start text (end ∷ ends) zero h e = e.0
ordered_at start text (end ∷ ends) (suc i) h e = ordered_at end text ends i (omega (arith, h)) e.1.1

pub boundary_at : (start : ℕ) (text ends : List ℕ) (i : ℕ) → i < length ends → AreEnds start text ends → IsCharBoundary text (get_or ends i 0)
boundary_at start text [] i h e = absurd (omega (arith, h))
boundary_at start text (end ∷ ends) zero h e = e.1.0
boundary_at start text (end ∷ ends) (suc i) h e = boundary_at end text ends i (omega (arith, h)) e.1.1

pub begin_boundary : (text ends : List ℕ) (i : ℕ) → i < length ends → AreEnds 0 text ends → 0 < get_or (0 ∷ ends) i 0 → IsCharBoundary text (get_or (0 ∷ ends) i 0)
begin_boundary text ends zero h e p = absurd (omega (arith, p))
begin_boundary text ends (suc i) h e p = boundary_at 0 text ends i (omega (arith, h)) e

pub piece_count : (start : ℕ) (text ends : List ℕ) → length (pieces_from start text ends) ≡ length ends
piece_count start text [] = refl
piece_count start text (end ∷ ends) = ap suc (piece_count end text ends)

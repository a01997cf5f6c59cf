-- Files that are told as replaced, one more, and one that cannot be written, for `replacing::replace_files`.
use Rattle.std.proofs.Common.{◌≡◌, inl, inr, ℕ, ◌+◌, ◌<◌, ◌++◌, List, [], ◌∷◌, ap, arith, get_or, length, map, refl, sym, take, ◌∙◌, subst}
use Rattle.std.specs.List.{flat_map}
use Rattle.std.specs.String.{string_bytes}
use Rattle.std.proofs.lemmas.List.{append-nil, get_or-map, length-map, map-append, take_more}
use Rattle.std.proofs.lemmas.List.Concat.{flat_map-append}
use Rattle.cli_output.specs.declared.failure.Failure.{Failure}
use Rattle.cli_output.specs.declared.failure.Failure.TheVariants.{Memory, Unwritten}
use Rattle.cli_write.specs.Replacing.{AreAmong, IsUnwritten, IsUnwrittenIn, MayTell, TellsWritten, written_line}

among_more : (names others : List (List ℕ)) (name : List ℕ) → AreAmong names others → AreAmong (names ++ name ∷ []) (others ++ name ∷ [])
among_more [] [] name h = inl (refl, tt)
among_more [] (other ∷ others) name h = inr (among_more [] others name tt)
among_more (first ∷ names) [] name h = absurd h
among_more (first ∷ names) (other ∷ others) name (inl h) = inl (h.0, among_more names others name h.1)
among_more (first ∷ names) (other ∷ others) name (inr h) = inr (among_more (first ∷ names) others name h)

among_others : (names others : List (List ℕ)) (name : List ℕ) → AreAmong names others → AreAmong names (others ++ name ∷ [])
among_others [] others name h = tt
among_others (first ∷ names) [] name h = absurd h
among_others (first ∷ names) (other ∷ others) name (inl h) = inl (h.0, among_others names others name h.1)
among_others (first ∷ names) (other ∷ others) name (inr h) = inr (among_others (first ∷ names) others name h)

module _ {X : Type 0} (name_of : X → List ℕ) (xs : List X) (i : ℕ) (x d : X) (below : i < length xs) (is : x ≡ get_or xs i d) where
  next : map name_of (take (i + 1) xs) ≡ map name_of (take i xs) ++ name_of x ∷ []
  next = ap (map name_of) (take_more xs i d below ∙ ap (λ y. take i xs ++ y ∷ []) (sym is)) ∙ map-append name_of (take i xs) (x ∷ [])

  pub tells_one : (old new : List ℕ) → new ≡ old ++ written_line (name_of x) → TellsWritten (map name_of (take i xs)) old → TellsWritten (map name_of (take (i + 1) xs)) new
  tells_one old new added h = (
    h.0 ++ name_of x ∷ [],
    subst (AreAmong (h.0 ++ name_of x ∷ [])) (sym next) (among_more h.0 (map name_of (take i xs)) (name_of x) h.1),
    added ∙ ap (λ t. t ++ written_line (name_of x)) h.2
        ∙ ap (λ t. flat_map written_line h.0 ++ t) (sym (append-nil (written_line (name_of x))))
        ∙ sym (flat_map-append written_line h.0 (name_of x ∷ [])),
  )

  pub tells_none : (text : List ℕ) → TellsWritten (map name_of (take i xs)) text → TellsWritten (map name_of (take (i + 1) xs)) text
  tells_none text h = (h.0, subst (AreAmong h.0) (sym next) (among_others h.0 (map name_of (take i xs)) (name_of x) h.1), h.2)

  pub tells_next : (old new : List ℕ) → MayTell (name_of x) old new → TellsWritten (map name_of (take i xs)) old → TellsWritten (map name_of (take (i + 1) xs)) new
  tells_next old new (inl same) h = subst (TellsWritten (map name_of (take (i + 1) xs))) (sym same) (tells_none old h)
  tells_next old new (inr more) h = tells_one old new more h

  pub unwritten_in : (failure : Failure) → IsUnwritten (name_of x) failure → IsUnwrittenIn (map name_of xs) failure
  unwritten_in (Unwritten found error) h = (
    i,
    omega (arith, below, length-map xs name_of),
    get_or-map name_of xs i d (string_bytes found) below ∙ ap name_of (sym is) ∙ sym h,
  )
  unwritten_in Memory h = tt
  unwritten_in failure h = absurd h

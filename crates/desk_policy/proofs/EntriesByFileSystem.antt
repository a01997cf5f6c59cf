-- One more entry, placed in its file system.
use Rattle.std.proofs.Common.{◌≡◌, ◌≢◌, ℕ, zero, suc, ◌+◌, ◌<◌, ◌≤◌, ◌⊎◌, inl, inr, List, [], ◌∷◌, ◌++◌, get_or, map, cond, eqb, set, ◌∙◌, ap, refl, arith}
use Rattle.std.specs.Prelude.{filter, replicate}
use Rattle.std.specs.List.{range_with_len}
use Rattle.std.proofs.lemmas.Bool.{cond-true, cond-false, eq-eqb, ne_eqb}
use Rattle.std.proofs.lemmas.List.{map-append, append-nil}
use Rattle.std.proofs.lemmas.List.Elements.{filter-append}
use Rattle.desk_tables.specs.declared.filesystems.FsId.{FsId}
use Rattle.desk_tables.specs.declared.hosts.HostRow.{HostRow}
use Rattle.desk_netgroup.specs.declared.group_line.GroupLine.{GroupLine}
use Rattle.desk_exports.specs.declared.entry.Entry.{Entry}
use Rattle.desk_policy.specs.declared.row.Row.{Row}
use Rattle.desk_policy.specs.Policy.{rows_placed}
use Rattle.desk_policy.specs.Row.{row_of}

module _ (netgroups : List GroupLine) (hosts : List HostRow) where
  pub none_placed : (a n : ℕ) → replicate {A = List Row} n [] ≡ map (rows_placed netgroups hosts []) (range_with_len a n)
  none_placed a zero = refl
  none_placed a (suc n) = ap (λ lists. [] ∷ lists) (none_placed (a + 1) n)

  module _ (done : List (FsId × Entry)) (pair : FsId × Entry) where
    placed_more : (fs : ℕ) → rows_placed netgroups hosts (done ++ pair ∷ []) fs ≡ rows_placed netgroups hosts done fs ++ map (λ p. row_of netgroups hosts p.1) (cond (eqb pair.0.0 fs) (pair ∷ []) [])
    placed_more fs =
        ap (map (λ p. row_of netgroups hosts p.1)) (filter-append (λ p. eqb p.0.0 fs) done (pair ∷ []))
        ∙ map-append (λ p. row_of netgroups hosts p.1) (filter (λ p. eqb p.0.0 fs) done) _

    rows_here : (fs : ℕ) → pair.0.0 ≡ fs → rows_placed netgroups hosts (done ++ pair ∷ []) fs ≡ rows_placed netgroups hosts done fs ++ row_of netgroups hosts pair.1 ∷ []
    rows_here fs is = placed_more fs ∙ ap (λ ps. rows_placed netgroups hosts done fs ++ map (λ p. row_of netgroups hosts p.1) ps) (cond-true _ _ _ (eq-eqb _ _ is))

    rows_elsewhere : (fs : ℕ) → pair.0.0 ≢ fs → rows_placed netgroups hosts (done ++ pair ∷ []) fs ≡ rows_placed netgroups hosts done fs
    rows_elsewhere fs apart = placed_more fs ∙ ap (λ ps. rows_placed netgroups hosts done fs ++ map (λ p. row_of netgroups hosts p.1) ps) (cond-false _ _ _ (ne_eqb _ _ apart)) ∙ append-nil (rows_placed netgroups hosts done fs)

    -- an entry beyond these file systems
    pub placed_beyond : (a n : ℕ) → (pair.0.0 < a) ⊎ (a + n ≤ pair.0.0) → map (rows_placed netgroups hosts (done ++ pair ∷ [])) (range_with_len a n) ≡ map (rows_placed netgroups hosts done) (range_with_len a n)
    placed_beyond a zero out = refl
    placed_beyond a (suc n) out =
        let apart : pair.0.0 ≢ a = (λ is. elim out [ inl below ↦ omega arith | inr over ↦ omega arith ]) in
        let out' : (pair.0.0 < a + 1) ⊎ (a + 1 + n ≤ pair.0.0) = elim out [ inl below ↦ inl (omega arith) | inr over ↦ inr (omega arith) ] in
        ap (λ row. row ∷ map (rows_placed netgroups hosts (done ++ pair ∷ [])) (range_with_len (a + 1) n)) (rows_elsewhere a apart)
        ∙ ap (λ rows. rows_placed netgroups hosts done a ∷ rows) (placed_beyond (a + 1) n out')

    -- an entry of the file system at this place of them
    pub placed_within : (a n i : ℕ) (d : List Row) → i < n → a + i ≡ pair.0.0
        → map (rows_placed netgroups hosts (done ++ pair ∷ [])) (range_with_len a n) ≡ set (map (rows_placed netgroups hosts done) (range_with_len a n)) i (get_or (map (rows_placed netgroups hosts done) (range_with_len a n)) i d ++ row_of netgroups hosts pair.1 ∷ [])
    placed_within a zero i d lt is = absurd (omega arith)
    placed_within a (suc n) zero d lt is =
        ap (λ row. row ∷ map (rows_placed netgroups hosts (done ++ pair ∷ [])) (range_with_len (a + 1) n)) (rows_here a (omega arith))
        ∙ ap (λ rows. (rows_placed netgroups hosts done a ++ row_of netgroups hosts pair.1 ∷ []) ∷ rows) (placed_beyond (a + 1) n (inl (omega arith)))
    placed_within a (suc n) (suc i) d lt is =
        let apart : pair.0.0 ≢ a = (λ same. omega arith) in
        ap (λ row. row ∷ map (rows_placed netgroups hosts (done ++ pair ∷ [])) (range_with_len (a + 1) n)) (rows_elsewhere a apart)
        ∙ ap (λ rows. rows_placed netgroups hosts done a ∷ rows) (placed_within (a + 1) n i d (omega arith) (omega arith))

-- One more section, placed in its file system.
use Rattle.std.proofs.Common.{◌≡◌, ◌≢◌, ◌⊎◌, ℕ, zero, suc, ◌+◌, ◌<◌, ◌≤◌, ◌++◌, ◌∙◌, true, false, cond, List, [], ◌∷◌, Option, None, Some, ap, arith, get_or, inl, inr, length, map, refl, set, sym}
use Rattle.std.specs.Prelude.{filter, replicate}
use Rattle.std.specs.List.{range_with_len}
use Rattle.std.proofs.lemmas.Bool.{cases_lt, cond-false, cond-true, eq-eqb, le-ltb, lt-ltb, ne_eqb}
use Rattle.std.proofs.lemmas.List.{append-nil}
use Rattle.std.proofs.lemmas.List.Elements.{filter-append}
use Rattle.std.proofs.lemmas.List.FromFn.{length-map-range_with_len}
use Rattle.desk_tables.specs.FileSystems.{fs_of}
use Rattle.desk_tables.specs.declared.filesystems.Mount.{Mount}
use Rattle.desk_policy.specs.Verdict.{is_in}
use Rattle.desk_impact.specs.Sections.{PlaceBreaches}
use Rattle.page_data.specs.PrivateSections.{with_section, with_section_at}
use Rattle.page_data.specs.Sections.{is_section_in, path_at}

module _ (table : List Mount) where
  abbrev pub placed : List PlaceBreaches → ℕ → List PlaceBreaches
  placed done fs = filter (is_section_in table fs) done

  pub none_placed : (a n : ℕ) → replicate {A = List PlaceBreaches} n [] ≡ map (placed []) (range_with_len a n)
  none_placed a zero = refl
  none_placed a (suc n) = ap (λ lists. [] ∷ lists) (none_placed (a + 1) n)

  module _ (done : List PlaceBreaches) (section : PlaceBreaches) where
    more : (fs : ℕ) → placed (done ++ section ∷ []) fs ≡ placed done fs ++ cond (is_section_in table fs section) (section ∷ []) []
    more fs = filter-append (is_section_in table fs) done (section ∷ [])

    here : (fs : ℕ) → is_section_in table fs section ≡ true → placed (done ++ section ∷ []) fs ≡ placed done fs ++ section ∷ []
    here fs is = more fs ∙ ap (λ b. placed done fs ++ cond b (section ∷ []) []) is

    elsewhere : (fs : ℕ) → is_section_in table fs section ≡ false → placed (done ++ section ∷ []) fs ≡ placed done fs
    elsewhere fs not = more fs ∙ ap (λ b. placed done fs ++ cond b (section ∷ []) []) not ∙ append-nil (placed done fs)

    in_none : fs_of table (path_at section.place) ≡ None → (fs : ℕ) → is_section_in table fs section ≡ false
    in_none home fs = ap (λ o. is_in o fs) home

    beyond_none : fs_of table (path_at section.place) ≡ None → (a n : ℕ) → map (placed (done ++ section ∷ [])) (range_with_len a n) ≡ map (placed done) (range_with_len a n)
    beyond_none home a zero = refl
    beyond_none home a (suc n) =
        ap (λ list. list ∷ map (placed (done ++ section ∷ [])) (range_with_len (a + 1) n)) (elsewhere a (in_none home a)) ∙ ap (λ lists. placed done a ∷ lists) (beyond_none home (a + 1) n)

    module _ (own : ℕ) (home : fs_of table (path_at section.place) ≡ Some own) where
      is_own : (fs : ℕ) → own ≡ fs → is_section_in table fs section ≡ true
      is_own fs is = ap (λ o. is_in o fs) home ∙ eq-eqb own fs is

      not_own : (fs : ℕ) → own ≢ fs → is_section_in table fs section ≡ false
      not_own fs apart = ap (λ o. is_in o fs) home ∙ ne_eqb own fs apart

      beyond : (a n : ℕ) → (own < a) ⊎ (a + n ≤ own) → map (placed (done ++ section ∷ [])) (range_with_len a n) ≡ map (placed done) (range_with_len a n)
      beyond a zero out = refl
      beyond a (suc n) out =
          let apart : own ≢ a = (λ is. elim out [ inl below ↦ omega arith | inr over ↦ omega arith ]) in
          let out' : (own < a + 1) ⊎ (a + 1 + n ≤ own) = elim out [ inl below ↦ inl (omega arith) | inr over ↦ inr (omega arith) ] in
          ap (λ list. list ∷ map (placed (done ++ section ∷ [])) (range_with_len (a + 1) n)) (elsewhere a (not_own a apart)) ∙ ap (λ lists. placed done a ∷ lists) (beyond (a + 1) n out')

      within : (a n i : ℕ) (d : List PlaceBreaches) → i < n → a + i ≡ own
          → map (placed (done ++ section ∷ [])) (range_with_len a n) ≡ set (map (placed done) (range_with_len a n)) i (get_or (map (placed done) (range_with_len a n)) i d ++ section ∷ [])
      within a zero i d lt is = absurd (omega arith)
      within a (suc n) zero d lt is =
          ap (λ list. list ∷ map (placed (done ++ section ∷ [])) (range_with_len (a + 1) n)) (here a (is_own a (omega arith)))
          ∙ ap (λ lists. (placed done a ++ section ∷ []) ∷ lists) (beyond (a + 1) n (inl (omega arith)))
      within a (suc n) (suc i) d lt is =
          let apart : own ≢ a = (λ same. omega arith) in
          ap (λ list. list ∷ map (placed (done ++ section ∷ [])) (range_with_len (a + 1) n)) (elsewhere a (not_own a apart))
          ∙ ap (λ lists. placed done a ∷ lists) (within (a + 1) n i d (omega arith) (omega arith))

    -- the list of its file system, if there is one, gains the section
    pub gains : (lists : List (List PlaceBreaches)) (n : ℕ) → lists ≡ map (placed done) (range_with_len 0 n) → with_section table lists section ≡ map (placed (done ++ section ∷ [])) (range_with_len 0 n)
    gains lists n are = by (fs_of table (path_at section.place)) refl
      where
        few : length lists ≡ n
        few = ap length are ∙ length-map-range_with_len (placed done) 0 n

        by : (o : Option ℕ) → fs_of table (path_at section.place) ≡ o → with_section_at (fs_of table (path_at section.place)) lists section ≡ map (placed (done ++ section ∷ [])) (range_with_len 0 n)
        by None home = ap (λ o. with_section_at o lists section) home ∙ are ∙ sym (beyond_none home 0 n)
        by (Some own) home =
            ap (λ o. with_section_at o lists section) home
            ∙ elim (cases_lt own (length lists)) as (λ _. with_section_at (Some own) lists section ≡ map (placed (done ++ section ∷ [])) (range_with_len 0 n)) [
              | inl lt ↦
                  cond-true _ _ _ (lt-ltb own (length lists) lt) ∙ ap (λ ls. set ls own (get_or ls own [] ++ section ∷ [])) are ∙ sym (within own home 0 n own [] (omega (arith, few)) (omega arith))
              | inr over ↦ cond-false _ _ _ (le-ltb own (length lists) over) ∙ are ∙ sym (beyond own home 0 n (inr (omega (arith, few))))
            ]

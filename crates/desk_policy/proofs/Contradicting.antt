-- The least contradiction of a list of lines in ascending order.
use Rattle.std.proofs.Common.{◌≡◌, ◌≢◌, ℕ, ◌+◌, ◌<◌, ◌≤◌, List, [], length, get_or, take, None, sym, ◌∙◌, ap, subst, refl, inl, inr, ◌⊎◌, arith}
use Rattle.std.specs.List.{Contains, All}
use Rattle.std.proofs.lemmas.Bool.{cases_order, cases_lt}
use Rattle.std.proofs.lemmas.List.{get_or_default, get_or-take}
use Rattle.std.proofs.Common.{length-take}
use Rattle.desk_policy.specs.declared.row.Row.{Row}
use Rattle.desk_policy.specs.Policy.{AreAscending}
use Rattle.desk_policy.specs.Contradiction.{MatchAlike, Contradicts, IsLeastIn, IsNotAfter}
use Rattle.desk_policy.proofs.Conflicts.{Conflict, IsLeastConflict, LeastConflict}
use Rattle.desk_policy.specs.Keys.{HasBlock}

abbrev pub line_of : Row → ℕ
line_of row = row.entry.line

module _ (rows : List Row) (ascending : AreAscending rows) where
  line_at : (i : ℕ) (x d : Row) → i < length rows → get_or rows i x ≡ x → line_of (get_or rows i d) ≡ line_of x
  line_at i x d l e = ap line_of (get_or_default rows i d x l ∙ e)

  -- an earlier place has a smaller line
  pub lines_rise : (i j : ℕ) (x y : Row) → i < j → j < length rows → get_or rows i x ≡ x → get_or rows j y ≡ y → line_of x < line_of y
  lines_rise i j x y ij jl p q =
      let h = ascending i j x ij jl in
      let a = line_at i x x (omega arith) p in
      let b = line_at j y x jl q in
      omega arith

  -- a smaller line stands at an earlier place
  pub places_rise : (i j : ℕ) (x y : Row) → i < length rows → j < length rows → get_or rows i x ≡ x → get_or rows j y ≡ y → line_of x < line_of y → i < j
  places_rise i j x y il jl p q h =
      elim (cases_order i j) as (λ _. i < j) [
        | inl e ↦ absurd (let a : line_of (get_or rows i x) ≡ line_of x = ap line_of p in
            let b = line_at j y x jl q in
            let c : line_of (get_or rows i x) ≡ line_of (get_or rows j x) = ap (λ n. line_of (get_or rows n x)) e in
            omega arith)
        | inr s ↦ elim s as (λ _. i < j) [ inl lt ↦ lt | inr gt ↦ absurd (let r = lines_rise j i y x gt il q p in omega arith) ]
      ]

  pub Contains_below : (n i : ℕ) (x : Row) → i < n → n ≤ length rows → get_or rows i x ≡ x → Contains (take n rows) x
  Contains_below n i x lt le e = (i, simp length-take (omega arith), get_or-take n rows i x lt ∙ e)

  unfoldable pub Contains_whole : (n : ℕ) (x : Row) → n ≤ length rows → Contains (take n rows) x → Contains rows x
  Contains_whole n x le c =
      let l : c.0 < n = (let h : c.0 < length (take n rows) = c.1 in let e = length-take n rows in omega arith) in
      (c.0, omega arith, sym (get_or-take n rows c.0 x l) ∙ c.2)

  pub same_at : (i : ℕ) (x y : Row) → i < length rows → get_or rows i x ≡ x → get_or rows i y ≡ y → x ≡ y
  same_at i x y l p q = sym p ∙ get_or_default rows i x y l ∙ q

  -- ---- a line against the earlier ones

  -- ---- each line against those before it
  pub consistent_more : (i : ℕ) (row : Row) → i < length rows → row ≡ get_or rows i row
      → ((l e a : ℕ) → Contradicts (take i rows) l e a → ⊥) → IsLeastConflict (take i rows) row None → (l e a : ℕ) → Contradicts (take (i + 1) rows) l e a → ⊥
  unfolding Contains_whole
  consistent_more i row l e none here later earlier address c =
      let r = Contains_whole (i + 1) c.row (omega arith) c.has_row in
      let o = Contains_whole (i + 1) c.other (omega arith) c.has_other in
      let rl : r.0 < i + 1 = (let h : r.0 < length (take (i + 1) rows) = c.has_row.1 in let e = length-take (i + 1) rows in omega arith) in
      let ol = places_rise o.0 r.0 c.other c.row o.1 r.1 o.2 r.2 (omega (arith, c.is_later, c.is_earlier, c.order)) in
      elim (cases_order r.0 i) [
        | inl same ↦
            let is : row ≡ c.row = same_at i row c.row l (sym e) (subst (λ n. get_or rows n c.row ≡ c.row) same r.2) in
            here c.other address (Contains_below i o.0 c.other (omega arith) (omega arith) o.2)
            (record { is_address = c.is_address; alike = subst (λ x. MatchAlike x c.other address) (sym is) c.alike; apart = subst (λ (x : Row). x.entry.terms ≢ c.other.entry.terms) (sym is) c.apart })
        | inr s ↦ elim s [
          | inl lt ↦ none later earlier address (record {
            row = c.row;
            other = c.other;
            has_row = Contains_below i r.0 c.row lt (omega arith) r.2;
            has_other = Contains_below i o.0 c.other (omega arith) (omega arith) o.2;
            is_later = c.is_later;
            is_earlier = c.is_earlier;
            order = c.order;
            is_address = c.is_address;
            alike = c.alike;
            apart = c.apart;
          })
          | inr gt ↦ absurd (omega arith)
        ]
      ]

  pub least_here : (i : ℕ) (row : Row) (line address : ℕ) → i < length rows → row ≡ get_or rows i row
      → ((l e a : ℕ) → Contradicts (take i rows) l e a → ⊥) → LeastConflict (take i rows) row line address → IsLeastIn rows row.entry.line line address
  unfolding Contains_whole
  least_here i row line address l e none found =
      let o = Contains_whole i found.other (omega arith) found.has_other in
      let ol : o.0 < i = (let h : o.0 < length (take i rows) = found.has_other.1 in let e = length-take i rows in omega arith) in
      record {
        is = record {
          row = row;
          other = found.other;
          has_row = (i, l, sym e);
          has_other = o;
          is_later = refl;
          is_earlier = found.line_is;
          order = (let h = lines_rise o.0 i found.other row ol l o.2 (sym e) in omega (arith, found.line_is));
          is_address = found.conflict.is_address;
          alike = found.conflict.alike;
          apart = found.conflict.apart;
        };
        least = λ later earlier a c.
            let ro = c.has_row in
            let ot = c.has_other in
            let before = places_rise ot.0 ro.0 c.other c.row ot.1 ro.1 ot.2 ro.2 (omega (arith, c.is_later, c.is_earlier, c.order)) in
            elim (cases_order ro.0 i) as (λ _. IsNotAfter row.entry.line line address later earlier a) [
              | inl same ↦ inr (
                  let is : row ≡ c.row = same_at i row c.row l (sym e) (subst (λ n. get_or rows n c.row ≡ c.row) same ro.2) in
                  let conflict : Conflict row c.other a = record { is_address = c.is_address; alike = subst (λ x. MatchAlike x c.other a) (sym is) c.alike; apart = subst (λ (x : Row). x.entry.terms ≢ c.other.entry.terms) (sym is) c.apart } in (
                    ap line_of is ∙ c.is_later,
                    elim (found.least c.other a (Contains_below i ot.0 c.other (omega arith) (omega arith) ot.2) conflict) as (λ _. (line < earlier) ⊎ ((line ≡ earlier) × (address ≤ a))) [
                      | inl lt ↦ inl (omega (arith, c.is_earlier))
                      | inr eq ↦ inr (eq.0 ∙ c.is_earlier, eq.1)
                    ],
                  ))
              | inr s ↦ elim s as (λ _. IsNotAfter row.entry.line line address later earlier a) [
                | inl lt ↦ absurd (none later earlier a (record {
                  row = c.row;
                  other = c.other;
                  has_row = Contains_below i ro.0 c.row lt (omega arith) ro.2;
                  has_other = Contains_below i ot.0 c.other (omega arith) (omega arith) ot.2;
                  is_later = c.is_later;
                  is_earlier = c.is_earlier;
                  order = c.order;
                  is_address = c.is_address;
                  alike = c.alike;
                  apart = c.apart;
                }))
                | inr gt ↦ inl (let h = lines_rise i ro.0 row c.row gt ro.1 (sym e) ro.2 in omega (arith, c.is_later))
              ]
            ];
      }

  pub ascending_take : (n : ℕ) → n ≤ length rows → AreAscending (take n rows)
  ascending_take n le = λ i j d ij jl.
      let few = length-take n rows in
      let h = ascending i j d ij (omega arith) in
      let a = ap line_of (get_or-take n rows i d (omega arith)) in
      let b = ap line_of (get_or-take n rows j d (omega arith)) in
      omega arith

  pub blocks_more : (i : ℕ) (row : Row) → i < length rows → row ≡ get_or rows i row → All (λ (r : Row). HasBlock r.entry.clients) (take i rows) → HasBlock row.entry.clients → All (λ (r : Row). HasBlock r.entry.clients) (take (i + 1) rows)
  blocks_more i row l e before here = λ k d kl.
      let few = length-take (i + 1) rows in
      let few' = length-take i rows in
      elim (cases_lt k i) [
        | inl lt ↦ subst (λ (r : Row). HasBlock r.entry.clients) (get_or-take i rows k d lt ∙ sym (get_or-take (i + 1) rows k d (omega arith))) (before k d (omega arith))
        | inr ge ↦
            let is : k ≡ i = omega arith in
            subst (λ (r : Row). HasBlock r.entry.clients) (e ∙ get_or_default rows i row d l ∙ ap (λ n. get_or rows n d) (sym is) ∙ sym (get_or-take (i + 1) rows k d (omega arith))) here
      ]

-- The first of all contradictions is the least.
use Rattle.std.proofs.Common.{◌≡◌, ◌≢◌, ℕ, ◌<◌, ◌≤◌, true, eqb, List, [], ◌∷◌, get_or, Option, Some, None, sym, ◌∙◌, ap, subst, refl, inl, inr, ◌⊎◌, arith}
use Rattle.std.specs.Prelude.{slice_get}
use Rattle.std.specs.Option.{is_some}
use Rattle.std.specs.List.{Contains}
use Rattle.std.proofs.lemmas.Bool.{cases_order, eq-eqb, eqb-true, true≢false}
use Rattle.std.proofs.lemmas.List.Folds.{Any-from_list_any}
use Rattle.desk_text.specs.Address.{number_of}
use Rattle.desk_policy.specs.declared.contradiction.Contradiction.{Contradiction}
use Rattle.desk_policy.specs.declared.row.Row.{Row}
use Rattle.desk_policy.specs.Contradiction.{AreContradictions, Contradicts, DiffersFromFirst, IsFoundIn, IsNotAfter}
use Rattle.desk_policy.specs.Policy.{AreAscending}
use Rattle.desk_policy.specs.PrivateWeights.{has_weight, is_same_weight}
use Rattle.desk_policy.specs.Weights.{weight_of}
use Rattle.desk_policy.proofs.ByKeys.{first_up_to, found_is, some_is}
use Rattle.desk_policy.proofs.Contradicting.{line_of, lines_rise, same_at}
use Rattle.desk_policy.proofs.FirstDiffers.{at_or_before}

same_weight_is : (m : Option ℕ) (weight : ℕ) → is_same_weight m weight ≡ true → m ≡ Some weight
same_weight_is None weight e = absurd (true≢false (sym e))
same_weight_is (Some other) weight e = ap (λ (n : ℕ). Some n) (eqb-true other weight e)

has_it : (o : Row) (a weight : ℕ) → weight_of o a ≡ Some weight → has_weight a weight o ≡ true
has_it o a weight e = ap (λ m. is_same_weight m weight) e ∙ eq-eqb weight weight refl

module _ (rows : List Row) (ascending : AreAscending rows) where
  -- the first line that matches an address with a weight, if one does
  first_alike : (row : Row) (a weight : ℕ) → Contains rows row → weight_of row a ≡ Some weight
      → (first : Row) × Contains rows first × (weight_of first a ≡ Some weight) × ((o : Row) → Contains rows o → weight_of o a ≡ Some weight → line_of first ≤ line_of o)
  first_alike row a weight there own =
      let p = has_weight a weight in
      let r = first_up_to p rows there.0 row there.1 (ap p there.2 ∙ has_it row a weight own) in
      let x = get_or rows r.0 row in
      let f = found_is p rows x r.2 in
      (x, f.0, same_weight_is (weight_of x a) weight r.3, λ o at its. at_or_before rows ascending p x r.2 o at (has_it o a weight its))

  -- of two lines that contradict each other one has other terms than the first line
  one_differs : (l e a : ℕ) → Contradicts rows l e a
      → ((x first : Row) → Contains rows x → (line_of x ≡ l) ⊎ (line_of x ≡ e) → line_of first ≤ e → DiffersFromFirst rows x first a → ⊥) → ⊥
  one_differs l e a c none =
      let w = some_is (weight_of c.row a) c.alike.0 in
      let first = first_alike c.row a w.0 c.has_row w.1 in
      let its : weight_of c.other a ≡ Some w.0 = c.alike.1 ∙ w.1 in
      let up_to : line_of first.0 ≤ e = (let h = first.3 c.other c.has_other its in omega (arith, c.is_earlier)) in
      let differs : (x : Row) → weight_of x a ≡ Some w.0 → x.entry.terms ≢ first.0.entry.terms → DiffersFromFirst rows x first.0 a =
      λ x own apart. record { is_address = c.is_address; has_first = first.1; alike = (ap is_some own, first.2 ∙ sym own); is_first = λ o at alike. first.3 o at (alike.1 ∙ own); apart = apart } in
      none c.row first.0 c.has_row (inl c.is_later) up_to (differs c.row w.1 (λ same_row.
      none c.other first.0 c.has_other (inr c.is_earlier) up_to (differs c.other its (λ same_other. c.apart (same_row ∙ sym same_other)))))

  -- a line number is one line's
  same_line : (x y : Row) → Contains rows x → Contains rows y → line_of x ≡ line_of y → x ≡ y
  same_line x y at there same =
      elim (cases_order at.0 there.0) [
        | inl e ↦ same_at rows ascending there.0 x y there.1 (subst (λ n. get_or rows n x ≡ x) e at.2) there.2
        | inr s ↦ elim s [
          | inl lt ↦ absurd (let h = lines_rise rows ascending at.0 there.0 x y lt there.1 at.2 there.2 in omega arith)
          | inr gt ↦ absurd (let h = lines_rise rows ascending there.0 at.0 y x gt at.1 there.2 at.2 in omega arith)
        ]
      ]

  contradicts : (row : Row) (first : Row) (a : ℕ) → Contains rows row → DiffersFromFirst rows row first a → Contradicts rows (line_of row) (line_of first) a
  contradicts row first a there d =
      let not_after = d.is_first row there (d.alike.0, refl) in
      record {
        row = row;
        other = first;
        has_row = there;
        has_other = d.has_first;
        is_later = refl;
        is_earlier = refl;
        order = elim (cases_order (line_of first) (line_of row)) [
          | inl same ↦ absurd (d.apart (ap (λ (r : Row). r.entry.terms) (sym (same_line first row d.has_first there same))))
          | inr s ↦ elim s [ inl lt ↦ lt | inr gt ↦ absurd (omega arith) ]
        ];
        is_address = d.is_address;
        alike = d.alike;
        apart = d.apart;
      }

  module _ (f : Contradiction) (more : List Contradiction) (listed : AreContradictions rows rows (f ∷ more)) where
    -- no line that differs comes before the first that is listed
    not_before : (x first : Row) (a : ℕ) → Contains rows x → DiffersFromFirst rows x first a → f.line ≤ line_of x
    not_before x first a there d =
        let any = Any-from_list_any (λ (one : Contradiction). eqb one.line (line_of x)) (f ∷ more) (listed.all x first a there d) in
        let named : any.1.line ≡ line_of x = eqb-true any.1.line (line_of x) any.4 in
        elim (cases_order 0 any.0) [
          | inl zero ↦
              let is : f ≡ any.1 = subst (λ n. get_or (f ∷ more) n any.1 ≡ any.1) (sym zero) any.3 in
              (let h = ap (λ (one : Contradiction). one.line) is in omega arith)
          | inr s ↦ elim s [
            | inl lt ↦ (let h = listed.ascending 0 any.0 any.1 lt any.2 in let e = ap (λ (one : Contradiction). one.line) any.3 in omega arith)
            | inr gt ↦ absurd (omega arith)
          ]
        ]

    first_least : IsFoundIn rows (Some f)
    first_least =
        let own = listed.each 0 f (omega arith) in
        let here = contradicts own.row own.is.first (number_of f.address) own.has_row own.is.differs in
        record {
          is = subst (λ n. Contradicts rows n f.other (number_of f.address)) own.is_later (subst (λ n. Contradicts rows (line_of own.row) n (number_of f.address)) own.is.is_earlier here);
          least = λ l e a c. elim (cases_order f.line l) as (λ _. IsNotAfter f.line f.other (number_of f.address) l e a) [
            | inl same ↦ inr (same, at_it l e a c same)
            | inr s ↦ elim s as (λ _. IsNotAfter f.line f.other (number_of f.address) l e a) [
              | inl lt ↦ inl lt
              | inr gt ↦ absurd (one_differs l e a c (λ x first there which up d. (let h = not_before x first a there d in let o = c.order in elim which [ inl y ↦ absurd (omega arith) | inr y ↦ absurd (omega arith) ])))
            ]
          ];
        }
      where
        -- at the line itself
        at_it : (l e a : ℕ) → Contradicts rows l e a → f.line ≡ l → (f.other < e) ⊎ ((f.other ≡ e) × (number_of f.address ≤ a))
        at_it l e a c same =
            let own = listed.each 0 f (omega arith) in
            let refused : ((e < f.other) ⊎ ((f.other ≡ e) × (a < number_of f.address))) → ⊥ = λ before.
            one_differs l e a c (λ x first there which up d. (let h = not_before x first a there d in let o = c.order in elim which [
              | inl y ↦
                  let it : own.row ≡ x = same_line own.row x own.has_row there (let t = own.is_later in omega arith) in
                  elim (own.is.least first a (subst (λ (r : Row). DiffersFromFirst rows r first a) (sym it) d)) [
                    | inl lt ↦ elim before [ inl b ↦ absurd (omega arith) | inr b ↦ absurd (let b0 = b.0 in omega arith) ]
                    | inr t ↦ (let t0 = t.0 in let t1 = t.1 in elim before [ inl b ↦ absurd (omega arith) | inr b ↦ absurd (let b1 = b.1 in omega arith) ])
                  ]
              | inr y ↦ absurd (omega arith)
            ])) in
            elim (cases_order f.other e) [
              | inl is ↦ elim (cases_order (number_of f.address) a) [
                | inl eq ↦ inr (is, (omega arith))
                | inr s ↦ elim s [ inl lt ↦ inr (is, (omega arith)) | inr gt ↦ absurd (refused (inr (is, gt))) ]
              ]
              | inr s ↦ elim s [ inl lt ↦ inl lt | inr gt ↦ absurd (refused (inl gt)) ]
            ]

-- of the contradictions of lines in ascending order the first is the least, and if there is none the lines are consistent
pub first_is_least : (rows : List Row) → AreAscending rows → (found : List Contradiction) → AreContradictions rows rows found → IsFoundIn rows (slice_get found 0)
first_is_least rows ascending [] listed = λ l e a c. one_differs rows ascending l e a c (λ x first there which up d. absurd (true≢false (sym (listed.all x first a there d))))
first_is_least rows ascending (f ∷ more) listed = first_least rows ascending f more listed

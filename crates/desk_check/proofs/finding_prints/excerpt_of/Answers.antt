-- The method's clauses fix where the excerpt begins and ends.
use Rattle.std.proofs.Common.{◌≡◌, ◌+◌, ◌-◌, ◌<◌, ◌≤◌, ◌⊎◌, ◌∙◌, ℕ, zero, suc, Bool, true, false, List, ap, arith, inl, inr, length, nat_lt, slice_index, subst, sym, if◌then◌else◌}
use Rattle.std.proofs.lemmas.Bool.Decides.{nat_tests}
use Rattle.std.proofs.lemmas.Str.{IsCharBoundary-end}
use Rattle.std.specs.Fmt.{is_char_start}
use Rattle.std.specs.Fmt.Cut.{floor_char_boundary}
use Rattle.std.specs.Str.{IsCharBoundary}
use Rattle.desk_check.specs.FindingPrints.{excerpt, reach}
use Rattle.desk_check.specs.declared.finding_prints.Excerpt.{Excerpt}
use Rattle.desk_check.proofs.finding_prints.excerpt_of.Goals.{then-line-gt-WHOLE_LENGTH, else-line-gt-WHOLE_LENGTH}
use Rattle.desk_check.proofs.finding_prints.excerpt_of.Goals as goal

below_or_not : (m n : ℕ) → (m < n) ⊎ (n ≤ m)
below_or_not m n = grind (arith, nat_tests)

-- a byte that may begin a character, and one that may not
starts : (b : ℕ) → (128 ≤ b → 192 ≤ b) → is_char_start b ≡ true
starts b may =
    elim (below_or_not b 128) [
      | inl low ↦ grind (arith, nat_tests)
      | inr high ↦ let top : 192 ≤ b = may high in grind (arith, nat_tests)
    ]

continues : (b : ℕ) → ¬ (128 ≤ b → 192 ≤ b) → is_char_start b ≡ false
continues b may =
    elim (below_or_not b 128) [
      | inl low ↦ absurd (may (λ high. absurd (omega (arith, low, high))))
      | inr high ↦
          elim (below_or_not b 192) [
            | inl middle ↦ grind (arith, nat_tests)
            | inr top ↦ absurd (may (λ same. top))
          ]
    ]

-- the last boundary of a line up to i
record IsLast (line : List ℕ) (i kept : ℕ) : Type 0 where
  bound : kept ≤ i
  boundary : IsCharBoundary line kept
  nearest : (j : ℕ) → kept < j → j ≤ i → ¬ (IsCharBoundary line j)

floor_is : (line : List ℕ) (i kept : ℕ) → (0 < i → i < length line) → IsLast line i kept → floor_char_boundary line i ≡ kept
unfolding floor_char_boundary
floor_is line zero kept inside last = let bound = last.bound in omega arith
floor_is line (suc i) kept inside last =
    elim (below_or_not i kept) [
      | inl over ↦
          let bound = last.bound in
          let same : kept ≡ suc i = omega arith in
          let begins = (subst (IsCharBoundary line) same last.boundary).1 (inside (omega arith)) in
          ap (λ (t : Bool). if t then suc i else floor_char_boundary line i) (starts (slice_index line (suc i)) begins) ∙ sym same
      | inr below ↦
          let none = last.nearest (suc i) (omega arith) (omega arith) in
          let within : suc i < length line = inside (omega arith) in
          ap (λ (t : Bool). if t then suc i else floor_char_boundary line i) (continues (slice_index line (suc i)) (λ may. none (omega arith, λ in_line. may)))
          ∙ floor_is line i kept (λ some. omega arith) (record { bound = below; boundary = last.boundary; nearest = λ j over under. last.nearest j over (omega arith) })
    ]

end_is : (line : List ℕ) (i kept : ℕ) → IsLast line i kept → (if nat_lt i (length line) then floor_char_boundary line i else length line) ≡ kept
end_is line i kept last =
    elim (below_or_not i (length line)) [
      | inl inside ↦
          let is : nat_lt i (length line) ≡ true = grind (arith, nat_tests) in
          ap (λ (t : Bool). if t then floor_char_boundary line i else length line) is ∙ floor_is line i kept (λ some. inside) last
      | inr outside ↦
          let is : nat_lt i (length line) ≡ false = grind (arith, nat_tests) in
          ap (λ (t : Bool). if t then floor_char_boundary line i else length line) is ∙ whole outside
    ]
  where
    whole : length line ≤ i → length line ≡ kept
    whole outside =
        elim (below_or_not kept (length line)) [
          | inl short ↦ absurd (last.nearest (length line) short outside (IsCharBoundary-end line))
          | inr long ↦ let fits : kept ≤ length line = last.boundary.0 in omega arith
        ]

abbrev made : ℕ → ℕ → Excerpt
made start end = record { start = start; end = end }

excerpt_is : (line : List ℕ) (start n from to : ℕ) → reach line ≡ n → 0 < n → start ≤ length line → IsLast line (start - n) from → IsLast line (start + n) to → made from to ≡ excerpt line start
excerpt_is line start n from to same some fits low high =
    let begins : floor_char_boundary line (start - reach line) ≡ from =
    ap (λ (r : ℕ). floor_char_boundary line (start - r)) same ∙ floor_is line (start - n) from (λ more. omega arith) low in
    let ends : (if nat_lt (start + reach line) (length line) then floor_char_boundary line (start + reach line) else length line) ≡ to =
    ap (λ (r : ℕ). if nat_lt (start + r) (length line) then floor_char_boundary line (start + r) else length line) same ∙ end_is line (start + n) to high in
    ap (λ (f : ℕ). made f to) (sym begins) ∙ ap (λ (t : ℕ). made (floor_char_boundary line (start - reach line)) t) (sym ends)

reach_of : (line : List ℕ) (n : ℕ) (long : Bool) → nat_lt 200 (length line) ≡ long → n ≡ (if long then 100 else 200) → reach line ≡ n
reach_of line n long test is = ap (λ (t : Bool). if t then 100 else 200) test ∙ sym is

is_long : {n : ℕ} → 200 < n → nat_lt 200 n ≡ true
is_long {n} long = grind (arith, nat_tests)

is_short : {n : ℕ} → n ≤ 200 → nat_lt 200 n ≡ false
is_short {n} short = grind (arith, nat_tests)

pub returns-clause-exact : goal.returns-clause-exact
returns-clause-exact c =
    let from = c.floor_char_boundary.ensures in
    let to = c.floor_char_boundary-2.ensures in
    let low : IsLast c.args.line.now (c.args.start - c.if-line-gt-WHOLE_LENGTH.reach) c.floor_char_boundary.result =
    subst (λ (i : ℕ). IsLast c.args.line.now i c.floor_char_boundary.result) c.saturating_sub.ensures
    (record { bound = from.bound; boundary = from.boundary; nearest = from.nearest }) in
    let high : IsLast c.args.line.now (c.args.start + c.if-line-gt-WHOLE_LENGTH.reach) c.floor_char_boundary-2.result = record { bound = to.bound; boundary = to.boundary; nearest = to.nearest } in
    let is_excerpt : reach c.args.line.now ≡ c.if-line-gt-WHOLE_LENGTH.reach → 0 < c.if-line-gt-WHOLE_LENGTH.reach → made c.floor_char_boundary.result c.floor_char_boundary-2.result ≡ excerpt c.args.line.now c.args.start =
    λ same some. excerpt_is c.args.line.now c.args.start c.if-line-gt-WHOLE_LENGTH.reach c.floor_char_boundary.result c.floor_char_boundary-2.result same some c.requires.0 low high in
    elim c.if-line-gt-WHOLE_LENGTH.branch [
      | then-line-gt-WHOLE_LENGTH w ↦ is_excerpt (reach_of c.args.line.now c.if-line-gt-WHOLE_LENGTH.reach true (is_long (omega (arith, w.if-line-gt-WHOLE_LENGTH.true))) w.reach-is) (omega (arith, w.reach-is))
      | else-line-gt-WHOLE_LENGTH w ↦ is_excerpt (reach_of c.args.line.now c.if-line-gt-WHOLE_LENGTH.reach false (is_short (omega (arith, w.if-line-gt-WHOLE_LENGTH.false))) w.reach-is) (omega (arith, w.reach-is))
    ]

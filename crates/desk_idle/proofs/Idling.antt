-- Those of lines that decide nothing, one line after another.
use Rattle.std.proofs.Common.{◌≡◌, ◌∙◌, ℕ, ◌<◌, ◌++◌, true, false, eqb, List, [], ◌∷◌, Option, Some, None, ap, arith, get_or, inl, inr, length, refl, subst, sym}
use Rattle.std.specs.List.{All, AllPairs, Contains}
use Rattle.std.proofs.lemmas.Bool.{cases_lt, eq-eqb, or_parts, or_left, true≢false}
use Rattle.std.proofs.lemmas.List.{get_or_append_left, get_or_default, get_or_push, length_push}
use Rattle.std.proofs.lemmas.List.Elements.{All-get_or, All-push, All-weaker, Contains-append_left, Contains-push_cases}
use Rattle.std.proofs.lemmas.List.Folds.{list_any-append}
use Rattle.desk_policy.specs.Policy.{AreAscending, Content, rows_of}
use Rattle.desk_policy.specs.declared.row.Row.{Row}
use Rattle.desk_idle.specs.Idle.{AreIdleAmong, DecidesNothing, IsIdle, IsNamed}
use Rattle.desk_idle.specs.Laws.{WriteDirectories}
use Rattle.desk_idle.specs.PrivateMarks.{IsKnown, decides}
use Rattle.desk_idle.specs.declared.idle.Idle.{Idle}
use Rattle.desk_idle.specs.declared.marks.Mark.{Mark}
use Rattle.desk_idle.proofs.Bringing.{lines_decide_by_what_they_bring}
use Rattle.desk_idle.proofs.Lists.{in_middle}

-- ---- by what is known of a line

module _ (content : Content) (fs : ℕ) (ascending : AreAscending (rows_of content fs)) (is : WriteDirectories content fs) (row : Row) (has : Contains (rows_of content fs) row) where
  pub named_by : (mark : Option Mark) → IsKnown (rows_of content fs) row mark → decides mark ≡ true → IsNamed content fs row.entry.line
  named_by None known e = absurd (true≢false (sym e))
  named_by (Some mark) known e = (lines_decide_by_what_they_bring content fs row ascending is has).1 (known.decides.0 e)

  pub idle_by : (mark : Option Mark) → IsKnown (rows_of content fs) row mark → decides mark ≡ false → DecidesNothing content fs row.entry.line
  idle_by None known e named =
      let at = (lines_decide_by_what_they_bring content fs row ascending is has).0 named in
      known at.address at.is_address (subst (λ (ys : List Row). Contains ys row) (sym at.selects) (in_middle at.earlier row at.later))
  idle_by (Some mark) known e named = true≢false (sym (known.decides.1 ((lines_decide_by_what_they_bring content fs row ascending is has).0 named)) ∙ e)

-- ---- one line more

module _ (content : Content) (fs : ℕ) (done : List Row) (row : Row) (found : List Idle) (are : AreIdleAmong content fs done found) where
  each_more : All (IsIdle content fs (done ++ row ∷ [])) found
  each_more = All-weaker (IsIdle content fs done) (IsIdle content fs (done ++ row ∷ [])) (λ idle is. record {
    row = is.row;
    has = Contains-append_left done (row ∷ []) is.row is.has;
    line = is.line;
    nothing = is.nothing;
    reason = is.reason;
  }) found are.each

  pub one_named : IsNamed content fs row.entry.line → AreIdleAmong content fs (done ++ row ∷ []) found
  one_named named = record {
    each = each_more;
    others = λ other has none. elim (Contains-push_cases done row other has) [
      | inl before ↦ are.others other before none
      | inr last ↦ subst (λ (r : Row). IsNamed content fs r.entry.line) last named
    ];
    ascending = are.ascending;
  }

  module _ (ascending : AreAscending (done ++ row ∷ [])) (idle : Idle) (is : IsIdle content fs (done ++ row ∷ []) idle) (same : row.entry.line ≡ idle.line) where
    -- a line before is of a lesser number
    before : (other : Idle) → IsIdle content fs done other → other.line < idle.line
    before other it =
        let k = it.has.0 in
        let within : k < length done = it.has.1 in
        let first : get_or (done ++ row ∷ []) k row ≡ it.row = get_or_append_left done (row ∷ []) row k within ∙ get_or_default done k row it.row within ∙ it.has.2 in
        let last : get_or (done ++ row ∷ []) (length done) row ≡ row = get_or_push done row row (length done) refl in
        let up = ascending k (length done) row within (omega (arith, length_push done row)) in
        let a = ap (λ (r : Row). r.entry.line) first in
        let b = ap (λ (r : Row). r.entry.line) last in
        let c = it.line in
        omega arith

    ascend : AllPairs (λ one later. one.line < later.line) (found ++ idle ∷ [])
    ascend i j d lt inside =
        let all = length_push found idle in
        elim (cases_lt j (length found)) [
          | inl within ↦
              let a = ap (λ (o : Idle). o.line) (get_or_append_left found (idle ∷ []) d i (omega arith)) in
              let b = ap (λ (o : Idle). o.line) (get_or_append_left found (idle ∷ []) d j within) in
              let up = are.ascending i j d lt within in
              omega arith
          | inr past ↦
              let a = ap (λ (o : Idle). o.line) (get_or_append_left found (idle ∷ []) d i (omega arith)) in
              let b = ap (λ (o : Idle). o.line) (get_or_push found idle d j (omega arith)) in
              let lt' = before (get_or found i d) (All-get_or (IsIdle content fs done) found i d (omega arith) are.each) in
              omega arith
        ]

    pub one_idle : AreIdleAmong content fs (done ++ row ∷ []) (found ++ idle ∷ [])
    one_idle = record {
      each = All-push (IsIdle content fs (done ++ row ∷ [])) found idle each_more is;
      others = λ other has none.
          let s = or_parts _ _ (sym (list_any-append (λ (o : Idle). eqb o.line other.entry.line) found (idle ∷ [])) ∙ none) in
          elim (Contains-push_cases done row other has) [
            | inl earlier ↦ are.others other earlier s.0
            | inr last ↦ absurd (true≢false (sym (or_left (eqb idle.line other.entry.line) false (eq-eqb idle.line other.entry.line (sym same ∙ ap (λ (r : Row). r.entry.line) last))) ∙ s.1))
          ];
      ascending = ascend;
    }

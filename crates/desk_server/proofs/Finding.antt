-- The findings of lines, by what is known of them from looks.
use Rattle.std.proofs.Common.{◌≡◌, ◌∙◌, ℕ, ◌<◌, ◌++◌, eqb, List, [], ◌∷◌, Option, Some, None, ap, arith, get_or, inl, inr, length, refl, subst, sym}
use Rattle.std.specs.List.{All, AllPairs, Contains, list_any}
use Rattle.std.proofs.lemmas.Bool.{cases_lt, eq-eqb, or_left, or_right}
use Rattle.std.proofs.lemmas.List.{get_or_append_left, get_or_default, get_or_push, length_push}
use Rattle.std.proofs.lemmas.List.Elements.{All-get_or, All-push, All-weaker, Contains-append_left, Contains-push_cases}
use Rattle.std.proofs.lemmas.List.Folds.{list_any-append}
use Rattle.desk_text.specs.Address.{number_of}
use Rattle.desk_policy.specs.Policy.{AreAscending, Content, rows_of}
use Rattle.desk_policy.specs.Weights.{selected}
use Rattle.desk_policy.specs.declared.row.Row.{Row}
use Rattle.desk_who.specs.Starts.{AreStarts}
use Rattle.desk_idle.specs.Laws.{WriteDirectories}
use Rattle.desk_idle.proofs.Bringing.{selected_has}
use Rattle.desk_idle.proofs.Lists.{in_middle}
use Rattle.desk_server.specs.PrivateWiderGrants.{AreWiderAmong, HasLine, IsFinding, IsFoundAmong, IsTold, IsWide}
use Rattle.desk_server.specs.WiderGrants.{AreWiderGrants, IsWiderAt, IsWiderGrant}
use Rattle.desk_server.specs.declared.wider_grant.WiderGrant.{WiderGrant}
use Rattle.desk_server.proofs.Between.{last_weights, same_first, same_widened}
use Rattle.desk_server.proofs.Widening.{selected_line, wider_widens, widens_wider}

-- ---- of one line

module _ (content : Content) (fs : ℕ) (is : WriteDirectories content fs) where
  abbrev rows : List Row
  rows = rows_of content fs

  wide : (line address : ℕ) → IsWiderAt content fs line address → IsWide rows line address
  wide line address at = record { first = at.first; widened = wider_widens content fs is address line at }

  module _ (starts : List ℕ) (are : AreStarts rows starts) where
    found_is : (line : ℕ) (found : WiderGrant) → IsFoundAmong rows (0 ∷ starts) line found → IsWiderGrant content fs found
    found_is line found told = record {
      at = widens_wider content fs is (number_of found.address) found.line told.is_address (told.first ∙ ap (λ (n : ℕ). Some n) (sym told.number)) (record { row = told.at.row; weight = told.at.by.weight; widens = told.at.by.widens });
      least = λ address at.
          let last = last_weights rows starts are address at.is_address in
          let w = wide found.line address at in
          let le = told.least last.at last.among (record {
            first = sym (same_first rows address last.at last.same) ∙ at.first ∙ ap (λ (n : ℕ). Some n) told.number;
            widened = same_widened rows address last.at last.same w.widened;
          }) in
          let b = last.before in
          omega arith;
      row = told.at.row;
      by = told.at.by;
      other = told.at.other;
      directory = told.at.directory;
    }

    pub finding : (line : ℕ) (look : Option WiderGrant) → IsTold rows (0 ∷ starts) line (Some look) → IsFinding content fs line look
    finding line None told = λ address at. told address at.is_address (wide line address at)
    finding line (Some found) told = (told.number, found_is line found told)

    pub no_finding : (line : ℕ) → IsTold rows (0 ∷ starts) line None → IsFinding content fs line None
    no_finding line told = λ address at.
        let last = last_weights rows starts are address at.is_address in
        let w = wide line address at in
        told last.at last.among (record {
          first = sym (same_first rows address last.at last.same) ∙ at.first;
          widened = same_widened rows address last.at last.same w.widened;
        })

-- ---- one line more

module _ (content : Content) (fs : ℕ) (done : List Row) (row : Row) (found : List WiderGrant) (are : AreWiderAmong content fs done found) where
  own_more : All (HasLine (done ++ row ∷ [])) found
  own_more = All-weaker (HasLine done) (HasLine (done ++ row ∷ [])) (λ one is. record { row = is.row; has = Contains-append_left done (row ∷ []) is.row is.has; number = is.number }) found are.own

  pub none_more : IsFinding content fs row.entry.line None → AreWiderAmong content fs (done ++ row ∷ []) found
  none_more none = record {
    each = are.each;
    own = own_more;
    all = λ other address has at. elim (Contains-push_cases done row other has) [
      | inl before ↦ are.all other address before at
      | inr last ↦ absurd (none address (subst (λ (r : Row). IsWiderAt content fs r.entry.line address) (sym last) at))
    ];
    ascending = are.ascending;
  }

  module _ (up : AreAscending (done ++ row ∷ [])) (one : WiderGrant) (is : IsFinding content fs row.entry.line (Some one)) where
    -- a line before is of a lesser number
    before : (other : WiderGrant) → HasLine done other → other.line < one.line
    before other it =
        let k = it.has.0 in
        let within : k < length done = it.has.1 in
        let first : get_or (done ++ row ∷ []) k row ≡ it.row = get_or_append_left done (row ∷ []) row k within ∙ get_or_default done k row it.row within ∙ it.has.2 in
        let last : get_or (done ++ row ∷ []) (length done) row ≡ row = get_or_push done row row (length done) refl in
        let less = up k (length done) row within (omega (arith, length_push done row)) in
        let a = ap (λ (r : Row). r.entry.line) first in
        let b = ap (λ (r : Row). r.entry.line) last in
        let c = it.number in
        let d = is.0 in
        omega arith

    ascend : AllPairs (λ one later. one.line < later.line) (found ++ one ∷ [])
    ascend i j d lt inside =
        let all = length_push found one in
        elim (cases_lt j (length found)) [
          | inl within ↦
              let a = ap (λ (o : WiderGrant). o.line) (get_or_append_left found (one ∷ []) d i (omega arith)) in
              let b = ap (λ (o : WiderGrant). o.line) (get_or_append_left found (one ∷ []) d j within) in
              let less = are.ascending i j d lt within in
              omega arith
          | inr past ↦
              let a = ap (λ (o : WiderGrant). o.line) (get_or_append_left found (one ∷ []) d i (omega arith)) in
              let b = ap (λ (o : WiderGrant). o.line) (get_or_push found one d j (omega arith)) in
              let less = before (get_or found i d) (All-get_or (HasLine done) found i d (omega arith) are.own) in
              omega arith
        ]

    pub one_more : AreWiderAmong content fs (done ++ row ∷ []) (found ++ one ∷ [])
    one_more = record {
      each = All-push (IsWiderGrant content fs) found one are.each is.1;
      own = All-push (HasLine (done ++ row ∷ [])) found one own_more (record { row = row; has = Contains-append_right_last; number = sym is.0 });
      all = λ other address has at.
          list_any-append (λ (o : WiderGrant). eqb o.line other.entry.line) found (one ∷ [])
          ∙ elim (Contains-push_cases done row other has) [
            | inl earlier ↦ or_left _ _ (are.all other address earlier at)
            | inr last ↦ or_right _ _ (or_left _ _ (eq-eqb one.line other.entry.line (is.0 ∙ ap (λ (r : Row). r.entry.line) last)))
          ];
      ascending = ascend;
    }
      where
        Contains-append_right_last : Contains (done ++ row ∷ []) row
        Contains-append_right_last = in_middle done row []

-- the findings of all lines are those of the file system
pub all_findings : (content : Content) (fs : ℕ) (found : List WiderGrant) → AreWiderAmong content fs (rows_of content fs) found → AreWiderGrants content fs found
all_findings content fs found are = record {
  each = are.each;
  all = λ line address at.
      let f = selected_line (selected (rows_of content fs) address) line at.first in
      let has = selected_has (rows_of content fs) address f.row f.has in
      ap (λ n. list_any (λ (o : WiderGrant). eqb o.line n) found) (sym f.number)
      ∙ are.all f.row address has (subst (λ n. IsWiderAt content fs n address) (sym f.number) at);
  ascending = are.ascending;
}

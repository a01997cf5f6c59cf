-- What mountd's rule grants, beside what is granted here.
use Rattle.std.proofs.Common.{◌≡◌, ◌⊎◌, ◌∙◌, ℕ, ◌<◌, ◌^◌, Bool, true, List, [], ◌∷◌, Option, Some, None, IsSome, ap, arith, inl, inr, refl, subst, sym}
use Rattle.std.specs.Prelude.{Result, Ok, Err, filter, find}
use Rattle.std.specs.List.{Contains}
use Rattle.std.proofs.lemmas.Bool.{true≢false}
use Rattle.desk_tables.specs.FileSystems.{fs_of}
use Rattle.desk_tables.specs.declared.filesystems.FsId.{FsId}
use Rattle.desk_exports.specs.declared.entry.Terms.{Terms}
use Rattle.desk_policy.specs.Policy.{Content, rows_of}
use Rattle.desk_policy.specs.Verdict.{Grant, granted_by, lists, verdict_among, verdict_in, verdict_of}
use Rattle.desk_policy.specs.Weights.{selected, weight_of}
use Rattle.desk_policy.specs.declared.row.Row.{Row}
use Rattle.desk_policy.specs.declared.verdict.Denial.{Denial}
use Rattle.desk_policy.specs.declared.verdict.Denial.TheVariants.{NoLine, NotListed}
use Rattle.desk_policy.proofs.ByKeys.{found_is}
use Rattle.desk_who.specs.Who.{VerdictsAreDiscrete}
use Rattle.desk_idle.proofs.Bringing.{selected_has}
use Rattle.desk_server.specs.Laws.{GrantsAreTheServers, IsInForce, IsListedForMountd, NamesNobody, ServerGrantsWhatIsListedForMountd, VerdictsDifferWhereTheServerGrantsMore}
use Rattle.desk_server.specs.Server.{asked, for_everybody, granted_on, granting, is_everybody, is_named, named, or_others, server_verdict_among, server_verdict_by, server_verdict_in, server_verdict_of}
use Rattle.desk_server.proofs.Asking.{asked_everybody, asked_is, asked_named, granting_is, selects}
use Rattle.desk_server.proofs.Lists.{found_kept, has_kept, kept_has, no_element}
use Rattle.desk_server.proofs.Terms.{one_terms}

-- ---- the two verdicts

-- None of the selected lines lists the path, and one that mountd asks does.
pub record More (listing : Row → Bool) (rows : List Row) (address : ℕ) : Type 0 where
  pub first : Row
  pub others : List Row
  pub are : selected rows address ≡ first ∷ others
  pub none : find listing (first ∷ others) ≡ None
  pub row : Row
  pub rest : List Row
  pub grant_it : granting listing rows address ≡ row ∷ rest

module _ (compare : VerdictsAreDiscrete) (content : Content) (in_force : IsInForce content) (fs address : ℕ) (below : address < 2 ^ 32) (listing : Row → Bool) where
  abbrev AreSame : Type 0
  AreSame = server_verdict_among (record { 0 = fs }) listing (rows_of content fs) address ≡ verdict_among (record { 0 = fs }) listing (selected (rows_of content fs) address)

  abbrev IsMore : Type 0
  IsMore = More listing (rows_of content fs) address

  found_too : (first : Row) (others : List Row) (row : Row) → selected (rows_of content fs) address ≡ first ∷ others → find listing (first ∷ others) ≡ Some row → AreSame
  found_too first others row are e =
      let f : FsId = record { 0 = fs } in
      let found = found_is listing (first ∷ others) row e in
      let chosen : Contains (selected (rows_of content fs) address) row = subst (λ (ys : List Row). Contains ys row) (sym are) found.0 in
      let first_chosen : Contains (selected (rows_of content fs) address) first = subst (λ (ys : List Row). Contains ys first) (sym are) (0, omega arith, refl) in
      let kept = found_kept listing (first ∷ others) row e in
      let grant_it : granting listing (rows_of content fs) address ≡ row ∷ kept.others = granting_is listing (rows_of content fs) address row chosen found.1 ∙ ap (filter listing) are ∙ kept.are in
      ap (λ (s : List Row). server_verdict_by f s (granting listing (rows_of content fs) address)) are
      ∙ ap (granted_on f first) grant_it
      ∙ ap (λ (t : Terms). let g : Grant = record { fs = f; line = row.entry.line; terms = t } in let r : Result Grant Denial = Ok g in r)
      (one_terms compare (rows_of content fs) (in_force.ascending fs) (in_force.consistent fs) address below first row first_chosen chosen)
      ∙ sym (ap (verdict_among f listing) are ∙ ap (granted_by f first) e)

  by_granting : (first : Row) (others : List Row) → selected (rows_of content fs) address ≡ first ∷ others → find listing (first ∷ others) ≡ None
      → (grant_it : List Row) → granting listing (rows_of content fs) address ≡ grant_it → AreSame ⊎ IsMore
  by_granting first others are e [] g =
      let f : FsId = record { 0 = fs } in
      inl (ap (λ (s : List Row). server_verdict_by f s (granting listing (rows_of content fs) address)) are ∙ ap (granted_on f first) g ∙ sym (ap (verdict_among f listing) are ∙ ap (granted_by f first) e))
  by_granting first others are e (row ∷ rest) g = inr (record { first = first; others = others; are = are; none = e; row = row; rest = rest; grant_it = g })

  by_found : (first : Row) (others : List Row) → selected (rows_of content fs) address ≡ first ∷ others → (o : Option Row) → find listing (first ∷ others) ≡ o → AreSame ⊎ IsMore
  by_found first others are None e = by_granting first others are e (granting listing (rows_of content fs) address) refl
  by_found first others are (Some row) e = inl (found_too first others row are e)

  by_chosen : (chosen : List Row) → selected (rows_of content fs) address ≡ chosen → AreSame ⊎ IsMore
  by_chosen [] are =
      let f : FsId = record { 0 = fs } in
      inl (ap (λ (s : List Row). server_verdict_by f s (granting listing (rows_of content fs) address)) are ∙ sym (ap (verdict_among f listing) are))
  by_chosen (first ∷ others) are = by_found first others are (find listing (first ∷ others)) refl

  same_or_more : AreSame ⊎ IsMore
  same_or_more = by_chosen (selected (rows_of content fs) address) refl

-- so it is on the path's file system
pub record MoreOn (content : Content) (address : ℕ) (path : List (List ℕ)) : Type 0 where
  pub fs : ℕ
  pub here : fs_of content.table path ≡ Some fs
  pub more : More (lists content fs path) (rows_of content fs) address

module _ (content : Content) (address : ℕ) (path : List (List ℕ)) where
  pub verdict_here : (fs : ℕ) → fs_of content.table path ≡ Some fs → verdict_of content address path ≡ verdict_among (record { 0 = fs }) (lists content fs path) (selected (rows_of content fs) address)
  unfolding verdict_of
  verdict_here fs here = ap (verdict_in content address path) here

  pub server_here : (fs : ℕ) → fs_of content.table path ≡ Some fs → server_verdict_of content address path ≡ server_verdict_among (record { 0 = fs }) (lists content fs path) (rows_of content fs) address
  unfolding server_verdict_of
  server_here fs here = ap (server_verdict_in content address path) here

  nowhere : fs_of content.table path ≡ None → server_verdict_of content address path ≡ verdict_of content address path
  unfolding verdict_of server_verdict_of
  nowhere none = ap (server_verdict_in content address path) none ∙ sym (ap (verdict_in content address path) none)

  pub denied : (m : MoreOn content address path) → verdict_of content address path ≡ Err (NotListed (record { 0 = m.fs }) m.more.first.entry.line)
  denied m =
      let f : FsId = record { 0 = m.fs } in
      verdict_here m.fs m.here ∙ ap (verdict_among f (lists content m.fs path)) m.more.are ∙ ap (granted_by f m.more.first) m.more.none

  pub granted : (m : MoreOn content address path) → server_verdict_of content address path ≡ Ok (record { fs = record { 0 = m.fs }; line = m.more.row.entry.line; terms = m.more.first.entry.terms })
  granted m =
      let f : FsId = record { 0 = m.fs } in
      server_here m.fs m.here
      ∙ ap (λ (s : List Row). server_verdict_by f s (granting (lists content m.fs path) (rows_of content m.fs) address)) m.more.are
      ∙ ap (granted_on f m.more.first) m.more.grant_it

module _ (compare : VerdictsAreDiscrete) (content : Content) (in_force : IsInForce content) (address : ℕ) (below : address < 2 ^ 32) (path : List (List ℕ)) where
  by_home : (o : Option ℕ) → fs_of content.table path ≡ o → (server_verdict_of content address path ≡ verdict_of content address path) ⊎ MoreOn content address path
  by_home None none = inl (nowhere content address path none)
  by_home (Some fs) here =
      elim (same_or_more compare content in_force fs address below (lists content fs path)) [
        | inl same ↦ inl (server_here content address path fs here ∙ same ∙ sym (verdict_here content address path fs here))
        | inr more ↦ inr (record { fs = fs; here = here; more = more })
      ]

  pub same_or_granted_more : (server_verdict_of content address path ≡ verdict_of content address path) ⊎ MoreOn content address path
  same_or_granted_more = by_home (fs_of content.table path) refl

pub grants_are_the_servers : VerdictsAreDiscrete → GrantsAreTheServers
grants_are_the_servers compare content address path grant in_force below e =
    elim (same_or_granted_more compare content in_force address below path) [
      | inl same ↦ same ∙ e
      | inr more ↦ (let wrong : Err (NotListed (record { 0 = more.fs }) more.more.first.entry.line) ≡ Ok grant = sym (denied content address path more) ∙ e in cc)
    ]

pub verdicts_differ_where_the_server_grants_more : VerdictsAreDiscrete → VerdictsDifferWhereTheServerGrantsMore
verdicts_differ_where_the_server_grants_more compare content address path in_force below =
    elim (same_or_granted_more compare content in_force address below path) [
      | inl same ↦ inl same
      | inr more ↦ inr (record {
        fs = record { 0 = more.fs };
        line = more.more.first.entry.line;
        denied = denied content address path more;
        grant = record { fs = record { 0 = more.fs }; line = more.more.row.entry.line; terms = more.more.first.entry.terms };
        granted = granted content address path more;
        here = refl;
        row = more.more.first;
        has = selected_has (rows_of content more.fs) address more.more.first (subst (λ (ys : List Row). Contains ys more.more.first) (sym more.more.are) (0, omega arith, refl));
        number = refl;
        terms = refl;
      })
    ]

-- ---- what is listed for mountd

some_weight : (o : Option ℕ) → is_named o ≡ true → IsSome o
some_weight None e = absurd (true≢false (sym e))
some_weight (Some weight) e = refl

some_weight_of_everybody : (o : Option ℕ) → is_everybody o ≡ true → IsSome o
some_weight_of_everybody None e = absurd (true≢false (sym e))
some_weight_of_everybody (Some weight) e = refl

both_some : (f : FsId) (chosen grant_it : List Row) → (chosen ≡ [] → ⊥) → (grant_it ≡ [] → ⊥) → (grant : Grant) × (server_verdict_by f chosen grant_it ≡ Ok grant)
both_some f [] grant_it some some' = absurd (some refl)
both_some f (first ∷ others) [] some some' = absurd (some' refl)
both_some f (first ∷ others) (row ∷ rest) some some' = (record { fs = f; line = row.entry.line; terms = first.entry.terms }, refl)

some_grants : (f : FsId) (chosen grant_it : List Row) (grant : Grant) → server_verdict_by f chosen grant_it ≡ Ok grant → (row : Row) × Contains grant_it row
some_grants f [] grant_it grant e = let wrong : Err (NoLine f) ≡ Ok grant = e in cc
some_grants f (first ∷ others) [] grant e = let wrong : Err (NotListed f first.entry.line) ≡ Ok grant = e in cc
some_grants f (first ∷ others) (row ∷ rest) grant e = (row, (0, omega arith, refl))

named_or_others : (names others : List Row) (row : Row) → Contains (or_others names others) row → Contains names row ⊎ ((names ≡ []) × Contains others row)
named_or_others [] others row has = inr (refl, has)
named_or_others (first ∷ names) others row has = inl has

module _ (content : Content) (fs address : ℕ) (path : List (List ℕ)) where
  abbrev names_it : Row → Bool
  names_it row = is_named (weight_of row address)

  abbrev is_for_everybody : Row → Bool
  is_for_everybody row = is_everybody (weight_of row address)

  none_named : NamesNobody content fs address → (names : List Row) → named (rows_of content fs) address ≡ names → names ≡ []
  none_named nobody [] are = refl
  none_named nobody (row ∷ names) are =
      let has = has_kept names_it (rows_of content fs) row (subst (λ (ys : List Row). Contains ys row) (sym are) (0, omega arith, refl)) in
      absurd (nobody row has.0 has.1)

  asked_grants : (row : Row) → Contains (rows_of content fs) row → Contains (asked (rows_of content fs) address) row → IsSome (weight_of row address) → lists content fs path row ≡ true
      → (grant : Grant) × (server_verdict_among (record { 0 = fs }) (lists content fs path) (rows_of content fs) address ≡ Ok grant)
  asked_grants row has asks some passes =
      both_some (record { 0 = fs }) (selected (rows_of content fs) address) (granting (lists content fs path) (rows_of content fs) address) (selects (rows_of content fs) row address has some)
      (selects (filter (lists content fs path) (asked (rows_of content fs) address)) row address (kept_has (lists content fs path) (asked (rows_of content fs) address) row asks passes) some)

  listed_grants : IsListedForMountd content fs address path → (grant : Grant) × (server_verdict_among (record { 0 = fs }) (lists content fs path) (rows_of content fs) address ≡ Ok grant)
  listed_grants (inl by) =
      asked_grants by.row by.has
      (subst (λ (ys : List Row). Contains ys by.row) (sym (asked_named (rows_of content fs) address by.row by.has by.matches)) (kept_has names_it (rows_of content fs) by.row by.has by.matches))
      (some_weight (weight_of by.row address) by.matches) by.listed
  listed_grants (inr by) =
      let one = by.1 in
      asked_grants one.row one.has
      (subst (λ (ys : List Row). Contains ys one.row) (sym (asked_everybody (rows_of content fs) address (none_named by.0 (named (rows_of content fs) address) refl)))
      (kept_has is_for_everybody (rows_of content fs) one.row one.has one.matches))
      (some_weight_of_everybody (weight_of one.row address) one.matches) one.listed

  listed_from : (grant : Grant) → server_verdict_among (record { 0 = fs }) (lists content fs path) (rows_of content fs) address ≡ Ok grant → IsListedForMountd content fs address path
  listed_from grant e =
      let one = some_grants (record { 0 = fs }) (selected (rows_of content fs) address) (granting (lists content fs path) (rows_of content fs) address) grant e in
      let has = has_kept (lists content fs path) (asked (rows_of content fs) address) one.0 (selected_has (filter (lists content fs path) (asked (rows_of content fs) address)) address one.0 one.1) in
      elim (named_or_others (named (rows_of content fs) address) (for_everybody (rows_of content fs) address) one.0 (subst (λ (ys : List Row). Contains ys one.0) (asked_is (rows_of content fs) address) has.0)) [
        | inl names ↦ (let kept = has_kept names_it (rows_of content fs) one.0 names in inl (record { row = one.0; has = kept.0; matches = kept.1; listed = has.1 }))
        | inr others ↦
            let kept = has_kept is_for_everybody (rows_of content fs) one.0 others.1 in
            inr (λ row there names. no_element row (subst (λ (ys : List Row). Contains ys row) others.0 (kept_has names_it (rows_of content fs) row there names)), record { row = one.0; has = kept.0; matches = kept.1; listed = has.1 })
      ]

pub server_grants_what_is_listed : ServerGrantsWhatIsListedForMountd
server_grants_what_is_listed content fs address path here = (
  λ is. (let g = listed_grants content fs address path is in (g.0, server_here content address path fs here ∙ g.1)),
  λ g. listed_from content fs address path g.0 (sym (server_here content address path fs here) ∙ g.1),
)

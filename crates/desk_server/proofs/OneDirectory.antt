-- Where all lines write one directory alone, nothing widens what is selected.
use Rattle.std.proofs.Common.{◌≡◌, ◌∙◌, ◌&&◌, ◌||◌, ℕ, Bool, List, [], ◌∷◌, IsSome, ap, arith, not, refl, subst, sym}
use Rattle.std.specs.List.{Contains, list_any}
use Rattle.std.proofs.lemmas.List.Elements.{All-contains}
use Rattle.desk_policy.specs.Listings.{written}
use Rattle.desk_policy.specs.Policy.{Content, rows_of}
use Rattle.desk_policy.specs.Verdict.{is_directory_among}
use Rattle.desk_policy.specs.Weights.{selected}
use Rattle.desk_policy.specs.declared.row.Row.{Row}
use Rattle.desk_idle.specs.Laws.{WriteDirectories, brings}
use Rattle.desk_idle.proofs.Bringing.{selected_has}
use Rattle.desk_idle.proofs.Directories.{Path}
use Rattle.desk_idle.proofs.Lists.{in_middle}
use Rattle.desk_server.specs.PrivateWiderGrants.{ListAlike, ListsOnly, Widened}
use Rattle.desk_server.specs.WiderGrants.{AreWiderGrants}
use Rattle.desk_server.specs.declared.wider_grant.WiderGrant.{WiderGrant}
use Rattle.desk_server.proofs.Asking.{selects}
use Rattle.desk_server.proofs.Lighter.{brings_nothing}
use Rattle.desk_server.proofs.Widening.{wider_widens}

-- lines that list the same bring the same
same_brought : (chosen : List Row) (dir : Path) (row other : Row) → ListsOnly dir row → ListsOnly dir other → brings chosen row ≡ brings chosen other
same_brought chosen dir row other own its =
    let all = list_any (λ (r : Row). r.entry.alldirs) chosen in
    let new : Path → Bool = λ (d : Path). not (is_directory_among d (written chosen)) in
    ap (λ b. not all && (b || list_any new row.entry.dirs)) (own.alldirs ∙ sym its.alldirs) ∙ ap (λ ds. not all && (other.entry.alldirs || list_any new ds)) (own.dirs ∙ sym its.dirs)

module _ (rows : List Row) (alike : ListAlike rows) (address : ℕ) where
  only : (row : Row) → Contains rows row → ListsOnly alike.dir row
  only row has = All-contains (ListsOnly alike.dir) rows row alike.only has

  pub none_widened : Widened rows address → ⊥
  none_widened wide = by_first (selected rows address) refl
    where
      by_first : (chosen : List Row) → selected rows address ≡ chosen → ⊥
      by_first [] e = selects rows wide.row address wide.widens.has (subst IsSome (sym wide.widens.matches) refl) e
      by_first (first ∷ others) e =
          let has : Contains (selected rows address) first = subst (λ (rs : List Row). Contains rs first) (sym e) (in_middle [] first others) in
          brings_nothing (selected rows address) first has
          (same_brought (selected rows address) alike.dir first wide.row (only first (selected_has rows address first has)) (only wide.row wide.widens.has) ∙ wide.widens.brought)

-- so the server grants no more than this desk
pub none_wider : (content : Content) (fs : ℕ) → WriteDirectories content fs → ListAlike (rows_of content fs) → AreWiderGrants content fs []
none_wider content fs is alike = record {
  each = λ k d within. absurd (omega arith);
  all = λ line address at. absurd (none_widened (rows_of content fs) alike address (wider_widens content fs is address line at));
  ascending = λ i j d lt within. absurd (omega arith);
}

pub none_of_alike : (content : Content) (fs : ℕ) → WriteDirectories content fs → (rows : List Row) → rows ≡ rows_of content fs → ListAlike rows → (found : List WiderGrant) → found ≡ [] → AreWiderGrants content fs found
none_of_alike content fs is rows same alike found none = subst (λ (all : List WiderGrant). AreWiderGrants content fs all) (sym none) (none_wider content fs is (subst ListAlike same alike))

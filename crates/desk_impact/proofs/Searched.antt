-- A path is among paths in byte order exactly if it stands where a search for it ends.
use Rattle.std.proofs.Common.{◌≡◌, ◌<◌, ◌≤◌, ◌∙◌, ℕ, Bool, true, false, List, [], ◌∷◌, ap, arith, get_or, inl, inr, length, refl, subst, sym}
use Rattle.std.specs.Cmp.Lexicographic.{on_texts}
use Rattle.std.specs.List.{All, Contains}
use Rattle.std.specs.List.Sorted.{IsPartitionPoint, IsPartitionedBy}
use Rattle.std.specs.Ordering.{is_lt}
use Rattle.std.specs.declared.cmp.Ordering.{Ordering}
use Rattle.std.specs.declared.cmp.Ordering.TheVariants.{Less, Equal, Greater}
use Rattle.std.proofs.lemmas.Bool.{cases_Bool, cases_lt, false_from_ne_true, true≢false}
use Rattle.std.proofs.lemmas.Cmp.{nat_list_cmp_total, tied_itself}
use Rattle.std.proofs.lemmas.List.{get_or-map, get_or_default, length-map}
use Rattle.desk_text.specs.Path.{path_text, same_path}
use Rattle.desk_tables.specs.FileSystems.{is_before}
use Rattle.desk_policy.specs.Verdict.{is_directory_among}
use Rattle.desk_impact.specs.Places.{paths_in}
use Rattle.desk_impact.specs.PrivatePlaces.{AreAscending, IsFree}
use Rattle.desk_impact.proofs.Ordered.{Lent}
use Rattle.desk_impact.proofs.Same.{Path, among, contained, contains_map, is_same, same_is}

less_is : (o : Ordering) → is_lt o ≡ true → o ≡ Less
less_is Less e = refl
less_is Equal e = absurd (cc)
less_is Greater e = absurd (cc)

before_trans : (p q r : Path) → is_before p q ≡ true → is_before q r ≡ true → is_before p r ≡ true
before_trans p q r pq qr = ap is_lt ((on_texts path_text).trans p q r (less_is _ pq) (less_is _ qr))

not_itself : (p : Path) → is_before p p ≡ false
not_itself p = ap is_lt (tied_itself nat_list_cmp_total (path_text p))

abbrev now_of : Lent → Path
now_of path = path.now

-- a lent path comes before this one
abbrev pub comes_before : Path → Lent → Bool
comes_before path other = is_before other.now path

abbrev AtPoint : Path → List Lent → ℕ → Type 0
AtPoint path paths first = IsPartitionPoint (λ (p : Lent). comes_before path p ≡ true) (λ p. comes_before path p ≡ false) paths first

-- the lent path that stands for a path
record StandsFor (paths : List Lent) (path : Path) : Type 0 where
  pub one : Lent
  pub there : Contains paths one
  pub is : one.now ≡ path

stands_for : (paths : List Lent) (path : Path) → Contains (paths_in paths) path → StandsFor paths path
stands_for [] path at = absurd (let l = at.1 in omega arith)
stands_for (first ∷ paths) path at =
    let all = first ∷ paths in
    let within : at.0 < length all = (let l = at.1 in omega (arith, length-map all now_of)) in
    record {
      one = get_or all at.0 first;
      there = (at.0, within, get_or_default all at.0 (get_or all at.0 first) first within);
      is = sym (get_or-map now_of all at.0 first path within) ∙ at.2;
    }

module _ (path : Path) (paths : List Lent) (up : AreAscending (paths_in paths)) where
  lent_up : (i j : ℕ) (d : Lent) → i < j → j < length paths → is_before (get_or paths i d).now (get_or paths j d).now ≡ true
  lent_up i j d less within =
      let a = get_or-map now_of paths i d d.now (omega arith) in
      let b = get_or-map now_of paths j d d.now within in
      ap (λ p. is_before p (get_or paths j d).now) (sym a) ∙ ap (is_before (get_or (paths_in paths) i d.now)) (sym b)
      ∙ up i j d.now less (omega (arith, length-map paths now_of))

  pub partitioned : IsPartitionedBy (comes_before path) paths
  partitioned i j d le within here =
      elim (cases_lt i j) [
        | inl less ↦ before_trans (get_or paths i d).now (get_or paths j d).now path (lent_up i j d less within) here
        | inr ge ↦ let same : j ≡ i = omega arith in ap (λ n. comes_before path (get_or paths n d)) (sym same) ∙ here
      ]

  module _ (first : ℕ) (point : AtPoint path paths first) where
    -- it does not stand before that place
    not_earlier : (stands : StandsFor paths path) → first ≤ stands.there.0
    not_earlier stands =
        elim (cases_lt stands.there.0 first) [
          | inl less ↦ absurd (true≢false (sym (ap (comes_before path) (sym stands.there.2) ∙ point.0 stands.there.0 stands.one (omega arith) less)
              ∙ ap (λ p. is_before p path) stands.is ∙ not_itself path))
          | inr ge ↦ ge
        ]

    pub lacks_past : length paths ≤ first → is_directory_among path (paths_in paths) ≡ false
    lacks_past past =
        false_from_ne_true _ (λ is.
        let stands = stands_for paths path (contained path (paths_in paths) is) in
        let within = stands.there.1 in
        let later = not_earlier stands in
        omega arith)

    pub found_at : (other : Lent) → first < length paths → other ≡ get_or paths first other → is_directory_among path (paths_in paths) ≡ same_path other.now path
    found_at other within is =
        elim (cases_Bool (same_path other.now path)) as (λ _. is_directory_among path (paths_in paths) ≡ same_path other.now path) [
          | inl same ↦
              subst (λ p. is_directory_among p (paths_in paths) ≡ true) (same_is other.now path same)
              (among other.now (paths_in paths) (contains_map now_of paths other (first, within, sym is))) ∙ sym same
          | inr apart ↦
              false_from_ne_true _ (λ there.
              let stands = stands_for paths path (contained path (paths_in paths) there) in
              let later = not_earlier stands in
              elim (cases_lt first stands.there.0) [
                | inl less ↦
                    let least : is_before other.now path ≡ true =
                    ap (λ (p : Lent). is_before p.now path) (is ∙ get_or_default paths first other stands.one within)
                    ∙ ap (is_before (get_or paths first stands.one).now) (sym (ap now_of stands.there.2 ∙ stands.is)) ∙ lent_up first stands.there.0 stands.one less stands.there.1 in
                    let behind : is_before other.now path ≡ false = ap (comes_before path) is ∙ point.1 first other (omega arith) within in
                    true≢false (sym least ∙ behind)
                | inr ge ↦
                    let same : stands.there.0 ≡ first = omega arith in
                    let here : other.now ≡ path =
                    ap now_of (is ∙ get_or_default paths first other stands.one within ∙ ap (λ n. get_or paths n stands.one) (sym same) ∙ stands.there.2) ∙ stands.is in
                    true≢false (sym (is_same other.now path here) ∙ apart)
              ]) ∙ sym apart
        ]

-- what is free among paths in order is free among those that they are
pub free_of_given : (given ordered : List Path) (mount path : Path) → All (Contains ordered) given → IsFree mount ordered path → IsFree mount given path
free_of_given given ordered mount path all free = record {
  name = free.name;
  below = free.below;
  free = false_from_ne_true _ (λ is.
      let at = contained path given is in
      true≢false (sym (among path ordered (subst (Contains ordered) at.2 (all at.0 path at.1))) ∙ free.free));
}

-- The mount points that files name, for `listing`.
use Rattle.std.proofs.Common.{◌≡◌, ◌≢◌, ◌⊎◌, inl, inr, ℕ, zero, suc, ◌+◌, ◌<◌, ◌++◌, Bool, true, false, cond, List, [], ◌∷◌, None, Some, ap, arith, drop, get_or, length, map, nat_cmp, refl, subst, sym, take, ◌∙◌}
use Rattle.std.specs.Prelude.{find}
use Rattle.std.specs.Cmp.Lexicographic.{slice_cmp}
use Rattle.std.specs.List.{AllPairs, Contains}
use Rattle.std.specs.Ordering.{is_lt}
use Rattle.std.specs.Str.{bytes_eq}
use Rattle.std.proofs.lemmas.Bool.{true≢false}
use Rattle.std.proofs.lemmas.List.{append-nil, append_assoc, map-append, take_more}
use Rattle.std.proofs.lemmas.List.Elements.{All-contains_itself, Contains-append_cases, Contains-append_left, Contains-append_right}
use Rattle.desk_policy.specs.SiteFile.{NamesNoMount, exports_file_name}
use Rattle.std.proofs.lemmas.Slice.Eq.{bytes_eq-Decides}
use Rattle.desk_core.specs.Head.{newest_in}
use Rattle.desk_core.specs.Standing.{proposals_in, standing_in}
use Rattle.desk_core.specs.declared.head.Head.{Head}
use Rattle.desk_core.specs.declared.proposal.Proposal.{Proposal}
use Rattle.desk_core.specs.Listing.{AreMountsWithExports, IsHeld}
use Rattle.desk_core.specs.PrivateListing.{AreNamed, GainsNamed, NamesMore}

same_mount : (mount other : List ℕ) → exports_file_name mount ≡ exports_file_name other → mount ≡ other
same_mount mount other e = ap (drop 8) e

alone : {X : Type 0} (x y : X) → Contains (x ∷ []) y → x ≡ y
alone x y c =
    let first : c.0 ≡ 0 = omega (arith, c.1) in
    sym (ap (λ k. get_or (x ∷ []) k y) first) ∙ c.2

itself : {X : Type 0} (x : X) → Contains (x ∷ []) x
itself x = (0, omega arith, refl)

module _ (files : List (List ℕ)) (file : List ℕ) where
  had : (other : List ℕ) → Contains (files ++ file ∷ []) other → Contains files other ⊎ (file ≡ other)
  had other c =
      elim (Contains-append_cases files (file ∷ []) other c) [
        | inl there ↦ inl there
        | inr there ↦ inr (alone file other there)
      ]

  -- a file names a mount point more
  named_one : (mounts : List (List ℕ)) (mount : List ℕ) → file ≡ exports_file_name mount → AreNamed files mounts → AreNamed (files ++ file ∷ []) (mounts ++ mount ∷ [])
  named_one mounts mount names h = record {
    each = λ other c.
        elim (Contains-append_cases mounts (mount ∷ []) other c) [
          | inl there ↦ Contains-append_left files (file ∷ []) (exports_file_name other) (h.each other there)
          | inr there ↦ Contains-append_right files (file ∷ []) (exports_file_name other) (subst (Contains (file ∷ [])) (names ∙ ap exports_file_name (alone mount other there)) (itself file))
        ];
    all = λ other f.
        elim (had (exports_file_name other) f) [
          | inl old ↦ Contains-append_left mounts (mount ∷ []) other (h.all other old)
          | inr same ↦ Contains-append_right mounts (mount ∷ []) other (subst (Contains (mount ∷ [])) (same_mount mount other (sym names ∙ same)) (itself mount))
        ];
  }

  -- another file
  named_none : (mounts : List (List ℕ)) → NamesNoMount file → AreNamed files mounts → AreNamed (files ++ file ∷ []) mounts
  named_none mounts none h = record {
    each = λ other c. Contains-append_left files (file ∷ []) (exports_file_name other) (h.each other c);
    all = λ other f.
        elim (had (exports_file_name other) f) [
          | inl old ↦ h.all other old
          | inr same ↦ absurd (none other same)
        ];
  }

  named_next : (old new : List (List ℕ)) → GainsNamed file old new → AreNamed files old → AreNamed (files ++ file ∷ []) new
  named_next old new (inl none) h = subst (AreNamed (files ++ file ∷ [])) (sym none.1) (named_none old none.0 h)
  named_next old new (inr one) h = subst (AreNamed (files ++ file ∷ [])) (sym one.2) (named_one old one.0 one.1 h)

pub none_named : AreNamed [] []
none_named = record {
  each = λ other c. absurd (omega (arith, c.1));
  all = λ other f. absurd (omega (arith, f.1));
}

-- no file more
pub names_none : (mounts : List (List ℕ)) → NamesMore [] mounts mounts
names_none mounts files are = subst (λ fs. AreNamed fs mounts) (sym (append-nil files)) are

-- the files of the values so far, and one more
pub names_next : {X : Type 0} (f : X → List ℕ) (xs : List X) (i : ℕ) (x : X) → i < length xs → x ≡ get_or xs i x → (start old new : List (List ℕ)) → GainsNamed (f x) old new → NamesMore (map f (take i xs)) start old → NamesMore (map f (take (i + 1) xs)) start new
names_next f xs i x below is start old new gains so files are =
    let next : map f (take (i + 1) xs) ≡ map f (take i xs) ++ f x ∷ [] =
    ap (map f) (take_more xs i x below ∙ ap (λ y. take i xs ++ y ∷ []) (sym is)) ∙ map-append f (take i xs) (x ∷ []) in
    subst (λ fs. AreNamed fs new) (append_assoc files (map f (take i xs)) (f x ∷ []) ∙ ap (λ more. files ++ more) (sym next))
    (named_next (files ++ map f (take i xs)) (f x) old new gains (so files are))

-- a value is found by the name of a file exactly if one has it
module _ {X : Type 0} (name : X → List ℕ) where
  found : (xs : List X) (file : List ℕ) → Contains (map name xs) file → find (λ x. bytes_eq (name x) file) xs ≢ None
  found [] file c none = omega (arith, c.1)
  found (x ∷ xs) file c none = by (bytes_eq (name x) file) refl none (λ rest. found xs file rest)
    where
      by : (b : Bool) → bytes_eq (name x) file ≡ b → cond b (Some x) (find (λ y. bytes_eq (name y) file) xs) ≡ None
          → (Contains (map name xs) file → find (λ y. bytes_eq (name y) file) xs ≢ None) → ⊥
      by true is none rest = absurd (cc)
      by false is none rest = rest (behind c.0 c.1 c.2) none
        where
          behind : (k : ℕ) → k < length (map name (x ∷ xs)) → get_or (map name (x ∷ xs)) k file ≡ file → Contains (map name xs) file
          behind zero below at = absurd (true≢false (sym ((bytes_eq-Decides (name x) file).1 at) ∙ is))
          behind (suc k) below at = (k, omega (arith, below), at)

  has_name : (xs : List X) (file : List ℕ) → find (λ x. bytes_eq (name x) file) xs ≢ None → Contains (map name xs) file
  has_name [] file some = absurd (some refl)
  has_name (x ∷ xs) file some = by (bytes_eq (name x) file) refl some (has_name xs file)
    where
      by : (b : Bool) → bytes_eq (name x) file ≡ b → cond b (Some x) (find (λ y. bytes_eq (name y) file) xs) ≢ None
          → (find (λ y. bytes_eq (name y) file) xs ≢ None → Contains (map name xs) file) → Contains (map name (x ∷ xs)) file
      by true is some rest = (0, omega arith, (bytes_eq-Decides (name x) file).0 is)
      by false is some rest =
          let h = rest some in
          (suc h.0, omega (arith, h.1), h.2)

abbrev file_of_head : Head → List ℕ
file_of_head head = head.file

abbrev file_of_proposal : Proposal → List ℕ
file_of_proposal proposal = proposal.file

-- a file is held exactly if a revision or a proposal has it
held : (heads : List Head) (proposals : List Proposal) (file : List ℕ) → Contains (map file_of_head heads ++ map file_of_proposal proposals) file → IsHeld (standing_in heads proposals) file
unfolding newest_in proposals_in
held heads proposals file c =
    elim (Contains-append_cases (map file_of_head heads) (map file_of_proposal proposals) file c) [
      | inl there ↦ inl (found file_of_head heads file there)
      | inr there ↦ inr (found file_of_proposal proposals file there)
    ]

has_file : (heads : List Head) (proposals : List Proposal) (file : List ℕ) → IsHeld (standing_in heads proposals) file → Contains (map file_of_head heads ++ map file_of_proposal proposals) file
unfolding newest_in proposals_in
has_file heads proposals file (inl some) = Contains-append_left (map file_of_head heads) (map file_of_proposal proposals) file (has_name file_of_head heads file some)
has_file heads proposals file (inr some) = Contains-append_right (map file_of_head heads) (map file_of_proposal proposals) file (has_name file_of_proposal proposals file some)

-- the mount points that revisions and proposals name, in byte order, each once
pub are_mounts : (heads : List Head) (proposals : List Proposal) (given mounts : List (List ℕ)) → AreNamed (map file_of_head heads ++ map file_of_proposal proposals) given
    → AllPairs (λ mount later. is_lt (slice_cmp nat_cmp mount later) ≡ true) mounts
    → ((mount : List ℕ) → Contains given mount → Contains mounts mount) → ((mount : List ℕ) → Contains mounts mount → Contains given mount)
    → AreMountsWithExports (standing_in heads proposals) mounts
are_mounts heads proposals given mounts named ascending kept only = record {
  ascending = ascending;
  each = λ k d inside. held heads proposals (exports_file_name (get_or mounts k d)) (named.each (get_or mounts k d) (only (get_or mounts k d) (All-contains_itself mounts k d inside)));
  all = λ mount some. kept mount (named.all mount (has_file heads proposals (exports_file_name mount) some));
}

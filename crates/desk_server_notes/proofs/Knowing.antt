-- What was granted at each address, and what is new.
use Rattle.std.proofs.Common.{◌≡◌, ◌∙◌, ◌+◌, ◌<◌, ◌&&◌, ◌||◌, ◌++◌, ◌∷◌, ℕ, suc, Bool, true, false, cond, eqb, List, [], Option, Some, None, ap, arith, get_or, inl, inr, length, nat_cmp, refl, subst, sym, take}
use Rattle.std.specs.BTreeMap.{BTreeMap, is_at}
use Rattle.std.specs.BTreeMap as tree
use Rattle.std.specs.List.{AllZip, flat_map, list_any}
use Rattle.std.specs.Map.{lookup}
use Rattle.std.specs.Option.{option_copied}
use Rattle.std.proofs.lemmas.Bool.{cases_eq, eq-eqb, ne_eqb}
use Rattle.std.proofs.lemmas.List.{append-nil, append_assoc, get_or-take, length-take, take_more}
use Rattle.std.proofs.lemmas.List.Elements.{All-get_or}
use Rattle.std.proofs.lemmas.List.Folds.{list_any-append}
use Rattle.desk_text.specs.Address.{number_of}
use Rattle.desk_tables.specs.declared.filesystems.Mount.{Mount}
use Rattle.desk_policy.specs.Policy.{Content, rows_of}
use Rattle.desk_idle.specs.Idle.{first_selected}
use Rattle.desk_server.specs.WiderGrants.{AreWiderGrants, IsWiderGrant}
use Rattle.desk_server.specs.declared.wider_grant.WiderGrant.{WiderGrant}
use Rattle.desk_server_notes.specs.MountFindings.{AreWiderAt, AreWiderOf, filesystem_at}
use Rattle.desk_server_notes.specs.NewsNote.{AreGrants, Grants, is_same_directory, is_same_grant, news_at, news_line, news_text, was_granted}
use Rattle.desk_server_notes.specs.PrivateNews.{AddsNews, AddsNewsAt, AreApart, AreKnown, is_known_as, line_if_new}
use Rattle.desk_server_notes.proofs.Counting.{zip_push}

-- ---- the addresses differ

none_apart : AreApart []
none_apart i j d lt inside same = absurd (omega arith)

lines_apart : (content : Content) (fs : ℕ) (found : List WiderGrant) → AreWiderGrants content fs found → AreApart found
lines_apart content fs found are i j d lt inside same =
    let one = All-get_or (IsWiderGrant content fs) found i d (omega arith) are.each in
    let other = All-get_or (IsWiderGrant content fs) found j d inside are.each in
    let e : Some (get_or found i d).line ≡ Some (get_or found j d).line = sym one.at.first ∙ ap (first_selected (rows_of content fs)) same ∙ other.at.first in
    let line : (get_or found i d).line ≡ (get_or found j d).line = cc in
    let less = are.ascending i j d lt inside in
    omega arith

apart_of : (content : Content) (o : Option ℕ) (found : List WiderGrant) → AreWiderOf content o found → AreApart found
apart_of content None found is = subst AreApart (sym is) none_apart
apart_of content (Some fs) found (inl (write, are)) = lines_apart content fs found are
apart_of content (Some fs) found (inr (not, is)) = subst AreApart (sym is) none_apart

pub apart_at : (content : Content) (mount : List (List ℕ)) (found : List WiderGrant) → AreWiderAt content mount found → AreApart found
apart_at content mount found are = apart_of content (filesystem_at content mount) found are

-- ---- what is known

pub none_known : (known : BTreeMap ℕ WiderGrant) → known.entries ≡ [] → AreKnown [] known
none_known known empty one = ap (λ (es : List (ℕ × WiderGrant)). is_known_as (lookup (is_at (nat_cmp (number_of one.address))) es) one) empty

none_at : {X : Type 0} (p : X → Bool) (d : X) (xs : List X) → ((k : ℕ) → k < length xs → p (get_or xs k d) ≡ false) → list_any p xs ≡ false
none_at p d [] none = refl
none_at p d (x ∷ xs) none = ap (λ b. b || list_any p xs) (none 0 (omega arith)) ∙ none_at p d xs (λ k lt. none (suc k) (omega arith))

or_false : (b : Bool) → (b || false) ≡ b
or_false true = refl
or_false false = refl

abbrev same_dir : WiderGrant → WiderGrant → Bool
same_dir one other = is_same_directory (option_copied one.directory) (option_copied other.directory)

module _ (found : List WiderGrant) (i : ℕ) (one : WiderGrant) (apart : AreApart found) (below : i < length found) (is : one ≡ get_or found i one) where
  -- nothing before it was granted at its address
  none_before : (another : WiderGrant) → number_of one.address ≡ number_of another.address → was_granted (take i found) another ≡ false
  none_before another here = none_at (λ old. is_same_grant old another) one (take i found) (λ k lt.
      let few = length-take i found in
      let small : k < i = omega arith in
      let at = get_or-take i found k one small in
      ap (λ b. b && same_dir (get_or (take i found) k one) another)
      (ne_eqb (number_of (get_or (take i found) k one).address) (number_of another.address) (λ e.
      apart k i one small below (ap (λ (o : WiderGrant). number_of o.address) (sym at) ∙ e ∙ sym here ∙ ap (λ (o : WiderGrant). number_of o.address) is))))

  pub one_known : (address : ℕ) (old new : BTreeMap ℕ WiderGrant) → address ≡ number_of one.address
      → ((other : ℕ) → tree.get nat_cmp new other ≡ cond (eqb address other) (Some one) (tree.get nat_cmp old other))
      → AreKnown (take i found) old → AreKnown (take (i + 1) found) new
  one_known address old new at updates known another =
      let n = number_of another.address in
      let before = tree.get nat_cmp old n in
      let same = same_dir one another in
      let longer : take (i + 1) found ≡ take i found ++ one ∷ [] = take_more found i one below ∙ ap (λ (o : WiderGrant). take i found ++ o ∷ []) (sym is) in
      let split : was_granted (take (i + 1) found) another ≡ (was_granted (take i found) another || (is_same_grant one another || false)) =
      ap (λ (xs : List WiderGrant). was_granted xs another) longer ∙ list_any-append (λ (o : WiderGrant). is_same_grant o another) (take i found) (one ∷ []) in
      ap (λ (o : Option WiderGrant). is_known_as o another) (updates n)
      ∙ elim (cases_eq address n) [
        | inl here ↦
            ap (λ b. is_known_as (cond b (Some one) before) another) (eq-eqb address n here)
            ∙ sym (split ∙ ap (λ b. b || (is_same_grant one another || false)) (none_before another (sym at ∙ here))
            ∙ or_false (is_same_grant one another) ∙ ap (λ b. b && same) (eq-eqb (number_of one.address) n (sym at ∙ here)))
        | inr other ↦
            ap (λ b. is_known_as (cond b (Some one) before) another) (ne_eqb address n other)
            ∙ known another
            ∙ sym (split ∙ ap (λ b. was_granted (take i found) another || ((b && same) || false)) (ne_eqb (number_of one.address) n (λ e. other (at ∙ e)))
            ∙ or_false (was_granted (take i found) another))
      ]

-- ---- the lines

flat_map_same : {X : Type 0} (f g : X → List ℕ) → ((x : X) → f x ≡ g x) → (xs : List X) → flat_map f xs ≡ flat_map g xs
flat_map_same f g same [] = refl
flat_map_same f g same (x ∷ xs) = ap (λ t. t ++ flat_map f xs) (same x) ∙ ap (λ t. g x ++ t) (flat_map_same f g same xs)

pub news_are : (mount : List (List ℕ)) (found : Grants) (known : BTreeMap ℕ WiderGrant) → AreKnown found.before known → flat_map (line_if_new mount known) found.after ≡ news_at mount found
news_are mount found known are =
    flat_map_same (line_if_new mount known) (λ one. cond (was_granted found.before one) [] (news_line mount one))
    (λ one. ap (λ b. cond b [] (news_line mount one)) (are one)) found.after

-- ---- one mount point more

news_push : (R : Mount → Grants → Type 0) (mounts : List Mount) (lists : List Grants) (mount : Mount) (found : Grants) → AllZip R mounts lists
    → news_text (mounts ++ mount ∷ []) (lists ++ found ∷ []) ≡ news_text mounts lists ++ news_at mount.path found
news_push R [] [] mount found all = append-nil (news_at mount.path found)
news_push R [] (list ∷ lists) mount found all = absurd all
news_push R (one ∷ mounts) [] mount found all = absurd all
news_push R (one ∷ mounts) (list ∷ lists) mount found all =
    ap (λ t. news_at one.path list ++ t) (news_push R mounts lists mount found all.1)
    ∙ sym (append_assoc (news_at one.path list) (news_text mounts lists) (news_at mount.path found))

pub no_news : (before after : Content) (old : List ℕ) → AddsNews before after [] old old
no_news before after old = record { news = []; tells = record { lists = []; are = tt; text = refl }; text = sym (append-nil old) }

pub more_news : (before after : Content) (mounts : List Mount) (i : ℕ) (mount : Mount) (old so_far new : List ℕ) → i < length mounts → mount ≡ get_or mounts i mount
    → AddsNews before after (take i mounts) old so_far → AddsNewsAt before after mount.path so_far new → AddsNews before after (take (i + 1) mounts) old new
more_news before after mounts i mount old so_far new below is adds step =
    let R : Mount → Grants → Type 0 = λ one found. AreGrants before after one.path found in
    let lists = adds.tells.lists in
    let news = news_at mount.path step.found in
    let longer : take (i + 1) mounts ≡ take i mounts ++ mount ∷ [] = take_more mounts i mount below ∙ ap (λ (m : Mount). take i mounts ++ m ∷ []) (sym is) in
    record {
      news = adds.news ++ news;
      tells = record {
        lists = lists ++ step.found ∷ [];
        are = subst (λ (ms : List Mount). AllZip R ms (lists ++ step.found ∷ [])) (sym longer) (zip_push R (take i mounts) lists mount step.found adds.tells.are step.are);
        text =
            ap (λ t. t ++ news) adds.tells.text ∙ sym (news_push R (take i mounts) lists mount step.found adds.tells.are)
            ∙ ap (λ (ms : List Mount). news_text ms (lists ++ step.found ∷ [])) (sym longer);
      };
      text = step.text ∙ ap (λ t. t ++ news) adds.text ∙ append_assoc old adds.news news;
    }

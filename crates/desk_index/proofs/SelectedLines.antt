-- What a search by keys finds is the selected lines, and which line a verdict on them names.
use Rattle.std.proofs.Common.{◌≡◌, ◌≤◌, ◌&&◌, ◌||◌, ℕ, Bool, false, cond, eqb, List, [], ◌∷◌, filter, Option, Some, None, IsSome, IfSome, Ok, Err, sym, ◌∙◌, ap, subst, refl, inl, inr}
use Rattle.std.specs.Prelude.{find, slice_get}
use Rattle.std.specs.Option.{is_some, IfNone, option_copied}
use Rattle.std.specs.Borrow.{Bor}
use Rattle.std.proofs.Math.Bool.{and-true}
use Rattle.std.proofs.lemmas.Bool.{cases_Bool, cond-true, cond-false, eq-eqb, eqb-true, or_left}
use Rattle.desk_tables.specs.FileSystems.{fs_of}
use Rattle.desk_tables.specs.declared.filesystems.FsId.{FsId}
use Rattle.desk_policy.specs.Keys as lines
use Rattle.desk_policy.specs.Keys.{IsHeaviestKey, IsLineKey, KeysSelect, LineKey, has_key, is_used}
use Rattle.desk_policy.specs.Policy.{AreAscending, Content, rows_of}
use Rattle.desk_policy.specs.Verdict.{Grant, granted_by, is_directory_among, is_in, lists, verdict_among, lists_here}
use Rattle.desk_policy.specs.Weights.{selected}
use Rattle.desk_policy.specs.declared.row.Row.{Row}
use Rattle.desk_policy.specs.declared.verdict.Denial.TheVariants as denials
use Rattle.desk_index.specs.Keys.{AreUnderOneKey, HasNoMatch, IsHeaviest, fs_of_key, key_weight, line_key, lines_under, lines_with, listed, numbers}
use Rattle.desk_index.specs.PrivateNumbered.{rows_numbered}
use Rattle.desk_index.specs.declared.keys.Key.{Key}
use Rattle.desk_index.specs.declared.keys.Key.TheVariants as keys
use Rattle.desk_index.proofs.FirstFound.{same_search}
use Rattle.desk_index.proofs.LinesByNumber.{numbered_selected}
use Rattle.desk_index.proofs.Selecting.{same_id}

-- ---- keys of lines, as keys of a file system

-- the key of a file system with this key of lines
abbrev pub key_at : FsId → LineKey → Key
key_at fs (lines.Host n) = keys.Host fs (record { number = n })
key_at fs (lines.Network net) = keys.Net fs net
key_at fs lines.Everybody = keys.World fs

pub line_key_at : (fs : FsId) (key : LineKey) → line_key (key_at fs key) ≡ key
line_key_at fs (lines.Host n) = refl
line_key_at fs (lines.Network net) = refl
line_key_at fs lines.Everybody = refl

pub fs_key_at : (fs : FsId) (key : LineKey) → fs_of_key (key_at fs key) ≡ fs
fs_key_at fs (lines.Host n) = refl
fs_key_at fs (lines.Network net) = refl
fs_key_at fs lines.Everybody = refl

-- such a key weighs as the key of lines
pub weight_at : (fs : FsId) (address : ℕ) (key : LineKey) → key_weight fs.0 address (key_at fs key) ≡ lines.key_weight address key
weight_at fs address key =
    ap (λ (f : FsId). cond (eqb f.0 fs.0) (lines.key_weight address (line_key (key_at fs key))) None) (fs_key_at fs key)
    ∙ cond-true (eqb fs.0 fs.0) (lines.key_weight address (line_key (key_at fs key))) None (eq-eqb fs.0 fs.0 refl)
    ∙ ap (lines.key_weight address) (line_key_at fs key)

-- ---- lists

used_listed : (key : LineKey) (rows : List Row) → is_used key rows ≡ is_some (listed (lines_with rows key))
used_listed key [] = refl
used_listed key (x ∷ xs) =
    elim (cases_Bool (has_key key x)) [
      | inl t ↦ or_left (has_key key x) (is_used key xs) t ∙ sym (ap (λ b. is_some (listed (numbers (cond b (x ∷ filter (has_key key) xs) (filter (has_key key) xs))))) t)
      | inr f ↦ ap (λ b. b || is_used key xs) f ∙ used_listed key xs ∙ sym (ap (λ b. is_some (listed (numbers (cond b (x ∷ filter (has_key key) xs) (filter (has_key key) xs))))) f)
    ]

pub listed_is : (xs lines : List ℕ) → listed xs ≡ Some lines → xs ≡ lines
listed_is [] lines e = cc
listed_is (x ∷ xs) lines e = cc

listed_again : (xs lines : List ℕ) → listed xs ≡ Some lines → listed lines ≡ Some lines
listed_again [] lines e = cc
listed_again (x ∷ xs) lines e = ap listed (sym (listed_is (x ∷ xs) lines e)) ∙ e

none_some : {A : Type 0} (o : Option A) → o ≡ None → is_some o ≡ false
none_some o e = ap is_some e

module _ (content : Content) (fs : FsId) (address : ℕ) where
  -- a key that matches is one of this file system
  pub of_fs : (key : Key) (w : ℕ) → key_weight fs.0 address key ≡ Some w → (fs_of_key key ≡ fs) × (lines.key_weight address (line_key key) ≡ Some w)
  of_fs key w e =
      elim (cases_Bool (eqb (fs_of_key key).0 fs.0)) [
        | inl t ↦ (same_id (fs_of_key key) fs (eqb-true _ _ t), sym (cond-true (eqb (fs_of_key key).0 fs.0) (lines.key_weight address (line_key key)) None t) ∙ e)
        | inr f ↦ absurd (let g : None ≡ Some w = sym (cond-false (eqb (fs_of_key key).0 fs.0) (lines.key_weight address (line_key key)) None f) ∙ e in cc)
      ]

  pub here : (key : Key) → fs_of_key key ≡ fs → lines_under content key ≡ listed (lines_with (rows_of content fs.0) (line_key key))
  unfolding lines_under
  here key e = ap (λ (f : FsId). listed (lines_with (rows_of content f.0) (line_key key))) e

  module _ (found : List ℕ) (heaviest : IsHeaviest (lines_under content) fs.0 address found) where
    pub lines_are : listed (lines_with (rows_of content fs.0) (line_key heaviest.key)) ≡ Some found
    lines_are = sym (here heaviest.key (of_fs heaviest.key heaviest.weight heaviest.matches).0) ∙ heaviest.there

    pub under_one_key : AreUnderOneKey (rows_of content fs.0) found
    under_one_key = record { key = line_key heaviest.key; all = sym (listed_is (lines_with (rows_of content fs.0) (line_key heaviest.key)) found lines_are) }

pub all_under_one_key : (content : Content) (fs : FsId) (address : ℕ) (found : Option (Bor (List ℕ))) → IfSome found (λ row. IsHeaviest (lines_under content) fs.0 address row.now)
    → IfSome found (λ row. AreUnderOneKey (rows_of content fs.0) row.now)
all_under_one_key content fs address None h = tt
all_under_one_key content fs address (Some row) h = under_one_key content fs address row.now h

module _ (content : Content) (fs : FsId) (address : ℕ) (select : KeysSelect (rows_of content fs.0) address) where
  rows : List Row
  rows = rows_of content fs.0

  under : (key : LineKey) → lines_under content (key_at fs key) ≡ listed (lines_with (rows_of content fs.0) key)
  unfolding lines_under
  under key = ap (λ (f : FsId). listed (lines_with (rows_of content f.0) (line_key (key_at fs key)))) (fs_key_at fs key) ∙ ap (λ k. listed (lines_with (rows_of content fs.0) k)) (line_key_at fs key)

  weight : (key : LineKey) → key_weight fs.0 address (key_at fs key) ≡ lines.key_weight address key
  weight key = weight_at fs address key

  is_key : (key : LineKey) → IsLineKey key → IsLineKey (line_key (key_at fs key))
  is_key key ok = subst IsLineKey (sym (line_key_at fs key)) ok

  used : (key : LineKey) → is_used key (rows_of content fs.0) ≡ is_some (lines_under content (key_at fs key))
  used key = used_listed key (rows_of content fs.0) ∙ ap is_some (sym (under key))

  none_selected : HasNoMatch (lines_under content) fs.0 address → selected (rows_of content fs.0) address ≡ []
  none_selected none = select.none (λ key ok matches.
      used key ∙ none_some (lines_under content (key_at fs key)) (none (key_at fs key) (is_key key ok) (subst (λ o. IsSome o) (sym (weight key)) matches)))

  module _ (found : List ℕ) (heaviest : IsHeaviest (lines_under content) fs.0 address found) where
    heaviest_key : IsHeaviestKey (rows_of content fs.0) address (line_key heaviest.key)
    heaviest_key =
        let of = of_fs content fs address heaviest.key heaviest.weight heaviest.matches in
        record {
          weight = heaviest.weight;
          is_key = heaviest.is_key;
          used = used_listed (line_key heaviest.key) (rows_of content fs.0) ∙ ap is_some (sym (here content fs address heaviest.key of.0)) ∙ ap is_some heaviest.there;
          matches = of.1;
          most = λ other ok is. subst (λ o. IfSome o (λ w. w ≤ heaviest.weight)) (weight other) (heaviest.most (key_at fs other) (is_key other ok) (sym (used other) ∙ is));
        }

    lines_selected : found ≡ numbers (selected (rows_of content fs.0) address)
    lines_selected = sym (listed_is (lines_with (rows_of content fs.0) (line_key heaviest.key)) found (lines_are content fs address found heaviest)) ∙ ap numbers (sym (select.some (line_key heaviest.key) heaviest_key))

  -- what a search over the keys gives is the selected lines
  pub selected_lines : (found : Option (Bor (List ℕ))) → IfSome found (λ row. IsHeaviest (lines_under content) fs.0 address row.now) → IfNone found (HasNoMatch (lines_under content) fs.0 address)
      → option_copied found ≡ listed (numbers (selected (rows_of content fs.0) address))
  selected_lines None some none = sym (ap (λ chosen. listed (numbers chosen)) (none_selected none))
  selected_lines (Some row) some none =
      sym (listed_again (lines_with (rows_of content fs.0) (line_key some.key)) row.now (lines_are content fs address row.now some)) ∙ ap listed (lines_selected row.now some)

-- ---- verdicts

abbrev pub grant : FsId → Row → Grant
grant fs row = record { fs = fs; line = row.entry.line; terms = row.entry.terms }

module _ (fs : FsId) (listing : Row → Bool) where
  pub among_listed : (rows : List Row) (row : Row) → find listing rows ≡ Some row → verdict_among fs listing rows ≡ Ok (grant fs row)
  among_listed [] row e = cc
  among_listed (first ∷ others) row e = ap (granted_by fs first) e

  pub among_unlisted : (rows : List Row) (line : ℕ) (more : List ℕ) → find listing rows ≡ None → numbers rows ≡ line ∷ more → verdict_among fs listing rows ≡ Err (denials.NotListed fs line)
  among_unlisted [] line more e f = cc
  among_unlisted (first ∷ others) line more e f = ap (granted_by fs first) e ∙ ap (λ n. Err (denials.NotListed fs n)) (let s : first.entry.line ≡ line = cc in s)

pub none_listed : (xs : List ℕ) → listed xs ≡ None → xs ≡ []
none_listed [] e = refl
none_listed (x ∷ xs) e = cc

pub among_agree : (fs : FsId) (p q : Row → Bool) → ((x : Row) → p x ≡ q x) → (rows : List Row) → verdict_among fs p rows ≡ verdict_among fs q rows
among_agree fs p q h [] = refl
among_agree fs p q h (first ∷ others) = ap (granted_by fs first) (same_search p q h (first ∷ others))

-- on a path of this file system, a line lists what its directories or -alldirs list
pub lists_same : (content : Content) (fs : ℕ) (path : List (List ℕ)) → fs_of content.table path ≡ Some fs → (row : Row) → lists_here path row ≡ lists content fs path row
lists_same content fs path e row =
    ap (λ b. is_directory_among path row.entry.dirs || b) (sym (ap (λ o. row.entry.alldirs && is_in o fs) e ∙ ap (λ b. row.entry.alldirs && b) (eq-eqb fs fs refl) ∙ and-true row.entry.alldirs))

-- ---- the lines that were found

pub first_is : (xs : List ℕ) (line : ℕ) → Some line ≡ slice_get xs 0 → (more : List ℕ) × (xs ≡ line ∷ more)
first_is [] line e = cc
first_is (x ∷ xs) line e = (xs, ap (λ n. n ∷ xs) (let s : x ≡ line = cc in s))

pub chosen : (given rows : List Row) (lines seen : List ℕ) (address : ℕ) → AreAscending rows → given ≡ rows → seen ≡ lines → Some lines ≡ listed (numbers (selected rows address)) → rows_numbered given seen ≡ selected rows address
chosen given rows lines seen address ascending g s e =
    ap (λ (xs : List Row). rows_numbered xs seen) g
    ∙ ap (rows_numbered rows) (s ∙ sym (listed_is (numbers (selected rows address)) lines (sym e)))
    ∙ numbered_selected rows address ascending

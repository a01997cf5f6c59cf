-- The site of heads, one head after another.
use Rattle.std.proofs.Common.{◌≡◌, ◌∙◌, inl, inr, sym, ap, subst, refl, ℕ, ◌+◌, ◌<◌, ◌≤◌, ◌++◌, Bool, true, false, cond, List, [], ◌∷◌, Option, Some, Result, Ok, Err, All, ◌-◌, length, get_or, drop, arith}
use Rattle.std.specs.Prelude.{codes, find, None}
use Rattle.std.specs.List.{AllByRecursion}
use Rattle.std.specs.Option.{option_map_or}
use Rattle.std.specs.Str.{bytes_eq}
use Rattle.std.proofs.Math.Path.{fun_ext}
use Rattle.std.proofs.lemmas.Bool.{cases_Bool, cond-false, cond-true}
use Rattle.std.proofs.lemmas.List.{at_drop_more}
use Rattle.std.proofs.lemmas.List.Elements.{recursion_from_All}
use Rattle.std.proofs.lemmas.Slice.Eq.{bytes_eq-Decides}
use Rattle.desk_text.specs.Lines.{longest_text}
use Rattle.desk_policy.specs.Contradiction.{HasNoContradiction}
use Rattle.desk_policy.specs.Parsing.{read_site}
use Rattle.desk_policy.specs.Policy.{Content}
use Rattle.desk_policy.specs.PerSite.{by_file, of_file, with_file}
use Rattle.desk_policy.specs.Site.{HaveReadableLengths, SiteTexts, no_exports, no_texts, text_of}
use Rattle.desk_policy.specs.SiteFile.{all_files, file_name, file_of}
use Rattle.desk_policy.specs.declared.per_site.PerSite.{PerSite}
use Rattle.desk_policy.specs.declared.site.ExportsText.{ExportsText}
use Rattle.desk_policy.specs.View.{HasFault, IsFaultOf}
use Rattle.desk_policy.specs.declared.site_fault.SiteFault.{SiteFault}
use Rattle.desk_policy.specs.declared.site_file.SiteFile.{SiteFile}
use Rattle.desk_policy.specs.declared.site_file.SiteFile.TheVariants.{Custodians, Filesystems, Group, Hosts, Netgroup, Networks, Passwd}
use Rattle.desk_core.specs.Head.{CanBeKept, Newest, newest_in, put}
use Rattle.desk_core.specs.PrivateSite.{text_or, with_text}
use Rattle.desk_core.specs.Site.{IsConsistent, IsInForce, IsSound, policy_of, policy_read, site_by, site_in, text_in, revision_text}
use Rattle.desk_core.specs.declared.head.Head.{Head}

abbrev made : PerSite (List ℕ) → (List ℕ → ExportsText) → SiteTexts
made files exports = record { files = files; exports = exports }

-- texts that are equal one by one
same_texts : (s t : SiteTexts) → s.files ≡ t.files → ((mount : List ℕ) → s.exports mount ≡ t.exports mount) → s ≡ t
same_texts s t files exports = ap (λ f. made f s.exports) files ∙ ap (made t.files) (fun_ext exports)

-- what is made for each file
of_made : {X : Type 0} (f : SiteFile → X) (file : SiteFile) → of_file (by_file f) file ≡ f file
of_made f Custodians = refl
of_made f Filesystems = refl
of_made f Hosts = refl
of_made f Networks = refl
of_made f Passwd = refl
of_made f Group = refl
of_made f Netgroup = refl

chosen : (b : Bool) (h : Head) (o : Option Head) → cond b (revision_text h) (option_map_or revision_text o no_exports) ≡ option_map_or revision_text (cond b (Some h) o) no_exports
chosen true h o = refl
chosen false h o = refl

chosen_body : (b : Bool) (h : Head) (o : Option Head) → cond b h.body (option_map_or revision_text o no_exports).body ≡ (option_map_or revision_text (cond b (Some h) o) no_exports).body
chosen_body true h o = refl
chosen_body false h o = refl

-- the text of a head is that of its file
pub site_put : (newest : Newest) (h : Head) → with_text (site_in newest) h.file (revision_text h) ≡ site_in (put newest h)
site_put newest h =
    let own : (file : SiteFile) → cond (bytes_eq h.file (file_name file)) h.body (text_of (site_in newest) file) ≡ (text_in (put newest h) (file_name file)).body =
    λ file. ap (cond (bytes_eq h.file (file_name file)) h.body) (of_made (λ f. (text_in newest (file_name f)).body) file) ∙ chosen_body (bytes_eq h.file (file_name file)) h (newest (file_name file)) in
    same_texts (with_text (site_in newest) h.file (revision_text h)) (site_in (put newest h)) (ap by_file (fun_ext own))
    (λ mount. chosen (bytes_eq h.file (codes "exports:" ++ mount)) h (newest (codes "exports:" ++ mount)))

-- the text of one of the seven is put there
own_put : (files : PerSite (List ℕ)) (exports : List ℕ → ExportsText) (text : ExportsText) (own : SiteFile) → made (with_file files own text.body) exports ≡ with_text (made files exports) (file_name own) text
own_put files exports text Custodians = refl
own_put files exports text Filesystems = refl
own_put files exports text Hosts = refl
own_put files exports text Networks = refl
own_put files exports text Passwd = refl
own_put files exports text Group = refl
own_put files exports text Netgroup = refl

is_found : (p : SiteFile → Bool) (files : List SiteFile) (own : SiteFile) → find p files ≡ Some own → p own ≡ true
is_found p [] own e = absurd (cc)
is_found p (file ∷ files) own e = elim (cases_Bool (p file)) [
  | inl passes ↦
      let first : Some file ≡ Some own = sym (cond-true (p file) (Some file) (find p files) passes) ∙ e in
      let same : file ≡ own = cc in
      subst (λ (f : SiteFile). p f ≡ true) same passes
  | inr fails ↦ is_found p files own (sym (cond-false (p file) (Some file) (find p files) fails) ∙ e)
]

pub own_taken : (files : PerSite (List ℕ)) (exports : List ℕ → ExportsText) (text : ExportsText) (name : List ℕ) (own : SiteFile) → file_of name ≡ Some own
    → made (with_file files own text.body) exports ≡ with_text (made files exports) name text
own_taken files exports text name own is =
    let named : name ≡ file_name own = (bytes_eq-Decides name (file_name own)).0 (is_found (λ file. bytes_eq name (file_name file)) all_files own is) in
    own_put files exports text own ∙ ap (λ n. with_text (made files exports) n text) (sym named)

own_name : (own : SiteFile) → file_of (file_name own) ≡ Some own
own_name Custodians = refl
own_name Filesystems = refl
own_name Hosts = refl
own_name Networks = refl
own_name Passwd = refl
own_name Group = refl
own_name Netgroup = refl

other_name : (name : List ℕ) (own : SiteFile) → file_of name ≡ None → bytes_eq name (file_name own) ≡ false
other_name name own is = elim (cases_Bool (bytes_eq name (file_name own))) [
  | inl same ↦ absurd (let both : None ≡ Some own = sym is ∙ ap file_of ((bytes_eq-Decides name (file_name own)).0 same) ∙ own_name own in cc)
  | inr other ↦ other
]

-- the text of another file is put among the exports files
pub other_taken : (files : PerSite (List ℕ)) (old new : List ℕ → ExportsText) (text : ExportsText) (name : List ℕ) → file_of name ≡ None
    → ((mount : List ℕ) → new mount ≡ text_or name text (codes "exports:" ++ mount) (old mount)) → made files new ≡ with_text (made files old) name text
other_taken files old new text name is exports =
    same_texts (made files new) (with_text (made files old) name text) (ap by_file (fun_ext (λ own. sym (ap (λ b. cond b text.body (of_file files own)) (other_name name own is))))) exports

pub site_none : no_texts ≡ site_in (newest_in [])
unfolding newest_in
site_none = refl

pub site_cons : (heads : List Head) (h : Head) → with_text (site_in (newest_in heads)) h.file (revision_text h) ≡ site_in (newest_in (h ∷ heads))
unfolding newest_in
site_cons heads h = site_put (newest_in heads) h

pub in_force : (texts : SiteTexts) (content : Content) → read_site texts ≡ Ok content → HasNoContradiction content → IsInForce texts content
in_force texts content e none =
    let is : policy_of texts ≡ content = ap policy_read e in
    record { consistent = subst IsSound (sym e) none; lines = record { table = sym (ap (λ c. c.table) is); rows = sym (ap (λ c. c.rows) is); origins = sym (ap (λ c. c.origins) is) } }

apart : (read : Result Content SiteFault) (fault : SiteFault) → IsSound read → IsFaultOf read fault → ⊥
apart (Ok policy) fault none named = none _ _ _ _ named.here.is
apart (Err first) fault none named = none

-- a consistent site has no fault
pub consistent_or_fault : (texts : SiteTexts) (fault : SiteFault) → IsConsistent texts → HasFault texts fault → ⊥
consistent_or_fault texts fault = apart (read_site texts) fault

text_short : (heads : List Head) (name : List ℕ) → AllByRecursion CanBeKept heads → length (text_in (newest_in heads) name).body ≤ longest_text
unfolding newest_in
text_short [] name kept = omega arith
text_short (h ∷ hs) name kept = step (bytes_eq h.file name) kept.0.short (text_short hs name kept.1)
  where
    step : (b : Bool) → length h.body ≤ longest_text → length (text_in (newest_in hs) name).body ≤ longest_text → length (option_map_or revision_text (cond b (Some h) (find (λ x. bytes_eq x.file name) hs)) no_exports).body ≤ longest_text
    step true own rest = own
    step false own rest = rest

put_short : (newest : Newest) (h : Head) (name : List ℕ) → length h.body ≤ longest_text → length (text_in newest name).body ≤ longest_text → length (text_in (put newest h) name).body ≤ longest_text
put_short newest h name own rest = step (bytes_eq h.file name)
  where
    step : (b : Bool) → length (option_map_or revision_text (cond b (Some h) (newest name)) no_exports).body ≤ longest_text
    step true = own
    step false = rest

abbrev AreShort : Newest → Type 0
AreShort newest = (name : List ℕ) → length (text_in newest name).body ≤ longest_text

readable : (newest : Newest) → AreShort newest → HaveReadableLengths (site_in newest)
readable newest short = record {
  files = λ file. subst (λ (text : List ℕ). length text ≤ longest_text) (sym (of_made (λ f. (text_in newest (file_name f)).body) file)) (short (file_name file));
  exports = λ mount. short (codes "exports:" ++ mount);
}

-- texts of heads that can be kept can be read
pub heads_readable : (heads : List Head) → All CanBeKept heads → HaveReadableLengths (site_in (newest_in heads))
heads_readable heads kept = readable (newest_in heads) (λ name. text_short heads name (recursion_from_All CanBeKept heads kept))

pub put_readable : (heads : List Head) (h : Head) → All CanBeKept heads → length h.body ≤ longest_text → HaveReadableLengths (site_in (put (newest_in heads) h))
put_readable heads h kept own = readable (put (newest_in heads) h) (λ name. put_short (newest_in heads) h name own (text_short heads name (recursion_from_All CanBeKept heads kept)))

pub drop_back : (xs : List Head) (n : ℕ) (h : Head) → 0 < n → n ≤ length xs → h ≡ get_or xs (n - 1) h → h ∷ drop n xs ≡ drop (n - 1) xs
drop_back xs n h from to e =
    let next : n ≡ n - 1 + 1 = omega arith in
    ap (λ x. x ∷ drop n xs) e ∙ ap (λ k. get_or xs (n - 1) h ∷ drop k xs) next ∙ sym (at_drop_more (λ ys. ys) xs (n - 1) h (omega arith))

-- only the text and the profile of the newest revisions count, and not who wrote them
pub same_site : (newest : Newest) (h other : Head) → h.file ≡ other.file → revision_text h ≡ revision_text other → site_in (put newest h) ≡ site_in (put newest other)
same_site newest h other file text = ap site_by (fun_ext (λ name. sym (chosen (bytes_eq h.file name) h (newest name)) ∙ ap (λ t. cond (bytes_eq h.file name) t (text_in newest name)) text
    ∙ ap (λ f. cond (bytes_eq f name) (revision_text other) (text_in newest name)) file ∙ chosen (bytes_eq other.file name) other (newest name)))

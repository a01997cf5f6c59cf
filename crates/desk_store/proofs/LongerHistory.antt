-- Histories with one entry more: their revisions, and the proposals that are pending.
use Rattle.std.proofs.Common.{◌≡◌, ◌∙◌, sym, ap, refl, ◌++◌, ◌||◌, Bool, true, false, cond, not, ℕ, List, [], ◌∷◌, Some, None, All}
use Rattle.std.specs.List.{cons_option, filter, list_any}
use Rattle.std.specs.Str.{bytes_eq}
use Rattle.std.proofs.lemmas.List.Elements.{All-from_recursion, filter_map-append, filter-append, recursion_from_All}
use Rattle.std.proofs.lemmas.Slice.Eq.{bytes_eq-Decides}
use Rattle.sqlite_trees.proofs.ListLemmas.{all-filter}
use Rattle.desk_core.specs.Head.{Revision}
use Rattle.desk_core.specs.History.{entry_file, pending_in, proposal_in, revision_in, revisions_of}
use Rattle.desk_core.specs.declared.entry.Entry.{Entry}
use Rattle.desk_core.specs.declared.entry.Entry.TheVariants as entry
use Rattle.desk_core.specs.declared.proposal.Proposal.{Proposal}
use Rattle.desk_store.specs.History.{revisions_in}

-- the proposals that are not of a file
abbrev pub others : List ℕ → List Proposal → List Proposal
others gone proposals = filter (λ p. not (bytes_eq p.file gone)) proposals

pub revisions_more : (history : List Entry) (stored : Entry) → revisions_in (history ++ stored ∷ []) ≡ revisions_in history ++ cons_option (revision_in stored) []
revisions_more history stored = filter_map-append revision_in history (stored ∷ [])

-- those of one file
pub own_more : (file : List ℕ) (history : List Entry) (stored : Entry)
    → revisions_of file (history ++ stored ∷ []) ≡ revisions_of file history ++ filter (λ (r : Revision). bytes_eq r.file file) (cons_option (revision_in stored) [])
own_more file history stored =
    ap (filter (λ (r : Revision). bytes_eq r.file file)) (revisions_more history stored) ∙ filter-append (λ (r : Revision). bytes_eq r.file file) (revisions_in history) (cons_option (revision_in stored) [])

any_pushed : (t : Entry → Bool) (xs : List Entry) (x : Entry) → list_any t (xs ++ x ∷ []) ≡ (list_any t xs || t x)
any_pushed t [] x = or_none (t x)
  where
    or_none : (b : Bool) → (b || false) ≡ b
    or_none true = refl
    or_none false = refl
any_pushed t (y ∷ ys) x = ap (λ b. t y || b) (any_pushed t ys x) ∙ or_assoc (t y) (list_any t ys) (t x)
  where
    or_assoc : (a b c : Bool) → (a || (b || c)) ≡ ((a || b) || c)
    or_assoc true b c = refl
    or_assoc false b c = refl

flipped : (a b : List ℕ) → bytes_eq a b ≡ bytes_eq b a
flipped a b = by_cases (bytes_eq a b) (bytes_eq b a) (λ h. (bytes_eq-Decides b a).1 (sym ((bytes_eq-Decides a b).0 h))) (λ h. (bytes_eq-Decides a b).1 (sym ((bytes_eq-Decides b a).0 h)))
  where
    by_cases : (x y : Bool) → (x ≡ true → y ≡ true) → (y ≡ true → x ≡ true) → x ≡ y
    by_cases true y f g = sym (f refl)
    by_cases false true f g = g refl
    by_cases false false f g = refl

pub none_pending : (b : Bool) (rest : List Proposal) → cons_option (cond b None None) rest ≡ rest
none_pending true rest = refl
none_pending false rest = refl

stays_or_goes : (b c : Bool) (p : Proposal) (rest more : List Proposal) → b ≡ c → cons_option (cond b None (Some p)) (rest ++ more) ≡ cond (not c) (p ∷ rest) rest ++ more
stays_or_goes true true p rest more e = refl
stays_or_goes true false p rest more e = cc
stays_or_goes false true p rest more e = cc
stays_or_goes false false p rest more e = refl

one_pushed : (a b : Bool) (p : Proposal) (file : List ℕ) (rest more : List Proposal) → b ≡ bytes_eq p.file file
    → cons_option (cond (a || b) None (Some p)) (others file rest ++ more) ≡ others file (cons_option (cond a None (Some p)) rest) ++ more
one_pushed true b p file rest more e = refl
one_pushed false b p file rest more e = stays_or_goes b (bytes_eq p.file file) p (others file rest) more e

-- those of other files, and that of the entry, if it is one
pub pending_more : (history : List Entry) (stored : Entry) → pending_in (history ++ stored ∷ []) ≡ others (entry_file stored) (pending_in history) ++ cons_option (proposal_in stored) []
pending_more [] (entry.Revised r) = refl
pending_more [] (entry.Proposed p) = refl
pending_more (entry.Revised r ∷ xs) stored =
    none_pending (list_any (λ o. bytes_eq (entry_file o) r.file) (xs ++ stored ∷ [])) (pending_in (xs ++ stored ∷ []))
    ∙ pending_more xs stored
    ∙ ap (λ ps. others (entry_file stored) ps ++ cons_option (proposal_in stored) []) (sym (none_pending (list_any (λ o. bytes_eq (entry_file o) r.file) xs) (pending_in xs)))
pending_more (entry.Proposed p ∷ xs) stored =
    ap (λ b. cons_option (cond b None (Some p)) (pending_in (xs ++ stored ∷ []))) (any_pushed (λ o. bytes_eq (entry_file o) p.file) xs stored)
    ∙ ap (cons_option (cond (list_any (λ o. bytes_eq (entry_file o) p.file) xs || bytes_eq (entry_file stored) p.file) None (Some p))) (pending_more xs stored)
    ∙ one_pushed (list_any (λ o. bytes_eq (entry_file o) p.file) xs) (bytes_eq (entry_file stored) p.file) p (entry_file stored) (pending_in xs) (cons_option (proposal_in stored) []) (flipped (entry_file stored) p.file)

-- what holds of all proposals holds of those of other files
pub others_keep : (P : Proposal → Type 0) (gone : List ℕ) (proposals : List Proposal) → All P proposals → All P (others gone proposals)
others_keep P gone proposals all = All-from_recursion P (others gone proposals) (all-filter P (λ p. not (bytes_eq p.file gone)) proposals (recursion_from_All P proposals all))

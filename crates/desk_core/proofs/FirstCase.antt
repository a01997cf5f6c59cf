-- Which case of an edit holds first, and what that says of the edit.
use Rattle.std.proofs.Common.{◌≡◌, ◌∙◌, ◌⊎◌, ◌||◌, inl, inr, sym, ap, subst, refl, ℕ, ◌+◌, ◌==◌, ◌&&◌, Bool, true, false, not, cond, List, [], ◌∷◌, ◌++◌, Option, Some, None, length, arith}
use Rattle.std.specs.Prelude.{◌↔◌, is_none}
use Rattle.std.specs.List.{AllByRecursion}
use Rattle.std.specs.Option.{option_map_or}
use Rattle.std.specs.Str.{bytes_eq}
use Rattle.std.proofs.lemmas.Bool.{and_from, and_parts, or_cases, eq-eqb, eqb-false, eqb-true, le-ltb, ltb-false, ne_eqb, not-false}
use Rattle.std.proofs.lemmas.Slice.Eq.{bytes_eq-Decides}
use Rattle.sha2.specs.Sha256.{sha256}
use Rattle.desk_tables.specs.Custodians.{digest_of}
use Rattle.desk_core.specs.Edit.{Edit}
use Rattle.desk_core.specs.Head.{Revision, last_revision, longest_revision, newest_number}
use Rattle.desk_core.specs.Judging.{as_cases, conflicts, first_case, first_held, is_guarded_file, is_key, is_of, is_pending, is_repeat, objections, proposes, table_in}
use Rattle.desk_core.specs.Laws.{IsAllowed, IsProposed, IsRepeat, MayBeAccepted}
use Rattle.desk_core.specs.Site.{custodians_of, site_in}
use Rattle.desk_core.specs.Standing.{Standing}
use Rattle.desk_core.specs.declared.proposal.Proposal.{Proposal}
use Rattle.desk_tables.specs.declared.filesystems.Mount.{Mount}
use Rattle.desk_core.specs.declared.edit.Refusal.{Refusal}
use Rattle.desk_core.specs.declared.judging.Case.{Case}
use Rattle.desk_core.specs.declared.judging.Case.TheVariants as case

-- ---- the first of a list

-- none of these holds
abbrev pub NoneHolds : {A : Type 0} → List (Bool × A) → Type 0
NoneHolds checks = AllByRecursion (λ check. check.0 ≡ false) checks

module _ {A : Type 0} where
  -- each of these is another than this one
  abbrev AreOthers : A → List (Bool × A) → Type 0
  AreOthers own checks = AllByRecursion (λ check. check.1 ≡ own → ⊥) checks

  later_is : (holds : Bool) (x own : A) (later : Option A) → (x ≡ own → ⊥) → cond holds (Some x) later ≡ Some own → (holds ≡ false) × (later ≡ Some own)
  later_is true x own later other e = absurd (other (let same : Some x ≡ Some own = e in cc))
  later_is false x own later other e = (refl, e)

  own_is : (holds : Bool) (own : A) (later : Option A) → (later ≡ Some own → ⊥) → cond holds (Some own) later ≡ Some own → holds ≡ true
  own_is true own later none e = refl
  own_is false own later none e = absurd (none e)

  none_is : (holds : Bool) (x : A) (later : Option A) → cond holds (Some x) later ≡ None → (holds ≡ false) × (later ≡ None)
  none_is true x later e = cc
  none_is false x later e = (refl, e)

  not_among : (own : A) (checks : List (Bool × A)) → AreOthers own checks → first_held checks ≡ Some own → ⊥
  not_among own [] others e = cc
  not_among own ((holds, x) ∷ checks) others e = not_among own checks others.1 (later_is holds x own (first_held checks) others.0 e).1

  found : (holds : Bool) (own : A) (before after : List (Bool × A)) → NoneHolds before → holds ≡ true → first_held (before ++ (holds, own) ∷ after) ≡ Some own
  found holds own [] after none is = ap (λ b. cond b (Some own) (first_held after)) is
  found holds own ((b, x) ∷ before) after none is =
      ap (λ b. cond b (Some x) (first_held (before ++ (holds, own) ∷ after))) none.0 ∙ found holds own before after none.1 is

  finds : (holds : Bool) (own : A) (before after : List (Bool × A)) → AreOthers own before → AreOthers own after → first_held (before ++ (holds, own) ∷ after) ≡ Some own → NoneHolds before × (holds ≡ true)
  finds holds own [] after others behind e = (tt, own_is holds own (first_held after) (not_among own after behind) e)
  finds holds own ((b, x) ∷ before) after others behind e =
      let later = later_is b x own (first_held (before ++ (holds, own) ∷ after)) others.0 e in
      let rest = finds holds own before after others.1 behind later.1 in
      ((later.0, rest.0), rest.1)

  -- the first of a list is this one exactly if it holds and none before it does
  pub is_first : (holds : Bool) (own : A) (before after : List (Bool × A)) → AreOthers own before → AreOthers own after
      → (first_held (before ++ (holds, own) ∷ after) ≡ Some own) ↔ (NoneHolds before × (holds ≡ true))
  is_first holds own before after others behind = (finds holds own before after others behind, λ h. found holds own before after h.0 h.1)

  none_found : (checks : List (Bool × A)) → NoneHolds checks → first_held checks ≡ None
  none_found [] none = refl
  none_found ((b, x) ∷ checks) none = ap (λ b. cond b (Some x) (first_held checks)) none.0 ∙ none_found checks none.1

  finds_none : (checks : List (Bool × A)) → first_held checks ≡ None → NoneHolds checks
  finds_none [] e = tt
  finds_none ((b, x) ∷ checks) e = let later = none_is b x (first_held checks) e in (later.0, finds_none checks later.1)

  -- there is no first exactly if none holds
  pub is_none_first : (checks : List (Bool × A)) → (first_held checks ≡ None) ↔ NoneHolds checks
  is_none_first checks = (finds_none checks, none_found checks)

  none_of_both : (checks more : List (Bool × A)) → NoneHolds (checks ++ more) → NoneHolds checks × NoneHolds more
  none_of_both [] more h = (tt, h)
  none_of_both (check ∷ checks) more h = let parts = none_of_both checks more h.1 in ((h.0, parts.0), parts.1)

  both_of_none : (checks more : List (Bool × A)) → NoneHolds checks → NoneHolds more → NoneHolds (checks ++ more)
  both_of_none [] more h m = m
  both_of_none (check ∷ checks) more h m = (h.0, both_of_none checks more h.1 m)

-- a refusal is another case than these two
refusals_and : (own : Case) → ((refused : Refusal) → case.Refused refused ≡ own → ⊥) → (reasons : List (Bool × Refusal)) (more : List (Bool × Case)) → AreOthers own more → AreOthers own (as_cases reasons ++ more)
refusals_and own apart [] more others = others
refusals_and own apart (reason ∷ reasons) more others = (apart reason.1, refusals_and own apart reasons more others)

-- ---- what each case says

key_listed : (key : List ℕ) (listed : Option (List ℕ)) → not (is_key key listed) ≡ false → listed ≡ Some (sha256 key)
key_listed key None e = cc
key_listed key (Some digest) e = ap Some ((bytes_eq-Decides digest (sha256 key)).0 (not-false (bytes_eq digest (sha256 key)) e))

is_listed : (key : List ℕ) (listed : Option (List ℕ)) → listed ≡ Some (sha256 key) → (is_none listed ≡ false) × (not (is_key key listed) ≡ false)
is_listed key listed e =
    let P : Option (List ℕ) → Type 0 = λ o. (is_none o ≡ false) × (not (is_key key o) ≡ false) in
    subst P (sym e) (refl, ap not ((bytes_eq-Decides (sha256 key) (sha256 key)).1 refl))

-- a revision is by a custodian, or approved by it
own_parts : (name : List ℕ) (r : Revision) → is_of name r ≡ true → (r.author ≡ name) ⊎ (r.approver ≡ Some name)
own_parts name r h = elim (or_cases (bytes_eq r.author name) (option_map_or (bytes_eq name) r.approver false) h) [
  | inl by ↦ inl ((bytes_eq-Decides r.author name).0 by)
  | inr approved ↦ inr (approver_is r.approver approved)
]
  where
    approver_is : (o : Option (List ℕ)) → option_map_or (bytes_eq name) o false ≡ true → o ≡ Some name
    approver_is None h = cc
    approver_is (Some other) h = ap Some (sym ((bytes_eq-Decides name other).0 h))

parts_own : (name : List ℕ) (r : Revision) → (r.author ≡ name) ⊎ (r.approver ≡ Some name) → is_of name r ≡ true
parts_own name r (inl by) = ap (λ b. b || option_map_or (bytes_eq name) r.approver false) ((bytes_eq-Decides r.author name).1 by)
parts_own name r (inr approved) =
    ap (λ o. bytes_eq r.author name || option_map_or (bytes_eq name) o false) approved
    ∙ ap (λ b. bytes_eq r.author name || b) ((bytes_eq-Decides name name).1 refl) ∙ or_true (bytes_eq r.author name)
  where
    or_true : (b : Bool) → (b || true) ≡ true
    or_true true = refl
    or_true false = refl

-- a repeat is a revision that follows the base, of the caller and with the text
pub repeat_parts : (e : Edit) (newest : Option Revision) → is_repeat e newest ≡ true
    → (revision : Revision) × (newest ≡ Some revision) × (revision.rev ≡ e.base + 1) × ((revision.author ≡ e.caller) ⊎ (revision.approver ≡ Some e.caller)) × (revision.body ≡ e.text)
repeat_parts e None h = cc
repeat_parts e (Some r) h =
    let parts = and_parts (r.rev == e.base + 1) (is_of e.caller r && bytes_eq r.body e.text) h in
    let texts = and_parts (is_of e.caller r) (bytes_eq r.body e.text) parts.1 in
    (r, refl, eqb-true r.rev (e.base + 1) parts.0, own_parts e.caller r texts.0, (bytes_eq-Decides r.body e.text).0 texts.1)

parts_repeat : (e : Edit) (r : Revision) → r.rev ≡ e.base + 1 → (r.author ≡ e.caller) ⊎ (r.approver ≡ Some e.caller) → r.body ≡ e.text → is_repeat e (Some r) ≡ true
parts_repeat e r rev own body = and_from _ _ (eq-eqb r.rev (e.base + 1) rev) (and_from _ _ (parts_own e.caller r own) ((bytes_eq-Decides r.body e.text).1 body))

no_repeat : (e : Edit) (newest : Option Revision) → newest_number newest ≡ e.base → is_repeat e newest ≡ false
no_repeat e None same = refl
no_repeat e (Some r) same = ap (λ b. b && (is_of e.caller r && bytes_eq r.body e.text)) (ne_eqb r.rev (e.base + 1) (λ h. omega (arith, same, h)))

pub proposes_parts : (e : Edit) (proposal : Proposal) → proposes e proposal ≡ true → (proposal.base ≡ e.base) × (proposal.body ≡ e.text)
proposes_parts e proposal h =
    let parts = and_parts (proposal.base == e.base) (bytes_eq proposal.body e.text) h in
    (eqb-true proposal.base e.base parts.0, (bytes_eq-Decides proposal.body e.text).0 parts.1)

pub parts_propose : (e : Edit) (proposal : Proposal) → proposal.base ≡ e.base → proposal.body ≡ e.text → proposes e proposal ≡ true
parts_propose e proposal base text = and_from _ _ (eq-eqb proposal.base e.base base) ((bytes_eq-Decides proposal.body e.text).1 text)

-- a proposal that is pending is one of a guarded file, with the base, the caller and the text of the edit
pub pending_parts : (table : List Mount) (e : Edit) (found : Option Proposal) → is_pending table e found ≡ true
    → (is_guarded_file table e.file ≡ true) × ((proposal : Proposal) × (found ≡ Some proposal) × (proposal.base ≡ e.base) × (proposal.author ≡ e.caller) × (proposal.body ≡ e.text))
pending_parts table e None h = cc
pending_parts table e (Some proposal) h =
    let parts = and_parts (is_guarded_file table e.file) (proposes e proposal && bytes_eq proposal.author e.caller) h in
    let own = and_parts (proposes e proposal) (bytes_eq proposal.author e.caller) parts.1 in
    let same = proposes_parts e proposal own.0 in
    (parts.0, (proposal, refl, same.0, (bytes_eq-Decides proposal.author e.caller).0 own.1, same.1))

pub parts_pending : (table : List Mount) (e : Edit) (proposal : Proposal) → is_guarded_file table e.file ≡ true → proposal.base ≡ e.base → proposal.author ≡ e.caller → proposal.body ≡ e.text → is_pending table e (Some proposal) ≡ true
parts_pending table e proposal guarded base author text = and_from _ _ guarded (and_from _ _ (parts_propose e proposal base text) ((bytes_eq-Decides proposal.author e.caller).1 author))

module _ (standing : Standing) (e : Edit) where
  abbrev table : List Mount
  table = table_in standing.newest

  abbrev newest : Option Revision
  newest = standing.newest e.file

  abbrev proposal : Option Proposal
  proposal = standing.proposals e.file

  -- the reasons why the edit is not allowed, and why it cannot follow
  abbrev objected : List (Bool × Case)
  objected = as_cases (objections (custodians_of (site_in standing.newest)) table e)

  abbrev conflicting : List (Bool × Case)
  conflicting = as_cases (conflicts newest e)

  abbrev repeat : Bool × Case
  repeat = (is_repeat e newest, case.Already)

  abbrev pending : Bool × Case
  pending = (is_pending table e proposal, case.Pending)

  clear_allowed : NoneHolds objected → IsAllowed standing.newest e
  clear_allowed (caller, (key, (file, (keeper, (large, done))))) = record {
    key = key_listed e.key _ key;
    known = not-false _ file;
    keeps = not-false _ keeper;
    short = ltb-false longest_revision (length e.text) large;
  }

  allowed_clear : IsAllowed standing.newest e → NoneHolds objected
  allowed_clear allowed =
      let listed = is_listed e.key (digest_of (custodians_of (site_in standing.newest)) e.caller) allowed.key in
      (listed.0, (listed.1, (ap not allowed.known, (ap not allowed.keeps, (le-ltb longest_revision (length e.text) allowed.short, tt)))))

  -- no case of an edit holds that may be accepted and is not proposed already
  pub no_case : MayBeAccepted standing e → is_pending table e proposal ≡ false → first_case standing e ≡ None
  no_case may fresh =
      let follows : NoneHolds conflicting = (ap not (eq-eqb (newest_number newest) e.base may.names_newest), (ne_eqb e.base last_revision may.room, tt)) in
      (is_none_first (objected ++ repeat ∷ pending ∷ conflicting)).1
      (both_of_none objected (repeat ∷ pending ∷ conflicting) (allowed_clear may.allowed) (no_repeat e newest may.names_newest, (fresh, follows)))

  -- where no case holds the edit is allowed, names the newest revision, has a further number, and is not proposed
  pub without_case : first_case standing e ≡ None
      → IsAllowed standing.newest e × (newest_number newest ≡ e.base) × (e.base ≡ last_revision → ⊥) × (is_pending table e proposal ≡ false)
  without_case is =
      let none = none_of_both objected (repeat ∷ pending ∷ conflicting) ((is_none_first (objected ++ repeat ∷ pending ∷ conflicting)).0 is) in
      let follows = none.1.1.1 in
      (clear_allowed none.0, eqb-true (newest_number newest) e.base (not-false _ follows.0), eqb-false e.base last_revision follows.1.0, none.1.1.0)

  -- where a repeat comes first
  already_is : (first_case standing e ≡ Some case.Already) ↔ (NoneHolds objected × (repeat.0 ≡ true))
  already_is =
      is_first repeat.0 case.Already objected (pending ∷ conflicting)
      (refusals_and case.Already (λ r h. cc) (objections (custodians_of (site_in standing.newest)) table e) [] tt)
      ((λ h. cc), refusals_and case.Already (λ r h. cc) (conflicts newest e) [] tt)

  -- where a proposal that is pending comes first
  pending_is : (first_case standing e ≡ Some case.Pending) ↔ (NoneHolds (objected ++ repeat ∷ []) × (pending.0 ≡ true))
  pending_is =
      is_first pending.0 case.Pending (objected ++ repeat ∷ []) conflicting
      (refusals_and case.Pending (λ r h. cc) (objections (custodians_of (site_in standing.newest)) table e) (repeat ∷ []) ((λ h. cc), tt))
      (refusals_and case.Pending (λ r h. cc) (conflicts newest e) [] tt)

  repeat_of : IsAllowed standing.newest e → is_repeat e newest ≡ true → IsRepeat standing.newest e
  repeat_of allowed again =
      let parts = repeat_parts e newest again in
      record { allowed = allowed; revision = parts.0; is_newest = parts.1; rev = parts.2; own = parts.3; body = parts.4 }

  pub repeat_found : first_case standing e ≡ Some case.Already → IsRepeat standing.newest e
  repeat_found is = let first = already_is.0 is in repeat_of (clear_allowed first.0) first.1

  pub found_repeat : IsRepeat standing.newest e → first_case standing e ≡ Some case.Already
  found_repeat r = already_is.1 (allowed_clear r.allowed, ap (is_repeat e) r.is_newest ∙ parts_repeat e r.revision r.rev r.own r.body)

  -- the number of a repeat is that of the newest revision
  pub already_number : first_case standing e ≡ Some case.Already → newest_number newest ≡ e.base + 1
  already_number is = let r = repeat_found is in ap newest_number r.is_newest ∙ r.rev

  -- an edit of which the newest revision is no repeat is proposed
  pub proposal_found : first_case standing e ≡ Some case.Pending → IsProposed standing e × (IsRepeat standing.newest e → ⊥)
  proposal_found is =
      let first = pending_is.0 is in
      let clear = none_of_both objected (repeat ∷ []) first.0 in
      let parts = pending_parts table e proposal first.1 in (
        record { allowed = clear_allowed clear.0; guarded = parts.0; proposal = parts.1.0; pending = parts.1.1; base = parts.1.2; author = parts.1.3; text = parts.1.4 },
        λ r. apart (sym is ∙ found_repeat r),
      )
    where
      apart : Some case.Pending ≡ Some case.Already → ⊥
      apart h = cc

  pub found_proposal : IsProposed standing e → (IsRepeat standing.newest e → ⊥) → first_case standing e ≡ Some case.Pending
  found_proposal q new =
      pending_is.1 (
        both_of_none objected (repeat ∷ []) (allowed_clear q.allowed) (fails (is_repeat e newest) (λ again. new (repeat_of q.allowed again)), tt),
        ap (is_pending table e) q.pending ∙ parts_pending table e q.proposal q.guarded q.base q.author q.text,
      )
    where
      fails : (b : Bool) → (b ≡ true → ⊥) → b ≡ false
      fails true h = absurd (h refl)
      fails false h = refl

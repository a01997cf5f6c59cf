-- What is known of file systems.
use Rattle.std.proofs.Common.{◌≡◌, ℕ, false, List, [], ◌∷◌, ◌++◌, get_or, length, length-append, map, refl, sym, ap, ◌∙◌, subst, arith}
use Rattle.std.specs.Prelude.{Option, Some, None}
use Rattle.std.specs.List.{All, Contains}
use Rattle.std.specs.Option.{option_map}
use Rattle.std.proofs.lemmas.List.Elements.{All-get_or, All-push}
use Rattle.desk_text.specs.AddrSet.{is_among}
use Rattle.desk_text.specs.declared.address.Addr.{Addr}
use Rattle.desk_tables.specs.FileSystems.{fs_of}
use Rattle.desk_policy.specs.Policy.{Content}
use Rattle.desk_who.specs.Runs.{AreRunsWithValue, run_value}
use Rattle.desk_who.specs.Searching.{AreFoundStarts, ByRule, Rule, found_at}
use Rattle.desk_who.proofs.Kept.{same_runs}
use Rattle.desk_impact.specs.Impact.{AreStartsOfChanges, IsImpact, change_value, verdicts_at}
use Rattle.desk_impact.specs.declared.changes.TwoVerdicts.{TwoVerdicts as KeptVerdicts}
use Rattle.desk_impact.specs.KnownSystems.{IsKnownChange, fs_number}
use Rattle.desk_impact.specs.Places.{Others, place_verdicts, taken_by, verdict_elsewhere}
use Rattle.desk_impact.specs.PrivateKnownSystems.{AreFoundOfOthers, AreKnownFindings, HasLearnedChange, HasLearnedFindings, IsKnownAt}
use Rattle.desk_impact.specs.PrivatePlaces.{IsFree}
use Rattle.desk_impact.specs.Sections.{found_elsewhere, found_of}
use Rattle.desk_impact.specs.declared.known_systems.Known.{Known}
use Rattle.desk_impact.proofs.Found.{found_of_others}
use Rattle.desk_impact.proofs.Reporting.{changes_of_others, same_impact}
use Rattle.desk_impact.proofs.Same.{Path}
use Rattle.desk_impact.proofs.Searched.{free_of_given}

-- a file system by its number
pub number_is : (o : Option ℕ) → fs_number (option_map (λ i. record { 0 = i }) o) ≡ o
number_is None = refl
number_is (Some i) = refl

-- ---- the directories that no line writes, in the file systems of a path
pub known_others : (old new : Content) (one : Known KeptVerdicts) (path : Path) → IsKnownChange old new one → fs_number one.old ≡ fs_of old.table path → fs_number one.new ≡ fs_of new.table path
    → IsImpact old new (place_verdicts old new (Others path)) (map change_value one.found)
known_others old new one path known is is' =
    same_impact old new (place_verdicts old new (Others known.path)) (place_verdicts old new (Others path)) (map change_value one.found)
    (λ address.
    ap (λ fs. record { before = verdict_elsewhere old address fs; after = verdict_elsewhere new address (fs_of new.table known.path) }) (sym known.old_is ∙ is)
    ∙ ap (λ fs. record { before = verdict_elsewhere old address (fs_of old.table path); after = verdict_elsewhere new address fs }) (sym known.new_is ∙ is')) known.changes

pub known_findings : {T A : Type 0} (meaning : T → A) (rule : Rule (Option A)) (content : Content) (one : Known T) (home path : Path) → AreFoundOfOthers meaning rule content home one
    → fs_of content.table home ≡ fs_of content.table path → AreRunsWithValue (found_of rule content (Others path)) (map (run_value meaning) one.found)
known_findings meaning rule content one home path known is =
    same_runs (found_of rule content (Others home)) (found_of rule content (Others path)) (map (run_value meaning) one.found) (λ address. ap (λ fs. found_elsewhere rule content fs address) is) known.runs

-- ---- what is known is one more
module _ {T : Type 0} (P : Known T → Type 0) (known : List (Known T)) (old new : Option ℕ) (place : ℕ) (at : IsKnownAt known old new place) where
  pub is_known : All P known → P at.one
  is_known all = subst P at.there (All-get_or P known place at.one at.within all)

last_at : {X : Type 0} (xs : List X) (x d : X) → get_or (xs ++ x ∷ []) (length xs) d ≡ x
last_at [] x d = refl
last_at (y ∷ xs) x d = last_at xs x d

pub known_last : {T : Type 0} (known : List (Known T)) (one : Known T) (old new : Option ℕ) → fs_number one.old ≡ old → fs_number one.new ≡ new → IsKnownAt (known ++ one ∷ []) old new (length known)
known_last known one old new is is' = record {
  one = one;
  within = omega (arith, length-append known (one ∷ []));
  there = last_at known one one;
  old_is = is;
  new_is = is';
}

module _ (path other : Path) (taken : List Path) (free : IsFree path taken other) where
  pub learned_change : (old new : Content) (known : List (Known KeptVerdicts)) (one : Known KeptVerdicts) (place : ℕ) → All (Contains taken) (taken_by old new) → place ≡ length known
      → fs_number one.old ≡ fs_of old.table path → fs_number one.new ≡ fs_of new.table path → AreStartsOfChanges old new path one.starts → IsImpact old new (verdicts_at old new other) (map change_value one.found)
      → All (IsKnownChange old new) known → HasLearnedChange old new path (known ++ one ∷ []) place
  learned_change old new known one place listed last is is' starts impact so_far = record {
    all = All-push (IsKnownChange old new) known one so_far
        (record {
          path = path;
          old_is = is;
          new_is = is';
          starts = starts;
          changes = changes_of_others old new path other (map change_value one.found) (free_of_given (taken_by old new) taken path other listed free) impact;
        });
    own = subst (IsKnownAt (known ++ one ∷ []) (fs_of old.table path) (fs_of new.table path)) (sym last) (known_last known one (fs_of old.table path) (fs_of new.table path) is is');
  }

  pub learned_findings : {T A : Type 0} (meaning : T → A) (found : Addr → Path → Option T → Type 0) (content : Content) (turns : List ℕ) (known : List (Known T)) (one : Known T) (place : ℕ)
      → All (Contains taken) (taken_by content content) → place ≡ length known → fs_number one.old ≡ fs_of content.table path → fs_number one.new ≡ fs_of content.table path → is_among 0 one.starts ≡ false
      → ByRule meaning found content turns (λ rule. AreFoundStarts rule content path one.starts)
      → ByRule meaning found content turns (λ rule. AreRunsWithValue (found_at rule content other) (map (run_value meaning) one.found))
      → All (AreKnownFindings meaning found content turns) known → HasLearnedFindings meaning found content turns path (known ++ one ∷ []) place
  learned_findings meaning found content turns known one place listed last is is' behind starts runs so_far = record {
    all = All-push (AreKnownFindings meaning found content turns) known one so_far
        (record {
          path = path;
          old_is = is;
          behind = behind;
          by_rule = λ rule of. record {
            starts = starts rule of;
            runs = found_of_others rule of.asks content path other (map (run_value meaning) one.found) (free_of_given (taken_by content content) taken path other listed free) (runs rule of);
          };
        });
    own = subst (IsKnownAt (known ++ one ∷ []) (fs_of content.table path) (fs_of content.table path)) (sym last) (known_last known one (fs_of content.table path) (fs_of content.table path) is is');
  }

-- The addresses at which something may be found, among those at which lines begin or cease to match.
use Rattle.std.proofs.Common.{◌≡◌, ◌∙◌, ℕ, ◌+◌, ◌||◌, true, false, List, [], Option, None, Some, ap, inl, inr, refl, sym}
use Rattle.std.proofs.lemmas.Bool.{cases_Bool}
use Rattle.desk_text.specs.AddrSet.{is_among}
use Rattle.desk_text.specs.declared.address.Addr.{Addr}
use Rattle.desk_tables.specs.FileSystems.{fs_of}
use Rattle.desk_policy.specs.Policy.{Content, rows_of}
use Rattle.desk_policy.specs.Verdict.{lists}
use Rattle.desk_who.specs.PrivateSearching.{AreSought}
use Rattle.desk_who.specs.Runs.{AreStartsOf}
use Rattle.desk_who.specs.Searching.{IsRuleOf, IsSilent, Rule, found_at, found_in}
use Rattle.desk_who.specs.Starts.{AreJoined}
use Rattle.desk_who.proofs.Steady.{all_same}

module _ {T : Type 0} (found : Addr → List (List ℕ) → Option T → Type 0) (turns : List ℕ) where
  -- of the addresses that were seen these are left, and at each other one nothing is found
  pub record AreLeft (seen sought : List ℕ) : Type 0 where
    pub inside : (n : ℕ) → is_among n sought ≡ true → is_among n seen ≡ true
    pub silent : (n : ℕ) → is_among n seen ≡ true → is_among n sought ≡ false → IsSilent found turns n

-- what is found stays between the addresses that are left
module _ {T A : Type 0} (meaning : T → A) (found : Addr → List (List ℕ) → Option T → Type 0) (content : Content) (turns own all : List ℕ) (rule : Rule (Option A)) (of : IsRuleOf meaning found content turns rule)
    (joined : AreJoined own turns all) where
  pub found_sought : (path : List (List ℕ)) (fs : ℕ) → fs_of content.table path ≡ Some fs → AreSought found turns (rows_of content fs) own → AreStartsOf (found_at rule content path) all
  found_sought path fs home sought = record {
    ascend = joined.ascend;
    behind = joined.behind sought.behind of.starts.nowhere.behind;
    steady = λ address fits none. elim (cases_Bool (is_among (address + 1) sought.starts)) [
      | inl there ↦
          let silent = sought.silent (address + 1) there (joined.own (address + 1) none) in
          let next : Addr = record { number = address + 1 } in
          let here : Addr = record { number = address } in
          sym (of.finds next path None (silent.here next path refl)) ∙ of.finds here path None (silent.before (joined.other (address + 1) none) here path refl)
      | inr not ↦
          ap (λ one. found_in rule content path one (address + 1)) home
          ∙ of.starts.among (record { 0 = fs }) (lists content fs path) (rows_of content fs) address fits (joined.other (address + 1) none)
          (all_same address (address + 1) sought.starts (rows_of content fs) refl fits not sought.are.steady)
          ∙ sym (ap (λ one. found_in rule content path one address) home)
    ];
  }

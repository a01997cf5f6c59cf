-- Lemmas on the faults of a text of which each line is read by itself.
use Rattle.std.proofs.Common.{◌≡◌, ◌<◌, ◌+◌, ◌-◌, ℕ, List, [], ◌∷◌, ◌++◌, Option, Some, None, Result, Ok, Err, get_or, take, length, map, refl, ap, subst, sym, ◌∙◌, arith}
use Rattle.std.specs.List.{cons_option, filter_map}
use Rattle.std.specs.Option.{option_map}
use Rattle.std.specs.Str.Lines.{lines}
use Rattle.std.proofs.lemmas.List.{append-nil, get_or_default, map-append}
use Rattle.desk_text.specs.Place.{LiesIn, LiesWithin, line_at}
use Rattle.desk_text.specs.Reading.{AnsweredLine, fault_of}
use Rattle.desk_text.specs.declared.place.Place.{Place}
use Rattle.desk_tables.specs.PrivateFaults.{broken_rule}
use Rattle.desk_tables.specs.Rules.{TableFault}
use Rattle.desk_tables.specs.declared.faults.PlacedFault.{PlacedFault}
use Rattle.desk_tables.specs.declared.rules.TableRule.{TableRule}
use Rattle.desk_tables.proofs.RowLemmas.{faults_more}

-- the fault of a line, by the rule that it breaks
abbrev by_rule : ℕ → Option TableRule → Option TableFault
by_rule number rule = option_map (λ broken. record { line = number; rule = broken }) rule

fault_is : {Row : Type 0} (number : ℕ) (a : Result (Option Row) TableRule) → fault_of (record { number = number; answer = a }) ≡ by_rule number (broken_rule a)
fault_is number (Ok row) = refl
fault_is number (Err rule) = refl

module _ {Row : Type 0} (ls : List (AnsweredLine Row TableRule)) (i : ℕ) (x : AnsweredLine Row TableRule) (at : (i < length ls) × (x ≡ get_or ls i x)) (found : List PlacedFault) (so_far : map (λ (one : PlacedFault). one.fault) found ≡ filter_map fault_of (take i ls)) where
  -- what the faults of one line more are
  more : (rule : Option TableRule) → rule ≡ broken_rule x.answer → filter_map fault_of (take (i + 1) ls) ≡ map (λ (one : PlacedFault). one.fault) found ++ cons_option (by_rule x.number rule) []
  more rule is =
      faults_more ls i x at
      ∙ ap (λ fs. fs ++ cons_option (fault_of x) []) (sym so_far)
      ∙ ap (λ o. map (λ (one : PlacedFault). one.fault) found ++ cons_option o []) (fault_is x.number x.answer ∙ ap (by_rule x.number) (sym is))

  -- a line that breaks no rule adds nothing
  pub same_faults : (rule : Option TableRule) → rule ≡ None → rule ≡ broken_rule x.answer → map (λ (one : PlacedFault). one.fault) found ≡ filter_map fault_of (take (i + 1) ls)
  same_faults rule none is =
      sym (more rule is ∙ ap (λ r. map (λ (one : PlacedFault). one.fault) found ++ cons_option (by_rule x.number r) []) none ∙ append-nil (map (λ (one : PlacedFault). one.fault) found))

  -- a faulty line adds its fault
  pub next_fault : (rule : Option TableRule) (broken : TableRule) (one : PlacedFault) (new : List PlacedFault) → rule ≡ Some broken → rule ≡ broken_rule x.answer → one.fault ≡ record { line = x.number; rule = broken } → new ≡ found ++ one ∷ []
      → map (λ (f : PlacedFault). f.fault) new ≡ filter_map fault_of (take (i + 1) ls)
  next_fault rule broken one new some is fault added =
      ap (map (λ (f : PlacedFault). f.fault)) added
      ∙ map-append (λ (f : PlacedFault). f.fault) found (one ∷ [])
      ∙ ap (λ f. map (λ (g : PlacedFault). g.fault) found ++ f ∷ []) fault
      ∙ sym (more rule is ∙ ap (λ r. map (λ (g : PlacedFault). g.fault) found ++ cons_option (by_rule x.number r) []) some)

-- a place within a line of a text lies in the text
pub lies_on : (text : List ℕ) (k : ℕ) (line : List ℕ) (place : Place) → (k < length (lines text)) × (line ≡ get_or (lines text) k line) → place.line ≡ k + 1 → LiesWithin line place → LiesIn text place
lies_on text k line place turn number within =
    let before : k ≡ place.line - 1 = omega (arith, number) in
    let is : line ≡ line_at text place.line = turn.1 ∙ get_or_default (lines text) k line [] turn.0 ∙ ap (λ n. get_or (lines text) n []) before in
    record {
      counted = omega (arith, number);
      exists = omega (arith, number, turn.0);
      within = subst (λ l. LiesWithin l place) is within;
    }

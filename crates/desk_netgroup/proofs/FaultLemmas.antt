-- The faults of a netgroup file, line by line.
use Rattle.std.proofs.Common.{◌≡◌, ◌↔◌, ℕ, ◌+◌, ◌<◌, List, [], ◌∷◌, ◌++◌, length, map, get_or, take, Option, Some, None, Result, Ok, Err, refl, sym, ap, ◌∙◌}
use Rattle.std.specs.List.{cons_option, slice_get}
use Rattle.std.specs.Option.{option_map, option_or}
use Rattle.std.proofs.lemmas.List.{append-nil, map-append}
use Rattle.std.proofs.lemmas.List.Elements.{filter_map-append}
use Rattle.desk_text.specs.Lines.{LogicalLine, logical_lines}
use Rattle.desk_text.specs.Reading.{ReadsAs, split_answer}
use Rattle.desk_text.specs.declared.reading.ReadError.{ReadError}
use Rattle.desk_text.specs.declared.reading.ReadError.TheVariants.{Fault, Memory}
use Rattle.desk_netgroup.specs.Faults.{earlier_line, fault_on, first_broken_rule, other_of}
use Rattle.desk_netgroup.specs.GroupLine.{group_on, groups_on}
use Rattle.desk_netgroup.specs.Laws.{FaultsFollowGoodLines, FirstOfFaultsIsReported}
use Rattle.desk_netgroup.specs.Netgroups.{added_group, faults_after, first_fault, netgroup_faults, unless_fault, with_line, with_lines}
use Rattle.desk_netgroup.specs.declared.faults.GroupFault.{GroupFault}
use Rattle.desk_netgroup.specs.declared.faults.GroupRule.{GroupRule}
use Rattle.desk_netgroup.specs.declared.faults.PlacedFault.{PlacedFault}
use Rattle.desk_netgroup.specs.declared.group_line.GroupLine.{GroupLine}
use Rattle.desk_netgroup.proofs.FileLemmas.{one_more}

cons_append : (o : Option GroupFault) (xs ys : List GroupFault) → cons_option o (xs ++ ys) ≡ cons_option o xs ++ ys
cons_append None xs ys = refl
cons_append (Some fault) xs ys = refl

-- lines, and further ones behind them
with_append : (earlier : List GroupLine) (xs ys : List LogicalLine) → with_lines earlier (xs ++ ys) ≡ with_lines (with_lines earlier xs) ys
with_append earlier [] ys = refl
with_append earlier (x ∷ xs) ys = with_append (with_line earlier x) xs ys

faults_append : (earlier : List GroupLine) (xs ys : List LogicalLine) → faults_after earlier (xs ++ ys) ≡ faults_after earlier xs ++ faults_after (with_lines earlier xs) ys
faults_append earlier [] ys = refl
faults_append earlier (x ∷ xs) ys =
    ap (cons_option (fault_on earlier x)) (faults_append (with_line earlier x) xs ys)
    ∙ cons_append (fault_on earlier x) (faults_after (with_line earlier x) xs) (faults_after (with_lines (with_line earlier x) xs) ys)

module _ (ls : List LogicalLine) (i : ℕ) (x : LogicalLine) (within : i < length ls) (is : x ≡ get_or ls i x) (earlier : List GroupLine) (defined : earlier ≡ with_lines [] (take i ls)) where
  more_groups : with_lines [] (take (i + 1) ls) ≡ earlier ++ added_group (fault_on earlier x) (group_on x)
  more_groups =
      ap (with_lines []) (one_more ls i x within is) ∙ with_append [] (take i ls) (x ∷ []) ∙ ap (λ groups. with_line groups x) (sym defined)

  more_faults : faults_after [] (take (i + 1) ls) ≡ faults_after [] (take i ls) ++ cons_option (fault_on earlier x) []
  more_faults =
      ap (faults_after []) (one_more ls i x within is) ∙ faults_append [] (take i ls) (x ∷ [])
      ∙ ap (λ groups. faults_after [] (take i ls) ++ cons_option (fault_on groups x) []) (sym defined)

  -- a good line adds its group
  module _ (group : GroupLine) (good : fault_on earlier x ≡ None) (read : group_on x ≡ Some group) where
    pub good_groups : (new : List GroupLine) → new ≡ earlier ++ group ∷ [] → new ≡ with_lines [] (take (i + 1) ls)
    good_groups new added =
        added ∙ sym (more_groups ∙ ap (λ f. earlier ++ added_group f (group_on x)) good ∙ ap (λ g. earlier ++ added_group None g) read)

    pub good_faults : (found : List GroupFault) → found ≡ faults_after [] (take i ls) → found ≡ faults_after [] (take (i + 1) ls)
    good_faults found so_far =
        so_far ∙ sym (more_faults ∙ ap (λ f. faults_after [] (take i ls) ++ cons_option f []) good ∙ append-nil (faults_after [] (take i ls)))

  -- a faulty line adds its fault
  module _ (fault : GroupFault) (told : fault_on earlier x ≡ Some fault) where
    pub faulty_groups : earlier ≡ with_lines [] (take (i + 1) ls)
    faulty_groups = sym (more_groups ∙ ap (λ f. earlier ++ added_group f (group_on x)) told ∙ append-nil earlier)

    pub faulty_faults : (found new : List PlacedFault) (one : PlacedFault) → one.fault ≡ fault → new ≡ found ++ one ∷ [] → map (λ (f : PlacedFault). f.fault) found ≡ faults_after [] (take i ls)
        → map (λ (f : PlacedFault). f.fault) new ≡ faults_after [] (take (i + 1) ls)
    faulty_faults found new one same added so_far =
        ap (map (λ (f : PlacedFault). f.fault)) added ∙ map-append (λ (f : PlacedFault). f.fault) found (one ∷ [])
        ∙ ap (λ fs. fs ++ one.fault ∷ []) so_far
        ∙ ap (λ f. faults_after [] (take i ls) ++ f ∷ []) same
        ∙ sym (more_faults ∙ ap (λ f. faults_after [] (take i ls) ++ cons_option f []) told)

-- what a line's answer tells, with its fault as a value
pub told_group : (read : Result GroupLine (ReadError GroupFault)) (spelled : Result (Option GroupLine) GroupFault) (group : GroupLine) → split_answer read ≡ Ok (Ok group) → ReadsAs (λ g. Some g) read spelled → spelled ≡ Ok (Some group)
told_group (Ok g) spelled group split reads = let same : g ≡ group = cc in reads ∙ ap (λ r. Ok (Some r)) same
told_group (Err (Fault f)) spelled group split reads = absurd (cc)
told_group (Err Memory) spelled group split reads = absurd (cc)

pub told_fault : (read : Result GroupLine (ReadError GroupFault)) (spelled : Result (Option GroupLine) GroupFault) (fault : GroupFault) → split_answer read ≡ Ok (Err fault) → ReadsAs (λ g. Some g) read spelled → spelled ≡ Err fault
told_fault (Ok g) spelled fault split reads = absurd (cc)
told_fault (Err (Fault f)) spelled fault split reads = let same : f ≡ fault = cc in reads ∙ ap Err same
told_fault (Err Memory) spelled fault split reads = absurd (cc)

-- a line's fault has its number
number_of_fault : (number : ℕ) (other : GroupRule → Option ℕ) (rule : Option GroupRule) (fault : GroupFault) → option_map (λ r. record { line = number; rule = r; other = other r }) rule ≡ Some fault → fault.line ≡ number
number_of_fault number other None fault h = absurd (cc)
number_of_fault number other (Some rule) fault h =
    let same : record { line = number; rule = rule; other = other rule } ≡ fault = cc in
    sym (ap (λ (f : GroupFault). f.line) same)

pub numbered_fault : (earlier : List GroupLine) (line : LogicalLine) (fault : GroupFault) → fault_on earlier line ≡ Some fault → fault.line ≡ line.number
numbered_fault earlier line fault told = number_of_fault line.number (λ rule. other_of rule (earlier_line earlier line)) (first_broken_rule earlier line) fault told

pub faults_follow_good_lines : FaultsFollowGoodLines
faults_follow_good_lines lines more = faults_append [] lines more

-- one line and further ones: the first fault is the first of the faults
first_by : (before : List LogicalLine) (line : LogicalLine) (more : List LogicalLine) (fault : Option GroupFault) → fault_on (groups_on before) line ≡ fault
    → (fault ≡ None → slice_get (faults_after (with_line (groups_on before) line) more) 0 ≡ first_fault (before ++ line ∷ []) more)
    → slice_get (cons_option fault (faults_after (with_line (groups_on before) line) more)) 0 ≡ option_or fault (first_fault (before ++ line ∷ []) more)
first_by before line more None told others = others refl
first_by before line more (Some fault) told others = refl

-- the first of the faults of lines that stand behind good ones
first_is : (before lines : List LogicalLine) → slice_get (faults_after (groups_on before) lines) 0 ≡ first_fault before lines
first_is before [] = refl
first_is before (line ∷ more) =
    first_by before line more (fault_on (groups_on before) line) refl
    (λ good.
    let groups : with_line (groups_on before) line ≡ groups_on (before ++ line ∷ []) =
    ap (λ f. groups_on before ++ added_group f (group_on line)) good ∙ sym (filter_map-append group_on before (line ∷ [])) in
    ap (λ earlier. slice_get (faults_after earlier more) 0) groups ∙ first_is (before ++ line ∷ []) more)

refused_with : {X : Type 0} (value : X) (first : Option GroupFault) (fault : GroupFault) → (unless_fault value first ≡ Err fault) ↔ (first ≡ Some fault)
refused_with value None fault = (λ h. absurd (cc), λ h. absurd (cc))
refused_with value (Some first) fault = (λ h. let same : first ≡ fault = cc in ap Some same, λ h. let same : first ≡ fault = cc in ap Err same)

pub first_of_faults_is_reported : FirstOfFaultsIsReported
first_of_faults_is_reported text fault =
    let reported = refused_with (groups_on (logical_lines text)) (first_fault [] (logical_lines text)) fault in
    let same : slice_get (netgroup_faults text) 0 ≡ first_fault [] (logical_lines text) = first_is [] (logical_lines text) in
    (λ h. same ∙ reported.0 h, λ h. reported.1 (sym same ∙ h))

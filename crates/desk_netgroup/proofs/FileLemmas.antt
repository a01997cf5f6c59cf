-- A netgroup file: its groups so far, and its first fault.
use Rattle.std.proofs.Common.{◌≡◌, ℕ, suc, ◌+◌, ◌<◌, List, [], ◌∷◌, ◌++◌, length, get_or, take, drop, Option, Some, None, Ok, Err, refl, sym, ap, ◌∙◌, append_assoc}
use Rattle.std.proofs.Math.Seq.{drop-cons}
use Rattle.std.specs.List.{cons_option}
use Rattle.std.specs.Option.{option_or}
use Rattle.std.proofs.lemmas.List.{append-nil, take_more, take-append-drop}
use Rattle.std.proofs.lemmas.List.Elements.{filter_map-append}
use Rattle.desk_text.specs.Lines.{LogicalLine}
use Rattle.desk_text.specs.Reading.{Reads, ReadsAs}
use Rattle.desk_text.specs.declared.reading.ReadError.{ReadError}
use Rattle.desk_text.specs.declared.reading.ReadError.TheVariants.{Fault, Memory}
use Rattle.desk_netgroup.specs.Faults.{fault_on}
use Rattle.desk_netgroup.specs.GroupLine.{group_on, groups_on}
use Rattle.desk_netgroup.specs.Netgroups.{first_fault, unless_fault}
use Rattle.desk_netgroup.specs.declared.faults.GroupFault.{GroupFault}
use Rattle.desk_netgroup.specs.declared.group_line.GroupLine.{GroupLine}

-- a value without a fault
pub value_is : {X : Type 0} (value read : X) (fault : Option GroupFault) → unless_fault value fault ≡ Ok read → value ≡ read
value_is value read None h = cc
value_is value read (Some fault) h = absurd (cc)

pub no_fault : {X : Type 0} (value read : X) (fault : Option GroupFault) → unless_fault value fault ≡ Ok read → fault ≡ None
no_fault value read None h = refl
no_fault value read (Some fault) h = absurd (cc)

pub fault_is : {X : Type 0} (value : X) (fault : Option GroupFault) (told : GroupFault) → unless_fault value fault ≡ Err told → fault ≡ Some told
fault_is value None told h = absurd (cc)
fault_is value (Some fault) told h = cc

or_assoc : (a b c : Option GroupFault) → option_or a (option_or b c) ≡ option_or (option_or a b) c
or_assoc None b c = refl
or_assoc (Some a) b c = refl

or_none : (a : Option GroupFault) → option_or a None ≡ a
or_none None = refl
or_none (Some a) = refl

-- the first fault of lines and further ones
fault_append : (before xs ys : List LogicalLine) → first_fault before (xs ++ ys) ≡ option_or (first_fault before xs) (first_fault (before ++ xs) ys)
fault_append before [] ys = ap (λ b. first_fault b ys) (sym (append-nil before))
fault_append before (x ∷ xs) ys =
    ap (option_or (fault_on (groups_on before) x)) (fault_append (before ++ x ∷ []) xs ys)
    ∙ ap (λ b. option_or (fault_on (groups_on before) x) (option_or (first_fault (before ++ x ∷ []) xs) (first_fault b ys))) (append_assoc before (x ∷ []) xs)
    ∙ or_assoc (fault_on (groups_on before) x) (first_fault (before ++ x ∷ []) xs) (first_fault (before ++ x ∷ xs) ys)

module _ (ls : List LogicalLine) (i : ℕ) (x : LogicalLine) (within : i < length ls) (is : x ≡ get_or ls i x) where
  pub one_more : take (i + 1) ls ≡ take i ls ++ x ∷ []
  one_more = take_more ls i x within ∙ ap (λ l. take i ls ++ l ∷ []) (sym is)

  -- a line without a fault
  pub sound_more : first_fault [] (take i ls) ≡ None → fault_on (groups_on (take i ls)) x ≡ None → first_fault [] (take (i + 1) ls) ≡ None
  sound_more sound good =
      ap (first_fault []) one_more ∙ fault_append [] (take i ls) (x ∷ [])
      ∙ ap (λ o. option_or o (first_fault (take i ls) (x ∷ []))) sound
      ∙ or_none (fault_on (groups_on (take i ls)) x) ∙ good

  pub groups_more : (group : GroupLine) → group_on x ≡ Some group → groups_on (take (i + 1) ls) ≡ groups_on (take i ls) ++ group ∷ []
  groups_more group good =
      ap groups_on one_more ∙ filter_map-append group_on (take i ls) (x ∷ []) ∙ ap (λ o. groups_on (take i ls) ++ cons_option o []) good

  -- the first line with a fault
  first_is : (fault : GroupFault) → first_fault [] (take i ls) ≡ None → fault_on (groups_on (take i ls)) x ≡ Some fault → first_fault [] ls ≡ Some fault
  first_is fault sound told =
      let rest = first_fault (take i ls ++ x ∷ []) (drop (suc i) ls) in
      ap (first_fault []) (sym (take-append-drop i ls)) ∙ fault_append [] (take i ls) (drop i ls)
      ∙ ap (λ o. option_or o (first_fault (take i ls) (drop i ls))) sound
      ∙ ap (first_fault (take i ls)) (drop-cons ls i x within ∙ ap (λ (l : LogicalLine). l ∷ drop (suc i) ls) (sym is))
      ∙ ap (λ o. option_or o rest) told

  pub exit : (earlier : List GroupLine) (error : ReadError GroupFault) → earlier ≡ groups_on (take i ls) → first_fault [] (take i ls) ≡ None
      → ReadsAs {T = GroupLine} (λ group. Some group) (Err error) (unless_fault (group_on x) (fault_on earlier x))
      → Reads {X = List GroupLine} (Err error) (unless_fault (groups_on ls) (first_fault [] ls))
  exit earlier Memory same sound read = tt
  exit earlier (Fault fault) same sound read =
      ap (unless_fault (groups_on ls)) (first_is fault sound (ap (λ groups. fault_on groups x) (sym same) ∙ fault_is (group_on x) (fault_on earlier x) fault read))

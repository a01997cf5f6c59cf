-- What the lines of a text list together, line by line.
use Rattle.std.proofs.Common.{◌≡◌, ℕ, ◌+◌, ◌<◌, ◌++◌, List, [], ◌∷◌, Option, Result, Ok, Err, ap, get_or, length, map, sym, subst, take, drop, ◌∙◌}
use Rattle.std.specs.List.{cons_option, filter_map}
use Rattle.std.proofs.lemmas.List.{append-nil, drop_more, map-append, take_more, take-append-drop}
use Rattle.std.proofs.lemmas.List.Elements.{filter_map-append}
use Rattle.desk_text.specs.Lines.{LogicalLine, logical_lines}
use Rattle.desk_text.specs.Reading.{Reads, ReadsAs, answered_value, fault_at, fault_of, read_lines, unless_fault, value_of}
use Rattle.desk_text.specs.declared.reading.LineFault.{LineFault}
use Rattle.desk_text.specs.declared.reading.ReadError.{ReadError}
use Rattle.desk_text.specs.declared.reading.ReadError.TheVariants.{Fault, Memory}
use Rattle.desk_mounts.specs.PrivateReading.{AddsListed}
use Rattle.desk_mounts.specs.Reading.{answered, line_answer, read_mounts}
use Rattle.desk_mounts.specs.declared.rules.Rule.{Rule}

abbrev Paths : Type 0
Paths = List (List (List ℕ))

-- no line of the list is faulty, and these are the mount points that they list
pub record AreRead (lines : List LogicalLine) (found : Paths) : Type 0 where
  pub sound : filter_map fault_of (map answered lines) ≡ []
  pub are : filter_map value_of (map answered lines) ≡ found

-- one line more, which is not faulty
pub one_more : (lines : List LogicalLine) (i : ℕ) (line : LogicalLine) → i < length lines → line ≡ get_or lines i line → (listed : Option (List (List ℕ))) → line_answer line ≡ Ok listed
    → (found : Paths) → AreRead (take i lines) found → AreRead (take (i + 1) lines) (found ++ cons_option listed [])
one_more lines i line below is listed good found so_far =
    let more : take (i + 1) lines ≡ take i lines ++ line ∷ [] = take_more lines i line below ∙ ap (λ (l : LogicalLine). take i lines ++ l ∷ []) (sym is) in
    let own : map answered (take i lines ++ line ∷ []) ≡ map answered (take i lines) ++ answered line ∷ [] = map-append answered (take i lines) (line ∷ []) in
    subst (λ ls. AreRead ls (found ++ cons_option listed [])) (sym more) (record {
      sound = ap (filter_map fault_of) own ∙ filter_map-append fault_of (map answered (take i lines)) (answered line ∷ [])
          ∙ ap (λ (r : Result (Option (List (List ℕ))) Rule). filter_map fault_of (map answered (take i lines)) ++ cons_option (fault_at line.number r) []) good
          ∙ append-nil (filter_map fault_of (map answered (take i lines))) ∙ so_far.sound;
      are = ap (filter_map value_of) own ∙ filter_map-append value_of (map answered (take i lines)) (answered line ∷ [])
          ∙ ap (λ (r : Result (Option (List (List ℕ))) Rule). filter_map value_of (map answered (take i lines)) ++ cons_option (answered_value r) []) good
          ∙ ap (λ (paths : Paths). paths ++ cons_option listed []) so_far.are;
    })

-- a line is the first faulty one
pub first_faulty : (lines : List LogicalLine) (i : ℕ) (line : LogicalLine) → i < length lines → line ≡ get_or lines i line → (rule : Rule) → line_answer line ≡ Err rule
    → (found : Paths) → AreRead (take i lines) found → read_lines (map answered lines) ≡ Err (record { line = line.number; rule = rule })
first_faulty lines i line below is rule bad found so_far =
    let rest = drop (i + 1) lines in
    let parts : lines ≡ take i lines ++ line ∷ rest =
    sym (take-append-drop i lines) ∙ ap (λ ls. take i lines ++ ls) (drop_more lines i line below ∙ ap (λ (l : LogicalLine). l ∷ rest) (sym is)) in
    let faults : filter_map fault_of (map answered lines) ≡ record { line = line.number; rule = rule } ∷ filter_map fault_of (map answered rest) =
    ap (λ ls. filter_map fault_of (map answered ls)) parts
    ∙ ap (filter_map fault_of) (map-append answered (take i lines) (line ∷ rest))
    ∙ filter_map-append fault_of (map answered (take i lines)) (answered line ∷ map answered rest)
    ∙ ap (λ fs. fs ++ filter_map fault_of (answered line ∷ map answered rest)) so_far.sound
    ∙ ap (λ (r : Result (Option (List (List ℕ))) Rule). cons_option (fault_at line.number r) (filter_map fault_of (map answered rest))) bad in
    ap (λ (fs : List (LineFault Rule)). unless_fault fs (filter_map value_of (map answered lines))) faults

-- what a line added, and what it is read as
pub added : (lines : List LogicalLine) (i : ℕ) (line : LogicalLine) → i < length lines → line ≡ get_or lines i line → (read : Result (Option (List (List ℕ))) (ReadError Rule))
    → Reads read (line_answer line) → (old new : Paths) (done : Unit {0}) → AddsListed line.number read old new (Ok done) → AreRead (take i lines) old → AreRead (take (i + 1) lines) new
added lines i line below is (Ok listed) reads old new done adds so_far =
    subst (AreRead (take (i + 1) lines)) (sym adds) (one_more lines i line below is listed reads old so_far)
added lines i line below is (Err error) reads old new done adds so_far = absurd (cc)

-- the fault of a line is that of the text
pub refused : {T : Type 0} (view : T → Paths) (text : List ℕ) (lines : List LogicalLine) → lines ≡ logical_lines text → (i : ℕ) (line : LogicalLine) → i < length lines → line ≡ get_or lines i line
    → (read : Result (Option (List (List ℕ))) (ReadError Rule)) → Reads read (line_answer line) → (old new : Paths) (error : ReadError (LineFault Rule)) → AddsListed line.number read old new (Err error)
    → AreRead (take i lines) old → ReadsAs view (Err error) (read_mounts text)
refused view text lines whole i line below is (Ok listed) reads old new error adds so_far =
    subst (λ e. ReadsAs view (Err e) (read_mounts text)) (sym adds) tt
refused view text lines whole i line below is (Err (Fault rule)) reads old new error adds so_far =
    let same : error ≡ Fault (record { line = line.number; rule = rule }) = cc in
    subst (λ e. ReadsAs view (Err e) (read_mounts text)) (sym same)
    (ap (λ ls. read_lines (map answered ls)) (sym whole) ∙ first_faulty lines i line below is rule reads old so_far)
refused view text lines whole i line below is (Err Memory) reads old new error adds so_far =
    let same : error ≡ Memory = cc in
    subst (λ e. ReadsAs view (Err e) (read_mounts text)) (sym same) tt

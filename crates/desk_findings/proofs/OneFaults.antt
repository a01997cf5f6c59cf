-- The finding of one fault has its slice, for `one_fault` and `one_site_fault`.
use Rattle.std.proofs.Common.{◌≡◌, ◌∙◌, Bool, true, false, cond, List, [], ◌∷◌, Option, Some, None, IfSome, Result, Ok, Err, map, ◌++◌, refl, sym, subst, ap}
use Rattle.std.proofs.lemmas.List.Elements.{All-cons, All-nil, recursion_from_All}
use Rattle.std.specs.Option.{option_map}
use Rattle.std.specs.List.{All, AllByRecursion, find}
use Rattle.desk_text.specs.declared.reading.LineFault.{LineFault}
use Rattle.desk_tables.specs.FileSystemsText.{read_filesystems}
use Rattle.desk_tables.specs.Rules.{TableFault}
use Rattle.desk_tables.specs.declared.filesystems.Mount.{Mount}
use Rattle.desk_exports.specs.Faults.{IsPlaced}
use Rattle.desk_exports.specs.Files.{text_faults}
use Rattle.desk_exports.specs.declared.faults.PlacedFault.{PlacedFault}
use Rattle.desk_exports.specs.declared.files.Scope.TheVariants.{Whole}
use Rattle.desk_exports.specs.declared.profile.Profile.{Profile}
use Rattle.desk_exports.specs.declared.profile.Profile.TheVariants.{Two}
use Rattle.desk_exports.specs.declared.rules.Rule.{Rule}
use Rattle.desk_split.specs.declared.split_fault.SplitFault.{SplitFault}
use Rattle.desk_split.specs.declared.split_fault.SplitFault.TheVariants.{FileSystems, Exports}
use Rattle.desk_policy.specs.Parsing.{no_tables, rows_with}
use Rattle.desk_policy.specs.declared.parsing.SiteTables.{SiteTables}
use Rattle.desk_policy.specs.declared.site_fault.SiteFault.{SiteFault}
use Rattle.desk_findings.specs.CheckFaults.{Adds, tell_line}
use Rattle.desk_findings.specs.CheckOdd.{OddLine, TellInOrder}
use Rattle.desk_findings.specs.CheckText.{tables_of}
use Rattle.desk_findings.specs.Finding.{HaveSlices}
use Rattle.desk_findings.specs.OneFault.{TellIfSame, TellOne, TellOneOf, TellSplit, is_same, odd_of_fault}
use Rattle.desk_findings.specs.OneSiteFault.{TellLine, TellLineBy, TellLineIn, scope_of}
use Rattle.desk_findings.specs.Told.{Told, told}
use Rattle.desk_findings.specs.declared.check_faults.Source.{Source}
use Rattle.desk_findings.specs.declared.check_site.SiteSources.{SiteSources}
use Rattle.desk_findings.specs.declared.finding.Finding.{Finding}
use Rattle.desk_findings.proofs.FoundSlices.{Within, odds_within, on_line, slices, tells_within}

found_by : {X : Type 0} (P : X → Type 0) (b : Bool) (x : X) (other : Option X) → P x → IfSome other P → IfSome (cond b (Some x) other) P
found_by P true x other here rest = here
found_by P false x other here rest = rest

found_in : {X : Type 0} (P : X → Type 0) (p : X → Bool) (xs : List X) → AllByRecursion P xs → IfSome (find p xs) P
found_in P p [] all = tt
found_in P p (x ∷ xs) all = found_by P (p x) x (find p xs) all.0 (found_in P p xs all.1)

-- what holds of each holds of the one that is found
pub found : {X : Type 0} (P : X → Type 0) (p : X → Bool) (xs : List X) → All P xs → IfSome (find p xs) P
found P p xs all = found_in P p xs (recursion_from_All P xs all)

-- what is found among images is the image of what is found
find_map : {X Y : Type 0} (p : Y → Bool) (f : X → Y) (xs : List X) → option_map f (find (λ x. p (f x)) xs) ≡ find p (map f xs)
find_map p f [] = refl
find_map p f (x ∷ xs) = go (p (f x)) (find_map p f xs)
  where
    go : (b : Bool) → option_map f (find (λ y. p (f y)) xs) ≡ find p (map f xs) → option_map f (cond b (Some x) (find (λ y. p (f y)) xs)) ≡ cond b (Some (f x)) (find p (map f xs))
    go true rest = refl
    go false rest = rest

same_within : (source : Source) (fault : LineFault Rule) (same : Option (LineFault Rule)) (all : List Told) → TellIfSame source fault same all → All Within all
same_within source fault (Some one) all tells =
    tells_within (λ (one : PlacedFault). one.fault) (IsPlaced source.text.now) (tell_line source) (one ∷ []) all (λ one at. at.lies.within) tells
same_within source fault None all tells = odds_within source (odd_of_fault fault ∷ []) all tells

one_within : (source : Source) (fault : LineFault Rule) (read : Result (List Mount) TableFault) (all : List Told) → TellOne source fault read all → All Within all
one_within source fault (Ok table) all tells = same_within source fault (find (is_same fault) (text_faults (rows_with Two table no_tables) Whole source.text.now)) all tells
one_within source fault (Err bad) all none = subst (λ (ones : List Told). All Within ones) (sym none) (All-nil Within)

split_within : (file filesystems : Source) (fault : SplitFault) (all : List Told) → TellSplit file filesystems fault all → All Within all
split_within file filesystems (FileSystems fault) all tells = on_line filesystems _ all tells
split_within file filesystems (Exports fault) all tells = one_within file fault (read_filesystems filesystems.text.now) all tells

-- what is told of a fault of `split` has its slices
pub split_slices : (file filesystems : Source) (fault : SplitFault) (findings : List Finding) → Adds (TellSplit file filesystems fault) [] findings → HaveSlices findings
split_slices file filesystems fault findings adds =
    slices findings (subst (λ (ones : List Told). All Within ones) (sym adds.are) (split_within file filesystems fault adds.added adds.tell))

-- so has what is told of a line of a site
line_in_within : (read : Result (List Mount) TableFault) (profile : Profile) (source : Source) (fault : LineFault Rule) (site_tables : SiteTables) (all : List Told) → TellLineIn read profile source fault site_tables all → All Within all
line_in_within (Ok table) profile source fault site_tables all tells =
    same_within source fault (find (is_same fault) (text_faults (rows_with profile table site_tables) (scope_of source.path.now table) source.text.now)) all tells
line_in_within (Err bad) profile source fault site_tables all none = subst (λ (ones : List Told). All Within ones) (sym none) (All-nil Within)

line_by_within : (read : Result SiteTables SiteFault) (profile : Profile) (sources : SiteSources) (fault : LineFault Rule) (all : List Told) → TellLineBy read profile sources fault all → All Within all
line_by_within (Ok site_tables) profile sources fault all tells =
    line_in_within (read_filesystems sources.filesystems.text.now) profile sources.whole.exports fault site_tables all tells
line_by_within (Err bad) profile sources fault all none = subst (λ (ones : List Told). All Within ones) (sym none) (All-nil Within)

pub line_slices : (profile : Profile) (sources : SiteSources) (fault : LineFault Rule) (findings : List Finding) → Adds (TellLine profile sources fault) [] findings → HaveSlices findings
line_slices profile sources fault findings adds =
    slices findings (subst (λ (ones : List Told). All Within ones) (sym adds.are)
    (line_by_within (tables_of sources.whole.tables) profile sources fault adds.added adds.tell))

-- and what is told of the lines that these are about
pub odds_slices : (source : Source) (odds : List OddLine) (findings : List Finding) → Adds (TellInOrder source odds) [] findings → HaveSlices findings
odds_slices source odds findings adds =
    slices findings (subst (λ (ones : List Told). All Within ones) (sym adds.are) (odds_within source odds adds.added adds.tell))

-- the fault that is found among others is told alone
pub add_same : (source : Source) (fault : LineFault Rule) (faults : List PlacedFault) (one : PlacedFault) (old new : List Finding) → Some one ≡ find (λ placed. is_same fault placed.fault) faults → All (IsPlaced source.text.now) faults → map told new ≡ map told old ++ tell_line source one ∷ [] → Adds (TellOneOf source fault (map (λ placed. placed.fault) faults)) old new
add_same source fault faults one old new is placed are =
    let same : Some one.fault ≡ find (is_same fault) (map (λ placed. placed.fault) faults) = ap (option_map (λ (placed : PlacedFault). placed.fault)) is ∙ find_map (is_same fault) (λ (placed : PlacedFault). placed.fault) faults in
    let at : IsPlaced source.text.now one = subst (λ (o : Option PlacedFault). IfSome o (IsPlaced source.text.now)) (sym is) (found (IsPlaced source.text.now) (λ placed. is_same fault placed.fault) faults placed) in
    record {
      added = tell_line source one ∷ [];
      tell = subst (λ (o : Option (LineFault Rule)). TellIfSame source fault o (tell_line source one ∷ [])) same
          (record { placed = one ∷ []; same = refl; places = All-cons (IsPlaced source.text.now) one [] at (All-nil (IsPlaced source.text.now)); are = refl });
      are = are;
    }

-- a fault that is not among others is told on its line
pub add_on_line : (source : Source) (fault : LineFault Rule) (faults : List PlacedFault) (old new : List Finding) → None ≡ find (λ placed. is_same fault placed.fault) faults → Adds (TellInOrder source (odd_of_fault fault ∷ [])) old new → Adds (TellOneOf source fault (map (λ placed. placed.fault) faults)) old new
add_on_line source fault faults old new is adds =
    let none : None ≡ find (is_same fault) (map (λ placed. placed.fault) faults) = ap (option_map (λ (placed : PlacedFault). placed.fault)) is ∙ find_map (is_same fault) (λ (placed : PlacedFault). placed.fault) faults in
    record {
      added = adds.added;
      tell = subst (λ (o : Option (LineFault Rule)). TellIfSame source fault o adds.added) none adds.tell;
      are = adds.are;
    }

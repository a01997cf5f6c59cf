-- The site that first revisions write: its faults are those of the site that they are made of.
use Rattle.std.proofs.Common.{◌≡◌, ◌∙◌, sym, ap, subst, refl, ℕ, ◌+◌, ◌++◌, Bool, true, false, cond, List, [], ◌∷◌, Option, Some, None, Result, Ok, Err, find, map, slice_get, codes}
use Rattle.std.specs.List.{AllByRecursion}
use Rattle.std.specs.Option.{option_map, option_map_or}
use Rattle.std.specs.Result.{result_unwrap_or}
use Rattle.std.specs.Str.{bytes_eq}
use Rattle.std.proofs.lemmas.Bool.{false≢true}
use Rattle.std.proofs.lemmas.Slice.Eq.{bytes_eq-Decides}
use Rattle.desk_text.specs.Path.{path_text}
use Rattle.desk_tables.specs.Custodians.{read_custodians}
use Rattle.desk_tables.specs.FileSystemsText.{read_filesystems}
use Rattle.desk_tables.specs.Rules.{TableFault}
use Rattle.desk_tables.specs.declared.custodians.Custodian.{Custodian}
use Rattle.desk_tables.specs.declared.filesystems.Mount.{Mount}
use Rattle.desk_policy.specs.Parsing.{ExportsFile, content_with, file_with, if_listed, in_file, read_after_filesystems, read_exports, read_files, read_site, read_site_tables, then_read, unless_unlisted}
use Rattle.desk_policy.specs.Policy.{Content}
use Rattle.desk_policy.specs.Site.{SiteTexts, no_exports}
use Rattle.desk_policy.specs.SiteFault.{contradiction_fault, exports_name, line_fault, table_fault}
use Rattle.desk_policy.specs.UnlistedCustodians.{unlisted_line}
use Rattle.desk_policy.specs.View.{HasFault, IsFaultOf}
use Rattle.desk_policy.specs.declared.contradiction.Contradiction.{Contradiction}
use Rattle.desk_policy.specs.declared.parsing.SiteTables.{SiteTables}
use Rattle.desk_policy.specs.declared.site.ExportsText.{ExportsText}
use Rattle.desk_policy.specs.declared.site_fault.SiteFault.{SiteFault}
use Rattle.desk_policy.specs.SiteFile.{is_of_seven}
use Rattle.desk_core.specs.Head.{Revision, newest_in}
use Rattle.desk_core.specs.Site.{IsConsistent, IsSound, revision_text, site_in}
use Rattle.desk_store.specs.Create.{IsFaultOfSeven, by_second, mounts_of, revision_of_mount, revisions_with}

-- a site with other exports texts
abbrev pub with_exports : SiteTexts → (List ℕ → ExportsText) → SiteTexts
with_exports texts exports = record texts { exports = exports }

-- the exports text that the first revisions of mount points have
abbrev pub listed_text : SiteTexts → List Mount → List ℕ → ExportsText
listed_text texts ms mount = option_map_or revision_text (find (λ (r : Revision). bytes_eq r.file (codes "exports:" ++ mount)) (map (revision_of_mount texts) ms)) no_exports

pub site_is : (texts : SiteTexts) (ms : List Mount) → site_in (newest_in (revisions_with texts ms)) ≡ with_exports texts (listed_text texts ms)
unfolding newest_in
site_is texts ms = refl

abbrev Agree : SiteTexts → (List ℕ → ExportsText) → Mount → Type 0
Agree texts exports m = exports (path_text m.path) ≡ texts.exports (path_text m.path)

chosen : (texts : SiteTexts) (m x : Mount) (rest : Option Revision) (b : Bool) → bytes_eq (exports_name m.path) (exports_name x.path) ≡ b
    → option_map_or revision_text rest no_exports ≡ (by_second texts).exports (path_text x.path)
    → option_map_or revision_text (cond b (Some (revision_of_mount texts m)) rest) no_exports ≡ (by_second texts).exports (path_text x.path)
chosen texts m x rest true is h = ap (by_second texts).exports ((bytes_eq-Decides (path_text m.path) (path_text x.path)).0 is)
chosen texts m x rest false is h = h

weaker : (texts : SiteTexts) (m : Mount) (ms others : List Mount) → AllByRecursion (Agree (by_second texts) (listed_text texts ms)) others → AllByRecursion (Agree (by_second texts) (listed_text texts (m ∷ ms))) others
weaker texts m ms [] h = tt
weaker texts m ms (x ∷ others) h = (chosen texts m x _ (bytes_eq (exports_name m.path) (exports_name x.path)) refl h.0, weaker texts m ms others h.1)

-- it is that of the site by profile 2, for each of the mount points
pub listed_is : (texts : SiteTexts) (ms : List Mount) → AllByRecursion (Agree (by_second texts) (listed_text texts ms)) ms
listed_is texts [] = tt
listed_is texts (m ∷ ms) =
    let own : bytes_eq (exports_name m.path) (exports_name m.path) ≡ true = (bytes_eq-Decides (exports_name m.path) (exports_name m.path)).1 refl in
    let rest = find (λ (r : Revision). bytes_eq r.file (exports_name m.path)) (map (revision_of_mount texts) ms) in
    (ap (λ b. option_map_or revision_text (cond b (Some (revision_of_mount texts m)) rest) no_exports) own, weaker texts m ms ms (listed_is texts ms))

then_same : {X Y : Type 0} (r : Result X SiteFault) (f g : X → Result Y SiteFault) → ((x : X) → f x ≡ g x) → then_read r f ≡ then_read r g
then_same (Ok x) f g h = h x
then_same (Err fault) f g h = refl

file_same : (texts : SiteTexts) (exports : List ℕ → ExportsText) (table : List Mount) (tables : SiteTables) (fs : ℕ) (m : Mount) → Agree texts exports m
    → read_exports (with_exports texts exports) table tables fs m.path ≡ read_exports texts table tables fs m.path
file_same texts exports table tables fs m h = ap (λ text. read_exports (with_exports texts (λ _. text)) table tables fs m.path) h

files_same : (texts : SiteTexts) (exports : List ℕ → ExportsText) (table : List Mount) (tables : SiteTables) (fs : ℕ) (ms : List Mount) → AllByRecursion (Agree texts exports) ms
    → read_files (with_exports texts exports) table tables fs ms ≡ read_files texts table tables fs ms
files_same texts exports table tables fs [] h = refl
files_same texts exports table tables fs (m ∷ ms) h =
    let first = file_same texts exports table tables fs m h.0 in
    let rest = files_same texts exports table tables (fs + 1) ms h.1 in
    ap (λ r. then_read r (λ file. then_read (read_files (with_exports texts exports) table tables (fs + 1) ms) (λ files. Ok (file ∷ files)))) first
    ∙ ap (λ r. then_read (read_exports texts table tables fs m.path) (λ file. then_read r (λ files. Ok (file ∷ files)))) rest

after_same : (texts : SiteTexts) (exports : List ℕ → ExportsText) (table : List Mount) → AllByRecursion (Agree texts exports) table
    → read_after_filesystems (with_exports texts exports) table ≡ read_after_filesystems texts table
after_same texts exports table h =
    then_same (read_site_tables texts) _ _ (λ tables. ap (λ r. then_read r (λ files. Ok (content_with table tables files))) (files_same texts exports table tables 0 table h))

unlisted_same : (table : List Mount) (unlisted : Option ℕ) (f g : List Mount → Result Content SiteFault) → f table ≡ g table
    → then_read (in_file (table_fault (codes "filesystems")) (unless_unlisted table unlisted)) f ≡ then_read (in_file (table_fault (codes "filesystems")) (unless_unlisted table unlisted)) g
unlisted_same table None f g h = h
unlisted_same table (Some line) f g h = refl

table_same : (custodians : List Custodian) (read : Result (List Mount) TableFault) (f g : List Mount → Result Content SiteFault) → f (result_unwrap_or read []) ≡ g (result_unwrap_or read [])
    → then_read (in_file (table_fault (codes "filesystems")) (if_listed custodians read)) f ≡ then_read (in_file (table_fault (codes "filesystems")) (if_listed custodians read)) g
table_same custodians (Ok table) f g h = unlisted_same table (unlisted_line custodians table) f g h
table_same custodians (Err fault) f g h = refl

-- a site is read by the exports texts of its listed mount points alone
pub read_same : (texts : SiteTexts) (exports : List ℕ → ExportsText) → AllByRecursion (Agree texts exports) (mounts_of texts) → read_site (with_exports texts exports) ≡ read_site texts
unfolding read_site
read_same texts exports h =
    then_same (in_file (table_fault (codes "custodians")) (read_custodians texts.files.custodians)) _ _ (λ custodians.
    table_same custodians (read_filesystems texts.files.filesystems) (read_after_filesystems (with_exports texts exports)) (read_after_filesystems texts) (after_same texts exports (mounts_of texts) h))

-- the first revisions of all files write a site that reads as theirs by profile 2
pub site_reads : (texts : SiteTexts) → read_site (site_in (newest_in (revisions_with texts (mounts_of texts)))) ≡ read_site (by_second texts)
site_reads texts = ap read_site (site_is texts (mounts_of texts)) ∙ read_same (by_second texts) (listed_text texts (mounts_of texts)) (listed_is texts (mounts_of texts))

pub fault_of_site : (texts : SiteTexts) (fault : SiteFault) → HasFault (site_in (newest_in (revisions_with texts (mounts_of texts)))) fault → HasFault (by_second texts) fault
fault_of_site texts fault h = subst (λ read. IsFaultOf read fault) (site_reads texts) h

-- a fault of one of the seven in the one reading is the fault of the other
abbrev TellsSeven : Result Content SiteFault → Result Content SiteFault → Type 0
TellsSeven one other = (fault : SiteFault) → IsFaultOf one fault → is_of_seven fault.file ≡ true → other ≡ Err fault

record NotOfSeven {X : Type 0} (r : Result X SiteFault) : Type 0 where
  not : (fault : SiteFault) → r ≡ Err fault → is_of_seven fault.file ≡ false

good : {X : Type 0} (x : X) → NotOfSeven {X = X} (Ok x)
good x = record { not = λ fault e. absurd (cc) }

then_not : {X Y : Type 0} (r : Result X SiteFault) (f : X → Result Y SiteFault) → NotOfSeven r → ((x : X) → NotOfSeven (f x)) → NotOfSeven (then_read r f)
then_not (Ok x) f one next = next x
then_not (Err fault) f one next = record { not = λ other e. let same : fault ≡ other = cc in one.not other (ap Err same) }

in_not : {X F : Type 0} (fault_of : F → SiteFault) (r : Result X F) → ((e : F) → is_of_seven (fault_of e).file ≡ false) → NotOfSeven (in_file fault_of r)
in_not fault_of (Ok x) h = good x
in_not fault_of (Err e) h = record { not = λ fault is. let same : fault_of e ≡ fault = cc in ap (λ (f : SiteFault). is_of_seven f.file) (sym same) ∙ h e }

file_not : {X Y F : Type 0} (fault_of : F → SiteFault) (r : Result X F) (f : X → Y) → ((e : F) → is_of_seven (fault_of e).file ≡ false) → NotOfSeven {X = Y} (then_read (in_file fault_of r) (λ x. Ok (f x)))
file_not fault_of r f h = then_not (in_file fault_of r) (λ x. Ok (f x)) (in_not fault_of r h) (λ x. good (f x))

exports_not : (texts : SiteTexts) (table : List Mount) (tables : SiteTables) (fs : ℕ) (mount : List (List ℕ)) → NotOfSeven (read_exports texts table tables fs mount)
exports_not texts table tables fs mount = file_not (line_fault (exports_name mount)) _ (file_with tables (exports_name mount)) (λ e. refl)

files_not : (texts : SiteTexts) (table : List Mount) (tables : SiteTables) (fs : ℕ) (ms : List Mount) → NotOfSeven (read_files texts table tables fs ms)
files_not texts table tables fs [] = good []
files_not texts table tables fs (m ∷ ms) =
    then_not (read_exports texts table tables fs m.path) _ (exports_not texts table tables fs m.path)
    (λ file. then_not (read_files texts table tables (fs + 1) ms) _ (files_not texts table tables (fs + 1) ms) (λ files. good (file ∷ files)))

named_not : (mount : Option Mount) (found : Contradiction) (fault : SiteFault) → option_map (λ (m : Mount). contradiction_fault (exports_name m.path) found) mount ≡ Some fault → is_of_seven fault.file ≡ true → ⊥
named_not None found fault e seven = absurd (cc)
named_not (Some m) found fault e seven =
    let same : contradiction_fault (exports_name m.path) found ≡ fault = cc in
    let file : is_of_seven (exports_name m.path) ≡ is_of_seven fault.file = ap (λ (f : SiteFault). is_of_seven f.file) same in
    false≢true (file ∙ seven)

content_tells : (table : List Mount) (tables : SiteTables) (r : Result (List ExportsFile) SiteFault) (other : Result Content SiteFault) → NotOfSeven r → TellsSeven (then_read r (λ files. Ok (content_with table tables files))) other
content_tells table tables (Ok files) other not fault is seven = absurd (named_not (slice_get table is.fs) is.found fault is.named seven)
content_tells table tables (Err e) other not fault is seven = absurd (false≢true (sym (not.not e refl) ∙ ap (λ (f : SiteFault). is_of_seven f.file) (sym is) ∙ seven))

then_tells : {X : Type 0} (r : Result X SiteFault) (f g : X → Result Content SiteFault) → ((x : X) → TellsSeven (f x) (g x)) → TellsSeven (then_read r f) (then_read r g)
then_tells (Ok x) f g h = λ fault is seven. h x fault is seven
then_tells (Err e) f g h = λ fault is seven. ap Err (sym is)

pub seven_tells : (texts : SiteTexts) (one other : List ℕ → ExportsText) → TellsSeven (read_site (with_exports texts one)) (read_site (with_exports texts other))
unfolding read_site
seven_tells texts one other =
    then_tells (in_file (table_fault (codes "custodians")) (read_custodians texts.files.custodians)) _ _ (λ custodians.
    then_tells (in_file (table_fault (codes "filesystems")) (if_listed custodians (read_filesystems texts.files.filesystems))) _ _ (λ table.
    then_tells (read_site_tables texts) _ _ (λ tables.
    content_tells table tables (read_files (with_exports texts one) table tables 0 table) _ (files_not (with_exports texts one) table tables 0 table))))

-- the first revisions of the seven files alone write a site with the faults of the seven
pub seven_fault : (texts : SiteTexts) (fault : SiteFault) → HasFault (site_in (newest_in (revisions_with texts []))) fault → is_of_seven fault.file ≡ true → HasFault (by_second texts) fault
seven_fault texts fault h seven =
    let read : read_site (by_second texts) ≡ Err fault = seven_tells texts (listed_text texts []) (by_second texts).exports fault (subst (λ site. HasFault site fault) (site_is texts []) h) seven in
    subst (λ r. IsFaultOf r fault) (sym read) refl

seven_read : (texts : SiteTexts) (fault : SiteFault) → IsFaultOfSeven texts fault → read_site (site_in (newest_in (revisions_with texts []))) ≡ Err fault
seven_read texts fault h = ap read_site (site_is texts []) ∙ seven_tells texts (by_second texts).exports (listed_text texts []) fault h.0 h.1

-- where that site is consistent, or has a fault of another file, no fault is one of the seven
pub no_seven_fault : (texts : SiteTexts) → IsConsistent (site_in (newest_in (revisions_with texts []))) → (fault : SiteFault) → IsFaultOfSeven texts fault → ⊥
no_seven_fault texts sound fault h = subst IsSound (seven_read texts fault h) sound

pub other_fault : (texts : SiteTexts) (found : SiteFault) → HasFault (site_in (newest_in (revisions_with texts []))) found → is_of_seven found.file ≡ false → (fault : SiteFault) → IsFaultOfSeven texts fault → ⊥
other_fault texts found has not fault h =
    let same : found ≡ fault = subst (λ r. IsFaultOf r found) (seven_read texts fault h) has in
    false≢true (sym not ∙ ap (λ (f : SiteFault). is_of_seven f.file) same ∙ h.1)

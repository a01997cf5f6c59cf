-- The first revisions of a site are the history of a site.
use Rattle.std.proofs.Common.{◌≡◌, ◌≢◌, ◌∙◌, sym, ap, subst, inl, inr, refl, ℕ, suc, ◌+◌, ◌-◌, ◌<◌, ◌≤◌, ◌++◌, Bool, true, false, cond, List, [], ◌∷◌, Option, Some, None, Ok, Result, Err, All, filter, find, map, length, get_or, slice_get, take, codes, arith}
use Rattle.std.specs.List.{AllByRecursion, cons_option, filter_map, range_with_len}
use Rattle.std.specs.Ordering.{is_eq, is_lt, nat_cmp}
use Rattle.std.specs.declared.cmp.Ordering.{Ordering}
use Rattle.std.specs.declared.cmp.Ordering.TheVariants.{Less, Equal, Greater}
use Rattle.std.specs.Cmp.Lexicographic.{slice_cmp}
use Rattle.std.specs.Result.{result_unwrap_or}
use Rattle.std.specs.Str.{IsUtf8, bytes_eq}
use Rattle.std.proofs.Math.Path.{fun_ext}
use Rattle.std.proofs.lemmas.Bool.{cases_Bool, ltb-false}
use Rattle.std.proofs.lemmas.List.{map_push, take_more}
use Rattle.std.proofs.lemmas.List.Elements.{All-from_recursion, All-push, recursion_from_All}
use Rattle.std.proofs.lemmas.Map.Text.{is_eq-slice_cmp}
use Rattle.std.proofs.lemmas.Slice.Eq.{bytes_eq-Decides}
use Rattle.desk_text.specs.Path.{path_text, read_path}
use Rattle.desk_tables.specs.FileSystems.{AreAscending, is_before}
use Rattle.desk_tables.specs.FileSystemsText.{read_filesystems}
use Rattle.desk_tables.specs.Laws.{MountPointsReadBack, TablesAreInOrder}
use Rattle.desk_tables.specs.Rules.{TableFault}
use Rattle.desk_tables.specs.declared.filesystems.Mount.{Mount}
use Rattle.desk_policy.specs.Site.{SiteTexts}
use Rattle.desk_policy.specs.SiteFault.{exports_name}
use Rattle.desk_core.specs.Head.{CanBeKept, Revision, newest_in, longest_revision}
use Rattle.desk_core.specs.History.{IsHistory, newest_of, revisions_of}
use Rattle.desk_core.specs.declared.entry.Entry.TheVariants.{Revised}
use Rattle.desk_core.specs.Judging.{IsFileName, seven}
use Rattle.desk_core.specs.Site.{IsConsistent, site_in}
use Rattle.desk_store.specs.Create.{IsUtf8Revision, first_long, first_long_mount, first_revisions, is_long, mounts_of, revision_of_mount, revision_of_seven, revisions_with, text_of_seven}
use Rattle.desk_store.specs.Desk.{IsSiteHistory, IsStorable, MayPend}
use Rattle.desk_store.specs.History.{approval_of}
use Rattle.desk_store.proofs.Revisions.{history_of, newest_by, newest_revised, none_of_revised, revised_back}

-- no two of these revisions are of one file
abbrev AreApart : List Revision → Type 0
AreApart [] = Unit {0}
AreApart (r ∷ rs) = AllByRecursion (λ (later : Revision). bytes_eq later.file r.file ≡ false) rs × AreApart rs

-- each is the first of its file, and nobody approved it
abbrev AreFirst : List Revision → Type 0
AreFirst rs = AllByRecursion (λ (r : Revision). (r.rev ≡ 1) × (r.approver ≡ None)) rs

-- those of a file
abbrev mine : List ℕ → List Revision → List Revision
mine file rs = filter (λ (r : Revision). bytes_eq r.file file) rs

none_of : (file : List ℕ) (rs : List Revision) → AllByRecursion (λ (r : Revision). bytes_eq r.file file ≡ false) rs → mine file rs ≡ []
none_of file [] h = refl
none_of file (r ∷ rs) h = ap (λ b. cond b (r ∷ mine file rs) (mine file rs)) h.0 ∙ none_of file rs h.1

abbrev Once : List ℕ → List Revision → Type 0
Once file rs =
    (map (λ (r : Revision). r.rev) (mine file rs) ≡ range_with_len 1 (length (mine file rs)))
    × (find (λ (r : Revision). bytes_eq r.file file) rs ≡ slice_get (mine file rs) (length (mine file rs) - 1))

abbrev Numbered : List Revision → Type 0
Numbered zs = map (λ (r : Revision). r.rev) zs ≡ range_with_len 1 (length zs)

-- a file has one revision, or none
once : (file : List ℕ) (rs : List Revision) → AreApart rs → AreFirst rs → Once file rs
once file [] apart first = (refl, refl)
once file (r ∷ rs) apart first = elim (cases_Bool (bytes_eq r.file file)) [
  | inl own ↦
      let same : r.file ≡ file = (bytes_eq-Decides r.file file).0 own in
      let none : mine file rs ≡ [] = none_of file rs (subst (λ f. AllByRecursion (λ (later : Revision). bytes_eq later.file f ≡ false) rs) same apart.0) in
      let one : mine file (r ∷ rs) ≡ r ∷ [] = ap (λ b. cond b (r ∷ mine file rs) (mine file rs)) own ∙ ap (λ zs. r ∷ zs) none in (
        subst Numbered (sym one) (ap (λ n. n ∷ []) first.0.0),
        ap (λ b. cond b (Some r) (find (λ (x : Revision). bytes_eq x.file file) rs)) own ∙ sym (ap (λ (zs : List Revision). slice_get zs (length zs - 1)) one),
      )
  | inr other ↦
      let rest = once file rs apart.1 first.1 in
      let same : mine file (r ∷ rs) ≡ mine file rs = ap (λ b. cond b (r ∷ mine file rs) (mine file rs)) other in (
        subst Numbered (sym same) rest.0,
        ap (λ b. cond b (Some r) (find (λ (x : Revision). bytes_eq x.file file) rs)) other ∙ rest.1 ∙ sym (ap (λ (zs : List Revision). slice_get zs (length zs - 1)) same),
      )
]

not_both : (o : Ordering) → is_lt o ≡ true → is_eq o ≡ true → ⊥
not_both Less lt eq = absurd (let e = eq in cc)
not_both Equal lt eq = absurd (let e = lt in cc)
not_both Greater lt eq = absurd (let e = lt in cc)

names_apart : (p q : List (List ℕ)) → is_before p q ≡ true → bytes_eq (exports_name q) (exports_name p) ≡ false
names_apart p q before = elim (cases_Bool (bytes_eq (exports_name q) (exports_name p))) [
  | inl own ↦
      let same : path_text q ≡ path_text p = (bytes_eq-Decides (path_text q) (path_text p)).0 own in
      let eq : is_eq (slice_cmp nat_cmp (path_text p) (path_text q)) ≡ true = is_eq-slice_cmp (path_text p) (path_text q) ∙ (bytes_eq-Decides (path_text p) (path_text q)).1 (sym same) in
      absurd (not_both (slice_cmp nat_cmp (path_text p) (path_text q)) before eq)
  | inr other ↦ other
]

others : (texts : SiteTexts) (m : Mount) (ms : List Mount) → AllByRecursion (λ (later : Mount). is_before m.path later.path ≡ true) ms
    → AllByRecursion (λ (later : Revision). bytes_eq later.file (exports_name m.path) ≡ false) (map (revision_of_mount texts) ms)
others texts m [] h = tt
others texts m (x ∷ ms) h = (names_apart m.path x.path h.0, others texts m ms h.1)

mounts_apart : (texts : SiteTexts) (ms : List Mount) → AreAscending ms → AreApart (map (revision_of_mount texts) ms)
mounts_apart texts [] h = tt
mounts_apart texts (m ∷ ms) h = (
  others texts m ms (recursion_from_All (λ (later : Mount). is_before m.path later.path ≡ true) ms (λ k d below. h 0 (suc k) d (omega arith) (omega arith))),
  mounts_apart texts ms (λ i j d lt within. h (suc i) (suc j) d (omega arith) (omega arith)),
)

-- an exports file has another name than one of the seven
unlike : (texts : SiteTexts) (file : List ℕ) (ms : List Mount) → ((rest : List ℕ) → bytes_eq (codes "exports:" ++ rest) file ≡ false)
    → AllByRecursion (λ (later : Revision). bytes_eq later.file file ≡ false) (map (revision_of_mount texts) ms)
unlike texts file [] h = tt
unlike texts file (m ∷ ms) h = (h (path_text m.path), unlike texts file ms h)

apart : (texts : SiteTexts) (ms : List Mount) → AreAscending ms → AreApart (revisions_with texts ms)
apart texts ms h =
    let custodians = unlike texts (codes "custodians") ms (λ rest. refl) in
    let filesystems = unlike texts (codes "filesystems") ms (λ rest. refl) in
    let hosts = unlike texts (codes "hosts") ms (λ rest. refl) in
    let networks = unlike texts (codes "networks") ms (λ rest. refl) in
    let passwd = unlike texts (codes "passwd") ms (λ rest. refl) in
    let group = unlike texts (codes "group") ms (λ rest. refl) in
    let netgroup = unlike texts (codes "netgroup") ms (λ rest. refl) in (
      (refl, (refl, (refl, (refl, (refl, (refl, custodians)))))),
      (
        (refl, (refl, (refl, (refl, (refl, filesystems))))),
        (
          (refl, (refl, (refl, (refl, hosts)))),
          ((refl, (refl, (refl, networks))), ((refl, (refl, passwd)), ((refl, group), (netgroup, mounts_apart texts ms h)))),
        ),
      ),
    )

firsts : (texts : SiteTexts) (ms : List Mount) → AreFirst (map (revision_of_mount texts) ms)
firsts texts [] = tt
firsts texts (m ∷ ms) = ((refl, refl), firsts texts ms)

all_first : (texts : SiteTexts) (ms : List Mount) → AreFirst (revisions_with texts ms)
all_first texts ms =
    let one : (◌≡◌ {A = ℕ} 1 1) × (◌≡◌ {A = Option (List ℕ)} None None) = (refl, refl) in
    (one, (one, (one, (one, (one, (one, (one, firsts texts ms)))))))

unapproved : (rs : List Revision) → AreFirst rs → filter_map approval_of rs ≡ []
unapproved [] first = refl
unapproved (r ∷ rs) first = rw (first.0.1, unapproved rs first.1) refl

-- nobody approved a first revision
pub none_approved : (texts : SiteTexts) → filter_map approval_of (first_revisions texts) ≡ []
none_approved texts = unapproved (first_revisions texts) (all_first texts (mounts_of texts))

pub is_history : (texts : SiteTexts) (ms : List Mount) → AreAscending ms → IsHistory (map Revised (revisions_with texts ms))
is_history texts ms h = history_of (revisions_with texts ms) (λ file. (once file (revisions_with texts ms) (apart texts ms h) (all_first texts ms)).0)

pub newest_first : (texts : SiteTexts) (ms : List Mount) → AreAscending ms → newest_in (revisions_with texts ms) ≡ newest_of (map Revised (revisions_with texts ms))
unfolding newest_in
newest_first texts ms h =
    let rs = revisions_with texts ms in
    let same : newest_in rs ≡ newest_by rs = fun_ext (λ file. (once file rs (apart texts ms h) (all_first texts ms)).1) in
    same ∙ sym (newest_revised rs)

all_false : {X : Type 0} (p : X → Bool) (xs : List X) → find p xs ≡ None → AllByRecursion (λ x. p x ≡ false) xs
all_false p [] h = tt
all_false p (x ∷ xs) h = elim (cases_Bool (p x)) [
  | inl own ↦ absurd (let e : Some x ≡ None = subst (λ b. cond b (Some x) (find p xs) ≡ None) own h in cc)
  | inr other ↦ (other, all_false p xs (subst (λ b. cond b (Some x) (find p xs) ≡ None) other h))
]

short : (text : List ℕ) → is_long text ≡ false → length text ≤ longest_revision
short text h = ltb-false longest_revision (length text) h

mounts_short : (texts : SiteTexts) (ms : List Mount) → AllByRecursion (λ (m : Mount). is_long (texts.exports (path_text m.path)).body ≡ false) ms
    → AllByRecursion (λ (r : Revision). length r.body ≤ longest_revision) (map (revision_of_mount texts) ms)
mounts_short texts [] h = tt
mounts_short texts (m ∷ ms) h = (short (texts.exports (path_text m.path)).body h.0, mounts_short texts ms h.1)

abbrev AreShort : List Revision → Type 0
AreShort rs = AllByRecursion (λ (r : Revision). length r.body ≤ longest_revision) rs

seven_short : (texts : SiteTexts) (more : List Revision) → first_long texts ≡ None → AreShort more → AreShort (map (revision_of_seven texts) seven ++ more)
seven_short texts more none rest =
    let s = all_false (λ file. is_long (text_of_seven texts file)) seven none in (
      short texts.files.custodians s.0,
      (
        short texts.files.filesystems s.1.0,
        (
          short texts.files.tables.hosts s.1.1.0,
          (short texts.files.tables.networks s.1.1.1.0, (short texts.files.tables.passwd s.1.1.1.1.0, (short texts.files.tables.group s.1.1.1.1.1.0, (short texts.files.tables.netgroup s.1.1.1.1.1.1.0, rest)))),
        ),
      ),
    )

all_short : (texts : SiteTexts) (ms : List Mount) → first_long texts ≡ None → first_long_mount texts ms ≡ None → AreShort (revisions_with texts ms)
all_short texts ms none rest = seven_short texts (map (revision_of_mount texts) ms) none (mounts_short texts ms (all_false (λ (m : Mount). is_long (texts.exports (path_text m.path)).body) ms rest))

kept : (rs : List Revision) → AreFirst rs → AreShort rs → AllByRecursion CanBeKept rs
kept [] first few = tt
kept (r ∷ rs) first few =
    let one : r.rev ≡ 1 = first.0.0 in
    let low : length r.body ≤ longest_revision = few.0 in
    (record { from = omega arith; to = omega arith; short = omega arith }, kept rs first.1 few.1)

pub can_be_kept : (texts : SiteTexts) (ms : List Mount) → first_long texts ≡ None → first_long_mount texts ms ≡ None → All CanBeKept (revisions_with texts ms)
can_be_kept texts ms none rest = All-from_recursion CanBeKept (revisions_with texts ms) (kept (revisions_with texts ms) (all_first texts ms) (all_short texts ms none rest))

abbrev AreNamed : List Revision → Type 0
AreNamed rs = AllByRecursion (λ (r : Revision). IsFileName r.file) rs

mounts_named : (texts : SiteTexts) (ms : List Mount) → AllByRecursion (λ (m : Mount). read_path (path_text m.path) ≡ Ok m.path) ms → AreNamed (map (revision_of_mount texts) ms)
mounts_named texts [] h = tt
mounts_named texts (m ∷ ms) h = (inr (m.path, h.0, refl), mounts_named texts ms h.1)

named : (texts : SiteTexts) (ms : List Mount) → AllByRecursion (λ (m : Mount). read_path (path_text m.path) ≡ Ok m.path) ms → AreNamed (revisions_with texts ms)
named texts ms h = (inl refl, (inl refl, (inl refl, (inl refl, (inl refl, (inl refl, (inl refl, mounts_named texts ms h)))))))

storable : (rs : List Revision) → AreNamed rs → AreFirst rs → AreShort rs → AllByRecursion IsUtf8Revision rs → AllByRecursion IsStorable rs
storable [] names first few utf8 = tt
storable (r ∷ rs) names first few utf8 =
    let one : r.rev ≡ 1 = first.0.0 in
    let approver = subst (λ (a : Option (List ℕ)). All IsUtf8 (cons_option a [])) (sym first.0.1) (All-from_recursion IsUtf8 [] tt) in
    (record { name = names.0; from = omega arith; rev = omega arith; file = utf8.0.file; author = utf8.0.author; approver = approver; body = utf8.0.body; short = few.0 }, storable rs names.1 first.1 few.1 utf8.1)

complete : (texts : SiteTexts) (ms : List Mount) → AllByRecursion (λ file. revisions_of file (map Revised (revisions_with texts ms)) ≢ []) seven
complete texts ms = (λ e. cc, (λ e. cc, (λ e. cc, (λ e. cc, (λ e. cc, (λ e. cc, (λ e. cc, tt)))))))

pub site_history : (texts : SiteTexts) (ms : List Mount) → AreAscending ms → All (λ (m : Mount). read_path (path_text m.path) ≡ Ok m.path) ms → first_long texts ≡ None → first_long_mount texts ms ≡ None
    → All IsUtf8Revision (revisions_with texts ms) → IsConsistent (site_in (newest_in (revisions_with texts ms))) → IsSiteHistory (map Revised (revisions_with texts ms))
site_history texts ms up back none rest utf8 sound =
    let rs = revisions_with texts ms in
    record {
      numbered = is_history texts ms up;
      each = subst (All IsStorable) (sym (revised_back rs)) (All-from_recursion IsStorable rs
          (storable rs (named texts ms (recursion_from_All (λ (m : Mount). read_path (path_text m.path) ≡ Ok m.path) ms back)) (all_first texts ms) (all_short texts ms none rest) (recursion_from_All IsUtf8Revision rs utf8)));
      pending = subst (All MayPend) (sym (none_of_revised rs)) (All-from_recursion MayPend [] tt);
      complete = All-from_recursion (λ file. revisions_of file (map Revised rs) ≢ []) seven (complete texts ms);
      consistent = subst (λ newest. IsConsistent (site_in newest)) (newest_first texts ms up) sound;
    }

-- what holds of the table of a text holds of the mount points that it lists
listed_so : (P : List Mount → Type 0) (read : Result (List Mount) TableFault) → P [] → ((table : List Mount) → read ≡ Ok table → P table) → P (result_unwrap_or read [])
listed_so P (Ok table) none h = h table refl
listed_so P (Err fault) none h = none

pub listed_ascend : TablesAreInOrder → (texts : SiteTexts) → AreAscending (mounts_of texts)
listed_ascend law texts = listed_so AreAscending (read_filesystems texts.files.filesystems) (λ i j d lt within. absurd (omega arith)) (λ table is. (law texts.files.filesystems table is).0)

pub listed_read_back : MountPointsReadBack → (texts : SiteTexts) → All (λ (m : Mount). read_path (path_text m.path) ≡ Ok m.path) (mounts_of texts)
listed_read_back law texts =
    listed_so (λ table. All (λ (m : Mount). read_path (path_text m.path) ≡ Ok m.path) table) (read_filesystems texts.files.filesystems) (λ k d below. absurd (omega arith)) (λ table is. law texts.files.filesystems table is)

-- the revision of one mount point more
pub add_mount : (texts : SiteTexts) (ms : List Mount) (i : ℕ) (m : Mount) (heads new : List Revision) (head : Revision) → i < length ms → m ≡ get_or ms i m → head ≡ revision_of_mount texts m → new ≡ heads ++ head ∷ []
    → IsUtf8Revision head → (heads ≡ revisions_with texts (take i ms)) × All IsUtf8Revision heads → (new ≡ revisions_with texts (take (i + 1) ms)) × All IsUtf8Revision new
add_mount texts ms i m heads new head below is made more utf8 h =
    let front = map (revision_of_seven texts) seven in
    let next : take (i + 1) ms ≡ take i ms ++ m ∷ [] = take_more ms i m below ∙ ap (λ x. take i ms ++ x ∷ []) (sym is) in
    let one : revisions_with texts (take i ms) ++ revision_of_mount texts m ∷ [] ≡ revisions_with texts (take i ms ++ m ∷ []) = ap (λ zs. front ++ zs) (sym (map_push (revision_of_mount texts) (take i ms) m)) in
    (more ∙ ap (λ xs. xs ++ head ∷ []) h.0 ∙ ap (λ x. revisions_with texts (take i ms) ++ x ∷ []) made ∙ one ∙ ap (revisions_with texts) (sym next), subst (All IsUtf8Revision) (sym more) (All-push IsUtf8Revision heads head h.1 utf8))

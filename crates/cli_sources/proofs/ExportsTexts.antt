-- Exports files that are read in turn and joined, for `exports_files`.
use Rattle.std.proofs.Common.{◌≡◌, ◌≢◌, ◌<◌, ◌++◌, ◌∙◌, ℕ, ◌+◌, ◌-◌, Bor, None, arith, codes, get_or, length, length-append, map, suc, take, zero, List, [], ◌∷◌, Option, Some, Result, Ok, Err, inl, inr, ap, append-nil, append_assoc, refl, subst, sym}
use Rattle.std.specs.String.{string_bytes}
use Rattle.std.proofs.lemmas.List.{get_or_at, map_more, take_at}
use Rattle.desk_joined.specs.Joining.{IsJoined, NamedText}
use Rattle.desk_joined.specs.declared.joining.Joined.{Joined}
use Rattle.desk_joined.proofs.More.{joined_more}
use Rattle.desk_findings.specs.declared.check_faults.Source.{Source}
use Rattle.cli_files.specs.Files.{HasTextIfGiven, Leaves}
use Rattle.cli_output.specs.declared.failure.Failure.{Failure}
use Rattle.cli_sources.specs.ExportsFiles.{IsWhole, IsWholeSource, and_file, named_texts}
use Rattle.cli_sources.specs.PrivateExportsFiles.{AddsInTurn, AddsOne, IsReadWhole, ReadsWholeText, first_text}
use Rattle.cli_sources.specs.InTurn.{ReadsTo}
use Rattle.cli_sources.specs.TableFiles.{given_path}
use Rattle.cli_sources.specs.TwoFiles.{first_among, last_path}
use Rattle.cli_sources.proofs.FilesInTurn.{fails_before, fails_on}

-- no file is added
pub none_added : (known left : Option (List ℕ)) (whole : Joined) (done : Unit {0}) → left ≡ known → AddsInTurn [] known left whole whole (Ok done)
none_added known left whole done same = ([], (same, λ before is. subst (λ (files : List NamedText). IsJoined files whole) (sym (append-nil before)) is))

-- one file is added
pub one_added : (argument path : List ℕ) (known left : Option (List ℕ)) (old new : Joined) (result : Result (Unit {0}) Failure)
    → AddsOne argument path known old new result → Leaves (Some path) known left → AddsInTurn ((argument, Some path) ∷ []) known left old new result
one_added argument path known left old new (Ok done) adds leaves =
    (adds.0 ∷ [], ((adds.1.0, (left, (leaves, refl))), λ before is. joined_more before (record { path = path; text = adds.0 }) old new is adds.1.1))
one_added argument path known left old new (Err failure) (inl lacks) leaves = inl (inl lacks)
one_added argument path known left old new (Err failure) (inr memory) leaves = inr memory

-- the first of some files has no text
pub one_fails : (argument path : List ℕ) (rest : List (List ℕ × Option (List ℕ))) (known left : Option (List ℕ)) (old new : Joined) (failure : Failure)
    → AddsOne argument path known old new (Err failure) → AddsInTurn ((argument, Some path) ∷ rest) known left old new (Err failure)
one_fails argument path rest known left old new failure (inl lacks) = inl (inl lacks)
one_fails argument path rest known left old new failure (inr memory) = inr memory

-- what stands before an element of a list, and behind it
pub parted : {X Y : Type 0} (f : X → Y) (xs : List X) (i : ℕ) (d : X) → i < length xs → (rest : List Y) × (map f xs ≡ map f (take i xs) ++ f (get_or xs i d) ∷ rest)
parted f [] i d within = absurd (omega (arith, within))
parted f (x ∷ xs) zero d within = (map f xs, refl)
parted f (x ∷ xs) (suc i) d within = let more = parted f xs i d (omega (arith, within)) in (more.0, ap (λ ys. f x ∷ ys) more.1)

-- files that are read in turn, and others behind them
reads_on : (files rest : List (List ℕ × Option (List ℕ))) (known middle left : Option (List ℕ)) (texts more : List (List ℕ)) → ReadsTo files known texts middle → ReadsTo rest middle more left
    → ReadsTo (files ++ rest) known (texts ++ more) left
reads_on [] rest known middle left [] more is reads = subst (λ (k : Option (List ℕ)). ReadsTo rest k more left) is reads
reads_on [] rest known middle left (text ∷ texts) more none reads = absurd none
reads_on (file ∷ files) rest known middle left [] more none reads = absurd none
reads_on (file ∷ files) rest known middle left (text ∷ texts) more to reads =
    (to.0, (to.1.0, (to.1.1.0, reads_on files rest to.1.0 middle left texts more to.1.1.1 reads)))

named_on : (files rest : List (List ℕ × Option (List ℕ))) (known middle : Option (List ℕ)) (texts more : List (List ℕ)) → ReadsTo files known texts middle
    → named_texts (files ++ rest) (texts ++ more) ≡ named_texts files texts ++ named_texts rest more
named_on [] rest known middle [] more is = refl
named_on [] rest known middle (text ∷ texts) more none = absurd none
named_on (file ∷ files) rest known middle [] more none = absurd none
named_on (file ∷ files) rest known middle (text ∷ texts) more to =
    ap (λ (named : List NamedText). first_text file text ∷ named) (named_on files rest to.1.0 middle texts more to.1.1.1)

module _ (files rest : List (List ℕ × Option (List ℕ))) (known middle left : Option (List ℕ)) (old between new : Joined) where
  -- files are added, and others behind them
  pub more_added : (done : Unit {0}) (result : Result (Unit {0}) Failure) → AddsInTurn files known middle old between (Ok done) → AddsInTurn rest middle left between new result
      → AddsInTurn (files ++ rest) known left old new result
  more_added done (Ok end) first more = (
    first.0 ++ more.0,
    (
      reads_on files rest known middle left first.0 more.0 first.1.0 more.1.0,
      λ before is. subst (λ (named : List NamedText). IsJoined named new)
          (append_assoc before (named_texts files first.0) (named_texts rest more.0)
          ∙ ap (λ (named : List NamedText). before ++ named) (sym (named_on files rest known middle first.0 more.0 first.1.0)))
          (more.1.1 (before ++ named_texts files first.0) (first.1.1 before is)),
    ),
  )
  more_added done (Err failure) first (inl fails) = inl (fails_on files rest known middle first.0 failure first.1.0 fails)
  more_added done (Err failure) first (inr memory) = inr memory

  -- one of the first cannot be added
  pub none_behind : (failure : Failure) → AddsInTurn files known middle old between (Err failure) → AddsInTurn (files ++ rest) known left old new (Err failure)
  none_behind failure (inl fails) = inl (fails_before files rest known failure fails)
  none_behind failure (inr memory) = inr memory

module _ (first : List ℕ × Option (List ℕ)) (more : List (List ℕ × Option (List ℕ))) (known left : Option (List ℕ)) (text : List ℕ) (whole : Joined) where
  -- a text that is read alone
  pub read_alone : HasTextIfGiven first.0 first.1 known text → Leaves first.1 known left → more ≡ [] → string_bytes whole.text ≡ text → whole.origins ≡ []
      → IsReadWhole (first ∷ more) known left whole
  read_alone has leaves none is origins =
      subst (λ (files : List (List ℕ × Option (List ℕ))). IsReadWhole (first ∷ files) known left whole) (sym none)
      (record { texts = text ∷ []; read = (has, (left, (leaves, refl))); are = (is, origins) })

-- several texts
several : (first : List ℕ × Option (List ℕ)) (more : List (List ℕ × Option (List ℕ))) (known left : Option (List ℕ)) (text : List ℕ) (texts : List (List ℕ)) (whole : Joined) → more ≢ []
    → ReadsTo more known texts left → IsJoined (first_text first text ∷ named_texts more texts) whole → IsWhole (named_texts (first ∷ more) (text ∷ texts)) whole
several first [] known left text texts whole some to is = absurd (some refl)
several first (next ∷ more) known left text [] whole some none is = absurd none
several first (next ∷ more) known left text (second ∷ texts) whole some to is = is

module _ (first : List ℕ × Option (List ℕ)) (more : List (List ℕ × Option (List ℕ))) (known middle left : Option (List ℕ)) (text : List ℕ) (begun whole : Joined) where
  -- a text, and others behind it
  pub read_several : (done : Unit {0}) → HasTextIfGiven first.0 first.1 known text → Leaves first.1 known middle → more ≢ [] → IsJoined (first_text first text ∷ []) begun
      → AddsInTurn more middle left begun whole (Ok done) → IsReadWhole (first ∷ more) known left whole
  read_several done has leaves some is added = record {
    texts = text ∷ added.0;
    read = (has, (middle, (leaves, added.1.0)));
    are = several first more middle left text added.0 whole some added.1.0 (added.1.1 (first_text first text ∷ []) is);
  }

  -- one of the others has no text
  pub several_fail : (failure : Failure) → HasTextIfGiven first.0 first.1 known text → Leaves first.1 known middle → AddsInTurn more middle left begun whole (Err failure)
      → ReadsWholeText (first ∷ more) known left (Err failure)
  several_fail failure has leaves (inl fails) = inl (inr (text, middle, (has, (leaves, fails))))
  several_fail failure has leaves (inr memory) = inr memory

-- the files of `--and`, one by one
abbrev pub file_of : Bor (List ℕ) → List ℕ × Option (List ℕ)
file_of word = and_file word.now

pub files_of_words : (words : List (Bor (List ℕ))) → map file_of words ≡ map and_file (map (λ (word : Bor (List ℕ)). word.now) words)
files_of_words [] = refl
files_of_words (word ∷ words) = ap (λ (files : List (List ℕ × Option (List ℕ))). file_of word ∷ files) (files_of_words words)

module _ (files : List (Bor (List ℕ))) (i : ℕ) (d : Bor (List ℕ)) (known middle left : Option (List ℕ)) (old between new : Joined) where
  -- the next file is added
  pub next_added : i < length files → AddsInTurn (map file_of (take i files)) known middle old between (Ok tt) → AddsOne (codes "--and") (get_or files i d).now middle between new (Ok tt)
      → Leaves (Some (get_or files i d).now) middle left → AddsInTurn (map file_of (take (i + 1) files)) known left old new (Ok tt)
  next_added within first adds leaves =
      subst (λ (done : List (List ℕ × Option (List ℕ))). AddsInTurn done known left old new (Ok tt)) (sym (map_more file_of files i d within))
      (more_added (map file_of (take i files)) (file_of (get_or files i d) ∷ []) known middle left old between new tt (Ok tt) first
      (one_added (codes "--and") (get_or files i d).now middle left between new (Ok tt) adds leaves))

  -- the next file has no text
  pub next_fails : (failure : Failure) → i < length files → AddsInTurn (map file_of (take i files)) known middle old between (Ok tt) → AddsOne (codes "--and") (get_or files i d).now middle between new (Err failure)
      → AddsInTurn (map file_of files) known left old new (Err failure)
  next_fails failure within first adds =
      let parts = parted file_of files i d within in
      subst (λ (all : List (List ℕ × Option (List ℕ))). AddsInTurn all known left old new (Err failure)) (sym parts.1)
      (more_added (map file_of (take i files)) (file_of (get_or files i d) ∷ parts.0) known middle left old between new tt (Err failure) first
      (one_fails (codes "--and") (get_or files i d).now parts.0 middle left between new failure adds))

-- what is lent of a whole is told by the path of the first file
pub whole_source : (first : List ℕ × Option (List ℕ)) (more : List (List ℕ × Option (List ℕ))) (texts : List (List ℕ)) (whole : Joined) (source : Source) → IsWhole (named_texts (first ∷ more) texts) whole
    → source.path.now ≡ given_path first → source.text.now ≡ string_bytes whole.text → source.origins.now ≡ whole.origins → IsWholeSource (named_texts (first ∷ more) texts) source
whole_source first more [] whole source none path text origins = absurd none
whole_source first more (one ∷ texts) whole source is path text origins = by (named_texts more texts) is
  where
    by : (named : List NamedText) → IsWhole (first_text first one ∷ named) whole → IsWholeSource (first_text first one ∷ named) source
    by [] alone = (path, text ∙ alone.0, origins ∙ alone.1)
    by (next ∷ named) joined = (path, text ∙ joined.text, origins ∙ joined.origins)

-- behind five tables and some exports files stands one file more
module _ (a b c d e : List ℕ × Option (List ℕ)) (exports : List (List ℕ × Option (List ℕ))) (last : List ℕ × Option (List ℕ)) where
  pub all_but_last : first_among (a ∷ b ∷ c ∷ d ∷ e ∷ (exports ++ last ∷ [])) ≡ exports
  all_but_last = take_at exports (last ∷ []) (length (a ∷ b ∷ c ∷ d ∷ e ∷ (exports ++ last ∷ [])) - 6) (omega (arith, length-append exports (last ∷ [])))

  pub last_of_all : last_path (a ∷ b ∷ c ∷ d ∷ e ∷ (exports ++ last ∷ [])) ≡ given_path last
  last_of_all =
      ap given_path (get_or_at (a ∷ b ∷ c ∷ d ∷ e ∷ exports) last [] ([], None) (length (a ∷ b ∷ c ∷ d ∷ e ∷ (exports ++ last ∷ [])) - 1) (omega (arith, length-append exports (last ∷ []))))

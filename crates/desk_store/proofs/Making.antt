-- What the statements that make a desk's tables do, one after another, within a transaction.
use Rattle.std.proofs.Common.{◌≡◌, ◌≢◌, ◌∙◌, sym, ap, subst, inl, inr, refl, ℕ, pos, ◌-◌, ◌<◌, ◌++◌, ◌&&◌, Bool, true, false, not, ◌||◌, List, [], ◌∷◌, Option, Some, None, Ok, length, map, codes, arith}
use Rattle.std.specs.Prelude.{is_some, slice_range}
use Rattle.std.specs.List.{AllByRecursion, list_any}
use Rattle.std.proofs.lemmas.List.{take_all}
use Rattle.std.proofs.lemmas.List.Folds.{list_any-append}
use Rattle.sqlite.specs.Change.{created, next_tree}
use Rattle.sqlite.specs.Command.TheVariants.{CreateTable}
use Rattle.sqlite.specs.Does.{lacks_sequence}
use Rattle.sqlite.specs.Effect.{Database, IsDatabase, SparesFrozen}
use Rattle.sqlite.specs.Listing.{understood}
use Rattle.sqlite.specs.Rows.{sequence}
use Rattle.sqlite.specs.Schema.{Schema}
use Rattle.sqlite.specs.State.{State, Writes, mode_of}
use Rattle.sqlite.specs.Table.{Table}
use Rattle.sqlite.specs.declared.types.Value.TheVariants.{Int}
use Rattle.sqlite.proofs.Callers.{IsPlain, command_of, runs_as, statement_of}
use Rattle.sqlite_catalog.specs.Calls.{CreatesTable}
use Rattle.sqlite_catalog.specs.Listing.{automatic}
use Rattle.std.specs.Fmt.{digits}
use Rattle.sqlite_schema.specs.Names.{same_name, table_named}
use Rattle.desk_store.specs.Create.{HasLaterRoom, HasRoom, LaterAreMade, MakesEmpty, MakesLater, MakesRoom, Ran, insert_version, with_four, with_meta}
use Rattle.desk_schema.specs.Tables.{Declares, HasFirstTables, HasTables, IsFree, approval_table, are_referred, create_approval, create_file_rev, create_meta, create_proposal, file_rev_table, meta_table, proposal_table, table_in}
use Rattle.desk_store.specs.Tables.{SpareFrozen, cells, rows_of}
use Rattle.desk_store.proofs.CreateEffect.{does_create}
use Rattle.desk_store.proofs.CreateText.{Reads, approval_reads, create_compiled, create_understood, file_rev_reads, meta_reads, proposal_reads, table_read}
use Rattle.desk_store.proofs.Created.{are_low, below_next, declared_now, declared_yet, each_both, free_yet, new_part, old_part, referred_so, rows_stay, there_yet, tree_stays}
use Rattle.desk_store.proofs.Entries.{apart_trees, kept_rows, spare_then}
use Rattle.desk_store.proofs.InsertEffect.{Puts}
use Rattle.desk_store.proofs.Inserting.{Soundly}
use Rattle.desk_store.proofs.Placed.{rows_are}
use Rattle.desk_store.proofs.VersionInsert.{only_version, version_put}

-- ---- one table

-- what a CREATE did
pub record CreatesOne (table : Table) (text : List ℕ) (old new : Database) : Type 0 where
  pub schema : new.schema ≡ created old.schema table
  pub made : CreatesTable old.schema text old.trees new.schema new.trees
  pub frozen : SparesFrozen old new
  pub sound : IsDatabase new

module _ (old new : State) (text name : List ℕ) (table : Table) (r : Reads text name table) where
  whole_text : statement_of text (Ok (create_compiled r.parsed)) ≡ text
  whole_text =
      let e : slice_range text r.parsed.start r.parsed.end ≡ slice_range text 0 (length text) = ap (λ n. slice_range text n r.parsed.end) r.start ∙ ap (slice_range text 0) r.end in
      e ∙ take_all (length text - 0) text (omega arith)

  pub creates : IsFree old.now.schema name → lacks_sequence (created old.now.schema table) ≡ false → Ran text old new → CreatesOne table text old.now new.now
  creates free whole h =
      let means = create_understood text name table r old.now.schema free in
      let w = runs_as text [] old new old.now.schema refl CreateTable (ap command_of means) (subst IsPlain (sym means) (refl, refl)) h.0 h.1 in
      let says : statement_of text (understood old.now.schema text) ≡ text = ap (statement_of text) means ∙ whole_text in
      let wrote = subst (λ t. Writes old new None CreateTable t [] h.0) says w in
      let did = does_create old.step_limit (mode_of old) text table old.now new.now wrote.tally (table_read text name table r) whole wrote.changed in
      record { schema = did.0; made = did.1; frozen = wrote.frozen; sound = wrote.sound }

-- a table that does not count leaves no table waiting for `sqlite_sequence`
and_off : (a b c d : Bool) → c ≡ a → (b ≡ true → d ≡ true) → (a && not b) ≡ false → (c && not d) ≡ false
and_off false b c d same more h = ap (λ x. x && not d) same
and_off true true c d same more h = ap (λ x. x && not d) same ∙ ap not (more refl)
and_off true false c d same more h = absurd (let e = h in cc)

some_of : (o : Option Table) → is_some o ≡ true → (t : Table) × (o ≡ Some t)
some_of None h = absurd (let e = h in cc)
some_of (Some t) h = (t, refl)

table_kept : (schema : Schema) (table : Table) (name : List ℕ) → is_some (table_in schema name) ≡ true → is_some (table_in (created schema table) name) ≡ true
table_kept schema table name h = let it = some_of (table_in schema name) h in ap is_some (there_yet schema table name it.0 it.1)

either_off : (b : Bool) → (b || (false || false)) ≡ b
either_off true = refl
either_off false = refl

pub whole_yet : (schema : Schema) (table : Table) → table.is_counted ≡ false → lacks_sequence schema ≡ false → lacks_sequence (created schema table) ≡ false
whole_yet schema table plain h =
    let counts = λ (t : Table). t.is_counted in
    let same : list_any counts (created schema table).tables ≡ list_any counts schema.tables = list_any-append counts schema.tables _ ∙ rw plain (either_off (list_any counts schema.tables)) in
    and_off (list_any counts schema.tables) (is_some (sequence schema)) (list_any counts (created schema table).tables) (is_some (sequence (created schema table))) same
    (table_kept schema table (codes "sqlite_sequence")) h

-- the table that was made is declared, and has no row
module _ (old new : Database) (name text : List ℕ) (of : ℕ → Table) (shape : (n : ℕ) → record (of 0) { tree = n } ≡ of n) (named : same_name (of 0).name name ≡ true) (free : table_named old.schema name ≡ None) (one : CreatesOne (of 0) text old new) where
  pub declared : Declares new.schema name of (next_tree old.schema)
  declared =
      let low = λ (t : Table). t.tree < 65536 in
      let lows = subst (λ (s : Schema). AllByRecursion low s.tables) one.schema (are_low new one.sound) in
      subst (λ s. Declares s name of (next_tree old.schema)) (sym one.schema) (declared_now old.schema name of shape named free (new_part old.schema (of 0) low lows))

  pub no_rows : (of (next_tree old.schema)).tree ≡ next_tree old.schema → rows_of new name ≡ []
  no_rows own = rows_are new name (of (next_tree old.schema)) declared.there ∙ ap (map (cells (of (next_tree old.schema)))) (ap new.trees own ∙ one.made.empty)

-- the tables of version 1 stay when another one is made that refers to none
pub first_yet : (schema : Schema) (table : Table) → table.references ≡ [] → HasFirstTables schema → HasFirstTables (created schema table)
first_yet schema table plain has = record {
  meta_tree = has.meta_tree;
  meta = declared_yet schema table (codes "meta") meta_table (λ n. refl) has.meta_tree has.meta;
  tree = has.tree;
  file_rev = declared_yet schema table (codes "file_rev") file_rev_table (λ n. refl) has.tree has.file_rev;
  unreferred = referred_so schema table plain ∙ has.unreferred;
}

-- ---- the two later tables

abbrev with_approval : Schema → Schema
with_approval schema = created schema (approval_table 0)

proposal_free : (schema : Schema) → HasLaterRoom schema → IsFree (with_approval schema) (codes "proposal")
unfolding same_name
proposal_free schema room = free_yet schema (approval_table 0) (codes "proposal") refl (λ n k. refl) room.proposal

later_made : (a b c : Database) → HasLaterRoom a.schema → CreatesOne (approval_table 0) create_approval a b → CreatesOne (proposal_table 0) create_proposal b c → LaterAreMade a c
unfolding same_name
later_made a b c room one two =
    let tree = next_tree a.schema in
    let free : IsFree b.schema (codes "proposal") = subst (λ s. IsFree s (codes "proposal")) (sym one.schema) (proposal_free a.schema room) in
    let approval : Declares b.schema (codes "approval") approval_table tree = declared a b (codes "approval") create_approval approval_table (λ n. refl) refl room.approval.no_table one in
    let yet : table_in c.schema (codes "approval") ≡ Some (approval_table tree) = ap (λ s. table_in s (codes "approval")) two.schema ∙ there_yet b.schema (proposal_table 0) (codes "approval") (approval_table tree) approval.there in
    let same_two = λ (t : Table). c.trees t.tree ≡ b.trees t.tree in
    record {
      schema = two.schema ∙ ap (λ s. created s (proposal_table 0)) one.schema;
      no_approvals = rows_stay b c (codes "approval") (approval_table tree) approval.there yet two.made.others ∙ no_rows a b (codes "approval") create_approval approval_table (λ n. refl) refl room.approval.no_table one refl;
      no_proposals = no_rows b c (codes "proposal") create_proposal proposal_table (λ n. refl) refl free.no_table two refl;
      others = each_both same_two _ (λ (t : Table). c.trees t.tree ≡ a.trees t.tree) a.schema.tables (λ t second first. second ∙ first)
          (old_part a.schema (approval_table 0) same_two (subst (λ (s : Schema). AllByRecursion same_two s.tables) one.schema two.made.others)) one.made.others;
      steps = b ∷ c ∷ [];
      frozen = (one.frozen, one.sound, inr (approval_table 0, one.schema), (two.frozen, two.sound, inr (proposal_table 0, two.schema), refl));
      sound = two.sound;
    }

-- they are made by their statements
pub makes_later : (a b c : State) → HasLaterRoom a.now.schema → Ran create_approval a b → Ran create_proposal b c → LaterAreMade a.now c.now
makes_later a b c room one two =
    let whole = whole_yet a.now.schema (approval_table 0) refl room.whole in
    let first = creates a b create_approval (codes "approval") (approval_table 0) approval_reads room.approval whole one in
    let free = subst (λ s. IsFree s (codes "proposal")) (sym first.schema) (proposal_free a.now.schema room) in
    let second = creates b c create_proposal (codes "proposal") (proposal_table 0) proposal_reads free
    (subst (λ s. lacks_sequence (created s (proposal_table 0)) ≡ false) (sym first.schema) (whole_yet (with_approval a.now.schema) (proposal_table 0) refl whole)) two in
    later_made a.now b.now c.now room first second

module _ (old new : Database) (made : LaterAreMade old new) where
  -- what is said of each table then is said of each table before
  pub of_each : (P : Table → Type 0) → AllByRecursion P new.schema.tables → AllByRecursion P old.schema.tables
  of_each P all = old_part old.schema (approval_table 0) P (old_part (with_approval old.schema) (proposal_table 0) P (subst (λ (s : Schema). AllByRecursion P s.tables) made.schema all))

  -- a table that was there, and was declared, still is, with its rows
  pub declared_later : (name : List ℕ) (of : ℕ → Table) (tree : ℕ) → ((n : ℕ) → (of n).tree ≡ n) → Declares old.schema name of tree → Declares new.schema name of tree
  declared_later name of tree own declared =
      subst (λ s. Declares s name of tree) (sym made.schema)
      (declared_yet (with_approval old.schema) (proposal_table 0) name of own tree (declared_yet old.schema (approval_table 0) name of own tree declared))

  pub rows_later : (name : List ℕ) (of : ℕ → Table) (tree : ℕ) → ((n : ℕ) → (of n).tree ≡ n) → Declares old.schema name of tree → rows_of new name ≡ rows_of old name
  rows_later name of tree own declared = rows_stay old new name (of tree) declared.there (declared_later name of tree own declared).there made.others

  -- beside the tables of version 1 they are the four
  pub four_tables : HasLaterRoom old.schema → HasFirstTables old.schema → HasTables new.schema
  unfolding same_name
  four_tables room has =
      let low = λ (t : Table). t.tree < 65536 in
      let between = with_approval old.schema in
      let lows = subst (λ (s : Schema). AllByRecursion low s.tables) made.schema (are_low new made.sound) in
      let approval = declared_now old.schema (codes "approval") approval_table (λ n. refl) refl room.approval.no_table (new_part old.schema (approval_table 0) low (old_part between (proposal_table 0) low lows)) in
      let proposal = declared_now between (codes "proposal") proposal_table (λ n. refl) refl (proposal_free old.schema room).no_table (new_part between (proposal_table 0) low lows) in
      subst HasTables (sym made.schema) (record {
        first = first_yet between (proposal_table 0) refl (first_yet old.schema (approval_table 0) refl has);
        approval_tree = next_tree old.schema;
        approval = declared_yet between (proposal_table 0) (codes "approval") approval_table (λ n. refl) (next_tree old.schema) approval;
        proposal_tree = next_tree between;
        proposal = proposal;
      })

-- ---- all four

-- `meta` and `file_rev` are made, and have no row
pub record FirstAreMade (old new : Database) : Type 0 where
  pub schema : new.schema ≡ created (with_meta old.schema) (file_rev_table 0)
  pub meta : Declares new.schema (codes "meta") meta_table (next_tree old.schema)
  pub tree : ℕ
  pub file_rev : Declares new.schema (codes "file_rev") file_rev_table tree
  pub no_version : new.trees (next_tree old.schema) ≡ []
  pub empty : rows_of new (codes "file_rev") ≡ []
  pub others : AllByRecursion (λ t. new.trees t.tree ≡ old.trees t.tree) old.schema.tables
  pub steps : List Database
  pub frozen : SpareFrozen old steps new

file_rev_free : (schema : Schema) → HasRoom schema → IsFree (with_meta schema) (codes "file_rev")
unfolding same_name
file_rev_free schema room = free_yet schema (meta_table 0) (codes "file_rev") refl (λ n k. refl) room.file_rev

-- the index of the key of `file_rev`
abbrev file_rev_index : List ℕ
file_rev_index = (automatic (file_rev_table 0) 0 (1 ∷ 2 ∷ []) 0).name

-- a free name is free when both are made
later_free : (schema : Schema) (name : List ℕ) → same_name (codes "meta") name ≡ false → same_name (codes "file_rev") name ≡ false → same_name file_rev_index name ≡ false → IsFree schema name
    → IsFree (created (with_meta schema) (file_rev_table 0)) name
later_free schema name one two index free = free_yet (with_meta schema) (file_rev_table 0) name two (λ n k. rw index refl) (free_yet schema (meta_table 0) name one (λ n k. refl) free)

later_room : (schema : Schema) → HasRoom schema → HasLaterRoom (created (with_meta schema) (file_rev_table 0))
unfolding same_name digits
later_room schema room = record {
  approval = later_free schema (codes "approval") refl refl refl room.later.approval;
  proposal = later_free schema (codes "proposal") refl refl refl room.later.proposal;
  whole = whole_yet (with_meta schema) (file_rev_table 0) refl (whole_yet schema (meta_table 0) refl room.later.whole);
}

first_made : (a b c : Database) → HasRoom a.schema → CreatesOne (meta_table 0) create_meta a b → CreatesOne (file_rev_table 0) create_file_rev b c → FirstAreMade a c
unfolding same_name
first_made a b c room one two =
    let tree = next_tree a.schema in
    let free : IsFree b.schema (codes "file_rev") = subst (λ s. IsFree s (codes "file_rev")) (sym one.schema) (file_rev_free a.schema room) in
    let meta : Declares b.schema (codes "meta") meta_table tree = declared a b (codes "meta") create_meta meta_table (λ n. refl) refl room.meta.no_table one in
    let same_two = λ (t : Table). c.trees t.tree ≡ b.trees t.tree in
    record {
      schema = two.schema ∙ ap (λ s. created s (file_rev_table 0)) one.schema;
      meta = subst (λ s. Declares s (codes "meta") meta_table tree) (sym two.schema) (declared_yet b.schema (file_rev_table 0) (codes "meta") meta_table (λ n. refl) tree meta);
      tree = next_tree b.schema;
      file_rev = declared b c (codes "file_rev") create_file_rev file_rev_table (λ n. refl) refl free.no_table two;
      no_version = tree_stays b c (codes "meta") (meta_table tree) meta.there two.made.others ∙ one.made.empty;
      empty = no_rows b c (codes "file_rev") create_file_rev file_rev_table (λ n. refl) refl free.no_table two refl;
      others = each_both same_two _ (λ (t : Table). c.trees t.tree ≡ a.trees t.tree) a.schema.tables (λ t second first. second ∙ first)
          (old_part a.schema (meta_table 0) same_two (subst (λ (s : Schema). AllByRecursion same_two s.tables) one.schema two.made.others)) one.made.others;
      steps = b ∷ c ∷ [];
      frozen = (one.frozen, one.sound, inr (meta_table 0, one.schema), (two.frozen, two.sound, inr (file_rev_table 0, two.schema), refl));
    }

-- they are made by their statements
makes_first : (a b c : State) → HasRoom a.now.schema → Ran create_meta a b → Ran create_file_rev b c → FirstAreMade a.now c.now
makes_first a b c room one two =
    let whole = whole_yet a.now.schema (meta_table 0) refl room.later.whole in
    let first = creates a b create_meta (codes "meta") (meta_table 0) meta_reads room.meta whole one in
    let free = subst (λ s. IsFree s (codes "file_rev")) (sym first.schema) (file_rev_free a.now.schema room) in
    let second = creates b c create_file_rev (codes "file_rev") (file_rev_table 0) file_rev_reads free
    (subst (λ s. lacks_sequence (created s (file_rev_table 0)) ≡ false) (sym first.schema) (whole_yet (with_meta a.now.schema) (file_rev_table 0) refl whole)) two in
    first_made a.now b.now c.now room first second

module _ (a b c d : Database) (room : HasRoom a.schema) (first : FirstAreMade a b) (later : LaterAreMade b c) where
  abbrev tree : ℕ
  tree = next_tree a.schema

  has_first : HasFirstTables b.schema
  has_first = record {
    meta_tree = tree;
    meta = first.meta;
    tree = first.tree;
    file_rev = first.file_rev;
    unreferred = ap are_referred first.schema ∙ referred_so (with_meta a.schema) (file_rev_table 0) refl ∙ referred_so a.schema (meta_table 0) refl ∙ room.unreferred;
  }

  -- what is said of each table at the end is said of each of the first
  of_first : (P : Table → Type 0) → AllByRecursion P b.schema.tables → AllByRecursion P a.schema.tables
  of_first P all = old_part a.schema (meta_table 0) P (old_part (with_meta a.schema) (file_rev_table 0) P (subst (λ (s : Schema). AllByRecursion P s.tables) first.schema all))

  pub meta_between : Declares c.schema (codes "meta") meta_table tree
  meta_between = declared_later b c later (codes "meta") meta_table tree (λ n. refl) first.meta

  -- with the version they are a new database
  pub all_made : Soundly (Puts (meta_table tree) (Int (pos 2) ∷ [])) c d → MakesEmpty a d
  all_made version =
      let p = version.did in
      let has : HasTables c.schema = four_tables b c later (subst HasLaterRoom (sym first.schema) (later_room a.schema room)) has_first in
      let files : Declares c.schema (codes "file_rev") file_rev_table first.tree = declared_later b c later (codes "file_rev") file_rev_table first.tree (λ n. refl) first.file_rev in
      let none : c.trees tree ≡ [] = tree_stays b c (codes "meta") (meta_table tree) first.meta.there later.others ∙ first.no_version in
      let schema : d.schema ≡ with_four a.schema = p.schema ∙ later.schema ∙ ap (λ s. created (created s (approval_table 0)) (proposal_table 0)) first.schema in
      let last = λ (t : Table). t.tree ≢ tree → d.trees t.tree ≡ c.trees t.tree in
      let same_last = λ (t : Table). d.trees t.tree ≡ c.trees t.tree in
      let same_later = λ (t : Table). c.trees t.tree ≡ b.trees t.tree in
      record {
        tables = subst HasTables (sym p.schema) has;
        version = only_version c d tree (subst (λ s. Declares s (codes "meta") meta_table tree) (sym p.schema) meta_between) none p;
        empty = kept_rows c d (codes "file_rev") file_rev_table first.tree tree files refl p.schema p.others (apart_trees c.schema (codes "file_rev") (codes "meta") file_rev_table meta_table first.tree tree files meta_between (λ n. absurd cc))
            ∙ rows_later b c later (codes "file_rev") file_rev_table first.tree (λ n. refl) first.file_rev ∙ first.empty;
        no_approvals = kept_rows c d (codes "approval") approval_table has.approval_tree tree has.approval refl p.schema p.others
            (apart_trees c.schema (codes "approval") (codes "meta") approval_table meta_table has.approval_tree tree has.approval meta_between (λ n. absurd cc)) ∙ later.no_approvals;
        no_proposals = kept_rows c d (codes "proposal") proposal_table has.proposal_tree tree has.proposal refl p.schema p.others
            (apart_trees c.schema (codes "proposal") (codes "meta") proposal_table meta_table has.proposal_tree tree has.proposal meta_between (λ n. absurd cc)) ∙ later.no_proposals;
        sound = version.sound;
        schema = schema;
        others = each_both same_last _ (λ (t : Table). d.trees t.tree ≡ a.trees t.tree) a.schema.tables (λ t three two. three ∙ two)
            (each_both last _ same_last a.schema.tables (λ t three under. three (λ same. omega arith)) (of_first last (of_each b c later last p.others)) (below_next a.schema))
            (each_both same_later _ (λ (t : Table). c.trees t.tree ≡ a.trees t.tree) a.schema.tables (λ t two one. two ∙ one) (of_first same_later later.others) first.others);
        steps = first.steps ++ (later.steps ++ d ∷ []);
        frozen = spare_then a first.steps b (later.steps ++ d ∷ []) d first.frozen (spare_then b later.steps c (d ∷ []) d later.frozen (version.frozen, version.sound, inl p.schema, refl));
      }

-- the statements that make all four, and write the version
pub made_room : (a b c d e : State) → Ran create_meta a b → Ran create_file_rev b c → MakesLater c d → Ran insert_version d e → MakesRoom a e
made_room a b c d e one two three four room =
    let first = makes_first a b c room one two in
    let later = three (subst HasLaterRoom (sym first.schema) (later_room a.now.schema room)) in
    all_made a.now c.now d.now e.now room first later (version_put d e (next_tree a.now.schema) four.0 (meta_between a.now c.now d.now e.now room first later) four.1)

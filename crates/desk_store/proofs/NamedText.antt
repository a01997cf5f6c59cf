-- What the queries for the revisions and the approvals of one file mean, whatever other tables the schema has.
use Rattle.std.proofs.Common.{nat_le, nat_lt, ◌^◌, ◌≡◌, ◌-◌, refl, Some, Ok, ℕ, ◌∙◌, true, false, slice_get, codes, List, [], ◌∷◌, ◌==◌}
use Rattle.std.specs.List.{find}
use Rattle.sqlite_sql.specs.declared.ops.BinaryOp.TheVariants.{And}
use Rattle.sqlite.specs.Schema.{Schema}
use Rattle.sqlite.specs.Table.{Table}
use Rattle.sqlite.specs.Query.{Query}
use Rattle.sqlite.specs.Term.{op2}
use Rattle.sqlite_schema.specs.Names.{same_name, table_named}
use Rattle.sqlite_ast.specs.declared.Expr.{Expr}
use Rattle.sqlite_ast.specs.declared.Expr.TheVariants as written
use Rattle.sqlite_ast.specs.declared.Binary.TheVariants as by
use Rattle.sqlite_ast.specs.declared.Shown as written_shown
use Rattle.sqlite.specs.Compile.{first, read}
use Rattle.sqlite.specs.Command.TheVariants.{Select}
use Rattle.sqlite_resolve.specs.Program as program
use Rattle.sqlite_tied.specs.Compute.{everything}
use Rattle.sqlite_resolve.specs.declared.scope.Output.{Output}
use Rattle.sqlite_resolve.specs.Lowering as lowering
use Rattle.sqlite_resolve.specs.Lowering.{max_budget, nothing}
use Rattle.sqlite_resolve.specs.Scope as scope
use Rattle.sqlite_resolve.specs.Scope.{column}
use Rattle.sqlite_resolve.specs.Body as body
use Rattle.sqlite_resolve.specs.Expr as expr
use Rattle.sqlite_resolve.specs.Expr.{lower}
use Rattle.sqlite_resolve.specs.Compare as compare
use Rattle.desk_store.proofs.SelectText.{MeansAnywhere}
use Rattle.desk_store.proofs.QueryText.{IsColumn, IsPlainTest, Opens, and_open, at, by_bytes, draft, means_so, named, one_equal, one_read, one_shown, output, own_column, own_table, parsed, select, tests_by, unfold_lower, within}
use Rattle.desk_store.proofs.NamedRows.{approver_columns, approvers_columns, file_test, number_columns, rev_test, text_columns}
use Rattle.desk_store.proofs.RowsAnswered.{query}
use Rattle.desk_store.specs.Looks.{select_approver, select_approvers, select_numbers, select_revision}
use Rattle.desk_schema.specs.Tables.{approval_table, file_rev_table}

abbrev pub of_file : Expr
of_file = written.Binary by.Eq (named (codes "file")) (written.Parameter 1)

abbrev pub at_rev : Expr
at_rev = written.Binary by.And of_file (written.Binary by.Eq (named (codes "rev")) (written.Parameter 2))

abbrev pub numbers_shown : List written_shown.Shown
numbers_shown = own_column (codes "rev") ∷ own_column (codes "author") ∷ own_column (codes "profile") ∷ []

abbrev pub revision_shown : List written_shown.Shown
revision_shown = own_column (codes "author") ∷ own_column (codes "profile") ∷ own_column (codes "body") ∷ []

abbrev pub approver_shown : List written_shown.Shown
approver_shown = own_column (codes "approver") ∷ []

abbrev pub approvers_shown : List written_shown.Shown
approvers_shown = own_column (codes "rev") ∷ own_column (codes "approver") ∷ []

numbers_first : first select_numbers ≡ Ok (parsed (codes "file_rev") numbers_shown (Some of_file) (codes "?1" ∷ []) 57)
unfolding everything
numbers_first = refl

revision_first : first select_revision ≡ Ok (parsed (codes "file_rev") revision_shown (Some at_rev) (codes "?1" ∷ codes "?2" ∷ []) 71)
unfolding everything
revision_first = refl

approver_first : first select_approver ≡ Ok (parsed (codes "approval") approver_shown (Some at_rev) (codes "?1" ∷ codes "?2" ∷ []) 58)
unfolding everything
approver_first = refl

approvers_first : first select_approvers ≡ Ok (parsed (codes "approval") approvers_shown (Some of_file) (codes "?1" ∷ []) 50)
unfolding everything
approvers_first = refl

numbers_open : Opens (codes "file_rev") numbers_shown (Some of_file)
unfolding everything
numbers_open = refl

revision_open : Opens (codes "file_rev") revision_shown (Some at_rev)
unfolding everything
revision_open = refl

approver_open : Opens (codes "approval") approver_shown (Some at_rev)
unfolding everything
approver_open = refl

approvers_open : Opens (codes "approval") approvers_shown (Some of_file)
unfolding everything
approvers_open = refl

-- what they mean
abbrev pub numbers_query : ℕ → Query
numbers_query = query (file_test ∷ []) number_columns

abbrev pub revision_query : ℕ → Query
revision_query = query (file_test ∷ rev_test ∷ []) text_columns

abbrev pub approver_query : ℕ → Query
approver_query = query (file_test ∷ rev_test ∷ []) approver_columns

abbrev pub approvers_query : ℕ → Query
approvers_query = query (file_test ∷ []) approvers_columns

abbrev pub numbers_names : List (List ℕ)
numbers_names = codes "rev" ∷ codes "author" ∷ codes "profile" ∷ []

abbrev pub revision_names : List (List ℕ)
revision_names = codes "author" ∷ codes "profile" ∷ codes "body" ∷ []

abbrev pub approver_names : List (List ℕ)
approver_names = codes "approver" ∷ []

abbrev pub approvers_names : List (List ℕ)
approvers_names = codes "rev" ∷ codes "approver" ∷ []

-- the two tests, of a table whose first two columns are these
module _ (schema : Schema) (name : List ℕ) (place : ℕ) (table : Table) (found : table_named schema name ≡ Some place) (there : slice_get schema.tables place ≡ Some table)
    (file_is : IsColumn schema name place (codes "file") 0 1) (file_plain : IsPlainTest schema name place 1 0)
    (rev_is : IsColumn schema name place (codes "rev") 1 2) (rev_plain : IsPlainTest schema name place 2 1) where
  pub file_tested : (shown : List Output) (budget : ℕ) → nat_lt 1 budget ≡ true → nat_lt 1 (budget - 1) ≡ true → nat_lt 1 (budget - 1 - 1) ≡ true
      → lower (within schema name place shown false) of_file (at budget by_bytes) ≡ Ok (file_test, at (budget - 1 - 1 - 1) nothing)
  file_tested shown budget one two three = one_equal schema name place table found there 698 (codes "file") 0 1 1 file_is file_plain shown budget by_bytes one two three

  pub both_tested : (shown : List Output) (budget : ℕ) → nat_lt 1 budget ≡ true → nat_lt 1 (budget - 1) ≡ true → nat_lt 1 (budget - 1 - 1) ≡ true → nat_lt 1 (budget - 1 - 1 - 1) ≡ true
      → nat_lt 1 (budget - 1 - 1 - 1 - 1) ≡ true → nat_lt 1 (budget - 1 - 1 - 1 - 1 - 1) ≡ true → nat_lt 1 (budget - 1 - 1 - 1 - 1 - 1 - 1) ≡ true
      → lower (within schema name place shown false) at_rev (at budget by_bytes) ≡ Ok (op2 And file_test rev_test, at (budget - 1 - 1 - 1 - 1 - 1 - 1 - 1) nothing)
  unfolding expr.node expr.opened expr.passes lowering.spend lowering.begin lowering.finish
      expr.operation expr.wanted_truth expr.both expr.tests_truth expr.tests_alias expr.combine
      lowering.chosen lowering.first_found lowering.alone
  both_tested shown budget one two three four five six seven =
      unfold_lower 699 (within schema name place shown false) at_rev (at budget by_bytes)
      ∙ rw (
        one,
        and_open of_file (written.Binary by.Eq (named (codes "rev")) (written.Parameter 2)),
        one_equal schema name place table found there 697 (codes "file") 0 1 1 file_is file_plain shown (budget - 1) nothing two three four,
        one_equal schema name place table found there 697 (codes "rev") 1 2 2 rev_is rev_plain shown (budget - 1 - 1 - 1 - 1) nothing five six seven,
      )

-- the queries of `file_rev`
module _ (schema : Schema) (place tree : ℕ) (found : table_named schema (codes "file_rev") ≡ Some place) (there : slice_get schema.tables place ≡ Some (file_rev_table tree)) where
  revision_file : IsColumn schema (codes "file_rev") place (codes "file") 0 1
  unfolding scope.find scope.in_level scope.only scope.hit scope.column_in scope.is_among same_name column scope.term_of scope.column_at body.declared
  revision_file = record { found = λ shown may_aggregate. rw there; read = λ shown may_aggregate budget last. rw (there, there); declared = rw there }

  revision_rev : IsColumn schema (codes "file_rev") place (codes "rev") 1 2
  unfolding scope.find scope.in_level scope.only scope.hit scope.column_in scope.is_among same_name column scope.term_of scope.column_at body.declared
  revision_rev = record { found = λ shown may_aggregate. rw there; read = λ shown may_aggregate budget last. rw (there, there); declared = rw there }

  revision_author : IsColumn schema (codes "file_rev") place (codes "author") 2 3
  unfolding scope.find scope.in_level scope.only scope.hit scope.column_in scope.is_among same_name column scope.term_of scope.column_at body.declared
  revision_author = record { found = λ shown may_aggregate. rw there; read = λ shown may_aggregate budget last. rw (there, there); declared = rw there }

  revision_profile : IsColumn schema (codes "file_rev") place (codes "profile") 3 4
  unfolding scope.find scope.in_level scope.only scope.hit scope.column_in scope.is_among same_name column scope.term_of scope.column_at body.declared
  revision_profile = record { found = λ shown may_aggregate. rw there; read = λ shown may_aggregate budget last. rw (there, there); declared = rw there }

  revision_body : IsColumn schema (codes "file_rev") place (codes "body") 4 5
  unfolding scope.find scope.in_level scope.only scope.hit scope.column_in scope.is_among same_name column scope.term_of scope.column_at body.declared
  revision_body = record { found = λ shown may_aggregate. rw there; read = λ shown may_aggregate budget last. rw (there, there); declared = rw there }

  revision_file_plain : IsPlainTest schema (codes "file_rev") place 1 0
  unfolding compare.compared compare.affinity_of compare.of_column compare.converted compare.may_be_text compare.spelled compare.is_parameter
  revision_file_plain shown = rw there

  revision_rev_plain : IsPlainTest schema (codes "file_rev") place 2 1
  unfolding compare.compared compare.affinity_of compare.of_column compare.converted compare.may_be_text compare.spelled compare.is_parameter
  revision_rev_plain shown = rw there

  abbrev revision_output : List ℕ → ℕ → Output
  revision_output = output schema (codes "file_rev") place (file_rev_table tree) found there

  abbrev numbers_outputs : List Output
  numbers_outputs = revision_output (codes "rev") 2 ∷ revision_output (codes "author") 3 ∷ revision_output (codes "profile") 4 ∷ []

  numbers_result : body.outputs lower (within schema (codes "file_rev") place [] true) (own_table (codes "file_rev") place ∷ []) numbers_shown (at max_budget nothing) ≡ Ok (numbers_outputs, at 99997 by_bytes)
  unfolding body.outputs
  numbers_result =
      rw (
        one_shown schema (codes "file_rev") place (file_rev_table tree) found there (codes "rev") 1 2 revision_rev [] 100000 nothing refl,
        one_shown schema (codes "file_rev") place (file_rev_table tree) found there (codes "author") 2 3 revision_author (revision_output (codes "rev") 2 ∷ []) 99999 by_bytes refl,
        one_shown schema (codes "file_rev") place (file_rev_table tree) found there (codes "profile") 3 4 revision_profile (revision_output (codes "rev") 2 ∷ revision_output (codes "author") 3 ∷ []) 99998 by_bytes refl,
      )

  abbrev revision_outputs : List Output
  revision_outputs = revision_output (codes "author") 3 ∷ revision_output (codes "profile") 4 ∷ revision_output (codes "body") 5 ∷ []

  revision_result : body.outputs lower (within schema (codes "file_rev") place [] true) (own_table (codes "file_rev") place ∷ []) revision_shown (at max_budget nothing) ≡ Ok (revision_outputs, at 99997 by_bytes)
  unfolding body.outputs
  revision_result =
      rw (
        one_shown schema (codes "file_rev") place (file_rev_table tree) found there (codes "author") 2 3 revision_author [] 100000 nothing refl,
        one_shown schema (codes "file_rev") place (file_rev_table tree) found there (codes "profile") 3 4 revision_profile (revision_output (codes "author") 3 ∷ []) 99999 by_bytes refl,
        one_shown schema (codes "file_rev") place (file_rev_table tree) found there (codes "body") 4 5 revision_body (revision_output (codes "author") 3 ∷ revision_output (codes "profile") 4 ∷ []) 99998 by_bytes refl,
      )

  module _ (alone : find (λ (t : Table). t.tree == tree) schema.tables ≡ Some (file_rev_table tree)) (low : nat_le (2 ^ 31) tree ≡ false) where
    numbers_accepted : program.program schema [] (draft schema (codes "file_rev") place (file_rev_table tree) found there (file_test ∷ []) number_columns) ≡ Ok (record { lets = []; body = numbers_query tree })
    unfolding program.program
    numbers_accepted = rw (low, alone)

    pub numbers_read : read schema (select (codes "file_rev") numbers_shown (Some of_file)) ≡ Ok (Select (record { lets = []; body = numbers_query tree }) numbers_names)
    numbers_read =
        one_read schema (codes "file_rev") place (file_rev_table tree) found there numbers_shown numbers_outputs 99997 by_bytes (Some of_file) (file_test ∷ []) 99994 nothing numbers_open numbers_result
        (tests_by schema (codes "file_rev") place (file_rev_table tree) found there of_file file_test numbers_outputs 99997 99994 by_bytes nothing (file_tested schema (codes "file_rev") place (file_rev_table tree) found there revision_file revision_file_plain revision_rev revision_rev_plain numbers_outputs 99997 refl refl refl))
        (record { lets = []; body = numbers_query tree }) numbers_accepted

    revision_accepted : program.program schema [] (draft schema (codes "file_rev") place (file_rev_table tree) found there (file_test ∷ rev_test ∷ []) text_columns) ≡ Ok (record { lets = []; body = revision_query tree })
    unfolding program.program
    revision_accepted = rw (low, alone)

    pub revision_read : read schema (select (codes "file_rev") revision_shown (Some at_rev)) ≡ Ok (Select (record { lets = []; body = revision_query tree }) revision_names)
    revision_read =
        one_read schema (codes "file_rev") place (file_rev_table tree) found there revision_shown revision_outputs 99997 by_bytes (Some at_rev) (file_test ∷ rev_test ∷ []) 99990 nothing revision_open revision_result
        (tests_by schema (codes "file_rev") place (file_rev_table tree) found there at_rev (op2 And file_test rev_test) revision_outputs 99997 99990 by_bytes nothing (both_tested schema (codes "file_rev") place (file_rev_table tree) found there revision_file revision_file_plain revision_rev revision_rev_plain revision_outputs 99997 refl refl refl refl refl refl refl))
        (record { lets = []; body = revision_query tree }) revision_accepted

-- the queries of `approval`
module _ (schema : Schema) (place tree : ℕ) (found : table_named schema (codes "approval") ≡ Some place) (there : slice_get schema.tables place ≡ Some (approval_table tree)) where
  approval_file : IsColumn schema (codes "approval") place (codes "file") 0 1
  unfolding scope.find scope.in_level scope.only scope.hit scope.column_in scope.is_among same_name column scope.term_of scope.column_at body.declared
  approval_file = record { found = λ shown may_aggregate. rw there; read = λ shown may_aggregate budget last. rw (there, there); declared = rw there }

  approval_rev : IsColumn schema (codes "approval") place (codes "rev") 1 2
  unfolding scope.find scope.in_level scope.only scope.hit scope.column_in scope.is_among same_name column scope.term_of scope.column_at body.declared
  approval_rev = record { found = λ shown may_aggregate. rw there; read = λ shown may_aggregate budget last. rw (there, there); declared = rw there }

  approval_approver : IsColumn schema (codes "approval") place (codes "approver") 2 3
  unfolding scope.find scope.in_level scope.only scope.hit scope.column_in scope.is_among same_name column scope.term_of scope.column_at body.declared
  approval_approver = record { found = λ shown may_aggregate. rw there; read = λ shown may_aggregate budget last. rw (there, there); declared = rw there }

  approval_file_plain : IsPlainTest schema (codes "approval") place 1 0
  unfolding compare.compared compare.affinity_of compare.of_column compare.converted compare.may_be_text compare.spelled compare.is_parameter
  approval_file_plain shown = rw there

  approval_rev_plain : IsPlainTest schema (codes "approval") place 2 1
  unfolding compare.compared compare.affinity_of compare.of_column compare.converted compare.may_be_text compare.spelled compare.is_parameter
  approval_rev_plain shown = rw there

  abbrev approval_output : List ℕ → ℕ → Output
  approval_output = output schema (codes "approval") place (approval_table tree) found there

  abbrev approver_outputs : List Output
  approver_outputs = approval_output (codes "approver") 3 ∷ []

  approver_result : body.outputs lower (within schema (codes "approval") place [] true) (own_table (codes "approval") place ∷ []) approver_shown (at max_budget nothing) ≡ Ok (approver_outputs, at 99999 by_bytes)
  unfolding body.outputs
  approver_result =
      rw (one_shown schema (codes "approval") place (approval_table tree) found there (codes "approver") 2 3 approval_approver [] 100000 nothing refl)

  abbrev approvers_outputs : List Output
  approvers_outputs = approval_output (codes "rev") 2 ∷ approval_output (codes "approver") 3 ∷ []

  approvers_result : body.outputs lower (within schema (codes "approval") place [] true) (own_table (codes "approval") place ∷ []) approvers_shown (at max_budget nothing) ≡ Ok (approvers_outputs, at 99998 by_bytes)
  unfolding body.outputs
  approvers_result =
      rw (
        one_shown schema (codes "approval") place (approval_table tree) found there (codes "rev") 1 2 approval_rev [] 100000 nothing refl,
        one_shown schema (codes "approval") place (approval_table tree) found there (codes "approver") 2 3 approval_approver (approval_output (codes "rev") 2 ∷ []) 99999 by_bytes refl,
      )

  module _ (alone : find (λ (t : Table). t.tree == tree) schema.tables ≡ Some (approval_table tree)) (low : nat_le (2 ^ 31) tree ≡ false) where
    approver_accepted : program.program schema [] (draft schema (codes "approval") place (approval_table tree) found there (file_test ∷ rev_test ∷ []) approver_columns) ≡ Ok (record { lets = []; body = approver_query tree })
    unfolding program.program
    approver_accepted = rw (low, alone)

    pub approver_read : read schema (select (codes "approval") approver_shown (Some at_rev)) ≡ Ok (Select (record { lets = []; body = approver_query tree }) approver_names)
    approver_read =
        one_read schema (codes "approval") place (approval_table tree) found there approver_shown approver_outputs 99999 by_bytes (Some at_rev) (file_test ∷ rev_test ∷ []) 99992 nothing approver_open approver_result
        (tests_by schema (codes "approval") place (approval_table tree) found there at_rev (op2 And file_test rev_test) approver_outputs 99999 99992 by_bytes nothing (both_tested schema (codes "approval") place (approval_table tree) found there approval_file approval_file_plain approval_rev approval_rev_plain approver_outputs 99999 refl refl refl refl refl refl refl))
        (record { lets = []; body = approver_query tree }) approver_accepted

    approvers_accepted : program.program schema [] (draft schema (codes "approval") place (approval_table tree) found there (file_test ∷ []) approvers_columns) ≡ Ok (record { lets = []; body = approvers_query tree })
    unfolding program.program
    approvers_accepted = rw (low, alone)

    pub approvers_read : read schema (select (codes "approval") approvers_shown (Some of_file)) ≡ Ok (Select (record { lets = []; body = approvers_query tree }) approvers_names)
    approvers_read =
        one_read schema (codes "approval") place (approval_table tree) found there approvers_shown approvers_outputs 99998 by_bytes (Some of_file) (file_test ∷ []) 99995 nothing approvers_open approvers_result
        (tests_by schema (codes "approval") place (approval_table tree) found there of_file file_test approvers_outputs 99998 99995 by_bytes nothing (file_tested schema (codes "approval") place (approval_table tree) found there approval_file approval_file_plain approval_rev approval_rev_plain approvers_outputs 99998 refl refl refl))
        (record { lets = []; body = approvers_query tree }) approvers_accepted

-- what the four texts mean
pub numbers_mean : MeansAnywhere select_numbers (codes "file_rev") file_rev_table numbers_query numbers_names
numbers_mean schema place tree found there alone low under =
    means_so select_numbers (parsed (codes "file_rev") numbers_shown (Some of_file) (codes "?1" ∷ []) 57) (select (codes "file_rev") numbers_shown (Some of_file)) numbers_first refl refl schema tree numbers_query numbers_names
    (numbers_read schema place tree found there alone low)

pub revision_means : MeansAnywhere select_revision (codes "file_rev") file_rev_table revision_query revision_names
revision_means schema place tree found there alone low under =
    means_so select_revision (parsed (codes "file_rev") revision_shown (Some at_rev) (codes "?1" ∷ codes "?2" ∷ []) 71) (select (codes "file_rev") revision_shown (Some at_rev)) revision_first refl refl schema tree revision_query revision_names
    (revision_read schema place tree found there alone low)

pub approver_means : MeansAnywhere select_approver (codes "approval") approval_table approver_query approver_names
approver_means schema place tree found there alone low under =
    means_so select_approver (parsed (codes "approval") approver_shown (Some at_rev) (codes "?1" ∷ codes "?2" ∷ []) 58) (select (codes "approval") approver_shown (Some at_rev)) approver_first refl refl schema tree approver_query approver_names
    (approver_read schema place tree found there alone low)

pub approvers_mean : MeansAnywhere select_approvers (codes "approval") approval_table approvers_query approvers_names
approvers_mean schema place tree found there alone low under =
    means_so select_approvers (parsed (codes "approval") approvers_shown (Some of_file) (codes "?1" ∷ []) 50) (select (codes "approval") approvers_shown (Some of_file)) approvers_first refl refl schema tree approvers_query approvers_names
    (approvers_read schema place tree found there alone low)

-- Where no line is told of a file system, the two verdicts are the same on it.
use Rattle.std.proofs.Common.{◌≡◌, ◌∙◌, List, Some, ap, inl, inr, sym}
use Rattle.std.specs.Prelude.{slice_get}
use Rattle.std.specs.Option.{option_map}
use Rattle.std.proofs.lemmas.Bool.{true≢false}
use Rattle.desk_policy.specs.Policy.{rows_of}
use Rattle.desk_policy.specs.Weights.{selected}
use Rattle.desk_policy.specs.declared.row.Row.{Row}
use Rattle.desk_policy.specs.declared.verdict.Denial.TheVariants.{NotListed}
use Rattle.desk_who.specs.Who.{VerdictsAreDiscrete}
use Rattle.desk_server.specs.Laws.{NothingWiderIsEqual}
use Rattle.desk_server.proofs.Granting.{denied, granted, same_or_granted_more}

pub nothing_wider_is_equal : VerdictsAreDiscrete → NothingWiderIsEqual
nothing_wider_is_equal compare content fs address path in_force below here none =
    elim (same_or_granted_more compare content in_force address below path) [
      | inl same ↦ same
      | inr more ↦
          let is : more.fs ≡ fs = (let f : Some more.fs ≡ Some fs = sym more.here ∙ here in cc) in
          absurd (true≢false (sym (none.all more.more.first.entry.line address (record {
            is_address = below;
            first = ap (λ n. option_map (λ (row : Row). row.entry.line) (slice_get (selected (rows_of content n) address) 0)) (sym is)
                ∙ ap (λ (rows : List Row). option_map (λ (row : Row). row.entry.line) (slice_get rows 0)) more.more.are;
            path = path;
            here = here;
            denial = NotListed (record { 0 = more.fs }) more.more.first.entry.line;
            denied = denied content address path more;
            grant = record { fs = record { 0 = more.fs }; line = more.more.row.entry.line; terms = more.more.first.entry.terms };
            granted = granted content address path more;
          }))))
    ]

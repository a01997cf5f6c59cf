use Rattle.std.proofs.Common.{◌≡◌, ◌∙◌, ℕ, None, ap, arith, subst, sym}
use Rattle.std.specs.Prelude.{List}
use Rattle.desk_server_prints.specs.Listing.{wider_at}
use Rattle.desk_server_prints.specs.PrivateListing.{IsFirstOf}
use Rattle.desk_server_prints.proofs.FirstClient.{first_of_all, wider_starts}
use Rattle.desk_server_prints.proofs.listing.first_wider.Goals as goal
use Rattle.desk_server_prints.proofs.listing.first_wider.Goals.{in-Some, in-None}

pub returns : goal.returns
returns c =
    let content = c.args.index.now in
    let path = c.args.path.now in
    let line_at = wider_at content path in
    let zero = c.from_number.ensures in
    elim c.match-wider_client.branch [
      | in-Some w ↦
          let found = w.in-Some.ensures in
          let place = found.place in
          rw w.found-is (record { here = ap line_at place ∙ found.line_is; least = λ address below. absurd (omega arith) })
      | in-None w ↦
          let starts = c.in_ok-starts.starts in
          let first : line_at 0 ≡ None = ap line_at (sym zero) ∙ w.in-None.ensures in
          rw w.found-is
          (first_of_all line_at starts (wider_starts content path starts c.in_ok-starts.ensures) first w.first_wider_of-found.result
          (subst (λ (numbers : List ℕ). IsFirstOf line_at numbers w.first_wider_of-found.result) w.as_slice.ensures.value w.first_wider_of-found.ensures))
    ]

use Rattle.std.proofs.Common.{◌≡◌, ◌<◌, ◌∙◌, ℕ, ap, arith, get_or, inl, inr, length, map, sym}
use Rattle.std.proofs.lemmas.Bool.{cases_lt}
use Rattle.std.proofs.lemmas.List.{get_or-map, length-map}
use Rattle.desk_text.specs.Address.{number_of}
use Rattle.desk_text.specs.declared.address.Addr.{Addr}
use Rattle.desk_server_prints.specs.Listing.{wider_at}
use Rattle.desk_server_prints.proofs.listing.first_wider_of.Goals as goal

abbrev none : Addr
none = record { number = 0 }

pub loop-address-preserved : goal.loop-address-preserved
loop-address-preserved c = λ other below.
    let line_at = wider_at c.args.index.now c.args.path.now in
    let items = c.args.addresses.now in
    let i = c.loop-address.address-index in
    elim (cases_lt other i) [
      | inl earlier ↦ c.loop-address.invariant other earlier
      | inr last ↦
          let same : other ≡ i = omega arith in
          ap (λ (n : ℕ). line_at (get_or (map number_of items) n 0)) same
          ∙ ap line_at (get_or-map number_of items i none 0 c.loop-address-test.true) ∙ c.in_default.ensures
    ]

pub returns-in-Some : goal.returns-in-Some
returns-in-Some c =
    let items = c.args.addresses.now in
    let i = c.loop-address.address-index in
    let found = c.in-Some.ensures in
    let few : length (map number_of items) ≡ length items = length-map items number_of in
    let below = c.loop-address-test.true in
    record {
      place = i;
      within = omega arith;
      fits = found.fits;
      address = found.place ∙ sym (get_or-map number_of items i none 0 below);
      here = ap (wider_at c.args.index.now c.args.path.now) found.place ∙ found.line_is;
      earlier = c.loop-address.invariant;
    }

pub returns : goal.returns
returns c = λ place within.
    let few : length (map number_of c.args.addresses.now) ≡ length c.args.addresses.now = length-map c.args.addresses.now number_of in
    let past = c.loop-address-test.false in
    c.loop-address.invariant place (omega arith)

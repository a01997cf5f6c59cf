-- Each name so far is listed.
use Rattle.std.proofs.Common.{◌≡◌, false, is_none, take}
use Rattle.std.specs.List.{list_any}
use Rattle.desk_tables.specs.Custodians.{digest_of}
use Rattle.desk_findings.proofs.FirstNames.{NoneUpTo}
use Rattle.desk_findings.proofs.check_site.unlisted_place.Given as goal

abbrev pub invariant-loop-place : goal.invariant-loop-place
invariant-loop-place l = record {
  listed : list_any (λ name. is_none (digest_of l.custodians name)) (take l.place l.mount.custodians) ≡ false;
  each : NoneUpTo (λ name. is_none (digest_of l.custodians name)) l.mount.custodians l.place;
}

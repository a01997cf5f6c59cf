use Rattle.std.proofs.Common.{◌^◌, ◌∙◌, ap, sym}
use Rattle.std.specs.List.{list_any}
use Rattle.std.proofs.lemmas.Bool.{or_from, true≢false}
use Rattle.std.proofs.lemmas.List.Folds.{list_any-append}
use Rattle.desk_expect.specs.Form.{named}
use Rattle.desk_expect.specs.Meaning.{is_meant, is_unknown}
use Rattle.desk_expect.specs.Names.{is_bad_address}
use Rattle.desk_expect.specs.PrivateReading.{subject_with}
use Rattle.desk_expect.proofs.Nobody.{none_passes_below, some_passes_below}
use Rattle.desk_expect.proofs.reading.read_audience.Goals as goal

pub returns-then-is_nobody : goal.returns-then-is_nobody
returns-then-is_nobody c =
    let whom = c.args.whom.now in
    let but = c.args.but.now in
    let netgroups = c.args.netgroups.now in
    let hosts = c.args.hosts.now in (
      list_any-append is_bad_address (named whom) but
          ∙ or_from _ _ (ap (list_any is_bad_address) (sym c.named.ensures) ∙ sym c.has_bad_address.ensures ∙ c.if-has_bad_address.false) (sym c.has_bad_address-else-has_bad_address.ensures ∙ c.if-has_bad_address-2.false),
      list_any-append (is_unknown netgroups hosts) (named whom) but
          ∙ or_from _ _ (ap (list_any (is_unknown netgroups hosts)) (sym c.named-2.ensures) ∙ sym c.in_ok-has_unknown.ensures ∙ c.if-branch.false) (sym c.in_ok-has_unknown-2.ensures ∙ c.if-branch-2.false),
      none_passes_below (2 ^ 32) (is_meant netgroups hosts (subject_with whom but)) (λ address fits. sym (c.in_ok-audience.ensures address fits) ∙ c.is_nobody.ensures.0 c.if-is_nobody.true address fits),
    )

pub returns : goal.returns
returns c =
    let whom = c.args.whom.now in
    let but = c.args.but.now in
    let netgroups = c.args.netgroups.now in
    let hosts = c.args.hosts.now in
    record {
      good = list_any-append is_bad_address (named whom) but
          ∙ or_from _ _ (ap (list_any is_bad_address) (sym c.named.ensures) ∙ sym c.has_bad_address.ensures ∙ c.if-has_bad_address.false) (sym c.has_bad_address-else-has_bad_address.ensures ∙ c.if-has_bad_address-2.false);
      known = list_any-append (is_unknown netgroups hosts) (named whom) but
          ∙ or_from _ _ (ap (list_any (is_unknown netgroups hosts)) (sym c.named-2.ensures) ∙ sym c.in_ok-has_unknown.ensures ∙ c.if-branch.false) (sym c.in_ok-has_unknown-2.ensures ∙ c.if-branch-2.false);
      some = some_passes_below (2 ^ 32) (is_meant netgroups hosts (subject_with whom but))
          (λ none. true≢false (sym (c.is_nobody.ensures.1 (λ address fits. c.in_ok-audience.ensures address fits ∙ none address fits)) ∙ c.if-is_nobody.false));
      each = c.in_ok-audience.ensures;
    }

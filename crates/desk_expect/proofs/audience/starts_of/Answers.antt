use Rattle.std.proofs.Common.{◌∙◌, ◌++◌, ap, map}
use Rattle.desk_text.specs.Address.{number_of}
use Rattle.desk_expect.specs.PrivateSpans.{set_starts}
use Rattle.desk_expect.proofs.Starts.{audience_starts}
use Rattle.desk_expect.proofs.audience.starts_of.Goals as goal

pub returns : goal.returns
returns c =
    audience_starts c.sorted_sets_are_unique.ensures c.args.named.now c.args.but.now (map number_of c.push_starts-2.new.starts.items) c.from_vec.result
    (c.in_ok-push_starts-2.ensures ∙ ap (λ ns. ns ++ set_starts c.args.but.now) (c.in_ok-push_starts.ensures ∙ ap (λ items. map number_of items ++ set_starts c.args.named.now) c.new-starts.ensures.items))
    c.from_vec.ensures

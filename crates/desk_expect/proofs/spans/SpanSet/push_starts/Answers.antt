use Rattle.std.proofs.Common.{ap, map, ◌++◌, ◌+◌, ◌∙◌}
use Rattle.std.specs.List.{flat_map}
use Rattle.std.proofs.lemmas.List.{append_assoc}
use Rattle.std.proofs.lemmas.Result.{on_ok_weaker}
use Rattle.desk_text.specs.Address.{number_of}
use Rattle.desk_expect.specs.PrivateSpans.{set_starts, start_if}
use Rattle.desk_expect.proofs.spans.SpanSet.push_starts.Goals as goal

pub returns : goal.returns
returns c =
    let start = map number_of c.args.starts.now.items in
    on_ok_weaker c.push_all-2.result (λ pushed.
    pushed
    ∙ ap (λ lasts. map number_of c.push_all.new.starts.items ++ flat_map (λ last. start_if (last + 1)) lasts) c.as_slice-2.ensures.value
    ∙ ap (λ ns. ns ++ flat_map (λ last. start_if (last + 1)) c.self.inside.lasts.items) (c.in_ok-push_all.ensures ∙ ap (λ firsts. start ++ flat_map (λ first. start_if (first + 0)) firsts) c.as_slice.ensures.value)
    ∙ append_assoc start (flat_map (λ first. start_if (first + 0)) c.self.inside.firsts.items) (flat_map (λ last. start_if (last + 1)) c.self.inside.lasts.items)
    ∙ ap (λ ends. start ++ set_starts ends) c.self.view_is) c.push_all-2.ensures

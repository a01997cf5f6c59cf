use Rattle.std.proofs.Common.{◌++◌, ◌∙◌, ap}
use Rattle.std.specs.String.{string_bytes}
use Rattle.desk_policy.proofs.listing_prints.push_name.Goals as goal

pub returns : goal.returns
returns c = c.in_ok-push_str.ensures.bytes ∙ ap (λ written. string_bytes c.args.text.now ++ written) (c.as_str.ensures.value ∙ c.in_ok-written.ensures.ok)

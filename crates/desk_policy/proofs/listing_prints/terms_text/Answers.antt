use Rattle.desk_policy.proofs.listing_prints.terms_text.Goals as goal

pub returns : goal.returns
returns c = c.format.ensures.ok

-- A desk stands at a history if its files stand as by that.
use Rattle.desk_service.proofs.lending.lend_state.Goals as goal

pub returns-clause-stood_at : goal.returns-clause-stood_at
returns-clause-stood_at g c = λ history pending stands. stands.standing_is

use Rattle.std.proofs.lemmas.Result.{IfOk-weaker}
use Rattle.desk_findings.proofs.PlacedWords.{clients_at, members_at, of_clients, of_members}
use Rattle.desk_findings.proofs.check_odd.word_places.Goals as goal

pub returns-in-Clients-clause-on : goal.returns-in-Clients-clause-on
returns-in-Clients-clause-on c = IfOk-weaker c.client_places.result _ _ (λ places. of_clients c.args.line.now places.items) c.client_places.ensures

pub returns-in-Clients-clause-words : goal.returns-in-Clients-clause-words
returns-in-Clients-clause-words c = IfOk-weaker c.client_places.result _ _ (λ places on. clients_at c.args.line.now c.args.among places.items c.in-Clients.is) c.client_places.ensures

pub returns-in-Members-clause-on : goal.returns-in-Members-clause-on
returns-in-Members-clause-on c = IfOk-weaker c.member_places.result _ _ (λ places. of_members c.args.line.now places.items) c.member_places.ensures

pub returns-in-Members-clause-words : goal.returns-in-Members-clause-words
returns-in-Members-clause-words c = IfOk-weaker c.member_places.result _ _ (λ places on. members_at c.args.line.now c.args.among places.items c.in-Members.is) c.member_places.ensures

use Rattle.desk_text.specs.Address.{number_of}
use Rattle.page_data.specs.declared.class.Class.{Class}
use Rattle.page_data.proofs.Found.{found_is, none_found}
use Rattle.page_data.proofs.classes.class_at.Goals as goal

pub returns-in-Some : goal.returns-in-Some
returns-in-Some c = λ class_at are.
    found_is (λ (class : Class). class) (class_at (number_of c.args.address)) c.in-Some.class c.value_at.result c.in-Some.is (c.value_at.ensures class_at are)

pub returns-in-None : goal.returns-in-None
returns-in-None c = λ class_at are. absurd (none_found (λ (class : Class). class) (class_at (number_of c.args.address)) c.value_at.result c.in-None.is (c.value_at.ensures class_at are))

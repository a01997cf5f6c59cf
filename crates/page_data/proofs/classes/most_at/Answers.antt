use Rattle.std.proofs.Common.{◌∙◌, ap}
use Rattle.desk_text.specs.Address.{number_of}
use Rattle.page_data.specs.Class.{most_of}
use Rattle.page_data.proofs.classes.most_at.Goals as goal

pub returns : goal.returns
returns c = λ class_at other_at are are'.
    c.most.ensures ∙ ap (λ class. most_of class c.class_at-2.result) (c.class_at.ensures class_at are) ∙ ap (most_of (class_at (number_of c.args.address))) (c.class_at-2.ensures other_at are')

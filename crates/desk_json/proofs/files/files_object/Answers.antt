use Rattle.desk_service.specs.Files.{files_of}
use Rattle.desk_json.proofs.Floats.{files_have_none, text_is}
use Rattle.desk_json.proofs.files.files_object.Goals as goal

pub returns : goal.returns
returns c = text_is _ _ _ c.in_ok-value.ensures (files_have_none (files_of c.args.listed.now)) c.to_string.ensures.text

-- Why a question or an edit is refused. (this project's own)
use Rattle.std.specs.Prelude.{ℕ, List, codes}
use Rattle.desk_core.specs.Edit.{refusal_name, refusal_number}
use Rattle.desk_store.specs.Error.{memory_number, schema_number, store_number}
use Rattle.desk_store.specs.declared.error.DeskError.{DeskError}
use Rattle.desk_store.specs.declared.error.DeskError.TheVariants as error
use Rattle.desk_service.specs.declared.refused.Refused.{Refused}
use Rattle.desk_service.specs.declared.refused.Refused.TheVariants as refused

-- the number of a refusal: that of an edit's from 1 to 9, 111 where there is no file, revision or proposal, 112 where
-- there is another proposal, and that of a desk's error for what the database or the machine refuses
abbrev pub refused_number : Refused → ℕ
refused_number (refused.Edit refusal) = refusal_number refusal
refused_number refused.NoRevision = 111
refused_number refused.OtherProposal = 112
refused_number refused.Store = store_number
refused_number refused.Schema = schema_number
refused_number refused.Memory = memory_number

-- the name of a refusal
abbrev pub refused_name : Refused → List ℕ
refused_name (refused.Edit refusal) = refusal_name refusal
refused_name refused.NoRevision = codes "NoRevision"
refused_name refused.OtherProposal = codes "OtherProposal"
refused_name refused.Store = codes "Store"
refused_name refused.Schema = codes "Schema"
refused_name refused.Memory = codes "Memory"

-- the refusal that an error of a desk is
abbrev pub refused_by : DeskError → Refused
refused_by (error.Refused refusal) = refused.Edit refusal
refused_by (error.Store fault) = refused.Store
refused_by error.Schema = refused.Schema
refused_by error.Memory = refused.Memory

-- The replies to requests that call for nothing, and to refusals. (this project's own)
use Rattle.std.specs.Prelude.{ℕ, List, codes}
use Rattle.serde_json.specs.Data.{Data}
use Rattle.desk_core.specs.declared.edit.Refusal.{Refusal}
use Rattle.desk_core.specs.declared.edit.Refusal.TheVariants as refusal
use Rattle.desk_service.specs.Refused.{refused_name, refused_number}
use Rattle.desk_service.specs.declared.refused.Refused.{Refused}
use Rattle.desk_service.specs.declared.refused.Refused.TheVariants as refused
use Rattle.desk_http_messages.specs.Replies.{Reply, refusal_data, refusal_reply, reply_with}
use Rattle.desk_http_requests.specs.declared.faults.RequestFault.{RequestFault}
use Rattle.desk_http_requests.specs.declared.faults.RequestFault.TheVariants as fault
use Rattle.desk_http_bodies.specs.Edits.{refused_data}

-- the number of the fault of a request
abbrev pub request_fault_number : RequestFault → ℕ
request_fault_number fault.NoRoute = 106
request_fault_number fault.BadMethod = 107
request_fault_number fault.BadQuery = 108
request_fault_number fault.BadHeader = 109
request_fault_number fault.BadBody = 110

-- the name of the fault of a request
abbrev pub request_fault_name : RequestFault → List ℕ
request_fault_name fault.NoRoute = codes "NoRoute"
request_fault_name fault.BadMethod = codes "BadMethod"
request_fault_name fault.BadQuery = codes "BadQuery"
request_fault_name fault.BadHeader = codes "BadHeader"
request_fault_name fault.BadBody = codes "BadBody"

-- the status of the reply to a request with this fault
abbrev pub request_fault_status : RequestFault → ℕ
request_fault_status fault.NoRoute = 404
request_fault_status fault.BadMethod = 405
request_fault_status fault.BadQuery = 400
request_fault_status fault.BadHeader = 400
request_fault_status fault.BadBody = 400

-- the reply to a request with this fault, which calls for nothing
abbrev pub request_fault_reply : RequestFault → Reply
request_fault_reply found = refusal_reply (request_fault_status found) (request_fault_name found) (request_fault_number found)

-- the status of the reply to an edit that is refused
abbrev pub edit_status : Refusal → ℕ
edit_status refusal.UnknownCaller = 403
edit_status refusal.BadKey = 403
edit_status refusal.UnknownFile = 404
edit_status refusal.NotCustodian = 403
edit_status refusal.TooLarge = 413
edit_status (refusal.Stale current) = 409
edit_status refusal.Full = 409
edit_status (refusal.Fault found) = 422

-- the status of the reply to a question or an edit that is refused
abbrev pub refused_status : Refused → ℕ
refused_status (refused.Edit why) = edit_status why
refused_status refused.NoRevision = 404
refused_status refused.OtherProposal = 409
refused_status refused.Store = 503
refused_status refused.Schema = 503
refused_status refused.Memory = 503

-- the body of that reply
abbrev pub refused_body : Refused → Data
refused_body (refused.Edit why) = refused_data why
refused_body other = refusal_data (refused_name other) (refused_number other)

-- the reply to a question or an edit that is refused
abbrev pub refused_reply : Refused → Reply
refused_reply why = reply_with (refused_status why) (refused_body why)

-- the reply where the store refused a statement
abbrev pub store_reply : Reply
store_reply = refused_reply refused.Store

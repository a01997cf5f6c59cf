-- The bodies of replies to an edit. (this project's own)
use Rattle.std.specs.Prelude.{ℕ, List, [], ◌∷◌, ◌++◌, Bool, true, Option, codes}
use Rattle.std.specs.Option.{option_map}
use Rattle.serde_json.specs.Data.{Data, boolean, string}
use Rattle.desk_text.specs.Address.{addr_text, number_of}
use Rattle.desk_policy.specs.SiteFault.{rule_number}
use Rattle.desk_policy.specs.declared.site_fault.SiteFault.{SiteFault}
use Rattle.desk_core.specs.Edit.{refusal_name, refusal_number}
use Rattle.desk_core.specs.declared.edit.Refusal.{Refusal}
use Rattle.desk_core.specs.declared.edit.Refusal.TheVariants as refusal
use Rattle.desk_http_bodies.specs.Json.{count, entries, member_if}

-- an edit that was stored, or that is the newest revision already
abbrev pub done_data : Bool → ℕ → Data
done_data already rev = entries ((codes "already", boolean already) ∷ (codes "rev", count rev) ∷ [])

-- an edit that is proposed as this revision, or that was before, and waits for a second custodian
abbrev pub proposed_data : Bool → ℕ → Data
proposed_data already rev =
    entries ((codes "already", boolean already) ∷ (codes "proposed", boolean true) ∷ (codes "rev", count rev) ∷ [])

-- a refusal by its name and number
abbrev pub plain_data : Refusal → Data
plain_data r = entries ((codes "error", string (refusal_name r)) ∷ (codes "number", count (refusal_number r)) ∷ [])

-- the same with the number of the newest revision
abbrev pub stale_data : Refusal → ℕ → Data
stale_data r current =
    entries ((codes "current", count current) ∷ (codes "error", string (refusal_name r)) ∷ (codes "number", count (refusal_number r)) ∷ [])

-- the same with a fault of the site, and with the text of its address, if it has one
abbrev pub fault_entries : Refusal → SiteFault → Option (List ℕ) → Data
fault_entries r fault address = entries (
    member_if (codes "address") string address
    ++ ((codes "error", string (refusal_name r))
    ∷ (codes "file", string fault.file)
    ∷ (codes "line", count fault.line)
    ∷ (codes "number", count (refusal_number r))
    ∷ (member_if (codes "other") count fault.other
    ++ ((codes "rule", count (rule_number fault.rule)) ∷ []))))

-- a refusal with a fault of the site
abbrev pub fault_data : Refusal → SiteFault → Data
fault_data r fault = fault_entries r fault (option_map (λ a. addr_text (number_of a)) fault.address)

-- an edit that is refused
abbrev pub refused_data : Refusal → Data
refused_data (refusal.Stale current) = stale_data (refusal.Stale current) current
refused_data (refusal.Fault fault) = fault_data (refusal.Fault fault) fault
refused_data refused = plain_data refused

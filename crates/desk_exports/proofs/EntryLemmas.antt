-- What an entry is made of.
use Rattle.std.proofs.Common.{◌≡◌, ℕ, Bool, List, Option, Some, None, sym, ap}
use Rattle.std.specs.Option.{option_map, option_zip}
use Rattle.desk_exports.specs.Entry.{entry_with, terms_with}
use Rattle.desk_exports.specs.Options.{has_option}
use Rattle.desk_exports.specs.declared.entry.Clients.{Clients}
use Rattle.desk_exports.specs.declared.entry.Entry.{Entry}
use Rattle.desk_exports.specs.declared.entry.Flavour.{Flavour}
use Rattle.desk_exports.specs.declared.entry.Mapping.{Mapping}
use Rattle.desk_exports.specs.declared.entry.Terms.{Terms}
use Rattle.desk_exports.specs.declared.grammar.GrammarLine.{GrammarLine}
use Rattle.desk_exports.specs.declared.options.Keyword.TheVariants as keyword

-- an entry has the terms and clients of its line
pub record HasParts (number : ℕ) (line : GrammarLine) (entry : Entry) (t : Option Terms) (c : Option Clients) : Type 0 where
  pub terms : t ≡ Some entry.terms
  pub clients : c ≡ Some entry.clients
  pub number_is : entry.line ≡ number
  pub alldirs : entry.alldirs ≡ has_option keyword.AllDirs line.settings

pub entry_parts : (number : ℕ) (line : GrammarLine) (entry : Entry) (t : Option Terms) (c : Option Clients) → option_map (entry_with number line) (option_zip t c) ≡ Some entry → HasParts number line entry t c
entry_parts number line entry None c e = absurd (cc)
entry_parts number line entry (Some terms) None e = absurd (cc)
entry_parts number line entry (Some terms) (Some clients) e =
    let same : entry_with number line (terms, clients) ≡ entry = (cc) in
    record {
      terms = ap (λ (x : Entry). Some x.terms) same;
      clients = ap (λ (x : Entry). Some x.clients) same;
      number_is = sym (ap (λ (x : Entry). x.line) same);
      alldirs = sym (ap (λ (x : Entry). x.alldirs) same);
    }

-- terms have the flavours and the mapping of their line
pub record HasTermParts (ro : Bool) (terms : Terms) (f : Option (List Flavour)) (m : Option Mapping) : Type 0 where
  pub ro_is : terms.ro ≡ ro
  pub flavours : f ≡ Some terms.flavours
  pub map_is : m ≡ Some terms.map

pub term_parts : (ro : Bool) (terms : Terms) (f : Option (List Flavour)) (m : Option Mapping) → option_map (terms_with ro) (option_zip f m) ≡ Some terms → HasTermParts ro terms f m
term_parts ro terms None m e = absurd (cc)
term_parts ro terms (Some flavours) None e = absurd (cc)
term_parts ro terms (Some flavours) (Some map) e =
    let same : terms_with ro (flavours, map) ≡ terms = (cc) in
    record { ro_is = sym (ap (λ (x : Terms). x.ro) same); flavours = ap (λ (x : Terms). Some x.flavours) same; map_is = ap (λ (x : Terms). Some x.map) same }

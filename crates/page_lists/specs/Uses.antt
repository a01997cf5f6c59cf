-- What a written name stands for, and the lines that write it. (this project's own, over exports(5), netgroup(5) and hosts(5))
use Rattle.std.specs.Prelude.{ℕ, List, [], ◌∷◌, Option, Some, None, length, map, slice_get}
use Rattle.std.specs.Option.{option_map}
use Rattle.desk_text.specs.Path.{path_text}
use Rattle.desk_tables.specs.declared.filesystems.Mount.{Mount}
use Rattle.page_html.specs.Ranges.{Ends, ends_of}
use Rattle.desk_policy.specs.Names.{addresses_of_names}
use Rattle.desk_policy.specs.Policy.{Content}
use Rattle.desk_policy.specs.declared.parsing.SiteTables.{SiteTables}
use Rattle.page_lists.specs.NameIndex.{WrittenValue, lines_with}
use Rattle.page_lists.specs.Ranges.{ranges_of}
use Rattle.page_lists.specs.declared.mentions.Mention.{Mention}
use Rattle.page_lists.specs.declared.mentions.Mention.TheVariants.{Group, Host, Line, System}
use Rattle.page_lists.specs.declared.uses.NameFacts.{NameFacts}

-- what a cell names, by value: a file system, a line of one, a host, or a netgroup
pub data MentionValue : Type 0 where
  OfSystem : ℕ → List ℕ → MentionValue
  OfLine : ℕ → List ℕ → ℕ → MentionValue
  OfHost : List ℕ → MentionValue
  OfGroup : List ℕ → MentionValue

abbrev pub mention_value : Mention → MentionValue
mention_value (System fs name) = OfSystem fs.0 name.now
mention_value (Line fs name line) = OfLine fs.0 name.now line
mention_value (Host name) = OfHost name.now
mention_value (Group name) = OfGroup name.now

-- the printed mount point of a file system
abbrev pub text_of : Option (List (List ℕ)) → List ℕ
text_of None = []
text_of (Some path) = path_text path

abbrev pub mount_name : List Mount → ℕ → List ℕ
mount_name table fs = text_of (option_map (λ mount. mount.path) (slice_get table fs))

-- a line, named with its file system
abbrev pub line_of : List Mount → WrittenValue → MentionValue
line_of table one = OfLine one.fs (mount_name table one.fs) one.line

-- the lines that write a name
abbrev pub uses_of : Content → List ℕ → List MentionValue
uses_of content name = map (line_of content.table) (lines_with content name)

-- the addresses for which a written name stands, in ascending order
abbrev pub addresses_named : SiteTables → List ℕ → List ℕ
addresses_named tables name = addresses_of_names tables.netgroups tables.hosts (name ∷ [])

-- what is told of a name: for how many addresses it stands, in the longest ranges, and the lines that write it
pub record NameValue : Type 0 where
  pub addresses : ℕ
  pub ranges : List Ends
  pub uses : List MentionValue

abbrev pub facts_value : NameFacts → NameValue
facts_value facts = record { addresses = facts.addresses; ranges = map ends_of facts.ranges.items; uses = map mention_value facts.uses.items }

abbrev pub facts_of : Content → SiteTables → List ℕ → NameValue
facts_of content tables name = record {
  addresses = length (addresses_named tables name);
  ranges = ranges_of (addresses_named tables name);
  uses = uses_of content name;
}

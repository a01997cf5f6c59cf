-- For the law `first_of_faults_is_reported`: a refused table reports the first of its faults.
use Rattle.std.specs.List.{filter_map}
use Rattle.desk_text.specs.Reading.{value_of}
use Rattle.desk_tables.specs.Groups as groups
use Rattle.desk_tables.specs.Hosts as hosts
use Rattle.desk_tables.specs.Laws.{FirstOfFaultsIsReported}
use Rattle.desk_tables.specs.Networks as networks
use Rattle.desk_tables.specs.Rows.{answered_lines}
use Rattle.desk_tables.specs.Users as users
use Rattle.desk_tables.proofs.FirstOfLineFaults.{refused_with_first}
use Rattle.desk_tables.proofs.FirstOfQuotedFaults.{of_custodians, of_filesystems}

pub first_of_faults_is_reported : FirstOfFaultsIsReported
first_of_faults_is_reported = record {
  of_hosts = λ text fault. refused_with_first (hosts.host_faults text) (filter_map value_of (answered_lines hosts.line_answer text)) fault;
  of_networks = λ text fault. refused_with_first (networks.network_faults text) (filter_map value_of (answered_lines networks.line_answer text)) fault;
  of_users = λ text fault. refused_with_first (users.user_faults text) (filter_map value_of (answered_lines users.line_answer text)) fault;
  of_groups = λ text fault. refused_with_first (groups.group_faults text) (filter_map value_of (answered_lines groups.line_answer text)) fault;
  of_filesystems = of_filesystems;
  of_custodians = of_custodians;
}

-- The seven files of a site that are not of one file system. (this project's own)
use Rattle.desk_policy.specs.declared.per_site.PerSite.{PerSite}
use Rattle.desk_policy.specs.declared.site_file.SiteFile.{SiteFile}
use Rattle.desk_policy.specs.declared.site_file.SiteFile.TheVariants.{Custodians, Filesystems, Group, Hosts, Netgroup, Networks, Passwd}

-- what there is for one of the files
abbrev pub of_file : {X : Type 0} → PerSite X → SiteFile → X
of_file files Custodians = files.custodians
of_file files Filesystems = files.filesystems
of_file files Hosts = files.tables.hosts
of_file files Networks = files.tables.networks
of_file files Passwd = files.tables.passwd
of_file files Group = files.tables.group
of_file files Netgroup = files.tables.netgroup

-- another value in the place of that of one of the files
abbrev pub with_file : {X : Type 0} → PerSite X → SiteFile → X → PerSite X
with_file files Custodians value = record files { custodians = value }
with_file files Filesystems value = record files { filesystems = value }
with_file files Hosts value = record files { tables = record files.tables { hosts = value } }
with_file files Networks value = record files { tables = record files.tables { networks = value } }
with_file files Passwd value = record files { tables = record files.tables { passwd = value } }
with_file files Group value = record files { tables = record files.tables { group = value } }
with_file files Netgroup value = record files { tables = record files.tables { netgroup = value } }

-- what a function gives for each of the files
abbrev pub by_file : {X : Type 0} → (SiteFile → X) → PerSite X
by_file f = record {
  custodians = f Custodians;
  filesystems = f Filesystems;
  tables = record { hosts = f Hosts; networks = f Networks; passwd = f Passwd; group = f Group; netgroup = f Netgroup };
}

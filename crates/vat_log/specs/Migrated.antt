-- What migrating gives.
use Rattle.vat_log.specs.Log.{Log, later_version}
use Rattle.vat_log.specs.declared.version.LogVersion.{LogVersion}
use Rattle.vat_log.specs.declared.version.LogVersion.TheVariants.{One, Two, Three}

-- the version to which a log is migrated: it never changes by which edition of rpc.capnp a log is judged
abbrev pub migrated_version : LogVersion → LogVersion
migrated_version One = Two
migrated_version Two = Two
migrated_version Three = Three

-- the log in a version of today that is judged alike, with the same vat and records
abbrev pub migrated : Log → Log
migrated log = record log { version = migrated_version log.version }

-- the log of a runtime that speaks the later edition of rpc.capnp, with the same vat and records
abbrev pub raised : Log → Log
raised log = record log { version = later_version }

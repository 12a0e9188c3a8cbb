-- What a log says, and in which version of the format it stands.
use Rattle.std.specs.Prelude.{ℕ, List}
use Rattle.vat_log.specs.declared.body.Body.{Body}
use Rattle.vat_log.specs.declared.version.LogVersion.{LogVersion}
use Rattle.vat_log.specs.declared.version.LogVersion.TheVariants.{One, Two, Three}

-- the version of the format, the vat, and its records in their order
pub record Log : Type 0 where
  pub version : LogVersion
  pub vat : ℕ
  pub records : List Body

-- the number of a version
abbrev pub version_number : LogVersion → ℕ
version_number One = 1
version_number Two = 2
version_number Three = 3

-- the version in which a log is written, unless its runtime speaks the later edition of rpc.capnp
abbrev pub written_version : LogVersion
written_version = Two

-- the version in which a log is written whose runtime speaks the later edition
abbrev pub later_version : LogVersion
later_version = Three

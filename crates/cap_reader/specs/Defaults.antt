-- The limits within which frames are read where nothing else is asked for (encoding specification, "Security
-- Considerations").
use Rattle.cap_reader.specs.declared.limits.Limits.{Limits}

-- visits of 8,388,608 words, which are 64 MiB, and 64 structs one in another
abbrev pub default_limits : Limits
default_limits = record { words = 8388608; depth = 64 }

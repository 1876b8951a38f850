-- The laws of the files that are made.
use Rattle.std.specs.Prelude.{◌≡◌, ℕ, ◌^◌, ◌<◌, ◌≤◌, List, length, Ok}
use Rattle.evp_file.specs.declared.file.KnownFormat.{KnownFormat}
use Rattle.evp_file.specs.Reading.{file_of}
use Rattle.evp_profile.specs.declared.profile.Profile.{Profile}
use Rattle.evp_gen.specs.Senders.{sent_file, sent_bytes}

-- a sender's file is read as its format and its records, whatever formats are known, at each limit
-- that a job may have
abbrev pub SentIsRead : Type 0
SentIsRead = (profile : Profile) (s n : ℕ) (known : List KnownFormat) (limit : ℕ)
    → s < 4 → n ≤ 20000 → 64 ≤ limit → limit < 2 ^ 32
    → file_of known limit (sent_bytes profile s n) ≡ Ok (sent_file profile s n)

-- it has at most 16 MiB
abbrev pub SentIsShort : Type 0
SentIsShort = (profile : Profile) (s n : ℕ) → s < 4 → n ≤ 20000
    → length (sent_bytes profile s n) ≤ 16777216

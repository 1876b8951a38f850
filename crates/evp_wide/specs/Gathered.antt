-- Bytes picked from a window of sixteen.
use lib.Lanes.{zip2}
use Rattle.std.specs.Prelude.{◌≡◌, ℕ, ◌<◌, ◌≤◌, ◌⊎◌, nat_lt, if◌then◌else◌, List, map, take, replicate, slice_index}
use Rattle.std.specs.Prelude.{All, bit_or, bit_and}

-- a byte of the window, or 0 where the place is none
abbrev pub picked : List ℕ → ℕ → ℕ
picked bytes place = if nat_lt place 16 then slice_index bytes place else 0

-- byte k is the byte of the window at the mask's place k, or 0
abbrev pub gathered : List ℕ → List ℕ → List ℕ
gathered mask bytes = map (picked bytes) mask

-- 255 where the top bit of the byte is set, else 0
abbrev pub sign_byte : ℕ → ℕ
sign_byte byte = if nat_lt byte 128 then 0 else 255

-- the signs of the bytes that the mask picks, and 0 where it picks none
abbrev pub signs_gathered : List ℕ → List ℕ → List ℕ
signs_gathered mask bytes = map sign_byte (gathered mask bytes)

-- each place is one of the window, or 128 or more
abbrev pub ArePlaces : List ℕ → Type 0
ArePlaces mask = All (λ place. (place < 16) ⊎ (128 ≤ place)) mask

-- each byte with the constant's bits set too
abbrev pub with_constant : List ℕ → List ℕ → List ℕ
with_constant bytes constant = zip2 bit_or bytes constant

-- each of sixteen bytes with those bits set too that stood there and are kept
abbrev pub with_kept : List ℕ → List ℕ → List ℕ → List ℕ
with_kept bytes keep stood = zip2 bit_or bytes (zip2 bit_and (take 16 stood) keep)

-- bits in which sixteen bytes differ from others: none is set
abbrev pub AreNone : List ℕ → Type 0
AreNone bits = bits ≡ replicate 16 0

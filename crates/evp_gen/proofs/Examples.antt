-- The definitions computed: records of the first sender, and the rounds for one and for five records.
use Rattle.std.proofs.Common.{◌≡◌, [], ◌∷◌, refl}
use Rattle.std.specs.Fmt.{digits}
use Rattle.evp_format.specs.Packing.{pack}
use Rattle.evp_profile.specs.declared.profile.Profile.TheVariants.{Le64, Be32}
use Rattle.evp_gen.specs.Formats.{list_of}
use Rattle.evp_gen.specs.Document.{round_value, rounds_value}
use Rattle.evp_gen.specs.Senders.{sent_layout, sent_record}

-- the tag `3`, and a list of three
record_of_three : pack (sent_layout Le64) (sent_record 0 3)
    ≡ 3 ∷ 0 ∷ 0 ∷ 0 ∷ 123 ∷ 254 ∷ 255 ∷ 255 ∷ 32 ∷ 0 ∷ 0 ∷ 0 ∷ 0 ∷ 0 ∷ 0 ∷ 0 ∷ 3 ∷ 0 ∷ 0 ∷ 0 ∷ 0 ∷ 0 ∷ 0 ∷ 0 ∷ 40 ∷ 0 ∷ 0 ∷ 0 ∷ 0 ∷ 0 ∷ 0
    ∷ 0 ∷ 51 ∷ 0 ∷ 0 ∷ 0 ∷ 0 ∷ 0 ∷ 0 ∷ 0 ∷ 209 ∷ 255 ∷ 210 ∷ 255 ∷ 211 ∷ 255 ∷ []
unfolding digits
record_of_three = refl

-- a null tag and no list
record_of_none : pack (sent_layout Be32) (sent_record 3 4)
    ≡ 0 ∷ 0 ∷ 0 ∷ 4 ∷ 255 ∷ 255 ∷ 254 ∷ 193 ∷ 0 ∷ 0 ∷ 0 ∷ 0 ∷ 0 ∷ 0 ∷ 0 ∷ 0 ∷ 0 ∷ 0 ∷ 0 ∷ 0 ∷ []
unfolding digits
record_of_none = refl

one_in_the_last_round : rounds_value 1
    ≡ list_of (round_value 0 [] ∷ round_value 0 (12 ∷ []) ∷ round_value 0 (16 ∷ []) ∷ round_value 1 (16 ∷ []) ∷ [])
one_in_the_last_round = refl

two_in_the_last_round : rounds_value 5
    ≡ list_of (round_value 1 [] ∷ round_value 1 (12 ∷ []) ∷ round_value 1 (16 ∷ []) ∷ round_value 2 (16 ∷ []) ∷ [])
two_in_the_last_round = refl

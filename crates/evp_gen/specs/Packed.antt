-- The pieces of a packed record of a sender.
use Rattle.std.specs.Prelude.{ℕ, ◌+◌, ◌*◌, ◌%◌, ℤ, map}
use Rattle.std.specs.List.{range_with_len}
use Rattle.evp_base.specs.declared.kind.Kind.TheVariants.{Int}
use Rattle.evp_base.specs.Numbers.{digits}
use Rattle.evp_format.specs.Converting.{as_number}
use Rattle.evp_format.specs.Packing.{Piece, Pieces, machine_of, pack_counted, pack_part, pack_text}
use Rattle.evp_format.specs.Tree.{number_part}
use Rattle.evp_format.specs.ValueView.{elements_from}
use Rattle.evp_profile.specs.declared.profile.Profile.{Profile}
use Rattle.evp_profile.specs.Profile.{byte_order, pointer_size}
use Rattle.evp_gen.specs.Senders.{element_of, sent_layout, tag_of}

-- the bytes of the fields
abbrev pub fixed_size : Profile → ℕ
fixed_size profile = 8 + 3 * pointer_size profile

-- the string `tag` of record i
abbrev pub tag_pieces : Profile → ℕ → Pieces
tag_pieces profile i =
    pack_text (machine_of (sent_layout profile)) 8 (tag_of i) (fixed_size profile)

-- the list `v`, behind blocks that end there
abbrev pub listed_pieces : Profile → ℕ → ℕ → Pieces
listed_pieces profile i size =
    let machine = machine_of (sent_layout profile) in
    pack_counted machine (8 + 2 * pointer_size profile) 2
    (elements_from (map (element_of i) (range_with_len 0 (i % 4))))
    (λ at value after. pack_part machine (number_part Int) 2 at value after) size

abbrev pub element_number : ℕ → ℕ → ℤ
element_number i k = as_number (element_of i k)

-- element k of a list whose first is at q
abbrev pub element_piece : Profile → ℕ → ℕ → ℕ → Piece
element_piece profile q i k =
    record { at = q + k * 2; bytes = digits (byte_order profile) 2 (element_number i k) }

-- Profiles: the byte order, the pointer size and the greatest alignment of a machine.
use Rattle.std.specs.Prelude.{ℕ}
use Rattle.evp_base.specs.declared.order.Order.{Order}
use Rattle.evp_base.specs.declared.order.Order.TheVariants.{Little, Big}
use Rattle.evp_profile.specs.declared.profile.Profile.{Profile}
use Rattle.evp_profile.specs.declared.profile.Profile.TheVariants.{Le64, Le32, Be64, Be32}

abbrev pub byte_order : Profile → Order
byte_order Le64 = Little
byte_order Le32 = Little
byte_order Be64 = Big
byte_order Be32 = Big

-- bytes of a pointer
abbrev pub pointer_size : Profile → ℕ
pointer_size Le64 = 8
pointer_size Le32 = 4
pointer_size Be64 = 8
pointer_size Be32 = 4

-- no type is aligned more than this
abbrev pub greatest_alignment : Profile → ℕ
greatest_alignment Le64 = 8
greatest_alignment Le32 = 4
greatest_alignment Be64 = 8
greatest_alignment Be32 = 8

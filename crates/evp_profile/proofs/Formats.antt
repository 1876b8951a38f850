-- The format of declared types, once their number is known.
use Rattle.std.proofs.Common.{◌≡◌, ℕ, ◌<◌, ◌≤◌, Bool, true, false, List, [], length, Result, Ok, Err, refl, ap, ◌∙◌}
use Rattle.std.specs.Prelude.{nat_le, ◌&&◌}
use Rattle.std.proofs.lemmas.Bool.{le-leb}
use Rattle.evp_format.specs.declared.layout_fault.LayoutFault.{LayoutFault}
use Rattle.evp_format.specs.declared.layout_fault.LayoutFault.TheVariants.{Limit}
use Rattle.evp_format.specs.declared.layout_fault.Which.TheVariants.{Types}
use Rattle.evp_format.specs.declared.record_type.RecordType.{RecordType}
use Rattle.evp_format.specs.Layout.{layout_with}
use Rattle.evp_format.specs.Steps.{◌>>=◌}
use Rattle.evp_profile.specs.declared.profile.Profile.{Profile}
use Rattle.evp_profile.specs.Declarations.{DeclaredType}
use Rattle.evp_profile.specs.LayingOut.{type_count, laid_types, by_profile}
use Rattle.evp_profile.specs.Profile.{byte_order, pointer_size}
use Rattle.evp_profile.proofs.Ends.{above_is_false}

and_false : (a : Bool) → (a && false) ≡ false
and_false true = refl
and_false false = refl

none_refused : (count : ℕ) → count < 1 → (nat_le 1 count && nat_le count 64) ≡ false
none_refused count few = ap (λ (b : Bool). b && nat_le count 64) (above_is_false 1 count few)

many_refused : (count : ℕ) → 64 < count → (nat_le 1 count && nat_le count 64) ≡ false
many_refused count many = ap (λ (b : Bool). nat_le 1 count && b) (above_is_false count 64 many) ∙ and_false (nat_le 1 count)

refused_from : (profile : Profile) (declared : List DeclaredType) (count : ℕ) → length declared ≡ count
    → (nat_le 1 count && nat_le count 64) ≡ false → by_profile profile declared ≡ Err (Limit Types count)
unfolding by_profile type_count
refused_from profile declared count same none = rw (same, none) refl

pub too_few : (profile : Profile) (declared : List DeclaredType) (count : ℕ) → length declared ≡ count → count < 1
    → by_profile profile declared ≡ Err (Limit Types count)
too_few profile declared count same few = refused_from profile declared count same (none_refused count few)

pub too_many : (profile : Profile) (declared : List DeclaredType) (count : ℕ) → length declared ≡ count → 64 < count
    → by_profile profile declared ≡ Err (Limit Types count)
too_many profile declared count same many = refused_from profile declared count same (many_refused count many)

counted : (profile : Profile) (declared : List DeclaredType) → 1 ≤ length declared → length declared ≤ 64
    → by_profile profile declared ≡ (laid_types profile [] declared >>= λ types. Ok
    (layout_with (byte_order profile) (pointer_size profile) types))
unfolding by_profile type_count
counted profile declared some few =
    let least = le-leb 1 (length declared) some in
    let most = le-leb (length declared) 64 few in
    rw (least, most) refl

pub types_refused : (profile : Profile) (declared : List DeclaredType) (fault : LayoutFault) → 1 ≤ length declared → length declared ≤ 64
    → laid_types profile [] declared ≡ Err fault → by_profile profile declared ≡ Err fault
types_refused profile declared fault some few e =
    counted profile declared some few ∙ ap (λ (r : Result (List RecordType) LayoutFault). r
    >>= λ types. Ok (layout_with (byte_order profile) (pointer_size profile) types)) e

pub types_laid : (profile : Profile) (declared : List DeclaredType) (types : List RecordType) → 1 ≤ length declared → length declared ≤ 64
    → laid_types profile [] declared ≡ Ok types
    → by_profile profile declared ≡ Ok (layout_with (byte_order profile) (pointer_size profile) types)
types_laid profile declared types some few e =
    counted profile declared some few ∙ ap (λ (r : Result (List RecordType) LayoutFault). r
    >>= λ types. Ok (layout_with (byte_order profile) (pointer_size profile) types)) e

-- The law of layout by profile.
use Rattle.std.proofs.Common.{◌≡◌, ℕ, suc, List, [], ◌∷◌, ◌++◌, length, take, Result, Ok, Err, refl, sym, ap, subst, ◌∙◌, append_assoc}
use Rattle.std.proofs.Common.{arith}
use Rattle.std.specs.Prelude.{slice_get, nat_le, ◌&&◌, Some, MatchResult}
use Rattle.std.proofs.lemmas.Bool.{and_parts, leb-true}
use Rattle.std.proofs.lemmas.List.{append-nil, take_at}
use Rattle.evp_base.specs.declared.order.Order.{Order}
use Rattle.evp_format.specs.declared.layout_fault.LayoutFault.{LayoutFault}
use Rattle.evp_format.specs.declared.layout_fault.LayoutFault.TheVariants.{Limit}
use Rattle.evp_format.specs.declared.layout_fault.Which.TheVariants.{Types}
use Rattle.evp_format.specs.declared.record_type.RecordType.{RecordType}
use Rattle.evp_format.specs.Layout.{Layout, layout_with}
use Rattle.evp_format.specs.SoFar.{MayFollow}
use Rattle.evp_format.specs.Steps.{◌>>=◌}
use Rattle.evp_format.proofs.TypesAgain.{Splits, are_earlier, may_follow}
use Rattle.evp_format.proofs.StatedFields.{slice_get-seam}
use Rattle.evp_format.proofs.WellLaidTypes.{bind_ok, passed, ok_is, done}
use Rattle.evp_profile.specs.declared.profile.Profile.{Profile}
use Rattle.evp_profile.specs.CLayout.{IsLaidInC, IsCLayout}
use Rattle.evp_profile.specs.DeclarationLaws.{AreDeclaredTypes, IsLayoutOf, IsOnlyLayoutOf, LayoutsAreExact}
use Rattle.evp_profile.specs.Declarations.{DeclaredType}
use Rattle.evp_profile.specs.LayingOut.{laid_types, type_count, by_profile}
use Rattle.evp_profile.specs.Profile.{byte_order, pointer_size}
use Rattle.evp_profile.proofs.Declared.{types_behind}
use Rattle.evp_profile.proofs.DeclaredAgain.{type_again}
use Rattle.evp_profile.proofs.Formats.{types_laid}
use Rattle.evp_profile.proofs.LaidOut.{laid_types-well_laid, laid_types-as_in_c}

-- ---- what is laid out is declared

layout_is : (profile : Profile) (declared : List DeclaredType) (layout : Layout) → by_profile profile declared ≡ Ok layout
    → IsLayoutOf profile declared layout
unfolding by_profile type_count
layout_is profile declared layout e =
    let finish : List RecordType → Result Layout LayoutFault = λ types. Ok (layout_with (byte_order profile) (pointer_size profile) types)
    in
    let count = bind_ok (type_count (length declared)) (λ count. laid_types profile [] declared >>= finish) layout e in
    let types = bind_ok (laid_types profile [] declared) finish layout count.2 in
    let made = layout_with (byte_order profile) (pointer_size profile) types.0 in
    let counted = passed (nat_le 1 (length declared) && nat_le (length declared) 64) (Limit Types (length declared)) (length declared)
    count.0 count.1 in
    let parts = and_parts (nat_le 1 (length declared)) (nat_le (length declared) 64) counted.0 in
    let behind = types_behind profile [] declared types.0 types.1 in
    let is : IsLayoutOf profile declared made = record {
      laid = laid_types-well_laid profile declared types.0 (leb-true 1 (length declared) parts.0) (leb-true (length declared) 64 parts.1)
          types.1;
      in_c = laid_types-as_in_c profile declared types.0 types.1;
      types = subst (AreDeclaredTypes [] declared) (sym behind.are) behind.each;
    } in
    subst (IsLayoutOf profile declared) (ok_is made layout types.2) is

-- ---- what is declared is laid out

types_again : (profile : Profile) (layout : Layout) (front rest : List RecordType) (declared : List DeclaredType) → IsCLayout profile layout
    → Splits layout front rest → AreDeclaredTypes front declared rest
    → laid_types profile front declared ≡ Ok layout.types
unfolding laid_types
types_again profile layout front [] [] in_c splits are = ap (λ (types : List RecordType). done types)
    (sym (append-nil front) ∙ sym splits.is)
types_again profile layout front [] (declared ∷ more) in_c splits are = absurd are
types_again profile layout front (type ∷ rest) [] in_c splits are = absurd are
types_again profile layout front (type ∷ rest) (declared ∷ more) in_c splits are =
    let k = length front in
    let at_seam : slice_get layout.types k ≡ Some type = ap (λ (some : List RecordType). slice_get some k) splits.is
    ∙ slice_get-seam front rest type in
    let before : take k layout.types ≡ front = ap (take k) splits.is ∙ take_at front (type ∷ rest) k refl in
    let follows = subst (λ (n : ℕ). MayFollow n front type) in_c.has_pointer (may_follow layout front rest type splits) in
    let stands = subst (λ (some : List RecordType). IsLaidInC profile some type) before (in_c.each_type k type at_seam) in
    let first = type_again profile front declared type (are_earlier layout front (type ∷ rest) splits).names follows stands are.0 in
    let together : front ++ type ∷ rest ≡ (front ++ type ∷ []) ++ rest = sym (append_assoc front (type ∷ []) rest) in
    let later = types_again profile layout (front ++ type ∷ []) rest more in_c (record { laid = splits.laid; is = splits.is ∙ together })
    are.1 in
    let with_type : RecordType → Result (List RecordType) LayoutFault = λ type. laid_types profile (front ++ type ∷ []) more in
    ap (λ (r : Result RecordType LayoutFault). r >>= with_type) first ∙ later

declared_count : (earlier : List RecordType) (declared : List DeclaredType) (types : List RecordType)
    → AreDeclaredTypes earlier declared types → length declared ≡ length types
declared_count earlier [] [] are = refl
declared_count earlier [] (type ∷ types) are = absurd are
declared_count earlier (declared ∷ rest) [] are = absurd are
declared_count earlier (declared ∷ rest) (type ∷ types) are = ap suc (declared_count (earlier ++ type ∷ []) rest types are.1)

layout_again : (profile : Profile) (declared : List DeclaredType) (layout : Layout) → IsLayoutOf profile declared layout
    → by_profile profile declared ≡ Ok layout
layout_again profile declared layout is =
    let types = layout.types in
    let count = declared_count [] declared types is.types in
    let some = is.laid.types_allowed.0 in
    let few = is.laid.types_allowed.1 in
    let laid = types_again profile layout [] types declared is.in_c (record { laid = is.laid; is = refl }) is.types in
    types_laid profile declared types (omega (arith, count, some)) (omega (arith, count, few)) laid
    ∙ ap (λ (order : Order). done (layout_with order (pointer_size profile) types)) (sym is.in_c.has_order)
    ∙ ap (λ (pointer : ℕ). done (layout_with layout.order pointer types)) (sym is.in_c.has_pointer)

-- ---- the law

exact_step : (profile : Profile) (declared : List DeclaredType) (answer : Result Layout LayoutFault)
    → by_profile profile declared ≡ answer
    → MatchResult answer (IsOnlyLayoutOf profile declared) (λ fault. (layout : Layout) → ¬ IsLayoutOf profile declared layout)
exact_step profile declared (Ok layout) is = record {
  is = layout_is profile declared layout is;
  only = λ other of. ok_is other layout (sym (layout_again profile declared other of) ∙ is);
}
exact_step profile declared (Err fault) is = λ layout of. let both = sym is ∙ layout_again profile declared layout of in absurd (cc)

pub exact_law : LayoutsAreExact
exact_law profile declared = exact_step profile declared (by_profile profile declared) refl

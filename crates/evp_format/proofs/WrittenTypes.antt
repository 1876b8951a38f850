-- The types of a well laid format have few enough fields to be described.
use Rattle.std.proofs.Common.{◌≡◌, ℕ, zero, suc, ◌<◌, ◌^◌, List, [], ◌∷◌, length, get_or, Some, subst, arith}
use Rattle.std.specs.Prelude.{slice_get}
use Rattle.std.specs.List.{All}
use Rattle.evp_format.specs.declared.record_type.RecordType.{RecordType}
use Rattle.evp_format.specs.Layout.{Layout}
use Rattle.evp_format.specs.WellLaid.{IsWellLaid}
use Rattle.evp_format.proofs.Pushed.{slice_get-some}

get_or-slice_get : (types : List RecordType) (k : ℕ) (type d : RecordType) → slice_get types k ≡ Some type → type ≡ get_or types k d
get_or-slice_get [] k type d found = absurd (cc)
get_or-slice_get (first ∷ types) zero type d found = cc
get_or-slice_get (first ∷ types) (suc k) type d found = get_or-slice_get types k type d found

pub few_fields : (layout : Layout) → IsWellLaid layout → All (λ (type : RecordType). length type.fields < 2 ^ 16) layout.types
few_fields layout laid k d below =
    let some = slice_get-some layout.types k below in
    let few = (laid.each_type k some.0 some.1).fields_allowed.1 in
    subst (λ (type : RecordType). length type.fields < 2 ^ 16) (get_or-slice_get layout.types k some.0 d some.1) (omega (arith, few))

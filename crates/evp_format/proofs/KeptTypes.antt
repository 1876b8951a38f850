-- What is kept of the types so far, one type on.
use Rattle.std.proofs.Common.{◌≡◌, ℕ, ◌+◌, ◌<◌, ◌≤◌, List, [], ◌∷◌, ◌++◌, length, take, slice_set, Result, Ok, Err, sym, ap, subst, ◌∙◌}
use Rattle.std.proofs.Common.{arith}
use Rattle.std.specs.Prelude.{IfOk}
use Rattle.std.specs.List.{All}
use Rattle.std.proofs.lemmas.List.{length-append, take_more_set}
use Rattle.std.proofs.lemmas.List.Elements.{All-push}
use Rattle.evp_base.specs.declared.order.Order.{Order}
use Rattle.evp_format.specs.declared.record_type.RecordType.{RecordType}
use Rattle.evp_format.specs.Layout.{layout_with}
use Rattle.evp_format.specs.SoFar.{AreKept, MayFollow}
use Rattle.evp_format.specs.Tree.{trees, resolved}
use Rattle.evp_format.specs.WellLaid.{depth, IsWellLaid}
use Rattle.evp_format.proofs.CountedReads.{depths_push}
use Rattle.evp_format.proofs.WellLaidFormats.{all_fields-push, types_push, well_laid}

kept_behind : (pointer : ℕ) (types : List RecordType) (type : RecordType) (depths : List ℕ) (fields deep : ℕ)
    → AreKept pointer types depths fields → MayFollow pointer types type
    → length types < 64 → length types < length depths → deep ≡ depth (resolved (trees types) type)
    → AreKept pointer (types ++ type ∷ []) (slice_set depths (length types) deep) (fields + length type.fields)
kept_behind pointer types type depths fields deep kept follows room fits is =
    let long = length-append types (type ∷ []) in
    let one_more : length (types ++ type ∷ []) ≡ length types + 1 = omega (arith, long) in
    let front : take (length (types ++ type ∷ [])) (slice_set depths (length types) deep) ≡ take (length types) depths ++ deep ∷ [] =
    ap (λ (n : ℕ). take n (slice_set depths (length types) deep)) one_more ∙ take_more_set depths (length types) deep fits in
    let all = all_fields-push types type in
    let so_far = kept.counted in
    let shallow = follows.shallow in
    record {
      pointer_allowed = kept.pointer_allowed;
      laid = types_push pointer types type kept.laid follows;
      few = omega (arith, one_more, room);
      nested = front ∙ depths_push types type (take (length types) depths) deep kept.nested is;
      shallow = subst (All (λ depth. depth ≤ 16)) (sym front)
          (All-push (λ depth. depth ≤ 16) (take (length types) depths) deep kept.shallow (omega (arith, is, shallow)));
      counted = omega (arith, all, so_far);
    }

pub kept_push : (pointer : ℕ) (types grown : List RecordType) (type : RecordType) (depths : List ℕ) (fields number deep count : ℕ)
    → AreKept pointer types depths fields → MayFollow pointer types type
    → length types < 64 → 64 ≤ length depths → grown ≡ types ++ type ∷ [] → number ≡ length types → deep
    ≡ depth (resolved (trees types) type) → count ≡ length type.fields
    → AreKept pointer grown (slice_set depths number deep) (fields + count)
kept_push pointer types grown type depths fields number deep count kept follows room long pushed last is counted =
    rw (pushed, last, counted) (kept_behind pointer types type depths fields deep kept follows room (omega (arith, room, long)) is)

pub kept_well_laid : (order : Order) (pointer : ℕ) (types : List RecordType) (depths : List ℕ) (fields : ℕ)
    → AreKept pointer types depths fields → 1 ≤ length types → IsWellLaid (layout_with order pointer types)
kept_well_laid order pointer types depths fields kept some = well_laid order pointer types kept.pointer_allowed some kept.few kept.laid

-- what holds of the value that a call makes holds of what it answered
pub made_holds : {X E : Type 0} (P : X → Type 0) (answer : Result X E) (value : X) → IfOk answer (λ (x : X). x ≡ value) → P value
    → IfOk answer P
made_holds P (Ok x) value is holds = subst P (sym is) holds
made_holds P (Err fault) value is holds = tt

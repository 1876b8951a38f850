-- What a conversion answers is a value of the receiver's format, within the limit.
use Rattle.std.proofs.Common.{◌≡◌, ℕ, ◌<◌, List, Option, Some, None, Result, Ok, Err, refl, sym, ap, ◌∙◌}
use Rattle.std.specs.Prelude.{All, IsOk}
use Rattle.evp_base.specs.declared.step.Step.{Step}
use Rattle.evp_format.specs.Clashing.{clash}
use Rattle.evp_format.specs.Conversion.{Answer, clashes, converted, unfit_at, large_at, answer_of, unless_clash, conversion}
use Rattle.evp_format.specs.Converting.{Made, made, unfit, large, convert}
use Rattle.evp_format.specs.Datum.{Datum}
use Rattle.evp_format.specs.Layout.{Layout}
use Rattle.evp_format.specs.Laws.{IsReceivers}
use Rattle.evp_format.specs.Typed.{IsOf}
use Rattle.evp_format.specs.declared.broken.Broken.{Broken}
use Rattle.evp_format.specs.Viewing.{view}
use Rattle.evp_format.specs.WellLaid.{IsWellLaid}
use Rattle.evp_format.proofs.MadeAll.{converted-receivers}
use Rattle.evp_record.specs.Record.{Record, IsRecord, value_or_null, value_of}
use Rattle.evp_record.proofs.ViewTypedAll.{view-typed}

made_of : (to : Layout) (m : Made Datum) (value : Datum) (size : ℕ) → answer_of to m ≡ converted value size → m ≡ made value size
made_of to (made value' size') value size is = let first : value' ≡ value = cc in let second : size' ≡ size = cc in cc
made_of to (unfit place) value size is = cc
made_of to (large place) value size is = cc

record IsUnclashed (path : Option (List Step)) (next : Unit {0} → Answer) (value : Datum) (size : ℕ) : Type 0 where
  none : path ≡ None
  answered : next tt ≡ converted value size

unclashed : (path : Option (List Step)) (next : Unit {0} → Answer) (value : Datum) (size : ℕ) → unless_clash path next ≡ converted value size
    → IsUnclashed path next value size
unclashed None next value size is = record { none = refl; answered = is }
unclashed (Some path) next value size is = let wrong : clashes path ≡ converted value size = is in cc

pub received : (from to : Layout) (value result : Datum) (limit size : ℕ) → IsWellLaid from → IsWellLaid to → IsOf from value
    → conversion from to value limit ≡ converted result size → IsReceivers to limit result size
received from to value result limit size laid laid' typed is =
    let none = unclashed (clash from to) (λ _. answer_of to (convert to value limit)) result size is in
    converted-receivers from to value result limit size laid laid' none.none typed (made_of to (convert to value limit) result size none.answered)

ok_value : (r : Result Datum Broken) → IsOk r → r ≡ Ok (value_or_null r)
ok_value (Ok value) ok = refl
ok_value (Err fault) ok = cc

-- the same by what a record's accessors and its view hand out
pub received_plainly : (held : Record) (to from : Layout) (bytes : List ℕ) (value result : Datum) (limit size : ℕ) → All (λ byte. byte < 256) bytes
    → bytes ≡ held.bytes → IsRecord held → from ≡ held.layout → IsWellLaid from → IsWellLaid to → value ≡ value_of held
    → conversion from to value limit ≡ converted result size → IsReceivers to limit result size
received_plainly held to from bytes value result limit size are bytes_is is from_is laid laid' value_is answered =
    let seen : view from bytes ≡ Ok value =
    ap (λ (l : Layout). view l bytes) from_is ∙ ap (view held.layout) bytes_is ∙ ok_value (view held.layout held.bytes) is.viewed
    ∙ ap (λ (v : Datum). Ok v) (sym value_is) in
    received from to value result limit size laid laid' (view-typed from bytes value laid are seen) answered

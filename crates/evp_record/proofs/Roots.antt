-- The record itself as a record that is reached.
use Rattle.std.proofs.Common.{◌≡◌, ℕ, ◌-◌, ◌≤◌, Bool, true, false, nat_lt, List, [], length, Result, refl, sym, ap, ◌∙◌, subst, arith}
use Rattle.std.specs.Prelude.{IsOk}
use Rattle.std.proofs.lemmas.Bool.Decides.{nat_tests}
use Rattle.evp_format.specs.declared.broken.Broken.{Broken}
use Rattle.evp_format.specs.declared.broken.Broken.TheVariants.{ShortRecord}
use Rattle.evp_format.specs.declared.record_type.RecordType.{RecordType}
use Rattle.evp_format.specs.Datum.{Datum}
use Rattle.evp_format.specs.Layout.{Layout}
use Rattle.evp_format.specs.Tree.{root_of, length_of}
use Rattle.evp_format.specs.Viewing.{Walked, unless, view_tree, viewed, view, image_of}
use Rattle.evp_format.specs.WellLaid.{IsWellLaid}
use Rattle.evp_record.specs.Record.{Record}
use Rattle.evp_record.specs.Spots.{IsReached, walk_at, root_spot}
use Rattle.evp_record.specs.declared.spot.Spot.{Spot}
use Rattle.evp_record.proofs.Lowered.{ReadsAlike-tree, viewed-alike}
use Rattle.evp_record.proofs.ReadLists.{read_of_ok}
use Rattle.evp_record.proofs.Viewed.{view-walked}

long_enough_by : (test : Bool) (next : Unit {0} → Walked Datum) → IsOk (viewed (unless test ShortRecord next)) → test ≡ false
long_enough_by true next ok = cc
long_enough_by false next ok = refl

-- bytes that have a view are as long as the record
pub long_enough : (layout : Layout) (bytes : List ℕ) → IsOk (view layout bytes) → length_of (root_of layout) ≤ length bytes
long_enough layout bytes ok =
    let passed = long_enough_by (nat_lt (length bytes) (length_of (root_of layout)))
    (λ _. view_tree (image_of layout bytes) (root_of layout) 0 [] (length_of (root_of layout))) ok in
    grind (arith, nat_tests)

-- a walk of the record on its own has its view
pub viewed_root : (held : Record) → IsOk (view held.layout held.bytes)
    → viewed (walk_at held (root_spot held.layout)) ≡ view held.layout held.bytes
viewed_root held ok =
    let layout = held.layout in
    let root = root_of layout in
    let image = image_of layout held.bytes in
    let walked = view_tree image root 0 [] (length_of root) in
    let same = view-walked layout held.bytes (long_enough layout held.bytes ok) in
    let Viewed : Result Datum Broken → Type 0 = λ r. IsOk r in
    let r = read_of_ok walked (subst Viewed same ok) in
    viewed-alike walked (walk_at held (root_spot layout)) r.value r.end
    (ReadsAlike-tree image root 0 [] [] (length_of root) 0 (omega arith)) r.is
    ∙ sym (ap viewed r.is) ∙ sym same

pub root_reached : (held : Record) → IsWellLaid held.layout → IsOk (view held.layout held.bytes) → IsReached held (root_spot held.layout)
root_reached held laid ok =
    let some = laid.types_allowed.0 in
    let long = long_enough held.layout held.bytes ok in
    let Viewed : Result Datum Broken → Type 0 = λ r. IsOk r in
    record {
      type_there = omega (arith, some);
      inside = omega (arith, long);
      walked = subst Viewed (sym (viewed_root held ok)) ok;
    }

-- the spot of the last type, as its number was read
pub spot_of_last : (layout : Layout) (types all : List RecordType) → types ≡ all → all ≡ layout.types
    → root_spot layout ≡ record { type_number = length types - 1; at = 0 }
spot_of_last layout types all read same =
    let spot : List RecordType → Spot = λ t. record { type_number = length t - 1; at = 0 } in
    ap spot (sym same) ∙ ap spot (sym read)

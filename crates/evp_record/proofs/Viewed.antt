-- A view by the marks of its walk.
use Rattle.std.proofs.Common.{◌≡◌, ℕ, ◌-◌, ◌<◌, ◌≤◌, Bool, true, false, nat_lt, List, [], length, Option, Some, Result, Ok, Err, refl, sym}
use Rattle.std.proofs.Common.{ap, ◌∙◌, arith}
use Rattle.std.specs.Prelude.{IsOk, IsErr, slice_get}
use Rattle.std.specs.Option.{is_some}
use Rattle.std.proofs.lemmas.Bool.Decides.{nat_tests}
use Rattle.evp_format.specs.declared.broken.Broken.{Broken}
use Rattle.evp_format.specs.declared.broken.Broken.TheVariants.{ShortRecord}
use Rattle.evp_format.specs.declared.place.PlaceStep.{PlaceStep}
use Rattle.evp_format.specs.declared.record_type.RecordType.{RecordType}
use Rattle.evp_format.specs.Datum.{Datum}
use Rattle.evp_format.specs.Layout.{Layout}
use Rattle.evp_format.specs.Tree.{tree_of, root_of, length_of}
use Rattle.evp_format.specs.Viewing.{Walked, read, broken, unless, view_tree, viewed, view, image_of}
use Rattle.evp_format.specs.WellLaid.{IsWellLaid}
use Rattle.evp_record.specs.Marks.{marked}
use Rattle.evp_record.specs.LeadMarks.{mark_of, record_walk}
use Rattle.evp_record.specs.Record.{Record, record_of}
use Rattle.evp_format.proofs.LaidBases.{root_length}

pub viewed-broken : (walked : Walked Datum) (fault : Broken) → Err fault ≡ marked walked → viewed walked ≡ Err fault
viewed-broken (read value mark) fault is = cc
viewed-broken (broken other) fault is = let same : fault ≡ other = cc in ap (λ (f : Broken). Err f) (sym same)

pub viewed-read : (walked : Walked Datum) (mark : ℕ) → Ok mark ≡ marked walked → IsOk (viewed walked)
viewed-read (read value other) mark is = refl
viewed-read (broken fault) mark is = cc

pub view-short : (layout : Layout) (bytes : List ℕ) → length bytes < length_of (root_of layout) → view layout bytes ≡ Err ShortRecord
view-short layout bytes short =
    let test : nat_lt (length bytes) (length_of (root_of layout)) ≡ true = grind (arith, nat_tests) in
    ap (λ (b : Bool). viewed
    (unless b ShortRecord (λ _. view_tree (image_of layout bytes) (root_of layout) 0 [] (length_of (root_of layout))))) test

pub view-walked : (layout : Layout) (bytes : List ℕ) → length_of (root_of layout) ≤ length bytes
    → view layout bytes ≡ viewed (view_tree (image_of layout bytes) (root_of layout) 0 [] (length_of (root_of layout)))
view-walked layout bytes whole =
    let test : nat_lt (length bytes) (length_of (root_of layout)) ≡ false = grind (arith, nat_tests) in
    ap (λ (b : Bool). viewed
    (unless b ShortRecord (λ _. view_tree (image_of layout bytes) (root_of layout) 0 [] (length_of (root_of layout))))) test

-- the walk of the last type as it was read is the record's walk
pub root_walk : (layout : Layout) (bytes : List ℕ) (types : List RecordType) (type : RecordType) (place : List PlaceStep)
    → IsWellLaid layout → types ≡ layout.types
    → slice_get layout.types (length layout.types - 1) ≡ Some type → place ≡ []
    → view_tree (image_of layout bytes) (tree_of layout (length types - 1)) 0 place type.length
    ≡ view_tree (image_of layout bytes) (root_of layout) 0 [] (length_of (root_of layout))
root_walk layout bytes types type place laid same found at_root =
    let image = image_of layout bytes in
    ap (λ (all : List RecordType). view_tree image (tree_of layout (length all - 1)) 0 place type.length) same
    ∙ ap (λ (p : List PlaceStep). view_tree image (root_of layout) 0 p type.length) at_root
    ∙ ap (λ (mark : ℕ). view_tree image (root_of layout) 0 [] mark) (sym (root_length layout type laid found))

-- the same, as the mark of a record that is held
pub root_mark : (layout : Layout) (bytes : List ℕ) (held : Record) (types : List RecordType) (type : RecordType) → IsWellLaid layout
    → held ≡ record_of layout bytes → types ≡ layout.types
    → slice_get layout.types (length layout.types - 1) ≡ Some type
    → mark_of (record_walk held (length types - 1) 0 type.length)
    ≡ mark_of (view_tree (image_of layout bytes) (root_of layout) 0 [] (length_of (root_of layout)))
root_mark layout bytes held types type laid is same found =
    ap (λ (some : Record). mark_of (record_walk some (length types - 1) 0 type.length)) is
    ∙ ap mark_of (root_walk layout bytes types type [] laid same found refl)

pub viewed-marked : (walked : Walked Datum) (outcome : Option ℕ) → outcome ≡ mark_of walked → is_some outcome ≡ true → IsOk (viewed walked)
viewed-marked (read value mark) outcome is some = refl
viewed-marked (broken fault) outcome is some = let none : is_some outcome ≡ false = ap is_some is in cc

pub viewed-unmarked : (walked : Walked Datum) (outcome : Option ℕ) → outcome ≡ mark_of walked → is_some outcome ≡ false
    → IsErr (viewed walked)
viewed-unmarked (read value mark) outcome is none = let some : is_some outcome ≡ true = ap is_some is in cc
viewed-unmarked (broken fault) outcome is none = refl

-- nothing is both a value and a fault
pub one_outcome : (outcome : Result Datum Broken) → IsOk outcome → IsErr outcome → ⊥
one_outcome (Ok value) ok err = cc
one_outcome (Err fault) ok err = cc

-- Arrays: where their elements agree, the arrays do.
use Rattle.std.proofs.Common.{◌≡◌, ℕ, zero, suc, ◌+◌, ◌*◌, ℤ, pos, negsuc, Bool, false, not, nat_eq, nat_lt, min, List, []}
use Rattle.std.proofs.Common.{◌∷◌, ◌++◌, Option, Some, None, refl, sym, ap, ◌∙◌, arith}
use Rattle.std.specs.Prelude.{⊤}
use Rattle.std.proofs.lemmas.Bool.Decides.{nat_tests}
use Rattle.evp_format.specs.declared.field.Field.{Field}
use Rattle.evp_format.specs.declared.field.Shape.{Shape}
use Rattle.evp_format.specs.declared.field.Shape.TheVariants.{Fixed, Counted}
use Rattle.evp_format.specs.declared.place.PlaceStep.{PlaceStep}
use Rattle.evp_format.specs.declared.place.PlaceStep.TheVariants.{Nth}
use Rattle.evp_format.specs.Bytes.{next_block}
use Rattle.evp_format.specs.Converting.{Made, made, unfit, large, then_make, unless_unfit, make_elements}
use Rattle.evp_format.specs.Converting.{make_or_zero, has_other_length, list_block, make_list, elements_of}
use Rattle.evp_format.specs.Datum.{Datum, list, Elements, empty_list, element, copies, count_of}
use Rattle.evp_format.specs.Packing.{Pieces, Machine, then_pack, pointer_piece, pack_elements, pack_counted, listed}
use Rattle.evp_format.specs.Viewing.{Image}
use Rattle.evp_format.specs.Zero.{as_count}
use Rattle.evp_plan.specs.declared.step.Elements.{Elements as PlanElements}
use Rattle.evp_plan.specs.declared.step.Part.{Part}
use Rattle.evp_plan.specs.declared.step.Run.{Run}
use Rattle.evp_plan.specs.Measuring.{measured_part, measured_elements, measured_run, measured_list, has_other_count, no_block}
use Rattle.evp_plan.specs.Measuring.{counted_block}
use Rattle.evp_plan.specs.Moving.{moved_part, moved_elements, moved_element, moved_many, moved_count, source_place}
use Rattle.evp_plan.specs.Standing.{run_count, element_place}
use Rattle.evp_plan.proofs.Agreeing.{Agrees, Agrees-unless_unfit, Agrees-unless_large, Agrees-map, Agrees-pair, Agrees-along}
use Rattle.evp_plan.proofs.Agreeing.{then_pack-same}

-- elements k, k + 1 and so on, each of which may stand at any place behind any size
abbrev pub EachMade : (ℕ → Datum → ℕ → Made Datum) → (ℕ → Datum → ℕ → Pieces) → (ℕ → ℕ → Made (Unit {0})) → (ℕ → ℕ → ℕ → Pieces) → ℕ
    → Elements → Type 0
EachMade one packs found wrote k empty_list = ⊤
EachMade one packs found wrote k (element datum rest) =
    ((t size : ℕ) → Agrees (one k datum size) (λ value. packs t value size) (found k size) (wrote k t size))
    × EachMade one packs found wrote (suc k) rest

pub Agrees-elements : (one : ℕ → Datum → ℕ → Made Datum) (packs : ℕ → Datum → ℕ → Pieces) (found : ℕ → ℕ → Made (Unit {0}))
    (wrote : ℕ → ℕ → ℕ → Pieces) (place : ℕ → ℕ) (elements : Elements) (k size : ℕ)
    → EachMade one packs found wrote k elements
    → Agrees (make_elements one elements k size) (λ values. pack_elements (λ i. packs (place i)) values k size)
    (measured_elements found (count_of elements) k size)
    (moved_elements (λ i. wrote i (place i)) (count_of elements) k size)
Agrees-elements one packs found wrote place empty_list k size each = (refl, refl, refl)
Agrees-elements one packs found wrote place (element datum rest) k size each =
    Agrees-pair (one k datum size) (λ after. make_elements one rest (suc k) after) element (λ value. packs (place k) value size)
    (λ after values. pack_elements (λ i. packs (place i)) values (suc k) after)
    (λ values. pack_elements (λ i. packs (place i)) values k size) (found k size)
    (λ after. measured_elements found (count_of rest) (suc k) after) (wrote k (place k) size)
    (λ after. moved_elements (λ i. wrote i (place i)) (count_of rest) (suc k) after) (λ value values. refl) (each.0 (place k) size)
    (λ after. Agrees-elements one packs found wrote place rest (suc k) after each.1)

-- an element without a partner, wherever it stands
abbrev pub ZeroMade : (ℕ → Datum → ℕ → Pieces) → Datum → (ℕ → ℕ → ℕ → Pieces) → Type 0
ZeroMade packs zero_element wrote = (k t size : ℕ) → (wrote k t size ≡ packs t zero_element size)
    × ((packs t zero_element size).size ≡ size)

zeros_made : (packs : ℕ → Datum → ℕ → Pieces) (zero_element : Datum) (wrote : ℕ → ℕ → ℕ → Pieces) (place : ℕ → ℕ) (n k size : ℕ)
    → ZeroMade packs zero_element wrote
    → (moved_elements (λ i. wrote i (place i)) n k size ≡ pack_elements (λ i. packs (place i)) (copies n zero_element) k size)
    × ((pack_elements (λ i. packs (place i)) (copies n zero_element) k size).size ≡ size)
zeros_made packs zero_element wrote place zero k size made_zero = (refl, refl)
zeros_made packs zero_element wrote place (suc n) k size made_zero =
    let here = made_zero k (place k) size in
    let first = packs (place k) zero_element size in
    let behind = zeros_made packs zero_element wrote place n (suc k) first.size made_zero in (
      then_pack-same (wrote k (place k) size) first (λ later. moved_elements (λ i. wrote i (place i)) n (suc k) later)
          (λ later. pack_elements (λ i. packs (place i)) (copies n zero_element) (suc k) later)
          here.0 behind.0,
      behind.1 ∙ here.1,
    )

-- the sender's array and what stands for it: its elements as the steps read them
abbrev pub AreGiven : ℕ → Image → Machine → ℕ → ℕ → Part → (List PlaceStep → ℕ → ℕ → Made (Unit {0})) → (ℕ → ℕ → ℕ → Pieces)
    → List PlaceStep → (ℕ → Datum → ℕ → Made Datum) → (ℕ → Datum → ℕ → Pieces) → Datum
    → Option Elements → Option Run → Type 0
AreGiven limit image machine at size part measures moves place one packs zero_element None None =
    ZeroMade packs zero_element (λ k t after. moved_part image machine size part moves None t after)
AreGiven limit image machine at size part measures moves place one packs zero_element None (Some run) = ⊥
AreGiven limit image machine at size part measures moves place one packs zero_element (Some elements) None = ⊥
AreGiven limit image machine at size part measures moves place one packs zero_element (Some elements) (Some run) =
    (run_count image at run ≡ count_of elements)
    × EachMade one packs (λ k after. measured_part limit image size part measures (place ++ Nth k ∷ []) (element_place image at run k)
    after)
    (λ k t after. moved_part image machine size part moves (Some (element_place image at run k)) t after) 0 elements

same_test : (limit : ℕ) (image : Image) (machine : Machine) (at size : ℕ) (part : Part) (measures : List PlaceStep → ℕ → ℕ
    → Made (Unit {0})) (moves : ℕ → ℕ → ℕ → Pieces) (place : List PlaceStep)
    (one : ℕ → Datum → ℕ → Made Datum) (packs : ℕ → Datum → ℕ → Pieces) (zero_element : Datum) (partners : Option Elements)
    (run : Option Run) (n : ℕ)
    → AreGiven limit image machine at size part measures moves place one packs zero_element partners run
    → has_other_count image at n run ≡ has_other_length n partners
same_test limit image machine at size part measures moves place one packs zero_element None None n given = refl
same_test limit image machine at size part measures moves place one packs zero_element None (Some run) n given = absurd given
same_test limit image machine at size part measures moves place one packs zero_element (Some elements) None n given = absurd given
same_test limit image machine at size part measures moves place one packs zero_element (Some elements) (Some run) n given = ap
    (λ (c : ℕ). not (nat_eq c n)) given.0

-- the elements of an array of the wanted length
inside : (limit : ℕ) (image : Image) (machine : Machine) (at size : ℕ) (part : Part) (measures : List PlaceStep → ℕ → ℕ → Made (Unit {0}))
    (moves : ℕ → ℕ → ℕ → Pieces) (place : List PlaceStep)
    (one : ℕ → Datum → ℕ → Made Datum) (packs : ℕ → Datum → ℕ → Pieces) (zero_element : Datum) (partners : Option Elements)
    (run : Option Run) (n after : ℕ) (stands : ℕ → ℕ)
    → AreGiven limit image machine at size part measures moves place one packs zero_element partners run
    → has_other_length n partners ≡ false
    → Agrees (make_or_zero one zero_element n partners after)
    (λ datum. pack_elements (λ i. packs (stands i)) (listed (elements_of (Some datum))) 0 after)
    (measured_run limit image size part measures place at run n after)
    (moved_elements (λ k. moved_part image machine size part moves (source_place image at run k) (stands k)) (moved_count image at n run) 0
    after)
inside limit image machine at size part measures moves place one packs zero_element None None n after stands given same =
    let zeros = zeros_made packs zero_element (λ k t later. moved_part image machine size part moves None t later) stands n 0 after given in
    (refl, zeros.0, zeros.1)
inside limit image machine at size part measures moves place one packs zero_element None (Some run) n after stands given same = absurd given
inside limit image machine at size part measures moves place one packs zero_element (Some elements) None n after stands given same = absurd
    given
inside limit image machine at size part measures moves place one packs zero_element (Some elements) (Some run) n after stands given same =
    let found : ℕ → ℕ → Made (Unit {0}) = λ k later. measured_part limit image size part measures (place ++ Nth k ∷ [])
    (element_place image at run k) later in
    let wrote : ℕ → ℕ → ℕ → Pieces = λ k t later. moved_part image machine size part moves (Some (element_place image at run k)) t later in
    let count : n ≡ count_of elements = grind (arith, nat_tests) in
    let moving : min n (run_count image at run) ≡ count_of elements = omega (arith, count, given.0) in
    let elements_agree = Agrees-elements one packs found wrote stands elements 0 after given.1 in
    Agrees-map (make_elements one elements 0 after) list (λ values. pack_elements (λ i. packs (stands i)) values 0 after)
    (λ datum. pack_elements (λ i. packs (stands i)) (listed (elements_of (Some datum))) 0 after)
    (measured_elements found n 0 after) (moved_elements (λ k. wrote k (stands k)) (min n (run_count image at run)) 0 after) (λ values. refl)
    (Agrees-along (make_elements one elements 0 after) (make_elements one elements 0 after)
    (λ values. pack_elements (λ i. packs (stands i)) values 0 after)
    (measured_elements found (count_of elements) 0 after) (measured_elements found n 0 after)
    (moved_elements (λ k. wrote k (stands k)) (count_of elements) 0 after)
    (moved_elements (λ k. wrote k (stands k)) (min n (run_count image at run)) 0 after)
    refl (ap (λ (c : ℕ). measured_elements found c 0 after) count)
    (ap (λ (c : ℕ). moved_elements (λ k. wrote k (stands k)) c 0 after) moving) elements_agree)

-- ---- how many elements were made

record ThenMade {A B : Type 0} (x : Made A) (next : A → ℕ → Made B) (b : B) (end : ℕ) : Type 0 where
  first : A
  size : ℕ
  before : x ≡ made first size
  behind : next first size ≡ made b end

then_made : {A B : Type 0} (x : Made A) (next : A → ℕ → Made B) (b : B) (end : ℕ) → then_make x next ≡ made b end → ThenMade x next b end
then_made (made a size) next b end is = record { first = a; size = size; before = refl; behind = is }
then_made (unfit place) next b end is = cc
then_made (large place) next b end is = cc

count_of-made : (one : ℕ → Datum → ℕ → Made Datum) (partners : Elements) (k size : ℕ) (elements : Elements) (end : ℕ)
    → make_elements one partners k size ≡ made elements end
    → count_of elements ≡ count_of partners
count_of-made one empty_list k size elements end is = let same : empty_list ≡ elements = cc in ap count_of (sym same)
count_of-made one (element partner partners) k size elements end is =
    let first = then_made (one k partner size) (λ value after. then_make (make_elements one partners (suc k) after)
    (λ rest last. made (element value rest) last)) elements end is in
    let more = then_made (make_elements one partners (suc k) first.size) (λ rest last. made (element first.first rest) last) elements end
    first.behind in
    let same : element first.first more.first ≡ elements = cc more.behind in
    ap count_of (sym same) ∙ ap suc (count_of-made one partners (suc k) first.size more.first more.size more.before)

count_of-copies : (n : ℕ) (datum : Datum) → count_of (copies n datum) ≡ n
count_of-copies zero datum = refl
count_of-copies (suc n) datum = ap suc (count_of-copies n datum)

made_count : (one : ℕ → Datum → ℕ → Made Datum) (zero_element : Datum) (n : ℕ) (partners : Option Elements) (size : ℕ) (datum : Datum)
    (end : ℕ) → has_other_length n partners ≡ false
    → make_or_zero one zero_element n partners size ≡ made datum end → count_of (listed (elements_of (Some datum))) ≡ n
made_count one zero_element n None size datum end same is =
    let value : list (copies n zero_element) ≡ datum = cc in
    ap (λ (d : Datum). count_of (listed (elements_of (Some d)))) (sym value) ∙ count_of-copies n zero_element
made_count one zero_element n (Some partners) size datum end same is =
    let inner = then_made (make_elements one partners 0 size) (λ elements after. made (list elements) after) datum end is in
    let value : list inner.first ≡ datum = cc inner.behind in
    let count : count_of partners ≡ n = grind (arith, nat_tests) in
    ap (λ (d : Datum). count_of (listed (elements_of (Some d)))) (sym value)
    ∙ count_of-made one partners 0 size inner.first inner.size inner.before ∙ count

-- ---- static arrays

pub Agrees-each : (limit : ℕ) (image : Image) (machine : Machine) (at : ℕ) (field : Field) (elements : PlanElements)
    (measures : List PlaceStep → ℕ → ℕ → Made (Unit {0})) (moves : ℕ → ℕ → ℕ → Pieces) (place : List PlaceStep)
    (one : ℕ → Datum → ℕ → Made Datum) (packs : ℕ → Datum → ℕ → Pieces) (zero_element : Datum) (partners : Option Elements) (n t after : ℕ)
    → field.shape ≡ Fixed n
    → AreGiven limit image machine at field.size elements.part measures moves place one packs zero_element partners elements.run
    → Agrees (make_list limit field place (pos n) partners zero_element one after)
    (λ datum. pack_elements (λ k. packs (t + k * field.size)) (listed (elements_of (Some datum))) 0 after)
    (measured_list limit image field.size no_block elements measures place at (pos n) after)
    (moved_elements (λ k. moved_element image machine field.size elements moves at k (t + k * field.size))
    (moved_count image at n elements.run) 0 after)
Agrees-each limit image machine at field elements measures moves place one packs zero_element partners n t after is given =
    let found : Unit {0} → Made (Unit {0}) = λ _. measured_run limit image field.size elements.part measures place at elements.run n after
    in
    let next : Shape → Unit {0} → Made Datum = λ shape _. list_block shape limit field.size place n after
    (λ later. make_or_zero one zero_element n partners later) in
    let packed : Datum → Pieces = λ datum. pack_elements (λ k. packs (t + k * field.size)) (listed (elements_of (Some datum))) 0 after in
    let wrote = moved_elements (λ k. moved_element image machine field.size elements moves at k (t + k * field.size))
    (moved_count image at n elements.run) 0 after in
    let test = same_test limit image machine at field.size elements.part measures moves place one packs zero_element partners elements.run n
    given in
    let agrees : Agrees (unless_unfit (has_other_length n partners) place (next (Fixed n))) packed
    (unless_unfit (has_other_length n partners) place found) wrote =
    Agrees-unless_unfit (has_other_length n partners) place (next (Fixed n)) packed found wrote
    (λ same. inside limit image machine at field.size elements.part measures moves place one packs zero_element partners elements.run n
    after (λ k. t + k * field.size) given same) in
    Agrees-along (unless_unfit (has_other_length n partners) place (next (Fixed n)))
    (unless_unfit (has_other_length n partners) place (next field.shape)) packed
    (unless_unfit (has_other_length n partners) place found) (unless_unfit (has_other_count image at n elements.run) place found) wrote
    wrote
    (ap (λ (shape : Shape). unless_unfit (has_other_length n partners) place (next shape)) is)
    (ap (λ (b : Bool). unless_unfit b place found) test) refl agrees

-- ---- counted arrays

counted_as : (machine : Machine) (t size : ℕ) (packs : ℕ → Datum → ℕ → Pieces) (elements : Elements) (m after : ℕ)
    → count_of elements ≡ suc m
    → pack_counted machine t size elements packs after
    ≡ then_pack (pointer_piece machine t (next_block after) (next_block after + suc m * size))
    (λ later. pack_elements (λ k. packs (next_block after + k * size)) elements 0 later)
counted_as machine t size packs empty_list m after count = absurd (omega (arith, count))
counted_as machine t size packs (element datum rest) m after count =
    let q = next_block after in
    ap (λ (c : ℕ). then_pack (pointer_piece machine t q (q + c * size))
    (λ later. pack_elements (λ k. packs (q + k * size)) (element datum rest) 0 later)) count

behind_pointer : (x : Made Datum) (machine : Machine) (t size : ℕ) (packs : ℕ → Datum → ℕ → Pieces) (m after : ℕ) (found : Made (Unit {0}))
    (wrote : ℕ → Pieces)
    → ((datum : Datum) (end : ℕ) → x ≡ made datum end → count_of (listed (elements_of (Some datum))) ≡ suc m)
    → Agrees x (λ datum. pack_elements (λ k. packs (next_block after + k * size)) (listed (elements_of (Some datum))) 0
    (next_block after + suc m * size)) found (wrote (next_block after + suc m * size))
    → Agrees x (λ datum. pack_counted machine t size (listed (elements_of (Some datum))) packs after) found
    (then_pack (pointer_piece machine t (next_block after) (next_block after + suc m * size)) wrote)
behind_pointer (made datum end) machine t size packs m after found wrote counts agrees =
    let q = next_block after in
    let pointer = pointer_piece machine t q (q + suc m * size) in
    let law = counted_as machine t size packs (listed (elements_of (Some datum))) m after (counts datum end refl) in
    let together : then_pack pointer wrote
    ≡ then_pack pointer (λ later. pack_elements (λ k. packs (q + k * size)) (listed (elements_of (Some datum))) 0 later) =
    ap (λ (p : Pieces). record { all = pointer.all ++ p.all; size = p.size }) agrees.1 in
    (agrees.0, together ∙ sym law, ap (λ (p : Pieces). p.size) law ∙ agrees.2)
behind_pointer (unfit place) machine t size packs m after found wrote counts agrees = agrees
behind_pointer (large place) machine t size packs m after found wrote counts agrees = agrees

-- an empty array
none_made : (limit : ℕ) (image : Image) (machine : Machine) (at size : ℕ) (part : Part) (measures : List PlaceStep → ℕ → ℕ
    → Made (Unit {0})) (moves : ℕ → ℕ → ℕ → Pieces) (place : List PlaceStep)
    (one : ℕ → Datum → ℕ → Made Datum) (packs : ℕ → Datum → ℕ → Pieces) (zero_element : Datum) (partners : Option Elements)
    (run : Option Run) (t after : ℕ) (wrote : ℕ → ℕ → ℕ → Pieces)
    → AreGiven limit image machine at size part measures moves place one packs zero_element partners run
    → has_other_length 0 partners ≡ false
    → Agrees (make_or_zero one zero_element 0 partners after) (λ datum. pack_counted machine t size (listed (elements_of (Some datum)))
    packs after)
    (measured_run limit image size part measures place at run 0 after) (moved_many machine t size (moved_count image at 0 run) wrote after)
none_made limit image machine at size part measures moves place one packs zero_element None None t after wrote given same
    = (refl, refl, refl)
none_made limit image machine at size part measures moves place one packs zero_element None (Some run) t after wrote given same = absurd
    given
none_made limit image machine at size part measures moves place one packs zero_element (Some elements) None t after wrote given same
    = absurd given
none_made limit image machine at size part measures moves place one packs zero_element (Some empty_list) (Some run) t after wrote given same
    =
    let none : min 0 (run_count image at run) ≡ 0 = omega arith in
    (refl, ap (λ (n : ℕ). moved_many machine t size n wrote after) none, refl)
none_made limit image machine at size part measures moves place one packs zero_element (Some (element datum rest)) (Some run) t after wrote
    given same =
    absurd (grind (arith, nat_tests))

-- an array of the wanted length, by its block
many_made : (limit : ℕ) (image : Image) (machine : Machine) (at size : ℕ) (part : Part) (measures : List PlaceStep → ℕ → ℕ
    → Made (Unit {0})) (moves : ℕ → ℕ → ℕ → Pieces) (place : List PlaceStep)
    (one : ℕ → Datum → ℕ → Made Datum) (packs : ℕ → Datum → ℕ → Pieces) (zero_element : Datum) (partners : Option Elements)
    (run : Option Run) (c n t after : ℕ)
    → AreGiven limit image machine at size part measures moves place one packs zero_element partners run
    → has_other_length n partners ≡ false
    → Agrees (list_block (Counted c) limit size place n after (λ later. make_or_zero one zero_element n partners later))
    (λ datum. pack_counted machine t size (listed (elements_of (Some datum))) packs after)
    (counted_block limit place n size after (λ later. measured_run limit image size part measures place at run n later))
    (moved_many machine t size (moved_count image at n run)
    (λ k t' later. moved_part image machine size part moves (source_place image at run k) t' later) after)
many_made limit image machine at size part measures moves place one packs zero_element partners run c zero t after given same =
    none_made limit image machine at size part measures moves place one packs zero_element partners run t after
    (λ k t' later. moved_part image machine size part moves (source_place image at run k) t' later) given same
many_made limit image machine at size part measures moves place one packs zero_element partners run c (suc m) t after given same =
    let q = next_block after in
    let last = q + suc m * size in
    let wrote : ℕ → ℕ → ℕ → Pieces = λ k t' later. moved_part image machine size part moves (source_place image at run k) t' later in
    let packed : Datum → Pieces = λ datum. pack_counted machine t size (listed (elements_of (Some datum))) packs after in
    let x : Made Datum = make_or_zero one zero_element (suc m) partners last in
    let found : Made (Unit {0}) = measured_run limit image size part measures place at run (suc m) last in
    let elements : ℕ → ℕ → Pieces = λ count later. moved_elements (λ k. wrote k (q + k * size)) count 0 later in
    let count : moved_count image at (suc m) run ≡ suc m = moving limit image machine at size part measures moves place one packs
    zero_element partners run (suc m) given same in
    let agrees : Agrees x (λ datum. pack_elements (λ k. packs (q + k * size)) (listed (elements_of (Some datum))) 0 last) found
    (elements (suc m) last) =
    Agrees-along x x (λ datum. pack_elements (λ k. packs (q + k * size)) (listed (elements_of (Some datum))) 0 last) found found
    (elements (moved_count image at (suc m) run) last) (elements (suc m) last)
    refl refl (ap (λ (n : ℕ). elements n last) (sym count))
    (inside limit image machine at size part measures moves place one packs zero_element partners run (suc m) last (λ k. q + k * size) given
    same) in
    let pointed : Agrees x packed found (moved_many machine t size (suc m) wrote after) =
    behind_pointer x machine t size packs m after found (elements (suc m))
    (λ datum end is. made_count one zero_element (suc m) partners last datum end same is) agrees in
    Agrees-unless_large (nat_lt limit last) place (λ _. x) packed (λ _. found)
    (moved_many machine t size (moved_count image at (suc m) run) wrote after)
    (Agrees-along x x packed found found (moved_many machine t size (suc m) wrote after)
    (moved_many machine t size (moved_count image at (suc m) run) wrote after) refl refl
    (ap (λ (n : ℕ). moved_many machine t size n wrote after) count) pointed)
  where
    moving : (limit : ℕ) (image : Image) (machine : Machine) (at size : ℕ) (part : Part) (measures : List PlaceStep → ℕ → ℕ
        → Made (Unit {0})) (moves : ℕ → ℕ → ℕ → Pieces) (place : List PlaceStep)
        (one : ℕ → Datum → ℕ → Made Datum) (packs : ℕ → Datum → ℕ → Pieces) (zero_element : Datum) (partners : Option Elements)
        (run : Option Run) (n : ℕ)
        → AreGiven limit image machine at size part measures moves place one packs zero_element partners run
        → has_other_length n partners ≡ false → moved_count image at n run ≡ n
    moving limit image machine at size part measures moves place one packs zero_element None None n given same = refl
    moving limit image machine at size part measures moves place one packs zero_element None (Some run) n given same = absurd given
    moving limit image machine at size part measures moves place one packs zero_element (Some elements) None n given same = absurd given
    moving limit image machine at size part measures moves place one packs zero_element (Some elements) (Some run) n given same =
        let count : n ≡ count_of elements = grind (arith, nat_tests) in omega (arith, count, given.0)

pub Agrees-many : (limit : ℕ) (image : Image) (machine : Machine) (at : ℕ) (field : Field) (elements : PlanElements)
    (measures : List PlaceStep → ℕ → ℕ → Made (Unit {0})) (moves : ℕ → ℕ → ℕ → Pieces) (place : List PlaceStep)
    (one : ℕ → Datum → ℕ → Made Datum) (packs : ℕ → Datum → ℕ → Pieces) (zero_element : Datum) (partners : Option Elements) (c : ℕ) (z : ℤ)
    (t after : ℕ) → field.shape ≡ Counted c
    → AreGiven limit image machine at field.size elements.part measures moves place one packs zero_element partners elements.run
    → Agrees (make_list limit field place z partners zero_element one after)
    (λ datum. pack_counted machine t field.size (listed (elements_of (Some datum))) packs after)
    (measured_list limit image field.size counted_block elements measures place at z after)
    (moved_many machine t field.size (moved_count image at (as_count z) elements.run)
    (λ k. moved_element image machine field.size elements moves at k) after)
Agrees-many limit image machine at field elements measures moves place one packs zero_element partners c (negsuc n) t after is given = refl
Agrees-many limit image machine at field elements measures moves place one packs zero_element partners c (pos n) t after is given =
    let found : Unit {0} → Made (Unit {0}) = λ _. counted_block limit place n field.size after
    (λ later. measured_run limit image field.size elements.part measures place at elements.run n later) in
    let next : Shape → Unit {0} → Made Datum = λ shape _. list_block shape limit field.size place n after
    (λ later. make_or_zero one zero_element n partners later) in
    let packed : Datum → Pieces = λ datum. pack_counted machine t field.size (listed (elements_of (Some datum))) packs after in
    let wrote = moved_many machine t field.size (moved_count image at n elements.run)
    (λ k. moved_element image machine field.size elements moves at k) after in
    let test = same_test limit image machine at field.size elements.part measures moves place one packs zero_element partners elements.run n
    given in
    let agrees : Agrees (unless_unfit (has_other_length n partners) place (next (Counted c))) packed
    (unless_unfit (has_other_length n partners) place found) wrote =
    Agrees-unless_unfit (has_other_length n partners) place (next (Counted c)) packed found wrote
    (λ same. many_made limit image machine at field.size elements.part measures moves place one packs zero_element partners elements.run c n
    t after given same) in
    Agrees-along (unless_unfit (has_other_length n partners) place (next (Counted c)))
    (unless_unfit (has_other_length n partners) place (next field.shape)) packed
    (unless_unfit (has_other_length n partners) place found) (unless_unfit (has_other_count image at n elements.run) place found) wrote
    wrote
    (ap (λ (shape : Shape). unless_unfit (has_other_length n partners) place (next shape)) is)
    (ap (λ (b : Bool). unless_unfit b place found) test) refl agrees

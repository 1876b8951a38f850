-- A plan with the compiled steps stands for its pair of formats.
use Rattle.std.proofs.Common.{◌≡◌, ℕ, ◌-◌, ◌≤◌, ◌⊎◌, Bool, true, false, nat_lt, IsTrue, ◌↔◌, List, [], length, Some, None}
use Rattle.std.proofs.Common.{Ok, refl, sym, ap, ◌∙◌, subst, arith, ⊎_elim}
use Rattle.std.proofs.lemmas.Bool.Decides.{nat_tests}
use Rattle.evp_base.specs.Numbers.{is_width}
use Rattle.evp_format.specs.declared.broken.Broken.TheVariants.{ShortRecord}
use Rattle.evp_format.specs.declared.place.PlaceStep.{PlaceStep}
use Rattle.evp_format.specs.Clashing.{clash}
use Rattle.evp_format.specs.Converting.{Made, made, unfit, large, unless_large, make_tree, convert, entries_of}
use Rattle.evp_format.specs.Datum.{Datum, rec, Entries}
use Rattle.evp_format.specs.LaidTree.{IsLaidTree}
use Rattle.evp_format.specs.Layout.{Layout}
use Rattle.evp_format.specs.Packing.{Pieces, Machine, machine_of, pack_tree}
use Rattle.evp_format.specs.Tree.{Tree, tree, root_of, length_of}
use Rattle.evp_format.specs.Viewing.{Image, Walked, read, broken, unless, view_tree, view_branches, viewed, view, image_of}
use Rattle.evp_format.specs.WellLaid.{IsWellLaid, depth}
use Rattle.evp_format.proofs.Trees.{laid_root}
use Rattle.evp_plan.specs.Matching.{compiled_tree}
use Rattle.evp_plan.specs.Measuring.{sized, measured}
use Rattle.evp_plan.specs.Moving.{moved}
use Rattle.evp_plan.specs.Planned.{Planned, whole_program, machine_in, measured_whole, moved_whole, laid_out, StandsFor}
use Rattle.evp_plan.specs.Program.{Program}
use Rattle.evp_plan.specs.Ready.{IsReady}
use Rattle.evp_plan.specs.Sound.{IsSound}
use Rattle.evp_plan.proofs.Agreeing.{Agrees}
use Rattle.evp_plan.proofs.Conversions.{Agrees-tree}
use Rattle.evp_plan.proofs.NoClash.{branches_in, clash_of_trees}
use Rattle.evp_plan.proofs.FieldsInside.{IsInside, inside_laid}
use Rattle.evp_plan.proofs.Readiness.{ready_tree}
use Rattle.evp_plan.proofs.Sent.{RecordSent, then_read}
use Rattle.evp_plan.proofs.Sounds.{sound_tree}

-- the record whose value the bytes have
record RootSent (image : Image) (root : Tree) (value : Datum) : Type 0 where
  entries : Entries
  is : value ≡ rec entries
  sent : RecordSent image (branches_in root) 0 entries
  long : length_of root ≤ length image.bytes

walked_of : (walked : Walked Datum) (value : Datum) → viewed walked ≡ Ok value → (end : ℕ) × (walked ≡ read value end)
walked_of (read found end) value is = let same : found ≡ value = cc in (end, ap (λ (d : Datum). read d end) same)
walked_of (broken fault) value is = cc

passed_view : (test : Bool) (next : Unit {0} → Walked Datum) (value : Datum) → viewed (unless test ShortRecord next) ≡ Ok value
    → (test ≡ false) × (viewed (next tt) ≡ Ok value)
passed_view true next value is = cc
passed_view false next value is = (refl, is)

root_sent : (image : Image) (root : Tree) (value : Datum)
    → viewed (unless (nat_lt (length image.bytes) (length_of root)) ShortRecord (λ _. view_tree image root 0 [] (length_of root)))
    ≡ Ok value → RootSent image root value
root_sent image (tree long branches) value is =
    let ok = passed_view (nat_lt (length image.bytes) long) (λ _. view_tree image (tree long branches) 0 [] long) value is in
    let walked = walked_of (view_tree image (tree long branches) 0 [] long) value ok.1 in
    let entered = then_read (view_branches image branches branches 0 0 [] long) (λ entries after. read (rec entries) after) value walked.0
    walked.1 in
    let made : value ≡ rec entered.first = cc entered.behind in
    record {
      entries = entered.first;
      is = made;
      sent = record { place = []; mark = long; end = entered.mark; walked = entered.before };
      long = grind (arith, nat_tests, ok.0);
    }

sized-unless_large : {A : Type 0} (test : Bool) (place : List PlaceStep) (next : Unit {0} → Made A)
    → unless_large test place (λ _. sized (next tt)) ≡ sized (unless_large test place next)
sized-unless_large true place next = refl
sized-unless_large false place next = refl

-- what is found is the size of what is made
found_is : {A : Type 0} (x : Made A) (packs : A → Pieces) (found : Made (Unit {0})) (wrote : Pieces) → Agrees x packs found wrote
    → found ≡ sized x
found_is (made a size) packs found wrote agrees = agrees.0
found_is (unfit place) packs found wrote agrees = agrees
found_is (large place) packs found wrote agrees = agrees

wrote_is : {A : Type 0} (x : Made A) (packs : A → Pieces) (found : Made (Unit {0})) (wrote : Pieces) (a : A) (size : ℕ)
    → Agrees x packs found wrote → x ≡ made a size
    → (wrote ≡ packs a) × ((packs a).size ≡ size)
wrote_is {A} x packs found wrote a size agrees is =
    let P : Made A → Type 0 = λ m. Agrees m packs found wrote in
    let here = subst P is agrees in
    (here.1, here.2)

made_within : {A : Type 0} (test : Bool) (place : List PlaceStep) (next : Unit {0} → Made A) (a : A) (size : ℕ)
    → unless_large test place next ≡ made a size → next tt ≡ made a size
made_within true place next a size is = cc
made_within false place next a size is = is

inside_root : (image : Image) (root : Tree) → IsLaidTree image.pointer root → length_of root ≤ length image.bytes
    → IsInside image (branches_in root) 0
inside_root image (tree long branches) laid fits = inside_laid image long 0 branches laid (omega (arith, fits))

deep_root : (layout : Layout) → IsWellLaid layout → depth (root_of layout) ≤ 16
deep_root layout laid = let some = laid.types_allowed.0 in laid.nesting_allowed (length layout.types - 1) (omega (arith, some))

width_of_pointer : (pointer : ℕ) → (pointer ≡ 4) ⊎ (pointer ≡ 8) → IsTrue (is_width pointer)
width_of_pointer pointer allowed = ⊎_elim (λ is. rw is refl) (λ is. rw is refl) allowed

-- ---- the meaning

-- the pieces that the compiled steps write, and what they find
both : (from to : Layout) (bytes : List ℕ) (value : Datum) (limit : ℕ) → IsWellLaid to → clash from to ≡ None → view from bytes ≡ Ok value
    → Agrees (make_tree limit (root_of to) [] (entries_of (Some value)) (length_of (root_of to)))
    (λ datum. pack_tree (machine_of to) (root_of to) 0 (entries_of (Some datum)) (length_of (root_of to)))
    (measured limit (image_of from bytes) (compiled_tree (branches_in (root_of from)) (root_of to)) [] 0 (length_of (root_of to)))
    (moved (image_of from bytes) (machine_of to) (compiled_tree (branches_in (root_of from)) (root_of to)) 0 0 (length_of (root_of to)))
both from to bytes value limit laid alike viewed_as =
    let root = root_of to in
    let image = image_of from bytes in
    let sent = root_sent image (root_of from) value viewed_as in
    let Made_from : Datum → Type 0 = λ d.
    Agrees (make_tree limit root [] (entries_of (Some d)) (length_of root))
    (λ datum. pack_tree (machine_of to) root 0 (entries_of (Some datum)) (length_of root))
    (measured limit image (compiled_tree (branches_in (root_of from)) root) [] 0 (length_of root))
    (moved image (machine_of to) (compiled_tree (branches_in (root_of from)) root) 0 0 (length_of root)) in
    subst Made_from (sym sent.is)
    (Agrees-tree limit image (machine_of to) (branches_in (root_of from)) root [] sent.entries 0 0 (length_of root) (laid_root to laid)
    sent.sent (sym (clash_of_trees (root_of from) root) ∙ alike))

-- a plan of the receiver's machine, whose record is made by the compiled steps
pub record IsCompiled (plan : Planned) (from to : Layout) : Type 0 where
  pub machine : machine_in plan ≡ machine_of to
  pub fixed : plan.fixed ≡ length_of (root_of to)
  pub program : whole_program plan ≡ compiled_tree (branches_in (root_of from)) (root_of to)
  pub sender : plan.sender ≡ machine_of from
  pub room : plan.room ≡ length_of (root_of from)

stands_as : (plan : Planned) (from to : Layout) (program : Program) (machine : Machine) (fixed : ℕ) → IsWellLaid from → IsWellLaid to
    → clash from to ≡ None → (IsTrue plan.alike ↔ (from ≡ to))
    → machine_in plan ≡ machine → plan.fixed ≡ fixed → whole_program plan ≡ program → machine ≡ machine_of to
    → fixed ≡ length_of (root_of to) → program ≡ compiled_tree (branches_in (root_of from)) (root_of to)
    → plan.sender ≡ machine_of from → plan.room ≡ length_of (root_of from) → StandsFor plan from to
stands_as plan from to program machine fixed laid laid' none alike machine_is fixed_is program_is machine_same fixed_same program_same
    sender_is room_is =
    let root = root_of to in
    let compiled_root = compiled_tree (branches_in (root_of from)) root in
    let same_machine : machine_in plan ≡ machine_of to = machine_is ∙ machine_same in
    let same_fixed : plan.fixed ≡ length_of root = fixed_is ∙ fixed_same in
    let same_program : whole_program plan ≡ compiled_root = program_is ∙ program_same in
    let same_pointer : plan.pointer ≡ to.pointer = ap (λ (m : Machine). m.pointer) same_machine in
    let found : (bytes : List ℕ) (limit : ℕ) → measured_whole plan (image_of from bytes) limit
    ≡ unless_large (nat_lt limit (length_of root)) [] (λ _. measured limit (image_of from bytes) compiled_root [] 0 (length_of root)) =
    λ bytes limit.
    ap (λ (p : Program). unless_large (nat_lt limit plan.fixed) [] (λ _. measured limit (image_of from bytes) p [] 0 plan.fixed))
    same_program
    ∙ ap (λ (n : ℕ). unless_large (nat_lt limit n) [] (λ _. measured limit (image_of from bytes) compiled_root [] 0 n)) same_fixed in
    let wrote : (bytes : List ℕ) → moved_whole plan (image_of from bytes)
    ≡ moved (image_of from bytes) (machine_of to) compiled_root 0 0 (length_of root) =
    λ bytes.
    ap (λ (p : Program). moved (image_of from bytes) (machine_in plan) p 0 0 plan.fixed) same_program
    ∙ ap (λ (m : Machine). moved (image_of from bytes) m compiled_root 0 0 plan.fixed) same_machine
    ∙ ap (λ (n : ℕ). moved (image_of from bytes) (machine_of to) compiled_root 0 0 n) same_fixed in
    let made_by : Datum → ℕ → Made Datum = λ value limit. make_tree limit root [] (entries_of (Some value)) (length_of root) in
    let packed : Datum → Pieces = λ datum. pack_tree (machine_of to) root 0 (entries_of (Some datum)) (length_of root) in
    let pieces : (bytes : List ℕ) (value converted : Datum) (limit size : ℕ) → view from bytes ≡ Ok value
    → convert to value limit ≡ made converted size
    → (moved_whole plan (image_of from bytes) ≡ packed converted) × ((packed converted).size ≡ size) =
    λ bytes value converted limit size viewed_as made_as.
    (let agrees = both from to bytes value limit laid' none viewed_as in
    let inner = made_within (nat_lt limit (length_of root)) [] (λ _. made_by value limit) converted size made_as in
    let is = wrote_is (made_by value limit) packed (measured limit (image_of from bytes) compiled_root [] 0 (length_of root))
    (moved (image_of from bytes) (machine_of to) compiled_root 0 0 (length_of root)) converted size agrees inner in
    (wrote bytes ∙ is.0, is.1)) in
    record {
      laid = laid';
      no_clash = none;
      alike = alike;
      length = same_fixed;
      sender = sender_is;
      room = λ bytes value viewed_as. subst (λ (n : ℕ). n ≤ length bytes) (sym room_is)
          (root_sent (image_of from bytes) (root_of from) value viewed_as).long;
      pointer_allowed = rw same_pointer (width_of_pointer to.pointer laid'.pointer_allowed);
      measures = λ bytes value limit viewed_as.
          (let agrees = both from to bytes value limit laid' none viewed_as in
          let next = measured limit (image_of from bytes) compiled_root [] 0 (length_of root) in
          let same = found_is (made_by value limit) packed next
          (moved (image_of from bytes) (machine_of to) compiled_root 0 0 (length_of root)) agrees in
          found bytes limit ∙ ap (λ (m : Made (Unit {0})). unless_large (nat_lt limit (length_of root)) [] (λ _. m)) same
          ∙ sized-unless_large (nat_lt limit (length_of root)) [] (λ _. made_by value limit));
      sizes = λ bytes value converted limit size viewed_as made_as.
          (let is = pieces bytes value converted limit size viewed_as made_as in ap (λ (p : Pieces). p.size) is.0 ∙ is.1);
      writes = λ bytes value converted limit size viewed_as made_as. ap laid_out
          (pieces bytes value converted limit size viewed_as made_as).0;
      reads = λ bytes value viewed_as.
          (let image = image_of from bytes in
          let sent = root_sent image (root_of from) value viewed_as in
          let Ready : Program → Type 0 = λ p. IsReady image p 0 in
          subst Ready (sym same_program)
          (ready_tree image (branches_in (root_of from)) root 0 sent.entries sent.sent
          (inside_root image (root_of from) (laid_root from laid) sent.long) (sym (clash_of_trees (root_of from) root) ∙ none)));
      sound =
          let sound = sound_tree to.pointer (branches_in (root_of from)) root 16 (laid_root to laid') (deep_root to laid') in
          let P : Program → Type 0 = λ p. IsSound plan.pointer p 16 plan.fixed in
          let P' : ℕ → Type 0 = λ n. IsSound n compiled_root 16 plan.fixed in
          let P'' : ℕ → Type 0 = λ n. IsSound to.pointer compiled_root 16 n in
          subst P (sym same_program) (subst P' (sym same_pointer) (subst P'' (sym same_fixed) sound));
    }

pub stands : (plan : Planned) (from to : Layout) → IsWellLaid from → IsWellLaid to → clash from to ≡ None
    → (IsTrue plan.alike ↔ (from ≡ to)) → IsCompiled plan from to → StandsFor plan from to
stands plan from to laid laid' none alike compiled_as =
    stands_as plan from to (whole_program plan) (machine_in plan) plan.fixed laid laid' none alike refl refl refl compiled_as.machine
    compiled_as.fixed compiled_as.program compiled_as.sender compiled_as.room

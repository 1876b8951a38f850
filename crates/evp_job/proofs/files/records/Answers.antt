use Rattle.std.proofs.Common.{◌≡◌, ◌++◌, ◌^◌, ◌<◌, All, [], ◌∷◌, length, map, refl, sym, ap, subst, ◌∙◌, arith}
use Rattle.std.specs.Arc.{arc_value}
use Rattle.std.specs.Vec.Iter.{into_iter_items}
use Rattle.std.proofs.lemmas.List.Elements.{All-head, All-tail}
use Rattle.evp_file.specs.declared.file.FileItem.{FileItem}
use Rattle.evp_job.specs.Filling.{owned_with}
use Rattle.evp_job.proofs.Moved.{moved_more, moved_all}
use Rattle.evp_job.proofs.files.records.Goals as goal

pub loop-item-preserved : goal.loop-item-preserved
loop-item-preserved c =
    let was = into_iter_items c.loop-item.item-iterator in
    let rest = into_iter_items c.next.new.self in
    let item = c.in-Some.item in
    let numbers = c.args.numbers.now in
    let begins : was ≡ item ∷ rest = c.in-Some.ensures.steps.0 in
    let fewer = c.in-Some.ensures.steps.1 in
    let counts = ap length begins in
    let pushed = c.in_ok-push.ensures
    ∙ ap (λ owned. map (λ kept. arc_value kept) c.loop-item.records.items ++ owned ∷ []) c.owned_with.ensures in
    record {
      made = moved_more (map (owned_with numbers)) (map (owned_with numbers)) _ _ was rest item (owned_with numbers item)
          (map (owned_with numbers) (into_iter_items c.into_iter-item-iterator.result)) begins refl pushed c.loop-item.invariant.made;
      there = All-tail (λ (one : FileItem). one.format < length numbers) item rest
          (subst (All (λ (one : FileItem). one.format < length numbers)) begins c.loop-item.invariant.there);
      short = All-tail (λ (one : FileItem). length one.bytes < 2 ^ 32) item rest
          (subst (All (λ (one : FileItem). length one.bytes < 2 ^ 32)) begins c.loop-item.invariant.short);
      count = omega (arith, counts, fewer, c.loop-item.invariant.count);
    }

pub owned_with-requires : goal.owned_with-requires
owned_with-requires c =
    let rest = into_iter_items c.next.new.self in
    let begins : into_iter_items c.loop-item.item-iterator ≡ c.in-Some.item ∷ rest = c.in-Some.ensures.steps.0 in
    record {
      there = All-head (λ (one : FileItem). one.format < length c.args.numbers.now) c.in-Some.item rest
          (subst (All (λ (one : FileItem). one.format < length c.args.numbers.now)) begins c.loop-item.invariant.there);
      short = All-head (λ (one : FileItem). length one.bytes < 2 ^ 32) c.in-Some.item rest
          (subst (All (λ (one : FileItem). length one.bytes < 2 ^ 32)) begins c.loop-item.invariant.short);
    }

pub returns : goal.returns
returns c =
    moved_all (map (owned_with c.args.numbers.now)) _ (into_iter_items c.loop-item.item-iterator)
    (map (owned_with c.args.numbers.now) c.args.items.items) (sym c.loop-item.invariant.count ∙ c.in-None.ensures.steps.0) refl
    (c.loop-item.invariant.made ∙ ap (map (owned_with c.args.numbers.now)) c.into_iter-item-iterator.ensures.into_iter_gives.0)

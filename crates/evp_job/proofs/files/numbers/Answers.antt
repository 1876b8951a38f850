use Rattle.std.proofs.Common.{◌≡◌, ◌+◌, ◌++◌, ℕ, List, ◌∷◌, length, refl, sym, ap, ◌∙◌, length-append, arith}
use Rattle.std.specs.List.{flat_map}
use Rattle.std.specs.Vec.Iter.{into_iter_items}
use Rattle.evp_file.specs.declared.file.FileFormat.{FileFormat}
use Rattle.evp_format.specs.Layout.{Layout}
use Rattle.evp_job.specs.Filling.{own_layout, number_of, numbers_from}
use Rattle.evp_job.proofs.Moved.{moved_more, joined_more, joined_fits, moved_all}
use Rattle.evp_job.proofs.files.numbers.Goals as goal

-- the next number, behind the format's own
behind_own : (formats more : List Layout) (format : FileFormat) (rest : List FileFormat) (number : ℕ)
    → more ≡ formats ++ own_layout format → number ≡ number_of (length formats) format
    → numbers_from (length formats) (format ∷ rest) ≡ number ∷ numbers_from (length more) rest
behind_own formats more format rest number joined is =
    let next = ap length joined ∙ length-append formats (own_layout format) in
    ap (λ (n : ℕ). n ∷ numbers_from (length formats + length (own_layout format)) rest) (sym is)
    ∙ ap (λ (n : ℕ). number ∷ numbers_from n rest) (sym next)

pub loop-format-preserved : goal.loop-format-preserved
loop-format-preserved c =
    let was = into_iter_items c.loop-format.format-iterator in
    let rest = into_iter_items c.next.new.self in
    let format = c.in-Some.format in
    let formats = c.loop-format.formats.items in
    let more = c.number_of.new.formats.items in
    let begins : was ≡ format ∷ rest = c.in-Some.ensures.steps.0 in
    let fewer = c.in-Some.ensures.steps.1 in
    let counts = ap length begins in
    record {
      made = moved_more (numbers_from (length formats)) (numbers_from (length more)) c.loop-format.numbers.items c.push.new.self.items
          was rest format c.in_ok-number_of.field-0
          (numbers_from (length c.args.formats.now.items) (into_iter_items c.into_iter-format-iterator.result)) begins
          (behind_own formats more format rest c.in_ok-number_of.field-0 c.in_ok-number_of.ensures.formats c.in_ok-number_of.ensures.number)
          c.in_ok-push.ensures.items c.loop-format.invariant.made;
      joined = joined_more own_layout formats more was rest format
          (c.args.formats.now.items ++ flat_map own_layout (into_iter_items c.into_iter-format-iterator.result)) begins
          c.in_ok-number_of.ensures.formats c.loop-format.invariant.joined;
      count = omega (arith, counts, fewer, c.loop-format.invariant.count);
    }

pub number_of-requires : goal.number_of-requires
number_of-requires c =
    let rest = into_iter_items c.next.new.self in
    let begins : into_iter_items c.loop-format.format-iterator ≡ c.in-Some.format ∷ rest = c.in-Some.ensures.steps.0 in
    let given = c.into_iter-format-iterator.ensures.into_iter_gives.0 in
    record {
      room = joined_fits own_layout c.loop-format.formats.items (into_iter_items c.loop-format.format-iterator) rest c.in-Some.format
          (c.args.formats.now.items ++ flat_map own_layout c.args.own.items) 1024 begins
          (c.loop-format.invariant.joined ∙ ap (λ (list : List FileFormat). c.args.formats.now.items ++ flat_map own_layout list) given)
          c.requires.room;
    }

pub returns-clause-numbers : goal.returns-clause-numbers
returns-clause-numbers c =
    let next = length c.loop-format.formats.items in
    moved_all (numbers_from next) c.loop-format.numbers.items (into_iter_items c.loop-format.format-iterator)
    (numbers_from (length c.args.formats.now.items) c.args.own.items) (sym c.loop-format.invariant.count ∙ c.in-None.ensures.steps.0) refl
    (c.loop-format.invariant.made
    ∙ ap (numbers_from (length c.args.formats.now.items)) c.into_iter-format-iterator.ensures.into_iter_gives.0)

pub returns-clause-formats : goal.returns-clause-formats
returns-clause-formats c =
    moved_all (flat_map own_layout) c.loop-format.formats.items (into_iter_items c.loop-format.format-iterator)
    (c.args.formats.now.items ++ flat_map own_layout c.args.own.items)
    (sym c.loop-format.invariant.count ∙ c.in-None.ensures.steps.0) refl
    (c.loop-format.invariant.joined ∙ ap (λ (list : List FileFormat). c.args.formats.now.items ++ flat_map own_layout list)
    c.into_iter-format-iterator.ensures.into_iter_gives.0)

use Rattle.std.proofs.Common.{◌≡◌, ◌++◌, ◌∙◌, ap, arith, refl, codes, rules, string_bytes, take, get_or, List, ℕ}
use Rattle.evp_format.specs.ValueText.{value_text, elements_text, entries_text}
use Rattle.evp_format.specs.ValueView.{datum_of, elements_of_values, entries_of_pairs}
use Rattle.evp_format.specs.declared.value.Value.{Value, the_lemmas}
use Rattle.evp_value.proofs.Texts.{grows, field_text, elements_text-first, elements_text-next, entries_text-first, entries_text-next}
use Rattle.evp_value.proofs.text.+text.Goals as goal
use Rattle.evp_value.proofs.text.+text.Goals.{write_elements-then-k-gt0+in_ok-push_str-2, write_elements-else-k-gt0}
use Rattle.evp_value.proofs.text.+text.Goals.{write_entries-then-k-gt0+in_ok-push_str-2, write_entries-else-k-gt0}

pub write_elements-loop-k-preserved : goal.write_elements-loop-k-preserved
write_elements-loop-k-preserved t c =
    let k = c.loop-k.k in
    let values = c.args.values.now in
    let value = c.index-values-k.result in
    let start = string_bytes c.push_str.new.self in
    let first = elements_text (elements_of_values (take k values)) in
    let next = value_text (datum_of (get_or values k value)) in
    let written : string_bytes c.write_value.new.text ≡ string_bytes c.if-k-gt0.text ++ next =
    c.in_ok-write_value.ensures ∙ ap (λ (v : Value). string_bytes c.if-k-gt0.text ++ value_text (datum_of v)) c.index-values-k.is in
    elim c.if-k-gt0.branch [
      | write_elements-then-k-gt0+in_ok-push_str-2 w ↦
          grows start (first ++ codes ",") next written (ap string_bytes w.text-is
          ∙ grows start first (codes ",") w.in_ok-push_str-2.ensures.bytes c.loop-k.invariant refl)
          (elements_text-next values k value (omega arith) c.loop-k-test.true)
      | write_elements-else-k-gt0 w ↦
          grows start first next written (ap string_bytes w.text-is ∙ c.loop-k.invariant)
          (elements_text-first values k value (omega arith) c.loop-k-test.true)
    ]

pub write_entries-loop-k-preserved : goal.write_entries-loop-k-preserved
write_entries-loop-k-preserved t c =
    let k = c.loop-k.k in
    let pairs = c.args.pairs.now in
    let pair = c.index-pairs-k.result in
    let start = string_bytes c.push_str.new.self in
    let first = entries_text (entries_of_pairs (take k pairs)) in
    let next = field_text (get_or pairs k pair) in
    let written : string_bytes c.write_entry.new.text ≡ string_bytes c.if-k-gt0.text ++ next =
    c.in_ok-write_entry.ensures ∙ ap (λ (p : List ℕ × Value). string_bytes c.if-k-gt0.text ++ field_text p) c.index-pairs-k.is in
    elim c.if-k-gt0.branch [
      | write_entries-then-k-gt0+in_ok-push_str-2 w ↦
          grows start (first ++ codes ",") next written (ap string_bytes w.text-is
          ∙ grows start first (codes ",") w.in_ok-push_str-2.ensures.bytes c.loop-k.invariant refl)
          (entries_text-next pairs k pair (omega arith) c.loop-k-test.true)
      | write_entries-else-k-gt0 w ↦
          grows start first next written (ap string_bytes w.text-is ∙ c.loop-k.invariant)
          (entries_text-first pairs k pair (omega arith) c.loop-k-test.true)
    ]

pub write_value-returns-in-Rec : goal.write_value-returns-in-Rec
write_value-returns-in-Rec t c =
    let e : value_text (datum_of c.args.value.now) ≡ codes "{" ++ entries_text (entries_of_pairs c.as_slice-in-Rec.result.now)
    ++ codes "}" = rw (c.in-Rec.is, c.as_slice-in-Rec.ensures.value) (search (rules, the_lemmas)) in
    rw e c.write_entries.ensures

use Rattle.std.proofs.Common.{◌≡◌, ℕ, ◌-◌, ◌<◌, ◌∙◌, sym, ap, subst, length, take, drop, Some, arith}
use Rattle.std.proofs.Common.{List, Result}
use Rattle.std.specs.Prelude.{option_map, IsOk}
use Rattle.std.proofs.lemmas.List.{take_all, length-drop}
use Rattle.evp_format.specs.declared.broken.Broken.{Broken}
use Rattle.evp_format.specs.Datum.{Datum, text}
use Rattle.evp_format.specs.Viewing.{pointer_at, image_of, until_zero}
use Rattle.evp_record.specs.Record.{value_or_null}
use Rattle.evp_record.proofs.Reading.{text_part_value}
use Rattle.evp_record.proofs.TextsRead.{TextRead, text_read, take-until_zero, HasNoZero-until_zero}
use Rattle.evp_record.proofs.record.Checked.text.Goals as goal
use Rattle.evp_record.proofs.record.Checked.text.Goals.{In-Some}

-- the bytes that are left are all from the pointer on
rest_is : (bytes own : List ℕ) (from q : ℕ) → bytes ≡ own → from ≡ q → take (length bytes - from) (drop from bytes) ≡ drop q own
rest_is bytes own from q same at =
    take_all (length bytes - from) (drop from bytes) (omega (arith, length-drop from bytes)) ∙ ap (λ (b : List ℕ). drop from b) same
    ∙ ap (λ (k : ℕ). drop k own) at

-- what was found in front of the zero byte
found : (c : In-Some) → TextRead (image_of c.args.self.now.layout c.args.self.now.bytes)
    (pointer_at (image_of c.args.self.now.layout c.args.self.now.bytes) c.args.part.at)
found c =
    let held = c.args.self.now in
    let image = image_of held.layout held.bytes in
    let q = pointer_at image c.args.part.at in
    let part = text_part_value held c.args.part.field.now c.args.part.at c.requires.content in
    let Viewed : Result Datum Broken → Type 0 = λ r. IsOk r in
    let some : 0 < q = rw (← c.pointer-from.ensures) (omega arith) in
    text_read image q some (subst Viewed part c.requires.stands.walked)

taken : (c : In-Some)
    → take c.in-Some.length (take (length c.bytes.result.now - c.pointer-from.result) (drop c.pointer-from.result c.bytes.result.now))
    ≡ (found c).bytes
taken c =
    let held = c.args.self.now in
    let q = pointer_at (image_of held.layout held.bytes) c.args.part.at in
    let t = found c in
    let rest = rest_is c.bytes.result.now held.bytes c.pointer-from.result q c.bytes.ensures.value c.pointer-from.ensures in
    let ends = c.in-Some.ensures.value in
    let long : Some c.in-Some.length ≡ Some (length t.bytes) = ends ∙ ap (λ (b : List ℕ). option_map length (until_zero b)) rest
    ∙ ap (option_map length) t.ended in
    let same : c.in-Some.length ≡ length t.bytes = cc long in
    ap (λ (b : List ℕ). take c.in-Some.length b) rest ∙ ap (λ (n : ℕ). take n (drop q held.bytes)) same
    ∙ take-until_zero (drop q held.bytes) t.bytes t.ended

pub returns-clause-value : goal.returns-clause-value
returns-clause-value c =
    let part = text_part_value c.args.self.now c.args.part.field.now c.args.part.at c.requires.content in
    ap value_or_null (part ∙ (found c).value) ∙ ap (λ (b : List ℕ). text b) (sym (taken c))

pub returns-clause-no_zero : goal.returns-clause-no_zero
returns-clause-no_zero c =
    let held = c.args.self.now in
    let q = pointer_at (image_of held.layout held.bytes) c.args.part.at in
    rw (taken c) (HasNoZero-until_zero (drop q held.bytes) (found c).bytes (found c).ended)

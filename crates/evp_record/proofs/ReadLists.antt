-- What a walk of a list read: its length, and each element where it stands.
use Rattle.std.proofs.Common.{◌≡◌, ℕ, zero, suc, ◌+◌, ◌*◌, ◌<◌, List, [], ◌∷◌, ◌++◌, Some, Ok, refl, sym, ap, ◌∙◌, arith}
use Rattle.std.specs.Prelude.{IsOk}
use Rattle.evp_format.specs.declared.field.Field.{Field}
use Rattle.evp_format.specs.declared.place.PlaceStep.{PlaceStep}
use Rattle.evp_format.specs.declared.place.PlaceStep.TheVariants.{Nth}
use Rattle.evp_format.specs.Datum.{Datum, list, Elements, empty_list, element, count_of}
use Rattle.evp_format.specs.Viewing.{Walked, read, broken, then_walk, view_elements, as_list, viewed, image_of}
use Rattle.evp_record.specs.Parts.{nth_element, element_value, list_length}
use Rattle.evp_record.specs.Record.{Record}
use Rattle.evp_record.specs.Spots.{part_value}
use Rattle.evp_record.specs.Walks.{part_in, walk_part, walk_elements}
use Rattle.evp_record.proofs.Lowered.{ReadsAlike-part, viewed-alike}

-- a walk in two steps that reads something read something in the first
pub record ThenRead {A B : Type 0} (walked : Walked A) (next : A → ℕ → Walked B) (value : B) (end : ℕ) : Type 0 where
  pub first : A
  pub mark : ℕ
  pub before : walked ≡ read first mark
  pub behind : next first mark ≡ read value end

pub then_read : {A B : Type 0} (walked : Walked A) (next : A → ℕ → Walked B) (value : B) (end : ℕ) → then_walk walked next ≡ read value end
    → ThenRead walked next value end
then_read (read first mark) next value end is = record { first = first; mark = mark; before = refl; behind = is }
then_read (broken fault) next value end is = cc

-- a walk that is Ok read something
pub record Read {A : Type 0} (walked : Walked A) : Type 0 where
  pub value : A
  pub end : ℕ
  pub is : walked ≡ read value end

pub read_of_ok : (walked : Walked Datum) → IsOk (viewed walked) → Read walked
read_of_ok (read value end) ok = record { value = value; end = end; is = refl }
read_of_ok (broken fault) ok = cc

-- n elements from index j on
record ElementRead (one : ℕ → ℕ → Walked Datum) (elements : Elements) (j k : ℕ) : Type 0 where
  value : Datum
  mark : ℕ
  end : ℕ
  found : nth_element elements k ≡ Some value
  walked : one (j + k) mark ≡ read value end

record HeadRead (one : ℕ → ℕ → Walked Datum) (n k mark : ℕ) (elements : Elements) : Type 0 where
  value : Datum
  after : ℕ
  others : Elements
  last : ℕ
  made : elements ≡ element value others
  here : one k mark ≡ read value after
  behind : view_elements one n (suc k) after ≡ read others last

head_read : (one : ℕ → ℕ → Walked Datum) (n k mark : ℕ) (elements : Elements) (end : ℕ)
    → view_elements one (suc n) k mark ≡ read elements end → HeadRead one n k mark elements
head_read one n k mark elements end walked =
    let others : ℕ → Walked Elements = λ after. view_elements one n (suc k) after in
    let first = then_read (one k mark) (λ value after. then_walk (others after) (λ some last. read (element value some) last)) elements end
    walked in
    let more = then_read (others first.mark) (λ some last. read (element first.first some) last) elements end first.behind in
    let made : elements ≡ element first.first more.first = cc more.behind in
    record {
      value = first.first;
      after = first.mark;
      others = more.first;
      last = more.mark;
      made = made;
      here = first.before;
      behind = more.before;
    }

pub count_of-read : (one : ℕ → ℕ → Walked Datum) (n k mark : ℕ) (elements : Elements) (end : ℕ)
    → view_elements one n k mark ≡ read elements end → count_of elements ≡ n
count_of-read one zero k mark elements end walked = let none : empty_list ≡ elements = cc in ap count_of (sym none)
count_of-read one (suc n) k mark elements end walked =
    let head = head_read one n k mark elements end walked in
    ap count_of head.made ∙ ap suc (count_of-read one n (suc k) head.after head.others head.last head.behind)

element_read : (one : ℕ → ℕ → Walked Datum) (n j mark : ℕ) (elements : Elements) (end k : ℕ) → k < n
    → view_elements one n j mark ≡ read elements end → ElementRead one elements j k
element_read one zero j mark elements end k below walked = absurd (omega arith)
element_read one (suc n) j mark elements end zero below walked =
    let head = head_read one n j mark elements end walked in
    let here : j ≡ j + 0 = omega arith in
    record {
      value = head.value;
      mark = mark;
      end = head.after;
      found = ap (λ (e : Elements). nth_element e zero) head.made;
      walked = ap (λ (i : ℕ). one i mark) (sym here) ∙ head.here;
    }
element_read one (suc n) j mark elements end (suc k) below walked =
    let head = head_read one n j mark elements end walked in
    let later = element_read one n (suc j) head.after head.others head.last k (omega arith) head.behind in
    let place : suc j + k ≡ j + suc k = omega arith in
    record {
      value = later.value;
      mark = later.mark;
      end = later.end;
      found = ap (λ (e : Elements). nth_element e (suc k)) head.made ∙ later.found;
      walked = ap (λ (i : ℕ). one i later.mark) (sym place) ∙ later.walked;
    }

-- a list of n elements, of which the first stands at `from`
pub record ListRead (held : Record) (field : Field) (value : Datum) (from n : ℕ) : Type 0 where
  pub elements : Elements
  pub made : value ≡ list elements
  pub place : List PlaceStep
  pub mark : ℕ
  pub end : ℕ
  pub walked : walk_elements held.layout held.bytes field from place n 0 mark ≡ read elements end

pub list_read : (held : Record) (field : Field) (value : Datum) (from n mark end : ℕ) (place : List PlaceStep)
    → as_list (walk_elements held.layout held.bytes field from place n 0 mark) ≡ read value end → ListRead held field value from n
list_read held field value from n mark end place walked =
    let inner = then_read (walk_elements held.layout held.bytes field from place n 0 mark) (λ elements m. read (list elements) m) value end
    walked in
    let made : value ≡ list inner.first = cc inner.behind in
    record { elements = inner.first; made = made; place = place; mark = mark; end = inner.mark; walked = inner.before }

-- element k of it stands there
pub record ElementAt (held : Record) (field : Field) (value : Datum) (from k : ℕ) : Type 0 where
  pub one : Datum
  pub found : element_value (Some value) k ≡ Some one
  pub viewed_there : part_value held field (from + k * field.size) ≡ Ok one

pub element_at_index : (held : Record) (field : Field) (value : Datum) (from n k : ℕ) → ListRead held field value from n → k < n
    → ElementAt held field value from k
element_at_index held field value from n k r below =
    let one : ℕ → ℕ → Walked Datum = λ i after. walk_part held.layout held.bytes field (from + i * field.size) (r.place ++ Nth i ∷ []) after
    in
    let e = element_read one n 0 r.mark r.elements r.end k below r.walked in
    let place : 0 + k ≡ k = omega arith in
    let walked : one k e.mark ≡ read e.value e.end = ap (λ (i : ℕ). one i e.mark) (sym place) ∙ e.walked in
    record {
      one = e.value;
      found = ap (λ (d : Datum). element_value (Some d) k) r.made ∙ e.found;
      viewed_there =
          viewed-alike (one k e.mark) (walk_part held.layout held.bytes field (from + k * field.size) [] 0) e.value e.end
          (ReadsAlike-part (image_of held.layout held.bytes) (part_in held.layout field) field.size (from + k * field.size)
          (r.place ++ Nth k ∷ []) [] e.mark 0 (omega arith)) walked;
    }

pub list_length-read : (held : Record) (field : Field) (value : Datum) (from n : ℕ) → ListRead held field value from n
    → list_length (Some value) ≡ Some n
list_length-read held field value from n r =
    let one : ℕ → ℕ → Walked Datum = λ i after. walk_part held.layout held.bytes field (from + i * field.size) (r.place ++ Nth i ∷ []) after
    in
    ap (λ (d : Datum). list_length (Some d)) r.made ∙ ap (λ (m : ℕ). Some m) (count_of-read one n 0 r.mark r.elements r.end r.walked)

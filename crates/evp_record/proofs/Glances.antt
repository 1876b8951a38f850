-- The marks behind leads that are seen at a glance: behind a string, and behind a counted array of plain elements.
use Rattle.std.proofs.Common.{◌≡◌, ◌≢◌, ℕ, zero, suc, ◌+◌, ◌-◌, ◌*◌, ◌^◌, ◌<◌, ◌≤◌, pos, ℤ, ◌-ℤ◌, Bool, true, false, ◌||◌, nat_lt, nat_eq, List, [], ◌∷◌}
use Rattle.std.proofs.Common.{length, drop, Option, Some, None, refl, sym, ap, ◌∙◌, arith}
use Rattle.std.specs.Prelude.{not, option_map, if◌then◌else◌, slice_index, All, IsSome, IsOk}
use Rattle.std.proofs.lemmas.Bool.Decides.{nat_tests}
use Rattle.std.proofs.lemmas.List.{length-drop, length-take-le, get_or-drop}
use Rattle.memchr.specs.Find.{is_byte}
use Rattle.evp_base.specs.declared.kind.Kind.{Kind}
use Rattle.evp_base.specs.declared.kind.Kind.TheVariants.{Int, Unsigned, Char, Boolean, Enumeration}
use Rattle.evp_base.specs.declared.order.Order.{Order}
use Rattle.evp_base.specs.Numbers.{number, magnitude, twos_complement}
use Rattle.evp_format.specs.declared.lead.Count.{Count}
use Rattle.evp_format.specs.declared.lead.Inside.{Inside}
use Rattle.evp_format.specs.declared.lead.Inside.TheVariants as inside
use Rattle.evp_format.specs.declared.lead.Lead.{Lead}
use Rattle.evp_format.specs.declared.lead.Run.{Run}
use Rattle.evp_format.specs.declared.lead.Run.TheVariants as run
use Rattle.evp_format.specs.Bytes.{bytes_at}
use Rattle.evp_format.specs.declared.broken.Broken.TheVariants.{BlockPlace}
use Rattle.evp_format.specs.Layout.{Layout}
use Rattle.evp_format.specs.Leads.{leads_of_root}
use Rattle.evp_format.specs.Tree.{root_of, length_of}
use Rattle.evp_format.specs.WellLaid.{IsWellLaid}
use Rattle.evp_format.specs.Viewing.{view, view_tree, image_of}
use Rattle.evp_format.specs.Viewing.{view_string, ended_text, until_zero, pointer_at, unless}
use Rattle.evp_wide.specs.Zeros.{IsZeroBehind}
use Rattle.evp_record.specs.LeadMarks.{mark_of, image_in, text_walk, counted_mark, count_at, elements_mark, run_mark}
use Rattle.evp_record.specs.LeadMarks.{lead_mark, leads_mark, IsLeadAt}
use Rattle.evp_record.specs.Record.{Record, record_of}
use Rattle.evp_format.proofs.LaidBases.{root_length}
use Rattle.evp_format.proofs.Trees.{found_below}
use Rattle.evp_record.proofs.LeadFacts.{counted_lead, lead_at}
use Rattle.evp_record.proofs.LeadWalks.{plain_elements, leads_read}
use Rattle.evp_record.proofs.Viewed.{view-walked, viewed-marked}
use Rattle.evp_record.proofs.Zeros.{first_zero}

-- a pointer of 8 bytes that was read
wide_pointer : (held : Record) (at q : ℕ) → held.layout.pointer ≡ 8 → q ≡ magnitude held.layout.order (bytes_at at 8 held.bytes)
    → pointer_at (image_in held) at ≡ q
wide_pointer held at q wide read =
    ap (λ (size : ℕ). magnitude held.layout.order (bytes_at at size held.bytes)) wide ∙ sym read

-- ---- a string

-- the first zero byte from q on ends the text there
zero_behind : (bytes : List ℕ) (q count : ℕ) → IsZeroBehind bytes q count → option_map length (until_zero (drop q bytes)) ≡ Some count
zero_behind bytes q count is =
    let left = length-drop q bytes in
    let within = is.within in
    let same : (k : ℕ) → slice_index (drop q bytes) k ≡ slice_index bytes (q + k) = λ k. get_or-drop q bytes k 0 in
    first_zero (drop q bytes) count (omega (arith, left, within))
    (λ k low high here. is.before (q + k) (omega arith) (omega (arith, high)) (sym (ap (is_byte 0) (same k)) ∙ here))
    (ap (is_byte 0) (same count) ∙ is.here)

ended : (q count : ℕ) (found : Option (List ℕ)) → option_map length found ≡ Some count
    → mark_of (ended_text [] q found) ≡ Some (q + count + 1)
ended q count None is = cc
ended q count (Some text) is = let same : length text ≡ count = cc in ap (λ (n : ℕ). Some (q + n + 1)) same

-- the string whose pointer was read
pointed : (held : Record) (at mark q : ℕ) → held.layout.pointer ≡ 8 → q ≡ magnitude held.layout.order (bytes_at at 8 held.bytes)
    → mark_of (text_walk held at mark) ≡ mark_of (view_string (image_in held) [] mark q)
pointed held at mark q wide read =
    ap (λ (p : ℕ). mark_of (view_string (image_in held) [] mark p)) (wide_pointer held at q wide read)

-- a string behind the mark
pub text_mark : (held : Record) (mark q count : ℕ) → 0 < mark → mark ≤ q → IsZeroBehind held.bytes q count
    → mark_of (view_string (image_in held) [] mark q) ≡ Some (q + count + 1)
text_mark held mark zero count some later is = absurd (omega (arith, some, later))
text_mark held mark (suc p) count some later is =
    let q = suc p in
    let within = is.within in
    let inside : nat_lt q mark || not (nat_lt q (length held.bytes)) ≡ false = grind (arith, nat_tests, later, within) in
    ap
    (λ (past : Bool). mark_of
    (unless past (BlockPlace []) (λ _. ended_text [] q (until_zero (drop q held.bytes)))))
    inside
    ∙ ended q count (until_zero (drop q held.bytes)) (zero_behind held.bytes q count is)

-- the same by the pointer that was read
pub text_seen : (held : Record) (at mark q count : ℕ) → held.layout.pointer ≡ 8
    → q ≡ magnitude held.layout.order (bytes_at at 8 held.bytes)
    → 0 < mark → mark ≤ q → IsZeroBehind held.bytes q count
    → mark_of (text_walk held at mark) ≡ Some (q + count + 1)
text_seen held at mark q count wide read some later is =
    pointed held at mark q wide read ∙ text_mark held mark q count some later is

-- a null string leaves the mark
pub null_seen : (held : Record) (at mark q : ℕ) → held.layout.pointer ≡ 8
    → q ≡ magnitude held.layout.order (bytes_at at 8 held.bytes) → q ≡ 0
    → mark_of (text_walk held at mark) ≡ Some mark
null_seen held at mark q wide read none =
    pointed held at mark q wide read ∙ ap (λ (p : ℕ). mark_of (view_string (image_in held) [] mark p)) none

-- ---- a counted array

small_signed : (bytes : List ℕ) (n m : ℕ) → length bytes ≡ 4 → n ≡ m → n < 2147483648 → twos_complement (length bytes) m ≡ pos n
small_signed bytes n m long is small =
    let low : nat_lt (2 * m) 4294967296 ≡ true = grind (arith, nat_tests, is, small) in
    ap (λ (size : ℕ). twos_complement size m) long
    ∙ ap (λ (b : Bool). if b then pos m else pos m -ℤ pos 4294967296) low
    ∙ ap pos (sym is)

-- a number whose top bit isn't set
small_number : (order : Order) (kind : Kind) (bytes : List ℕ) (n : ℕ) → kind ≢ Boolean → length bytes ≡ 4 → n ≡ magnitude order bytes
    → n < 2147483648 → number order kind bytes ≡ pos n
small_number order Int bytes n no_boolean long is small = small_signed bytes n (magnitude order bytes) long is small
small_number order Unsigned bytes n no_boolean long is small = ap pos (sym is)
small_number order Char bytes n no_boolean long is small = ap pos (sym is)
small_number order Boolean bytes n no_boolean long is small = absurd (no_boolean refl)
small_number order Enumeration bytes n no_boolean long is small = small_signed bytes n (magnitude order bytes) long is small

plain_mark : (held : Record) (size n q mark : ℕ) → 0 < mark → mark ≤ q → 0 < n → q + n * size ≤ length held.bytes
    → counted_mark held inside.Plain size (pos n) q mark ≡ Some (q + n * size)
plain_mark held size zero q mark some later counted fits = absurd (omega (arith, counted))
plain_mark held size (suc n) q mark some later counted fits =
    let end : ℕ = q + suc n * size in
    let test : nat_eq q 0 || (nat_lt q mark || nat_lt (length held.bytes) end) ≡ false = grind (arith, nat_tests, some, later, fits) in
    ap (λ (past : Bool). if past then None else elements_mark held inside.Plain size q (suc n) 0 end) test
    ∙ plain_elements held size q (suc n) 0 end

from_start : (offset : ℕ) → 0 + offset ≡ offset
from_start offset = omega arith

-- a counted array of plain elements by its count and its pointer that were read
read_array : (held : Record) (lead : Lead) (count : Count) (n mark : ℕ) → IsLeadAt held 0 lead → lead.run ≡ run.Counted count
    → lead.inside ≡ inside.Plain
    → count.size ≡ 4 → n ≡ magnitude held.layout.order (bytes_at count.offset 4 held.bytes) → n < 2147483648
    → lead_mark held lead 0 mark ≡ counted_mark held inside.Plain lead.size (pos n) (pointer_at (image_in held) lead.offset) mark
read_array held lead count n mark is counted plain four read small =
    let array = counted_lead held 0 lead count is counted in
    let bytes = bytes_at count.offset 4 held.bytes in
    let left = length-drop count.offset held.bytes in
    let fits = array.count_inside in
    let long : length bytes ≡ 4 = length-take-le 4 (drop count.offset held.bytes) (omega (arith, left, fits, four)) in
    let number_is = small_number held.layout.order count.kind bytes n array.no_boolean long read small in
    let q = pointer_at (image_in held) lead.offset in
    ap (λ (r : Run). run_mark held r lead 0 mark) counted
    ∙ ap (λ (within : Inside). counted_mark held within lead.size (count_at held count 0) (pointer_at (image_in held) (0 + lead.offset)) mark)
    plain
    ∙ ap (λ (at : ℕ). counted_mark held inside.Plain lead.size (count_at held count 0) (pointer_at (image_in held) at) mark)
    (from_start lead.offset)
    ∙ ap (λ (at : ℕ). counted_mark held inside.Plain lead.size (number held.layout.order count.kind (bytes_at at count.size held.bytes)) q mark)
    (from_start count.offset)
    ∙ ap (λ (size : ℕ). counted_mark held inside.Plain lead.size (number held.layout.order count.kind (bytes_at count.offset size held.bytes))
    q mark) four
    ∙ ap (λ (z : ℤ). counted_mark held inside.Plain lead.size z q mark) number_is

-- an empty array leaves the mark
pub empty_seen : (held : Record) (lead : Lead) (count : Count) (n mark : ℕ) → IsLeadAt held 0 lead → lead.run ≡ run.Counted count
    → lead.inside ≡ inside.Plain
    → count.size ≡ 4 → n ≡ magnitude held.layout.order (bytes_at count.offset 4 held.bytes) → n ≡ 0
    → lead_mark held lead 0 mark ≡ Some mark
empty_seen held lead count n mark is counted plain four read none =
    read_array held lead count n mark is counted plain four read (omega (arith, none))
    ∙ ap (λ (m : ℕ). counted_mark held inside.Plain lead.size (pos m) (pointer_at (image_in held) lead.offset) mark) none

-- an array whose block stands behind the mark and inside the bytes
pub array_seen : (held : Record) (lead : Lead) (count : Count) (n q mark : ℕ) → IsLeadAt held 0 lead → lead.run ≡ run.Counted count
    → lead.inside ≡ inside.Plain
    → count.size ≡ 4 → n ≡ magnitude held.layout.order (bytes_at count.offset 4 held.bytes) → n < 2147483648
    → held.layout.pointer ≡ 8 → q ≡ magnitude held.layout.order (bytes_at lead.offset 8 held.bytes)
    → 0 < mark → mark ≤ q → 0 < n → q + n * lead.size ≤ length held.bytes
    → lead_mark held lead 0 mark ≡ Some (q + n * lead.size)
array_seen held lead count n q mark is counted plain four read small wide pointed some later many fits =
    read_array held lead count n mark is counted plain four read small
    ∙ ap (λ (p : ℕ). counted_mark held inside.Plain lead.size (pos n) p mark) (wide_pointer held lead.offset q wide pointed)
    ∙ plain_mark held lead.size n q mark some later many fits

-- ---- a record whose leads stand at its start

root_below : (layout : Layout) → IsWellLaid layout → length layout.types - 1 < length layout.types
root_below layout laid = let some = laid.types_allowed.0 in omega (arith, some)

pub root_some : (layout : Layout) (fixed : ℕ) → IsWellLaid layout → fixed ≡ length_of (root_of layout) → 0 < fixed
root_some layout fixed laid is =
    let last = found_below layout.types (length layout.types - 1) (root_below layout laid) in
    let long = root_length layout last.0 laid last.1 in
    let some = (laid.each_type (length layout.types - 1) last.0 last.1).length_allowed.0 in
    omega (arith, is, long, some)

pub leads_there : (layout : Layout) (bytes : List ℕ) (fixed : ℕ) (items : List Lead) → IsWellLaid layout → length bytes < 2 ^ 32
    → fixed ≡ length_of (root_of layout) → items ≡ leads_of_root layout → fixed ≤ length bytes
    → All (IsLeadAt (record_of layout bytes) 0) items
leads_there layout bytes fixed items laid short is are whole =
    let held = record_of layout bytes in
    λ k d below. (lead_at held held (length layout.types - 1) 0 k items d refl laid short (root_below layout laid) are
    (omega (arith, is, whole)) below).1

-- it has a value where the walk by its leads has a mark
pub led_viewed : (layout : Layout) (bytes : List ℕ) (fixed : ℕ) (items : List Lead) → IsWellLaid layout
    → fixed ≡ length_of (root_of layout) → items ≡ leads_of_root layout → fixed ≤ length bytes
    → IsSome (leads_mark (record_of layout bytes) items 0 fixed)
    → IsOk (view layout bytes)
led_viewed layout bytes fixed items laid is are whole some =
    let held = record_of layout bytes in
    let walked = leads_read held held (length layout.types - 1) 0 fixed items refl laid (root_below layout laid) are in
    let mark = ap (λ (n : ℕ). mark_of (view_tree (image_of layout bytes) (root_of layout) 0 [] n)) is in
    rw (view-walked layout bytes (omega (arith, is, whole)))
    (viewed-marked (view_tree (image_of layout bytes) (root_of layout) 0 [] (length_of (root_of layout)))
    (leads_mark held items 0 fixed) (walked ∙ mark) some)

-- so where it has no lead
pub unled_viewed : (layout : Layout) (bytes : List ℕ) (fixed : ℕ) (items : List Lead) → IsWellLaid layout
    → fixed ≡ length_of (root_of layout) → items ≡ leads_of_root layout → fixed ≤ length bytes → 0 ≡ length items
    → IsOk (view layout bytes)
unled_viewed layout bytes fixed [] laid is are whole none = led_viewed layout bytes fixed [] laid is are whole refl
unled_viewed layout bytes fixed (lead ∷ items) laid is are whole none = absurd (omega (arith, none))

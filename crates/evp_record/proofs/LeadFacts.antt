-- Where the leads of a well laid type stand, and what is inside them.
use Rattle.std.proofs.Common.{◌≡◌, ◌≢◌, ℕ, zero, suc, ◌+◌, ◌*◌, ◌^◌, ◌<◌, ◌≤◌, Bool, true, false, nat_lt, List, [], ◌∷◌, length, take, get_or}
use Rattle.std.proofs.Common.{Option, Some, None, refl, sym, ap, ◌∙◌, subst, arith, IsTrue}
use Rattle.std.specs.Prelude.{slice_get, option_and_then, if◌then◌else◌}
use Rattle.std.proofs.lemmas.Bool.Decides.{nat_tests}
use Rattle.std.proofs.lemmas.List.{length-take}
use Rattle.std.specs.List.{All}
use Rattle.evp_base.specs.declared.kind.Kind.TheVariants.{Int, Unsigned, Char, Boolean, Enumeration}
use Rattle.evp_base.specs.Numbers.{is_size_of}
use Rattle.evp_format.specs.declared.field.Base.{Base}
use Rattle.evp_format.specs.declared.field.Base.TheVariants.{Number, Text, Nested}
use Rattle.evp_format.specs.declared.field.Field.{Field}
use Rattle.evp_format.specs.declared.field.Shape.{Shape}
use Rattle.evp_format.specs.declared.field.Shape.TheVariants.{One, Fixed, Counted}
use Rattle.evp_format.specs.declared.lead.Count.{Count}
use Rattle.evp_format.specs.declared.lead.Inside.{Inside}
use Rattle.evp_format.specs.declared.lead.Inside.TheVariants as inside
use Rattle.evp_format.specs.declared.lead.Lead.{Lead}
use Rattle.evp_format.specs.declared.lead.Run.{Run}
use Rattle.evp_format.specs.declared.lead.Run.TheVariants as run
use Rattle.evp_format.specs.declared.record_type.RecordType.{RecordType}
use Rattle.evp_format.specs.Layout.{Layout}
use Rattle.evp_format.specs.Leads.{inside_of, leads_by, lead_from, with_lead, leads_in, points_in, leads_of, run_in, kind_of, count_from}
use Rattle.evp_format.specs.Tree.{tree_of, length_of}
use Rattle.evp_format.specs.WellLaid.{IsWellLaid, HasBaseSize, HasShape, CountsElements, shape_extent}
use Rattle.evp_format.proofs.Trees.{found_below, slice_get-below}
use Rattle.evp_record.specs.LeadMarks.{HasInside, run_extent, CountsInside, IsLead, IsLeadAt, within}
use Rattle.evp_record.specs.Record.{Record}
use Rattle.evp_format.proofs.LaidBases.{size_above, sized_among_all}
use Rattle.evp_record.proofs.Laid.{laid_at, NestedAt, inside, nested_at, type_fields-found, extent_of_one}

-- how deep what is inside may lead: a nested type is an earlier one
abbrev pub rank : Inside → ℕ
rank inside.Plain = 0
rank inside.Text = 0
rank (inside.Record m) = 8 * m + 8

-- a lead of type n
pub record IsLeadOf (layout : Layout) (n : ℕ) (lead : Lead) : Type 0 where
  pub is_lead : IsLead layout (length_of (tree_of layout n)) lead
  pub earlier : rank lead.inside ≤ 8 * n

all_cons : (P : Lead → Type 0) (lead : Lead) (others : List Lead) → P lead → All P others → (k : ℕ) (d : Lead) → k < length (lead ∷ others)
    → P (get_or (lead ∷ others) k d)
all_cons P lead others first rest zero d below = first
all_cons P lead others first rest (suc k) d below = rest k d (omega (arith, below))

each_lead : (P : Lead → Type 0) (points : ℕ → Bool) (all fields : List Field) (k : ℕ)
    → ((i : ℕ) (field : Field) → slice_get fields i ≡ Some field → P (lead_from points all (k + i) field))
    → All P (leads_in points all fields k)
each_lead P points all [] k holds = λ i d below. absurd (omega (arith, below))
each_lead P points all (field ∷ fields) k holds =
    let here : k + 0 ≡ k = omega arith in
    let first : P (lead_from points all k field) = subst (λ i. P (lead_from points all i field)) here (holds 0 field refl) in
    let rest =
    each_lead P points all fields (suc k)
    (λ i other found. let next : k + suc i ≡ suc k + i = omega arith in subst (λ j. P (lead_from points all j other)) next
    (holds (suc i) other found)) in
    with_first (leads_by field.shape (inside_of points field.base)) (lead_from points all k field) (leads_in points all fields (suc k))
    first rest
  where
    with_first : (leads : Bool) (lead : Lead) (others : List Lead) → P lead → All P others
        → All P (with_lead (if leads then Some lead else None) others)
    with_first true lead others first rest = all_cons P lead others first rest
    with_first false lead others first rest = rest

inside_earlier : (layout : Layout) (points : ℕ → Bool) (n : ℕ) (base : Base) (size : ℕ) → IsWellLaid layout
    → HasBaseSize layout.pointer (take n layout.types) base size
    → HasInside layout (inside_of points base) size × (rank (inside_of points base) ≤ 8 * n)
inside_earlier layout points n (Number kind) size laid sized = (tt, omega arith)
inside_earlier layout points n Text size laid sized = (sized, omega arith)
inside_earlier layout points n (Nested m) size laid sized = by_test (points m)
  where
    nested : NestedAt layout m size
    nested = nested_at layout (Nested m) size m laid (sized_among_all layout.pointer layout.types n (Nested m) size sized) refl

    below : m < length (take n layout.types)
    below = slice_get-below (take n layout.types) m sized.0 sized.1

    by_test : (led : Bool) → HasInside layout (if led then inside.Record m else inside.Plain) size
        × (rank (if led then inside.Record m else inside.Plain) ≤ 8 * n)
    by_test true = let kept = length-take n layout.types in ((nested.there, nested.long), omega (arith, below, kept))
    by_test false = (tt, omega arith)

run_extent-shape : (pointer : ℕ) (all : List Field) (shape : Shape) (size : ℕ)
    → run_extent pointer (run_in all shape) size ≡ shape_extent pointer shape size
run_extent-shape pointer all One size = refl
run_extent-shape pointer all (Fixed n) size = refl
run_extent-shape pointer all (Counted c) size = refl

-- a count's size, by its base
count_sized : (pointer : ℕ) (types : List RecordType) (base : Base) (size : ℕ) → CountsElements base → HasBaseSize pointer types base size
    → IsTrue (is_size_of (kind_of base) size)
count_sized pointer types (Number Int) size counts sized = sized
count_sized pointer types (Number Unsigned) size counts sized = sized
count_sized pointer types (Number Char) size counts sized = absurd counts
count_sized pointer types (Number Boolean) size counts sized = absurd counts
count_sized pointer types (Number Enumeration) size counts sized = absurd counts
count_sized pointer types Text size counts sized = absurd counts
count_sized pointer types (Nested m) size counts sized = absurd counts

-- and its kind
count_kind : (base : Base) → CountsElements base → kind_of base ≢ Boolean
count_kind (Number Int) counts = λ is. cc
count_kind (Number Unsigned) counts = λ is. cc
count_kind (Number Char) counts = absurd counts
count_kind (Number Boolean) counts = absurd counts
count_kind (Number Enumeration) counts = absurd counts
count_kind Text counts = absurd counts
count_kind (Nested m) counts = absurd counts

counts_inside : (layout : Layout) (n : ℕ) (type : RecordType) (shape : Shape) → IsWellLaid layout → slice_get layout.types n ≡ Some type
    → HasShape type.fields shape
    → CountsInside (length_of (tree_of layout n)) (run_in type.fields shape)
counts_inside layout n type One laid found has = tt
counts_inside layout n type (Fixed m) laid found has = tt
counts_inside layout n type (Counted c) laid found has =
    let at = laid_at layout n c has.0 laid (ap (option_and_then (λ (t : RecordType). slice_get t.fields c)) found ∙ has.1) in
    let fits = inside layout n c has.0 at in
    let takes = extent_of_one layout.pointer has.0 has.2 in
    let Counts : Option Field → Type 0 = λ o. CountsInside (length_of (tree_of layout n)) (run.Counted (count_from o)) in
    subst Counts (sym has.1) (
      count_sized layout.pointer (take n layout.types) has.0.base has.0.size has.3 at.laid.size_allowed,
      omega (arith, fits, takes),
      count_kind has.0.base has.3,
    )

-- each lead of type n
pub leads_are : (layout : Layout) (n : ℕ) → IsWellLaid layout → n < length layout.types → All (IsLeadOf layout n) (leads_of layout n)
leads_are layout n laid below =
    let found = found_below layout.types n below in
    let type = found.0 in
    let points = points_in layout.types in
    let AllAre : List Field → Type 0 = λ fields. All (IsLeadOf layout n) (leads_in points fields fields 0) in
    subst AllAre (sym (type_fields-found layout n type found.1))
    (each_lead (IsLeadOf layout n) points type.fields type.fields 0
    (λ i field there.
    let at = laid_at layout n i field laid (ap (option_and_then (λ (t : RecordType). slice_get t.fields i)) found.1 ∙ there) in
    let here = inside_earlier layout points n field.base field.size laid at.laid.size_allowed in
    let fits = inside layout n i field at in
    let takes = run_extent-shape layout.pointer type.fields field.shape field.size in
    let shape = ((laid.each_type n type found.1).each_field i field there).shape_allowed in
    record {
      is_lead = record {
        some = size_above layout field.base field.size laid (sized_among_all layout.pointer layout.types n field.base field.size
            at.laid.size_allowed);
        has_inside = here.0;
        fits = omega (arith, fits, takes);
        counts = counts_inside layout n type field.shape laid found.1 shape;
      };
      earlier = here.1;
    }))

-- a lead that is a counted array, inside the bytes
pub record IsCountedLead (held : Record) (at : ℕ) (lead : Lead) (count : Count) : Type 0 where
  pub allowed : IsTrue (is_size_of count.kind count.size)
  pub count_inside : at + count.offset + count.size ≤ length held.bytes
  pub pointer_inside : at + lead.offset + held.layout.pointer ≤ length held.bytes
  pub no_boolean : count.kind ≢ Boolean

pub counted_lead : (held : Record) (at : ℕ) (lead : Lead) (count : Count) → IsLeadAt held at lead → lead.run ≡ run.Counted count
    → IsCountedLead held at lead count
counted_lead held at lead count is counted =
    let counts = subst (CountsInside is.fixed) counted is.is_lead.counts in
    let takes : run_extent held.layout.pointer lead.run lead.size
    ≡ held.layout.pointer = ap (λ (r : Run). run_extent held.layout.pointer r lead.size) counted in
    let fits = is.is_lead.fits in
    let within = is.inside in
    record {
      allowed = counts.0;
      count_inside = omega (arith, counts.1, within);
      pointer_inside = omega (arith, fits, takes, within);
      no_boolean = counts.2;
    }

pub extent_of_run : (held : Record) (at : ℕ) (lead : Lead) (r : Run) → IsLeadAt held at lead → lead.run ≡ r
    → at + lead.offset + run_extent held.layout.pointer r lead.size ≤ length held.bytes
extent_of_run held at lead r is same =
    let takes : run_extent held.layout.pointer lead.run lead.size
    ≡ run_extent held.layout.pointer r lead.size = ap (λ (other : Run). run_extent held.layout.pointer other lead.size) same in
    omega (arith, is.is_lead.fits, takes, is.inside)

-- the record inside an element
pub inside_record : (layout : Layout) (within : Inside) (size m : ℕ) → HasInside layout within size → within ≡ inside.Record m
    → (m < length layout.types) × (length_of (tree_of layout m) ≡ size)
inside_record layout within size m has is = subst (λ other. HasInside layout other size) is has

pub within_some : (room end e : ℕ) → Some end ≡ within room e → (end ≡ e) × (e ≤ room)
within_some room end e is = by_test (nat_lt room e) refl is
  where
    by_test : (past : Bool) → nat_lt room e ≡ past → Some end ≡ (if past then None else Some e) → (end ≡ e) × (e ≤ room)
    by_test true told is = cc
    by_test false told is = let same : end ≡ e = cc in (same, grind (arith, nat_tests))

-- a lead that was read from those of the type
pub lead_at : (inner held : Record) (n at k : ℕ) (items : List Lead) (d : Lead) → inner ≡ held → IsWellLaid inner.layout
    → length inner.bytes < 2 ^ 32 → n < length held.layout.types
    → items ≡ leads_of inner.layout n → at + length_of (tree_of held.layout n) ≤ length held.bytes → k < length items
    → (rank (get_or items k d).inside ≤ 8 * n) × IsLeadAt held at (get_or items k d)
lead_at inner held n at k items d same laid short there are inside below =
    subst Here same inner_here there inside
  where
    Here : Record → Type 0
    Here some = n < length some.layout.types → at + length_of (tree_of some.layout n) ≤ length some.bytes
        → (rank (get_or items k d).inside ≤ 8 * n) × IsLeadAt some at (get_or items k d)

    inner_here : Here inner
    inner_here there inside =
        let All_are : List Lead → Type 0 = λ leads. All (IsLeadOf inner.layout n) leads in
        let one = subst All_are (sym are) (leads_are inner.layout n laid there) k d below in
        (one.earlier, record { fixed = length_of (tree_of inner.layout n); is_lead = one.is_lead; inside = inside; short = short })

-- What a plan that was found does to a record.
use Rattle.std.proofs.Common.{◌≡◌, ℕ, ◌<◌, List, Some, None, Option, sym, ap, refl, ◌∙◌, subst, slice_get, get_or}
use Rattle.std.proofs.Common.{length}
use Rattle.std.proofs.lemmas.Option.{slice_get_within, slice_get_read}
use Rattle.std.specs.Cow.{cow_slice_items}
use Rattle.std.specs.declared.borrow.CowSlice.{CowSlice}
use Rattle.evp_action.specs.declared.acted.Reason.{Reason}
use Rattle.evp_action.specs.declared.refusal.Refusal.{Refusal}
use Rattle.evp_action.specs.declared.refusal.Refusal.TheVariants.{Cause, Memory}
use Rattle.evp_action.specs.Acting.{converting, then_converted}
use Rattle.evp_action.specs.Converted.{IsInto, IsConverted, IsCause, IsClash, plan_of, fault_reason}
use Rattle.evp_action.specs.Outcome.{Outcome, refused}
use Rattle.evp_action.specs.Performed.{HasValue}
use Rattle.evp_cache.specs.declared.found.Found.{Found}
use Rattle.evp_cache.specs.declared.found.Found.TheVariants.{Plan, Clash}
use Rattle.evp_cache.specs.Finding.{IsFound}
use Rattle.evp_cache.specs.Known.{IsFoundFor}
use Rattle.evp_format.specs.Clashing.{clash}
use Rattle.evp_format.specs.Conversion.{Answer, clashes, conversion, answer_of, unless_clash}
use Rattle.evp_format.specs.Converting.{Made, made, convert}
use Rattle.evp_format.specs.Datum.{Datum}
use Rattle.evp_format.specs.Layout.{Layout}
use Rattle.evp_format.specs.Viewing.{view}
use Rattle.evp_plan.specs.Planned.{Planned, StandsFor}
use Rattle.evp_record.specs.Owned.{owned_of}
use Rattle.evp_record.specs.OwnedBytes.{OwnedBytes}
use Rattle.evp_record.specs.Record.{Record, value_of, value_or_null}
use Rattle.evp_runner.specs.declared.run_fault.RunFault.{RunFault}
use Rattle.evp_runner.specs.declared.run_fault.RunFault.TheVariants as run_fault
use Rattle.evp_runner.specs.Running.{IsPassed, IsRunFault}

pub some_same : {A : Type 0} (x y : A) (o : Option A) → o ≡ Some x → o ≡ Some y → x ≡ y
some_same x y o p q = cc

-- the number of a format that was found is below their count
pub receiver_there : (formats : List Layout) (from to : ℕ) (found : Found) → IsFoundFor formats from to found → to < length formats
receiver_there formats from to found is = slice_get_within formats to is.receiver is.receiver_is

-- the format of a number, by an index
pub format_at : (formats : List Layout) (to n : ℕ) (at : Layout) → to < length formats → n ≡ to → at ≡ get_or formats n at
    → slice_get formats to ≡ Some (get_or formats n at)
format_at formats to n at within is read = slice_get_read formats (length formats) to at refl within
    (read ∙ ap (λ (k : ℕ). get_or formats k at) is) ∙ ap Some read

-- the plan that was found stands for the two formats
pub stands_for : (sender receiver : Layout) (found : Found) (plan : Planned) → IsFound sender receiver found → plan_of found ≡ Some plan
    → StandsFor plan sender receiver
stands_for sender receiver (Plan kept) plan is there = subst (λ (p : Planned). StandsFor p sender receiver)
    (some_same kept plan _ refl there) is
stands_for sender receiver (Clash path) plan is there = absurd (none_is there)
  where
    none_is : None ≡ Some plan → ⊥
    none_is e = cc

-- a record of these formats, lent
pub record IsLent (formats : List Layout) (owned : OwnedBytes) (held : Record) : Type 0 where
  pub format : slice_get formats owned.format ≡ Some held.layout
  pub bytes : held.bytes ≡ owned.bytes

pub lent_by : (formats : List Layout) (owned shown : OwnedBytes) (held : Record) → shown ≡ owned
    → slice_get formats shown.format ≡ Some held.layout
    → held.bytes ≡ shown.bytes → IsLent formats owned held
lent_by formats owned shown held same format bytes = record {
  format = subst (λ (o : OwnedBytes). slice_get formats o.format ≡ Some held.layout) same format;
  bytes = bytes ∙ ap (λ (o : OwnedBytes). o.bytes) same;
}

-- its value
pub value_is : (formats : List Layout) (owned : OwnedBytes) (held : Record) (value : Datum) → IsLent formats owned held
    → HasValue formats owned value → value_of held ≡ value
value_is formats owned held value lent has =
    let layout : held.layout ≡ has.layout = some_same _ _ _ lent.format has.there in
    ap (λ (l : Layout). value_or_null (view l held.bytes)) layout
    ∙ (ap (λ (bytes : List ℕ). value_or_null (view has.layout bytes)) lent.bytes ∙ ap value_or_null has.viewed)

-- what was found for the format of the record
pub record HasPlan (formats : List Layout) (from to : ℕ) (held : Record) (plan : Planned) : Type 0 where
  pub receiver : Layout
  pub sender_is : slice_get formats from ≡ Some held.layout
  pub receiver_is : slice_get formats to ≡ Some receiver
  pub stands : StandsFor plan held.layout receiver

abbrev pub has_plan : (formats : List Layout) (owned : OwnedBytes) (to : ℕ) (held : Record) (found : Found) (plan : Planned)
    → IsLent formats owned held
    → IsFoundFor formats owned.format to found → plan_of found ≡ Some plan → HasPlan formats owned.format to held plan
has_plan formats owned to held found plan lent is there =
    let sender : is.sender ≡ held.layout = some_same _ _ _ is.sender_is lent.format in
    record {
      receiver = is.receiver;
      sender_is = lent.format;
      receiver_is = is.receiver_is;
      stands = subst (λ (l : Layout). StandsFor plan l is.receiver) sender (stands_for is.sender is.receiver found plan is.right there);
    }

-- where formats don't clash, the conversion is by their values
pub by_value : (from to : Layout) (value : Datum) (limit : ℕ) (m : Made Datum) → clash from to ≡ None → convert to value limit ≡ m
    → conversion from to value limit ≡ answer_of to m
by_value from to value limit m apart is =
    ap (λ (c : Option _). unless_clash c (λ _. answer_of to (convert to value limit))) apart ∙ ap (answer_of to) is

-- what is converted by the plan
abbrev pub converted_by : (formats : List Layout) (from to limit : ℕ) (held : Record) (plan : Planned) (value made_of : Datum) (size : ℕ)
    → (has : HasPlan formats from to held plan) → value_of held ≡ value → convert has.receiver (value_of held) limit ≡ made made_of size
    → IsConverted formats from to limit value made_of
converted_by formats from to limit held plan value made_of size has same is =
    record {
      sender = held.layout;
      receiver = has.receiver;
      sender_is = has.sender_is;
      receiver_is = has.receiver_is;
      size = size;
      is = by_value held.layout has.receiver value limit (made made_of size) has.stands.no_clash
          (subst (λ (v : Datum). convert has.receiver v limit ≡ made made_of size) same is);
    }

-- the record that is handed on
pub into : {Z : Type 0} (formats : List Layout) (owned : OwnedBytes) (to limit : ℕ) (held : Record) (found : Found) (plan : Planned)
    (bytes : CowSlice ℕ Z) (value : Datum) (result : OwnedBytes) → IsLent formats owned held → IsFoundFor formats owned.format to found
    → plan_of found ≡ Some plan → ((receiver : Layout) → StandsFor plan held.layout receiver → IsPassed held receiver limit bytes)
    → result ≡ owned_of to (cow_slice_items bytes) → HasValue formats owned value → IsInto formats owned.format to limit value result
into formats owned to limit held found plan bytes value result lent is there passed result_is has =
    let known = has_plan formats owned to held found plan lent is there in
    let done = passed known.receiver known.stands in
    let converted = converted_by formats owned.format to limit held plan value done.value done.size known
    (value_is formats owned held value lent has) done.converted in
    record {
      value_made = done.value;
      converted = converted;
      numbered = ap (λ (o : OwnedBytes). o.format) result_is;
      viewed = ap (λ (o : OwnedBytes). view known.receiver o.bytes) result_is ∙ done.viewed;
    }

-- between formats that are there
converting_is : (formats : List Layout) (from to limit : ℕ) (sender receiver : Layout) (value : Datum) (next : Datum → Outcome)
    (answer : Answer)
    → slice_get formats from ≡ Some sender → slice_get formats to ≡ Some receiver → conversion sender receiver value limit ≡ answer
    → converting (slice_get formats from) (slice_get formats to) limit value next ≡ then_converted answer next
converting_is formats from to limit sender receiver value next answer from_is to_is is =
    ap (λ (o : Option Layout). converting o (slice_get formats to) limit value next) from_is
    ∙ (ap (λ (o : Option Layout). converting (Some sender) o limit value next) to_is ∙ ap (λ (a : Answer). then_converted a next) is)

-- a conversion goes on with what it makes
pub goes_on : (formats : List Layout) (from to limit : ℕ) (value made_of : Datum) → IsConverted formats from to limit value made_of
    → (next : Datum → Outcome) → converting (slice_get formats from) (slice_get formats to) limit value next ≡ next made_of
goes_on formats from to limit value made_of is next =
    converting_is formats from to limit is.sender is.receiver value next _ is.sender_is is.receiver_is is.is

-- where the formats clash
pub clash_cause : (formats : List Layout) (from to limit : ℕ) (found : Found) (value : Datum) (cause : Refusal)
    → IsFoundFor formats from to found
    → IsClash found cause → IsCause formats from to limit value cause
clash_cause formats from to limit (Clash path) value (Cause why) found is =
    λ next. converting_is formats from to limit found.sender found.receiver value next (clashes path) found.sender_is found.receiver_is
    (ap (λ (c : Option _). unless_clash c (λ _. answer_of found.receiver (convert found.receiver value limit))) found.right)
    ∙ ap refused (sym is)
clash_cause formats from to limit (Plan plan) value (Cause why) found is = absurd is
clash_cause formats from to limit found value Memory is there = tt

-- the answer with this fault
refusal_is : (receiver : Layout) (fault : RunFault) (m : Made Datum) (why : Reason) (next : Datum → Outcome) → IsRunFault fault m
    → fault_reason receiver fault ≡ Some why → then_converted (answer_of receiver m) next ≡ refused why
refusal_is receiver (run_fault.Unfit place) m why next is there =
    ap (λ (x : Made Datum). then_converted (answer_of receiver x) next) is ∙ ap refused (some_same _ why _ refl there)
refusal_is receiver (run_fault.Large place) m why next is there =
    ap (λ (x : Made Datum). then_converted (answer_of receiver x) next) is ∙ ap refused (some_same _ why _ refl there)
refusal_is receiver run_fault.Memory m why next is there = cc

-- where the value doesn't fit
pub fault_cause : (formats : List Layout) (owned : OwnedBytes) (to limit : ℕ) (held : Record) (found : Found) (plan : Planned)
    (fault : RunFault) (receiver : Layout) (value : Datum) (why : Reason) → IsLent formats owned held
    → IsFoundFor formats owned.format to found
    → plan_of found ≡ Some plan
    → ((receiver : Layout) → StandsFor plan held.layout receiver → IsRunFault fault (convert receiver (value_of held) limit))
    → slice_get formats to ≡ Some receiver → fault_reason receiver fault ≡ Some why → HasValue formats owned value
    → IsCause formats owned.format to limit value (Cause why)
fault_cause formats owned to limit held found plan fault receiver value why lent is there faulty receiver_is reason_is has =
    let known = has_plan formats owned to held found plan lent is there in
    let same : known.receiver ≡ receiver = some_same _ _ _ known.receiver_is receiver_is in
    let value_same = value_is formats owned held value lent has in
    let at : IsRunFault fault (convert known.receiver value limit) =
    subst (λ (v : Datum). IsRunFault fault (convert known.receiver v limit)) value_same (faulty known.receiver known.stands) in
    λ next. converting_is formats owned.format to limit held.layout known.receiver value next _ known.sender_is known.receiver_is
    (by_value held.layout known.receiver value limit _ known.stands.no_clash refl)
    ∙ refusal_is known.receiver fault (convert known.receiver value limit) why next at
    (subst (λ (l : Layout). fault_reason l fault ≡ Some why) (sym same) reason_is)

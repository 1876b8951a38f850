-- The records of a source's file: where each stands, and that it stands for itself.
use Rattle.std.proofs.Common.{◌≡◌, ℕ, zero, suc, ◌+◌, List, [], ◌∷◌, drop, length, Some, Result, Ok, Err, IsOk}
use Rattle.std.proofs.Common.{refl, sym, ap, subst, ◌∙◌, add-one, arith}
use Rattle.std.proofs.lemmas.Option.{slice_get_within, get_or_from_slice_get}
use Rattle.std.specs.Prelude.{Option, option_map, All}
use Rattle.std.specs.List.{slice_get}
use Rattle.std.specs.Option.{unwrap_or}
use Rattle.evp_format.specs.declared.broken.Broken.{Broken}
use Rattle.evp_format.specs.Datum.{Datum, null}
use Rattle.evp_format.specs.Layout.{Layout}
use Rattle.evp_format.specs.Viewing.{view}
use Rattle.evp_record.specs.Owned.{HasValueIn}
use Rattle.evp_record.specs.OwnedBytes.{OwnedBytes}
use Rattle.evp_record.specs.Record.{record_of, value_of, value_or_null}
use Rattle.evp_stone.specs.declared.source.Source.{Source}
use Rattle.evp_stone.specs.Accounts.{carried_of, carried_from, items_of, records_of}
use Rattle.evp_stone.specs.Carried.{Carried}
use Rattle.evp_stone.specs.Entries.{IsThat}
use Rattle.evp_stone.specs.Job.{IsJob}
use Rattle.evp_stone.specs.JobShape.{JobShape}
use Rattle.evp_stone.proofs.Bounds.{length-carried}

pub is_that : (formats : List Layout) (index : ℕ) (owned : OwnedBytes) → HasValueIn formats owned
    → IsThat formats owned (carried_of formats index owned)
is_that formats index owned has = read (view has.layout owned.bytes) refl has.viewed
  where
    read : (r : Result Datum Broken) → view has.layout owned.bytes ≡ r → IsOk r → IsThat formats owned (carried_of formats index owned)
    read (Ok value) same ok = record {
      layout = has.layout;
      format = refl;
      there = has.there;
      viewed = same ∙ ap Ok (sym (ap (λ (o : Option Layout).
          unwrap_or (option_map (λ layout. value_of (record_of layout owned.bytes)) o) null) has.there ∙ ap value_or_null same));
    }
    read (Err fault) same ok = cc

-- a record of the file, and those behind it
pub carried_at : (formats : List Layout) (first : ℕ) (items : List OwnedBytes) (k : ℕ) (owned : OwnedBytes)
    → slice_get items k ≡ Some owned
    → drop k (carried_from formats first items)
    ≡ carried_of formats (first + k) owned ∷ drop (k + 1) (carried_from formats first items)
carried_at formats first [] k owned at = absurd (cc)
carried_at formats first (i ∷ items) zero owned at =
    let is : i ≡ owned = cc in
    ap (λ (o : OwnedBytes). carried_of formats first o ∷ carried_from formats (first + 1) items) is
    ∙ ap (λ (n : ℕ). carried_of formats n owned ∷ carried_from formats (first + 1) items) (omega arith)
carried_at formats first (i ∷ items) (suc k) owned at =
    let others = carried_from formats (first + 1) items in
    carried_at formats (first + 1) items k owned at
    ∙ ap (λ (n : ℕ). carried_of formats n owned ∷ drop (k + 1) others) (omega arith)
    ∙ ap (λ (n : ℕ). carried_of formats (first + suc k) owned ∷ drop n others) (add-one k)
    ∙ ap (λ (n : ℕ). carried_of formats (first + suc k) owned ∷ drop n (carried_from formats first (i ∷ items))) (sym (add-one (suc k)))

module _ (job : JobShape) (is : IsJob job) where
  -- each of a source's records has a value
  pub has_value : (k : ℕ) (source : Source) (index : ℕ) (owned : OwnedBytes) → slice_get job.sources k ≡ Some source
      → slice_get source.items index ≡ Some owned → HasValueIn job.formats owned
  has_value k source index owned at here =
      let all = is.items k source (slice_get_within job.sources k source at) in
      let file = subst (λ (s : Source). All (HasValueIn job.formats) s.items) (get_or_from_slice_get job.sources k source source at) all in
      subst (HasValueIn job.formats) (get_or_from_slice_get source.items index owned owned here)
      (file index owned (slice_get_within source.items index owned here))

pub length-records : (job : JobShape) (k : ℕ) (source : Source) → slice_get job.sources k ≡ Some source
    → length (records_of job k) ≡ length source.items
length-records job k source at =
    length-carried job.formats 0 (items_of (slice_get job.sources k)) ∙ ap (λ (o : Option Source). length (items_of o)) at

-- the records from one on
pub records_from : (job : JobShape) (k : ℕ) (source : Source) (index : ℕ) (owned : OwnedBytes) → slice_get job.sources k ≡ Some source
    → slice_get source.items index ≡ Some owned
    → drop index (records_of job k) ≡ carried_of job.formats index owned ∷ drop (index + 1) (records_of job k)
records_from job k source index owned at here =
    let file : Option Source → List Carried = λ (o : Option Source). carried_from job.formats 0 (items_of o) in
    ap (λ (o : Option Source). drop index (file o)) at
    ∙ carried_at job.formats 0 source.items index owned here
    ∙ ap (λ (n : ℕ). carried_of job.formats n owned ∷ drop (index + 1) (file (Some source))) (omega arith)
    ∙ ap (λ (o : Option Source). carried_of job.formats index owned ∷ drop (index + 1) (file o)) (sym at)

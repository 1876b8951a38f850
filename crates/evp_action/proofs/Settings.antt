-- Settings, one after another.
use Rattle.std.proofs.Common.{◌≡◌, ℕ, ◌+◌, ◌<◌, List, [], ◌∷◌, suc, add-one, drop-cons, length, drop, get_or, sym, ap, refl, ◌∙◌}
use Rattle.std.proofs.Common.{subst}
use Rattle.evp_action.specs.declared.action.Setting.{Setting}
use Rattle.evp_action.specs.declared.refusal.Refusal.{Refusal}
use Rattle.evp_action.specs.Acting.{set_from}
use Rattle.evp_action.specs.Converted.{IsRefused}
use Rattle.evp_action.specs.Outcome.{Outcome}
use Rattle.evp_action.specs.Settings.{AreSet, StopsBy}
use Rattle.evp_action.specs.Storing.{IsPacked, IsPackedRecord}
use Rattle.evp_format.specs.Datum.{Datum, Entries}
use Rattle.evp_format.specs.Layout.{Layout}

-- the settings below number k were stored, and the others are left
pub record SoFar (into : Layout) (k : ℕ) (settings rest : List Setting) (value : Datum) (old : Entries) (bytes : List ℕ) : Type 0 where
  pub fields : Entries
  pub packed : IsPacked into fields bytes
  pub is : (next : Entries → Outcome) → set_from into 0 settings value old next ≡ set_from into k rest value fields next

-- nothing was stored yet
pub none_yet : (into : Layout) (settings : List Setting) (value : Datum) (old : Entries) (bytes : List ℕ) → IsPacked into old bytes
    → SoFar into 0 settings settings value old bytes
none_yet into settings value old bytes packed = record { fields = old; packed = packed; is = λ next. refl }

-- one more was stored
one_more : (into : Layout) (k : ℕ) (settings : List Setting) (setting : Setting) (rest : List Setting) (value : Datum) (old : Entries)
    (bytes after : List ℕ) → SoFar into k settings (setting ∷ rest) value old bytes
    → ((fields : Entries) → IsPacked into fields bytes → AreSet into k (setting ∷ []) value fields after)
    → SoFar into (k + 1) settings rest value old after
one_more into k settings setting rest value old bytes after so_far step =
    let done = step so_far.fields so_far.packed in
    record {
      fields = done.fields;
      packed = done.packed;
      is = λ next. so_far.is next ∙ done.is (λ (fields : Entries). set_from into (k + 1) rest value fields next);
    }

-- the next one went wrong
stopped : (into : Layout) (k : ℕ) (settings : List Setting) (setting : Setting) (rest : List Setting) (value : Datum) (old : Entries)
    (bytes : List ℕ) (cause : Refusal) → SoFar into k settings (setting ∷ rest) value old bytes
    → ((fields : Entries) → IsPacked into fields bytes → StopsBy into k (setting ∷ []) value fields cause)
    → StopsBy into 0 settings value old cause
stopped into k settings setting rest value old bytes cause so_far step next =
    subst (λ (outcome : Outcome). IsRefused outcome cause) (sym (so_far.is next))
    (step so_far.fields so_far.packed (λ (fields : Entries). set_from into (k + 1) rest value fields next))

-- all were stored
pub all_set : (into : Layout) (k : ℕ) (settings : List Setting) (value : Datum) (old : Entries) (bytes : List ℕ)
    → SoFar into k settings [] value old bytes → AreSet into 0 settings value old bytes
all_set into k settings value old bytes so_far = record { fields = so_far.fields; packed = so_far.packed; is = so_far.is }

-- the settings from number k on
left_at : (settings : List Setting) (k : ℕ) (setting : Setting) → k < length settings → setting ≡ get_or settings k setting
    → drop k settings ≡ setting ∷ drop (k + 1) settings
left_at settings k setting within is = rw (add-one) (drop-cons settings k setting within
    ∙ ap (λ (s : Setting). s ∷ drop (suc k) settings) (sym is))

-- the loop's step, and its exit
pub step_on : (into : Layout) (k : ℕ) (settings : List Setting) (setting : Setting) (value : Datum) (old : Entries) (bytes after : List ℕ)
    → k < length settings → setting ≡ get_or settings k setting → SoFar into k settings (drop k settings) value old bytes
    → ((fields : Entries) → IsPacked into fields bytes → AreSet into k (setting ∷ []) value fields after)
    → SoFar into (k + 1) settings (drop (k + 1) settings) value old after
step_on into k settings setting value old bytes after within is so_far step =
    one_more into k settings setting (drop (k + 1) settings) value old bytes after
    (subst (λ (rest : List Setting). SoFar into k settings rest value old bytes) (left_at settings k setting within is) so_far) step

pub stop_on : (into : Layout) (k : ℕ) (settings : List Setting) (setting : Setting) (value : Datum) (old : Entries) (bytes : List ℕ)
    (cause : Refusal)
    → k < length settings → setting ≡ get_or settings k setting → SoFar into k settings (drop k settings) value old bytes
    → ((fields : Entries) → IsPacked into fields bytes → StopsBy into k (setting ∷ []) value fields cause)
    → StopsBy into 0 settings value old cause
stop_on into k settings setting value old bytes cause within is so_far step =
    stopped into k settings setting (drop (k + 1) settings) value old bytes cause
    (subst (λ (rest : List Setting). SoFar into k settings rest value old bytes) (left_at settings k setting within is) so_far) step

-- the record stays packed
pub still_packed : (into : Layout) (k : ℕ) (setting : Setting) (value : Datum) (bytes after : List ℕ) → IsPackedRecord into bytes
    → ((fields : Entries) → IsPacked into fields bytes → AreSet into k (setting ∷ []) value fields after) → IsPackedRecord into after
still_packed into k setting value bytes after packed step =
    let done = step packed.0 packed.1 in
    (done.fields, done.packed)

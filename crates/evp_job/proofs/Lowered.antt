-- What is read a step further down, and values that are read one behind another.
use Rattle.std.proofs.Common.{◌≡◌, ◌≢◌, ℕ, List, [], ◌∷◌, length, Bool, map, Result, Err, ◌⊎◌, inl, inr}
use Rattle.std.proofs.Common.{sym, ap, ◌∙◌, refl}
use Rattle.std.specs.Prelude.{◌&&◌, ◌||◌, string_bytes, String}
use Rattle.std.specs.List.{list_any, list_all}
use Rattle.std.specs.declared.alloc.Global.{Global}
use Rattle.evp_base.specs.declared.step.Step.{Step}
use Rattle.serde_json.specs.Data.{Data}
use Rattle.serde_json.specs.View.{items_of, members_view}
use Rattle.serde_json.specs.declared.value.Value.{Value}
use Rattle.evp_format.specs.Bytes.{bytes_equal}
use Rattle.evp_job.specs.declared.fault.JobFault.{JobFault}
use Rattle.evp_job.specs.declared.fault.JobFault.TheVariants as fault
use Rattle.std.proofs.lemmas.List.{length-map}
use Rattle.evp_job.specs.declared.sources.SourceText.{SourceText}
use Rattle.evp_job.specs.Forms.{listed, all_known}
use Rattle.evp_job.specs.SourceView.{source_of, sources_of}
use Rattle.evp_job.specs.TextView.{stone_of, stones_of}
use Rattle.evp_stone.specs.declared.stone.Stone.{Stone}
use Rattle.evp_job.specs.Steps.{behind, under}

-- a fault that is handed on with a step in front
pub under_err : {A : Type 0} (step : Step) (said : Result A JobFault) (inner outer : JobFault)
    → (inner ≢ fault.Memory → said ≡ Err inner)
    → (outer ≡ behind step inner) ⊎ (outer ≡ fault.Memory) → outer ≢ fault.Memory
    → under step said ≡ Err outer
under_err step said inner outer is (inr none) other = absurd (other none)
under_err step said inner outer is (inl longer) other =
    let there = is (λ none. other (longer ∙ ap (behind step) none)) in
    ap (under step) there ∙ ap (λ (cause : JobFault). Err cause) (sym longer)

-- a list of values, taken from a JSON array
pub listed_items : (values : List Data) → listed (items_of values) ≡ values
listed_items [] = refl
listed_items (value ∷ values) = ap (λ (rest : List Data). value ∷ rest) (listed_items values)

-- a test of what elements are seen as
pub any_mapped : {A B : Type 0} (test : B → Bool) (f : A → B) (xs : List A)
    → list_any test (map f xs) ≡ list_any (λ x. test (f x)) xs
any_mapped test f [] = refl
any_mapped test f (x ∷ xs) = ap (λ (b : Bool). test (f x) || b) (any_mapped test f xs)

-- the members of a map, by its keys
pub all_known_keys : {A : Type 0} (seen : A → List ℕ) (known : List A)
    (entries : List (String Global × Value))
    → all_known (map seen known) (members_view entries)
    ≡ list_all (λ (key : String Global). list_any
    (λ name. bytes_equal (string_bytes key) (seen name)) known)
    (map (λ (entry : String Global × Value). entry.0) entries)
all_known_keys seen known [] = refl
all_known_keys seen known (entry ∷ entries) =
    ap (λ (b : Bool). b && all_known (map seen known) (members_view entries))
    (any_mapped (bytes_equal (string_bytes entry.0)) seen known)
    ∙ ap (λ (b : Bool). list_any (λ name. bytes_equal (string_bytes entry.0) (seen name)) known
    && b) (all_known_keys seen known entries)

-- as many as are kept
pub sources_count : (sources : List SourceText) → length (sources_of sources) ≡ length sources
sources_count sources = length-map sources source_of

pub stones_count : (stones : List Stone) → length (stones_of stones) ≡ length stones
stones_count stones = length-map stones stone_of

-- What holds of the parts that pass their tests, and that parts of which it holds pass.
use Rattle.std.proofs.Common.{◌≡◌, ℕ, ◌+◌, ◌≤◌, ℤ, Bool, true, false, cond, List, length, Option, Some, None, Result, Ok, Err, refl, ap}
use Rattle.std.proofs.Common.{subst, ◌∙◌}
use Rattle.std.specs.Prelude.{◌&&◌, not, nat_le}
use Rattle.std.proofs.lemmas.Bool.{and_parts, leb-true, le-leb}
use Rattle.evp_base.specs.Name.{is_name}
use Rattle.evp_format.specs.declared.draft.DraftField.{DraftField}
use Rattle.evp_format.specs.declared.field.Base.{Base}
use Rattle.evp_format.specs.declared.field.Field.{Field}
use Rattle.evp_format.specs.declared.layout_fault.LayoutFault.{LayoutFault}
use Rattle.evp_format.specs.declared.layout_fault.LayoutFault.TheVariants.{BadName, Twice, Size, Limit, TypeTwice, Default, CountDefault}
use Rattle.evp_format.specs.declared.layout_fault.Which.TheVariants.{Fields, AllFields, Nesting}
use Rattle.evp_format.specs.declared.record_type.RecordType.{RecordType}
use Rattle.evp_format.specs.Drafts.{has_field, has_type, is_base_size, may_default, counted_fields, count_with_default, type_of}
use Rattle.evp_format.specs.Drafts.{depth_behind, without_count_default, within_nesting}
use Rattle.evp_format.specs.Parts.{new_type_name, new_field_count, new_field_name, allowed_size, allowed_default, ended_type}
use Rattle.evp_format.specs.Steps.{◌>>=◌, tested, refused_by}
use Rattle.evp_format.specs.WellLaid.{is_reserved}
use Rattle.evp_format.proofs.WellLaidTypes.{bind_ok, passed, not_refused, passed_on, done, ok_is}

-- ---- what stands at an offset and passed a test

pub read_tested : {A B : Type 0} (read : Result (A × ℕ) LayoutFault) (test : A → Result B LayoutFault) (y : B × ℕ) → tested read test ≡ Ok y
    → (x : A) × (read ≡ Ok (x, y.1)) × (test x ≡ Ok y.0)
read_tested {A} {B} read test y e =
    let ended : A × ℕ → B → Result (B × ℕ) LayoutFault = λ x b. Ok (b, x.1) in
    let x = bind_ok read (λ x. test x.0 >>= ended x) y e in
    let b = bind_ok (test x.0.0) (ended x.0) y x.2 in
    let made : B × ℕ = (b.0, x.0.1) in
    let same = ok_is made y b.2 in
    let standing : B × ℕ → Result (A × ℕ) LayoutFault = λ p. Ok (x.0.0, p.1) in
    let value : B × ℕ → Result B LayoutFault = λ p. Ok p.0 in
    (x.0.0, x.1 ∙ ap standing same, b.1 ∙ ap value same)

pub tested_again : {A B : Type 0} (read : Result (A × ℕ) LayoutFault) (test : A → Result B LayoutFault) (x : A) (next : ℕ) (y : B) → read
    ≡ Ok (x, next) → test x ≡ Ok y → tested read test ≡ Ok (y, next)
tested_again {A} {B} read test x next y stands passes =
    let behind : B → Result (B × ℕ) LayoutFault = λ b. Ok (b, next) in
    ap (λ (r : Result (A × ℕ) LayoutFault). tested r test) stands ∙ ap (λ (r : Result B LayoutFault). r >>= behind) passes

-- ---- names

pub not_true : (b : Bool) → not b ≡ true → b ≡ false
not_true true e = absurd (cc)
not_true false e = refl

pub type_name_facts : (earlier : List RecordType) (text name : List ℕ) → new_type_name earlier text ≡ Ok name
    → (is_name name ≡ true) × (is_reserved name ≡ false) × (has_type earlier name ≡ false) × (text ≡ name)
unfolding new_type_name
type_name_facts earlier text name e =
    let fresh_one : Result (List ℕ) LayoutFault = cond (has_type earlier text) (Err (TypeTwice (length earlier))) (Ok text) in
    let named = passed_on (is_name text && not (is_reserved text)) (BadName (length earlier) None) fresh_one name e in
    let fresh = not_refused (has_type earlier text) (TypeTwice (length earlier)) (Ok text) name named.1 in
    let parts = and_parts (is_name text) (not (is_reserved text)) named.0 in
    subst (λ (n : List ℕ). (is_name n ≡ true) × (is_reserved n ≡ false) × (has_type earlier n ≡ false) × (text ≡ n))
    (ok_is text name fresh.1)
    (parts.0, not_true (is_reserved text) parts.1, fresh.0, refl)

pub type_name_again : (earlier : List RecordType) (name : List ℕ) → is_name name ≡ true → is_reserved name ≡ false → has_type earlier name
    ≡ false → new_type_name earlier name ≡ Ok name
unfolding new_type_name
type_name_again earlier name named free fresh =
    let good : (is_name name && not (is_reserved name)) ≡ true = rw (named, free) refl in
    let fresh_one : Bool → Result (List ℕ) LayoutFault = λ b. cond b (Err (TypeTwice (length earlier))) (Ok name) in
    ap (λ (b : Bool). cond b (fresh_one (has_type earlier name)) (Err (BadName (length earlier) None))) good ∙ ap fresh_one fresh

pub field_name_facts : (type : ℕ) (before : List DraftField) (text name : List ℕ) → new_field_name type before text ≡ Ok name
    → (is_name name ≡ true) × (has_field before name ≡ false) × (text ≡ name)
unfolding new_field_name
field_name_facts type before text name e =
    let fresh_one : Result (List ℕ) LayoutFault = cond (has_field before text) (Err (Twice type (length before))) (Ok text) in
    let named = passed_on (is_name text) (BadName type (Some (length before))) fresh_one name e in
    let fresh = not_refused (has_field before text) (Twice type (length before)) (Ok text) name named.1 in
    subst (λ (n : List ℕ). (is_name n ≡ true) × (has_field before n ≡ false) × (text ≡ n)) (ok_is text name fresh.1)
    (named.0, fresh.0, refl)

pub field_name_again : (type : ℕ) (before : List DraftField) (name : List ℕ) → is_name name ≡ true → has_field before name ≡ false
    → new_field_name type before name ≡ Ok name
unfolding new_field_name
field_name_again type before name named fresh =
    let fresh_one : Bool → Result (List ℕ) LayoutFault = λ b. cond b (Err (Twice type (length before))) (Ok name) in
    ap (λ (b : Bool). cond b (fresh_one (has_field before name)) (Err (BadName type (Some (length before))))) named ∙ ap fresh_one fresh

-- ---- numbers

pub field_count_facts : (so_far stated count : ℕ) → new_field_count so_far stated ≡ Ok count → (1 ≤ count) × (count ≤ 1024)
    × (so_far + count ≤ 4096) × (stated ≡ count)
unfolding new_field_count
field_count_facts so_far stated count e =
    let few_one : Result ℕ LayoutFault = cond (nat_le (so_far + stated) 4096) (Ok stated) (Err (Limit AllFields (so_far + stated))) in
    let some = passed_on (nat_le 1 stated && nat_le stated 1024) (Limit Fields stated) few_one count e in
    let few = passed (nat_le (so_far + stated) 4096) (Limit AllFields (so_far + stated)) stated count some.1 in
    let parts = and_parts (nat_le 1 stated) (nat_le stated 1024) some.0 in
    subst (λ (n : ℕ). (1 ≤ n) × (n ≤ 1024) × (so_far + n ≤ 4096) × (stated ≡ n)) few.1
    (leb-true 1 stated parts.0, leb-true stated 1024 parts.1, leb-true (so_far + stated) 4096 few.0, refl)

pub field_count_again : (so_far count : ℕ) → 1 ≤ count → count ≤ 1024 → so_far + count ≤ 4096 → new_field_count so_far count ≡ Ok count
unfolding new_field_count
field_count_again so_far count least most few =
    let good : (nat_le 1 count && nat_le count 1024) ≡ true = rw (le-leb 1 count least, le-leb count 1024 most) refl in
    let few_one : Bool → Result ℕ LayoutFault = λ b. cond b (Ok count) (Err (Limit AllFields (so_far + count))) in
    ap (λ (b : Bool). cond b (few_one (nat_le (so_far + count) 4096)) (Err (Limit Fields count))) good
    ∙ ap few_one (le-leb (so_far + count) 4096 few)

pub size_facts : (pointer : ℕ) (earlier : List RecordType) (field : ℕ) (base : Base) (stated size : ℕ)
    → allowed_size pointer earlier field base stated ≡ Ok size
    → (is_base_size pointer earlier base size ≡ true) × (stated ≡ size)
unfolding allowed_size
size_facts pointer earlier field base stated size e =
    let fits = passed (is_base_size pointer earlier base stated) (Size (length earlier) field) stated size e in
    subst (λ (n : ℕ). (is_base_size pointer earlier base n ≡ true) × (stated ≡ n)) fits.1 (fits.0, refl)

pub size_again : (pointer : ℕ) (earlier : List RecordType) (field : ℕ) (base : Base) (size : ℕ) → is_base_size pointer earlier base size
    ≡ true → allowed_size pointer earlier field base size ≡ Ok size
unfolding allowed_size
size_again pointer earlier field base size sized = ap (λ (b : Bool). cond b (done size) (Err (Size (length earlier) field))) sized

pub default_facts : (type number : ℕ) (field : DraftField) (stated fallback : ℤ) → allowed_default type number field stated ≡ Ok fallback
    → (may_default field.base field.shape field.size fallback ≡ true) × (stated ≡ fallback)
unfolding allowed_default
default_facts type number field stated fallback e =
    let fits = passed (may_default field.base field.shape field.size stated) (Default type number) stated fallback e in
    subst (λ (n : ℤ). (may_default field.base field.shape field.size n ≡ true) × (stated ≡ n)) fits.1 (fits.0, refl)

pub default_again : (type number : ℕ) (field : DraftField) (fallback : ℤ) → may_default field.base field.shape field.size fallback ≡ true
    → allowed_default type number field fallback ≡ Ok fallback
unfolding allowed_default
default_again type number field fallback may = ap (λ (b : Bool). cond b (done fallback) (Err (Default type number))) may

-- ---- a type's end

-- the fields with their counts, of which none states a default; the type nests no deeper than 16
pub record Ended (earlier : List RecordType) (name : List ℕ) (room : ℕ) (drafts : List DraftField) (type : RecordType) : Type 0 where
  pub fields : List Field
  pub counted : counted_fields (length earlier) 0 drafts drafts ≡ Ok fields
  pub is : type_of name room fields ≡ type
  pub without_default : count_with_default fields 0 fields ≡ None
  pub shallow : depth_behind earlier type ≤ 16

pub refused_none : {A B : Type 0} (o : Option A) (fault : A → LayoutFault) (x y : B) → refused_by o fault x ≡ Ok y → (o ≡ None) × (x ≡ y)
refused_none None fault x y e = (refl, ok_is x y e)
refused_none (Some reason) fault x y e = absurd (cc)

pub ended_facts : (earlier : List RecordType) (name : List ℕ) (room : ℕ) (drafts : List DraftField) (type : RecordType)
    → ended_type earlier name room drafts ≡ Ok type → Ended earlier name room drafts type
unfolding ended_type without_count_default within_nesting
ended_facts earlier name room drafts type e =
    let number = length earlier in
    let fields = bind_ok (counted_fields number 0 drafts drafts)
    (λ fields. without_count_default number (type_of name room fields) >>= within_nesting earlier) type e in
    let made = type_of name room fields.0 in
    let counted = bind_ok (without_count_default number made) (within_nesting earlier) type fields.2 in
    let no_count = refused_none (count_with_default fields.0 0 fields.0) (λ k. CountDefault number k) made counted.0 counted.1 in
    let shallow = passed (nat_le (depth_behind earlier counted.0) 16) (Limit Nesting (depth_behind earlier counted.0)) counted.0 type
    counted.2 in
    record {
      fields = fields.0;
      counted = fields.1;
      is = no_count.1 ∙ shallow.1;
      without_default = no_count.0;
      shallow = subst (λ (t : RecordType). depth_behind earlier t ≤ 16) shallow.1 (leb-true (depth_behind earlier counted.0) 16 shallow.0);
    }

pub ended_again : (earlier : List RecordType) (drafts : List DraftField) (type : RecordType)
    → counted_fields (length earlier) 0 drafts drafts ≡ Ok type.fields
    → count_with_default type.fields 0 type.fields ≡ None → depth_behind earlier type ≤ 16 → ended_type earlier type.name type.length drafts
    ≡ Ok type
unfolding ended_type without_count_default within_nesting
ended_again earlier drafts type counted none shallow =
    let number = length earlier in
    let with_fields : List Field → Result RecordType LayoutFault = λ fields. without_count_default number
    (type_of type.name type.length fields) >>= within_nesting earlier in
    ap (λ (r : Result (List Field) LayoutFault). r >>= with_fields) counted
    ∙ ap (λ (o : Option ℕ). refused_by o (λ k. CountDefault number k) type >>= within_nesting earlier) none
    ∙ ap (λ (b : Bool). cond b (done type) (Err (Limit Nesting (depth_behind earlier type))))
    (le-leb (depth_behind earlier type) 16 shallow)

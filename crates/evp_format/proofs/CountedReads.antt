-- Fields and types that are read one after the other, as a loop does.
use Rattle.std.proofs.Common.{◌≡◌, ℕ, suc, ◌+◌, ◌-◌, ◌<◌, ◌≤◌, Bool, List, [], ◌∷◌, ◌++◌, Result, Ok, Err, sym, ap, ◌∙◌, map, arith}
use Rattle.std.proofs.lemmas.List.{map_push}
use Rattle.evp_format.specs.declared.draft.DraftField.{DraftField}
use Rattle.evp_format.specs.declared.layout_fault.LayoutFault.{LayoutFault}
use Rattle.evp_format.specs.declared.record_type.RecordType.{RecordType}
use Rattle.evp_format.specs.Reading.{field_at, fields_at, type_at, types_at}
use Rattle.evp_format.specs.Steps.{◌>>=◌}
use Rattle.evp_format.specs.Tree.{trees, resolved}
use Rattle.evp_format.specs.WellLaid.{depth}
use Rattle.evp_format.proofs.Trees.{trees_behind-append}

pub fields_go_on : (count i : ℕ) (stated : Bool) (pointer : ℕ) (earlier : List RecordType) (room : ℕ) (before : List DraftField)
    (bytes : List ℕ) (at : ℕ) (field : DraftField) (next : ℕ) (total : Result (List DraftField × ℕ) LayoutFault)
    → i < count → Ok (field, next) ≡ field_at stated pointer earlier room before bytes at
    → fields_at (count - i) stated pointer earlier room before bytes at ≡ total
    → fields_at (count - (i + 1)) stated pointer earlier room (before ++ field ∷ []) bytes next ≡ total
unfolding fields_at
fields_go_on count i stated pointer earlier room before bytes at field next total below read so_far =
    let more : count - i ≡ suc (count - (i + 1)) = omega arith in
    let rest : DraftField × ℕ → Result (List DraftField × ℕ) LayoutFault = λ field. fields_at (count - (i + 1)) stated pointer earlier room
    (before ++ field.0 ∷ []) bytes field.1 in
    ap (λ (r : Result (DraftField × ℕ) LayoutFault). r >>= rest) read ∙ ap
    (λ (n : ℕ). fields_at n stated pointer earlier room before bytes at) (sym more) ∙ so_far

pub fields_stop : (count i : ℕ) (stated : Bool) (pointer : ℕ) (earlier : List RecordType) (room : ℕ) (before : List DraftField)
    (bytes : List ℕ) (at : ℕ) (fault : LayoutFault) (total : Result (List DraftField × ℕ) LayoutFault)
    → i < count → Err fault ≡ field_at stated pointer earlier room before bytes at
    → fields_at (count - i) stated pointer earlier room before bytes at ≡ total → total ≡ Err fault
unfolding fields_at
fields_stop count i stated pointer earlier room before bytes at fault total below read so_far =
    let more : count - i ≡ suc (count - (i + 1)) = omega arith in
    let rest : DraftField × ℕ → Result (List DraftField × ℕ) LayoutFault = λ field. fields_at (count - (i + 1)) stated pointer earlier room
    (before ++ field.0 ∷ []) bytes field.1 in
    sym (ap (λ (r : Result (DraftField × ℕ) LayoutFault). r >>= rest) read
    ∙ ap (λ (n : ℕ). fields_at n stated pointer earlier room before bytes at) (sym more) ∙ so_far)

pub fields_done : (count i : ℕ) (stated : Bool) (pointer : ℕ) (earlier : List RecordType) (room : ℕ) (before : List DraftField)
    (bytes : List ℕ) (at : ℕ) (total : Result (List DraftField × ℕ) LayoutFault)
    → count ≤ i → fields_at (count - i) stated pointer earlier room before bytes at ≡ total → total ≡ Ok (before, at)
unfolding fields_at
fields_done count i stated pointer earlier room before bytes at total past so_far =
    let none : count - i ≡ 0 = omega arith in
    sym so_far ∙ ap (λ (n : ℕ). fields_at n stated pointer earlier room before bytes at) none

pub types_go_on : (count i : ℕ) (stated : Bool) (pointer : ℕ) (earlier : List RecordType) (bytes : List ℕ) (at : ℕ) (type : RecordType)
    (next : ℕ) (total : Result (List RecordType × ℕ) LayoutFault)
    → i < count → type_at stated pointer earlier bytes at ≡ Ok (type, next) → types_at (count - i) stated pointer earlier bytes at ≡ total
    → types_at (count - (i + 1)) stated pointer (earlier ++ type ∷ []) bytes next ≡ total
unfolding types_at
types_go_on count i stated pointer earlier bytes at type next total below read so_far =
    let more : count - i ≡ suc (count - (i + 1)) = omega arith in
    let rest : RecordType × ℕ → Result (List RecordType × ℕ) LayoutFault = λ type. types_at (count - (i + 1)) stated pointer
    (earlier ++ type.0 ∷ []) bytes type.1 in
    ap (λ (r : Result (RecordType × ℕ) LayoutFault). r >>= rest) (sym read)
    ∙ ap (λ (n : ℕ). types_at n stated pointer earlier bytes at) (sym more) ∙ so_far

pub types_stop : (count i : ℕ) (stated : Bool) (pointer : ℕ) (earlier : List RecordType) (bytes : List ℕ) (at : ℕ) (fault : LayoutFault)
    (total : Result (List RecordType × ℕ) LayoutFault)
    → i < count → type_at stated pointer earlier bytes at ≡ Err fault → types_at (count - i) stated pointer earlier bytes at ≡ total → total
    ≡ Err fault
unfolding types_at
types_stop count i stated pointer earlier bytes at fault total below read so_far =
    let more : count - i ≡ suc (count - (i + 1)) = omega arith in
    let rest : RecordType × ℕ → Result (List RecordType × ℕ) LayoutFault = λ type. types_at (count - (i + 1)) stated pointer
    (earlier ++ type.0 ∷ []) bytes type.1 in
    sym (ap (λ (r : Result (RecordType × ℕ) LayoutFault). r >>= rest) (sym read)
    ∙ ap (λ (n : ℕ). types_at n stated pointer earlier bytes at) (sym more) ∙ so_far)

pub types_done : (count i : ℕ) (stated : Bool) (pointer : ℕ) (earlier : List RecordType) (bytes : List ℕ) (at : ℕ)
    (total : Result (List RecordType × ℕ) LayoutFault)
    → count ≤ i → types_at (count - i) stated pointer earlier bytes at ≡ total → total ≡ Ok (earlier, at)
unfolding types_at
types_done count i stated pointer earlier bytes at total past so_far =
    let none : count - i ≡ 0 = omega arith in
    sym so_far ∙ ap (λ (n : ℕ). types_at n stated pointer earlier bytes at) none

-- the depths of the types, one type on
pub depths_push : (types : List RecordType) (type : RecordType) (depths : List ℕ) (deep : ℕ) → depths ≡ map depth (trees types) → deep
    ≡ depth (resolved (trees types) type)
    → depths ++ deep ∷ [] ≡ map depth (trees (types ++ type ∷ []))
depths_push types type depths deep before one =
    ap (λ (some : List ℕ). some ++ deep ∷ []) before ∙ ap (λ (n : ℕ). map depth (trees types) ++ n ∷ []) one
    ∙ sym (ap (map depth) (trees_behind-append [] types (type ∷ [])) ∙ map_push depth (trees types) (resolved (trees types) type))

-- Declared fields and types, one on, as a loop takes them.
use Rattle.std.proofs.Common.{◌≡◌, ℕ, ◌+◌, ◌<◌, ◌≤◌, List, [], ◌∷◌, ◌++◌, length, get_or, drop, Result, Ok, Err, refl, sym, ◌∙◌}
use Rattle.std.proofs.lemmas.List.{at_drop_all}
use Rattle.evp_format.specs.declared.draft.DraftField.{DraftField}
use Rattle.evp_format.specs.declared.layout_fault.LayoutFault.{LayoutFault}
use Rattle.evp_format.specs.declared.record_type.RecordType.{RecordType}
use Rattle.evp_format.proofs.Loops.{next_left}
use Rattle.evp_profile.specs.declared.declaration.Decl.{Decl}
use Rattle.evp_profile.specs.declared.declaration.TypeDecl.{TypeDecl}
use Rattle.evp_profile.specs.declared.profile.Profile.{Profile}
use Rattle.evp_profile.specs.Declarations.{field_declared, fields_declared, type_declared, types_declared}
use Rattle.evp_profile.specs.LayingOut.{stated_field, stated_fields, laid_type, laid_types}

-- ---- fields

abbrev fields_left : ℕ → List RecordType → List DraftField → List Decl → Result (List DraftField) LayoutFault
fields_left pointer earlier before left = stated_fields pointer earlier before (fields_declared left)

pub field_goes_on : (pointer : ℕ) (earlier : List RecordType) (declared : List Decl) (k : ℕ) (field : Decl) (draft : DraftField)
    (before : List DraftField) (total : Result (List DraftField) LayoutFault)
    → k < length declared → field ≡ get_or declared k field → Ok draft ≡ stated_field pointer earlier before (field_declared field)
    → stated_fields pointer earlier before (fields_declared (drop k declared)) ≡ total
    → stated_fields pointer earlier (before ++ draft ∷ []) (fields_declared (drop (k + 1) declared)) ≡ total
unfolding stated_fields
field_goes_on pointer earlier declared k field draft before total below is stated so_far =
    let step : fields_left pointer earlier before (field ∷ drop (k + 1) declared)
    ≡ fields_left pointer earlier (before ++ draft ∷ []) (drop (k + 1) declared) = rw (← stated) refl in
    sym step ∙ sym (next_left (fields_left pointer earlier before) declared k field below is) ∙ so_far

pub field_stops : (pointer : ℕ) (earlier : List RecordType) (declared : List Decl) (k : ℕ) (field : Decl) (fault : LayoutFault)
    (before : List DraftField) (total : Result (List DraftField) LayoutFault)
    → k < length declared → field ≡ get_or declared k field → Err fault ≡ stated_field pointer earlier before (field_declared field)
    → stated_fields pointer earlier before (fields_declared (drop k declared)) ≡ total → total ≡ Err fault
unfolding stated_fields
field_stops pointer earlier declared k field fault before total below is stated so_far =
    let step : fields_left pointer earlier before (field ∷ drop (k + 1) declared) ≡ Err fault = rw (← stated) refl in
    sym so_far ∙ next_left (fields_left pointer earlier before) declared k field below is ∙ step

pub fields_end : (pointer : ℕ) (earlier : List RecordType) (declared : List Decl) (k : ℕ) (before : List DraftField)
    (total : Result (List DraftField) LayoutFault)
    → length declared ≤ k → stated_fields pointer earlier before (fields_declared (drop k declared)) ≡ total → total ≡ Ok before
unfolding stated_fields
fields_end pointer earlier declared k before total past so_far = sym so_far
    ∙ at_drop_all (fields_left pointer earlier before) declared k past

-- ---- types

abbrev types_left : Profile → List RecordType → List TypeDecl → Result (List RecordType) LayoutFault
types_left profile earlier left = laid_types profile earlier (types_declared left)

pub type_goes_on : (profile : Profile) (declared : List TypeDecl) (k : ℕ) (declaration : TypeDecl) (type : RecordType)
    (earlier : List RecordType) (total : Result (List RecordType) LayoutFault)
    → k < length declared → declaration ≡ get_or declared k declaration → laid_type profile earlier (type_declared declaration) ≡ Ok type
    → laid_types profile earlier (types_declared (drop k declared)) ≡ total
    → laid_types profile (earlier ++ type ∷ []) (types_declared (drop (k + 1) declared)) ≡ total
unfolding laid_types
type_goes_on profile declared k declaration type earlier total below is laid so_far =
    let step : types_left profile earlier (declaration ∷ drop (k + 1) declared)
    ≡ types_left profile (earlier ++ type ∷ []) (drop (k + 1) declared) = rw laid refl in
    sym step ∙ sym (next_left (types_left profile earlier) declared k declaration below is) ∙ so_far

pub type_stops : (profile : Profile) (declared : List TypeDecl) (k : ℕ) (declaration : TypeDecl) (fault : LayoutFault)
    (earlier : List RecordType) (total : Result (List RecordType) LayoutFault)
    → k < length declared → declaration ≡ get_or declared k declaration → laid_type profile earlier (type_declared declaration) ≡ Err fault
    → laid_types profile earlier (types_declared (drop k declared)) ≡ total → total ≡ Err fault
unfolding laid_types
type_stops profile declared k declaration fault earlier total below is laid so_far =
    let step : types_left profile earlier (declaration ∷ drop (k + 1) declared) ≡ Err fault = rw laid refl in
    sym so_far ∙ next_left (types_left profile earlier) declared k declaration below is ∙ step

pub types_end : (profile : Profile) (declared : List TypeDecl) (k : ℕ) (earlier : List RecordType)
    (total : Result (List RecordType) LayoutFault)
    → length declared ≤ k → laid_types profile earlier (types_declared (drop k declared)) ≡ total → total ≡ Ok earlier
unfolding laid_types
types_end profile declared k earlier total past so_far = sym so_far ∙ at_drop_all (types_left profile earlier) declared k past

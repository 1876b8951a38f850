-- What is declared of a record type: texts and numbers, of which none is tested.
use Rattle.std.specs.Prelude.{ℕ, ℤ, List, map, string_bytes}
use Rattle.evp_profile.specs.declared.declaration.Decl.{Decl}
use Rattle.evp_profile.specs.declared.declaration.TypeDecl.{TypeDecl}

pub record DeclaredField : Type 0 where
  pub name : List ℕ
  pub type_text : List ℕ
  pub size : ℕ
  pub fallback : ℤ

pub record DeclaredType : Type 0 where
  pub name : List ℕ
  pub fields : List DeclaredField

abbrev pub field_declared : Decl → DeclaredField
field_declared field = record {
  name = string_bytes field.name;
  type_text = string_bytes field.type_text;
  size = field.size;
  fallback = field.fallback;
}

abbrev pub fields_declared : List Decl → List DeclaredField
fields_declared fields = map field_declared fields

abbrev pub type_declared : TypeDecl → DeclaredType
type_declared type = record {
  name = string_bytes type.name;
  fields = fields_declared type.fields.items;
}

abbrev pub types_declared : List TypeDecl → List DeclaredType
types_declared types = map type_declared types

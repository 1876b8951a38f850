-- The definitions computed on documents: what is missing, out of its form or its range, and of two
-- faults the first.
use Rattle.std.proofs.Common.{◌≡◌, ℕ, negsuc, List, [], ◌∷◌, refl, codes, Ok, Err}
use Rattle.evp_base.specs.declared.step.Step.TheVariants.{Field, Index}
use Rattle.serde_json.specs.Data.{Data, unsigned, negative, number, string, array, object}
use Rattle.serde_json.specs.Data.{no_members, member}
use Rattle.serde_json.specs.View.{items_of}
use Rattle.evp_job.specs.declared.fault.JobFault.TheVariants as fault
use Rattle.evp_job.specs.Forms.{misformed, whole_number, number_within, integer, text_in, name_in}
use Rattle.evp_job.specs.Forms.{list_in, list_within, object_in, no_others}
use Rattle.evp_job.specs.Head.{head_in}
use Rattle.evp_job.specs.Formats.{formats_in}
use Rattle.evp_job.specs.Sources.{file_name_in, source_in, source_with}
use Rattle.evp_job.specs.Types.{field_values, field_in, fields_in, type_in, field_of}

-- an object with one member, and a list
abbrev only : List ℕ → Data → Data
only key value = object (member key value no_members)

abbrev list_of : List Data → Data
list_of values = array (items_of values)

a_list : head_in (list_of []) ≡ Err misformed
unfolding object_in head_in
a_list = refl

limit_too_low : head_in (only (codes "limit") (number (unsigned 63)))
    ≡ Err (fault.Limit (Field (codes "limit") ∷ []) 63)
unfolding object_in whole_number number_within head_in
limit_too_low = refl

negative_queue : head_in (only (codes "queue") (number (negative (negsuc 0))))
    ≡ Err (fault.Member (Field (codes "queue") ∷ []))
unfolding object_in whole_number number_within head_in
negative_queue = refl

no_formats : head_in (object no_members) ≡ Err (fault.Member (Field (codes "formats") ∷ []))
unfolding object_in list_in list_within formats_in head_in
no_formats = refl

-- a type text that is a number, in a type with a further member
two_faults : type_in
    (object (member (codes "fields")
    (list_of (list_of (string (codes "x") ∷ number (unsigned 7) ∷ []) ∷ []))
    (member (codes "name") (string (codes "p"))
    (member (codes "y") (number (unsigned 0)) no_members))))
    ≡ Err (fault.Member (Field (codes "fields") ∷ Index 0 ∷ Index 1 ∷ []))
unfolding text_in list_in object_in no_others field_values field_in fields_in type_in
two_faults = refl

a_field : field_in
    (list_of (string (codes "x") ∷ string (codes "integer") ∷ number (unsigned 4)
    ∷ number (negative (negsuc 0)) ∷ []))
    ≡ Ok (field_of (codes "x") (codes "integer") 4 (negsuc 0))
unfolding whole_number number_within integer text_in list_in field_values field_in
a_field = refl

-- the same name for two sources
abbrev source_a : Data
source_a = object (member (codes "file") (string (codes "f"))
    (member (codes "name") (string (codes "a"))
    (member (codes "stone") (number (unsigned 3)) no_members)))

one_source : source_in source_a ≡ Ok (source_with (codes "a") (codes "f") 3)
unfolding whole_number number_within text_in name_in object_in no_others file_name_in source_in
one_source = refl

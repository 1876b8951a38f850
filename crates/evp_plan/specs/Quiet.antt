-- Steps that refuse nothing and take no block, whatever the sender's record is.
use Rattle.std.specs.Prelude.{ℕ, Bool, true, false, ◌&&◌, nat_lt, nat_le, nat_eq}
use Rattle.std.specs.Prelude.{if◌then◌else◌, List, [], ◌∷◌, get_or, map, Option, Some, None}
use Rattle.evp_base.specs.Numbers.{is_size_of, is_in_range}
use Rattle.evp_base.specs.declared.kind.Kind.{Kind}
use Rattle.evp_base.specs.declared.kind.Kind.TheVariants.{Int, Unsigned, Char, Boolean, Enumeration}
use Rattle.evp_format.specs.Zero.{as_count}
use Rattle.evp_plan.specs.declared.step.Op.{Op}
use Rattle.evp_plan.specs.declared.step.Op.TheVariants.{Number, Text, Nest, Each, Many}
use Rattle.evp_plan.specs.declared.step.Origin.{Origin}
use Rattle.evp_plan.specs.declared.step.Origin.TheVariants.{Standing, Stated}
use Rattle.evp_plan.specs.declared.step.Part.{Part}
use Rattle.evp_plan.specs.declared.step.Part.TheVariants as part
use Rattle.evp_plan.specs.declared.step.Run.{Run}
use Rattle.evp_plan.specs.declared.step.Step.{Step}
use Rattle.evp_plan.specs.Program.{Program, no_steps, performs, inner_program, programs}

-- a signed number of `size` bytes can be any number of a kind and `width` bytes
abbrev pub signed_covers : ℕ → Kind → ℕ → Bool
signed_covers size Int width = nat_le width size
signed_covers size Unsigned width = nat_lt width size
signed_covers size Char width = nat_lt 1 size
signed_covers size Boolean width = nat_lt 0 size
signed_covers size Enumeration width = nat_le width size

abbrev pub unsigned_covers : ℕ → Kind → ℕ → Bool
unsigned_covers size Int width = false
unsigned_covers size Unsigned width = nat_le width size
unsigned_covers size Char width = nat_lt 0 size
unsigned_covers size Boolean width = nat_lt 0 size
unsigned_covers size Enumeration width = false

-- a char can be any number that one byte without a sign can be
abbrev pub char_covers : Kind → ℕ → Bool
char_covers Int width = false
char_covers Unsigned width = nat_le width 1
char_covers Char width = true
char_covers Boolean width = true
char_covers Enumeration width = false

-- a boolean can be a boolean alone
abbrev pub boolean_covers : Kind → Bool
boolean_covers Int = false
boolean_covers Unsigned = false
boolean_covers Char = false
boolean_covers Boolean = true
boolean_covers Enumeration = false

-- each number of the second kind and of `width` bytes is one of the first and of `size` bytes
abbrev pub covers : Kind → ℕ → Kind → ℕ → Bool
covers Int size from width = signed_covers size from width
covers Unsigned size from width = unsigned_covers size from width
covers Char size from width = char_covers from width
covers Boolean size from width = boolean_covers from
covers Enumeration size from width = signed_covers size from width

abbrev pub is_quiet_origin : Kind → ℕ → Origin → Bool
is_quiet_origin kind size (Standing source) = covers kind size source.kind source.size
is_quiet_origin kind size (Stated n) = is_size_of kind size && is_in_range kind size n

-- an element of this size; `inside` says whether its record's steps are quiet
abbrev pub is_quiet_part : ℕ → Part → Bool → Bool
is_quiet_part size (part.Number kind from width) inside = covers kind size from width
is_quiet_part size part.Text inside = false
is_quiet_part size part.Record inside = inside

-- the sender's array has always n elements
abbrev pub has_stated_count : ℕ → Origin → Bool
has_stated_count n (Standing source) = false
has_stated_count n (Stated m) = nat_eq (as_count m) n

abbrev pub is_quiet_run : ℕ → ℕ → Part → Bool → Option Run → Bool
is_quiet_run n size part inside None = true
is_quiet_run n size part inside (Some run) = has_stated_count n run.count && is_quiet_part size part
    inside

abbrev pub is_quiet_op : ℕ → Op → Bool → Bool
is_quiet_op size (Number kind origin) inside = is_quiet_origin kind size origin
is_quiet_op size (Text None) inside = true
is_quiet_op size (Text (Some offset)) inside = false
is_quiet_op size (Nest offset) inside = inside
is_quiet_op size (Each n elements) inside = is_quiet_run n size elements.part inside elements.run
is_quiet_op size (Many origin elements) inside = false

abbrev pub is_quiet : Program → Bool
is_quiet no_steps = true
is_quiet (performs task inner rest) = is_quiet_op task.size task.op (is_quiet inner)
    && is_quiet rest

-- the steps that can refuse something or take a block
abbrev pub tests_of : List Program → List Step → List Step
tests_of programs [] = []
tests_of programs (step ∷ steps) =
    if is_quiet_op step.task.size step.task.op (is_quiet (inner_program programs step.inner))
    then tests_of programs steps else step ∷ tests_of programs steps

-- those of each list of a table
abbrev pub tests_in : List (List Step) → List (List Step)
tests_in table = map (tests_of (programs table)) table

-- ---- by what is known of the lists before

abbrev pub is_none : List Step → Bool
is_none [] = true
is_none (step ∷ steps) = false

-- the steps of that number have none of these
abbrev pub is_quiet_inside : List (List Step) → Option ℕ → Bool
is_quiet_inside earlier None = true
is_quiet_inside earlier (Some n) = is_none (get_or earlier n [])

-- the steps of a list, where these are those of the lists before
abbrev pub tests_behind : List (List Step) → List Step → List Step
tests_behind earlier [] = []
tests_behind earlier (step ∷ steps) =
    if is_quiet_op step.task.size step.task.op (is_quiet_inside earlier step.inner)
    then tests_behind earlier steps else step ∷ tests_behind earlier steps

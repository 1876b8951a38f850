-- The definitions computed on small values, by hand.
use Rattle.std.proofs.Common.{◌≡◌, refl, [], ◌∷◌, true, false, pos, negsuc, codes, replicate, lit<, lit≤}
use Rattle.std.proofs.lemmas.Fmt.{decimal_digit, decimal_step}
use Rattle.evp_base.specs.Name.{is_name}
use Rattle.evp_base.specs.Numbers.{number, digits}
use Rattle.evp_base.specs.Path.{path_text}
use Rattle.evp_base.specs.Quoted.{quoted}
use Rattle.evp_base.specs.declared.order.Order.TheVariants.{Little, Big}
use Rattle.evp_base.specs.declared.kind.Kind.TheVariants.{Int, Unsigned, Boolean}
use Rattle.evp_base.specs.declared.step.Step.TheVariants.{Field, Index}

-- ---- numbers

little_seven : number Little Int (7 ∷ 0 ∷ 0 ∷ 0 ∷ []) ≡ pos 7
little_seven = refl

minus_one : number Little Int (255 ∷ 255 ∷ 255 ∷ 255 ∷ []) ≡ negsuc 0
minus_one = refl

least_of_eight : number Big Int (128 ∷ 0 ∷ 0 ∷ 0 ∷ 0 ∷ 0 ∷ 0 ∷ 0 ∷ []) ≡ negsuc 9223372036854775807
least_of_eight = refl

unsigned_top : number Big Unsigned (128 ∷ 0 ∷ 0 ∷ 0 ∷ 0 ∷ 0 ∷ 0 ∷ 0 ∷ []) ≡ pos 9223372036854775808
unsigned_top = refl

boolean_two : number Little Boolean (2 ∷ 0 ∷ []) ≡ pos 1
boolean_two = refl

big_digits : digits Big 4 (negsuc 0) ≡ 255 ∷ 255 ∷ 255 ∷ 255 ∷ []
big_digits = refl

little_digits : digits Little 2 (pos 300) ≡ 44 ∷ 1 ∷ []
little_digits = refl

-- ---- names

a_name : is_name (codes "_Reading2") ≡ true
a_name = refl

no_empty_name : is_name [] ≡ false
no_empty_name = refl

no_digit_in_front : is_name (codes "9a") ≡ false
no_digit_in_front = refl

no_dash : is_name (codes "a-b") ≡ false
no_dash = refl

longest_name : is_name (replicate 64 97) ≡ true
longest_name = refl

no_longer_name : is_name (replicate 65 97) ≡ false
no_longer_name = refl

-- ---- paths

empty_path : path_text [] ≡ codes "."
empty_path = refl

field_and_index : path_text (Field (codes "a") ∷ Field (codes "b") ∷ Index 3 ∷ []) ≡ codes "a.b[3]"
field_and_index = rw (decimal_digit 3 (lit< tt)) refl

index_first : path_text (Index 10 ∷ Field (codes "k") ∷ []) ≡ codes "[10].k"
index_first = rw (decimal_step 10 (lit≤ tt) (lit< tt), decimal_digit 1 (lit< tt)) refl

-- ---- texts in double quotes

quotes_and_backslashes : quoted (codes "a\"b\\c ~") ≡ codes "\"a\\\"b\\\\c ~\""
quotes_and_backslashes = refl

bytes_by_number : quoted (0 ∷ 31 ∷ 127 ∷ 171 ∷ 255 ∷ []) ≡ codes "\"\\x00\\x1f\\x7f\\xab\\xff\""
bytes_by_number = refl

empty_text : quoted [] ≡ codes "\"\""
empty_text = refl

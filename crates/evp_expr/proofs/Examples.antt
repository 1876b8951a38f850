-- The definitions computed on small texts.
use Rattle.std.proofs.Common.{◌≡◌, ℕ, List, Some, None, pos, refl}
use Rattle.std.specs.Prelude.{codes}
use Rattle.std.specs.Fmt.{digits}
use Rattle.evp_expr.specs.declared.fault.ExprFault.TheVariants as fault
use Rattle.evp_expr.specs.declared.operator.Operator.TheVariants as operator
use Rattle.evp_expr.specs.declared.operator.Sign.TheVariants as sign
use Rattle.evp_expr.specs.Tree.{number, name, field, index, length_of, same, signed, joined}
use Rattle.evp_expr.specs.Lexing.{tokens_of, Faulty}
use Rattle.evp_expr.specs.Printing.{printed}
use Rattle.evp_expr.specs.Steps.{start}
use Rattle.evp_expr.proofs.Running.{read_on, tree_at, Ending, Stopped}

unfoldable ending : List ℕ → Ending
ending text = read_on start (tokens_of text)

quotient : tree_at (ending (codes "-7/2")) ≡ Some (joined 2 operator.Divide (signed 0 sign.Negate (number (pos 7))) (number (pos 2)))
unfolding ending
quotient = refl

short_circuit : tree_at (ending (codes "0 && 1/0"))
    ≡ Some (joined 2 operator.And (number (pos 0)) (joined 6 operator.Divide (number (pos 1)) (number (pos 0))))
unfolding ending
short_circuit = refl

two_comparisons : ending (codes "1<2<3") ≡ Stopped (fault.Unexpected 3)
unfolding ending
two_comparisons = refl

cut : tree_at (ending (codes "x ==")) ≡ None
unfolding ending
cut = refl

no_token : tokens_of (codes "x $ 1") ≡ Faulty (fault.Token 2)
no_token = refl

large_literal : tokens_of (codes "170141183460469231731687303715884105728") ≡ Faulty (fault.Literal 0)
large_literal = refl

largest_literal : tree_at (ending (codes "170141183460469231731687303715884105727+1"))
    ≡ Some (joined 39 operator.Add (number (pos 170141183460469231731687303715884105727)) (number (pos 1)))
unfolding ending
largest_literal = refl

deep : ending (codes "(((((((((((((((((((((((((((((((((((((((((((((((((((((((((((((((((") ≡ Stopped (fault.Deep 64)
unfolding ending
deep = refl

element : tree_at (ending (codes "a.b[1].c"))
    ≡ Some (field (index (field (name 0 (codes "a")) 2 (codes "b")) 3 (number (pos 1))) 7 (codes "c"))
unfolding ending
element = refl

left_grouping : tree_at (ending (codes "a-b*c-d"))
    ≡ Some (joined 5 operator.Subtract
    (joined 1 operator.Subtract (name 0 (codes "a")) (joined 3 operator.Multiply (name 2 (codes "b")) (name 4 (codes "c"))))
    (name 6 (codes "d")))
unfolding ending
left_grouping = refl

function_words : tree_at (ending (codes "len(len)+len")) ≡ Some
    (joined 8 operator.Add (length_of (name 4 (codes "len"))) (name 9 (codes "len")))
unfolding ending
function_words = refl

same_text : tree_at (ending (codes "same(n,\"x\")")) ≡ Some (same (name 5 (codes "n")) (codes "x"))
unfolding ending
same_text = refl

word_of_word : ending (codes "len(len(x))") ≡ Stopped (fault.Unexpected 7)
unfolding ending
word_of_word = refl

called_field : ending (codes "a.len(x)") ≡ Stopped (fault.Unexpected 5)
unfolding ending
called_field = refl

printed_quotient : printed (joined 2 operator.Divide (signed 0 sign.Negate (number (pos 7))) (number (pos 2))) ≡ codes "( ( - 7 ) / 2 ) "
unfolding digits
printed_quotient = refl

printed_element : printed (field (index (name 0 (codes "a")) 1 (number (pos 10))) 5 (codes "b")) ≡ codes "a [ 10 ] . b "
unfolding digits
printed_element = refl

printed_same : printed (same (name 5 (codes "n")) (codes "x y")) ≡ codes "same ( n , \"x y\" ) "
printed_same = refl

printed_again : tree_at (ending (printed (joined 1 operator.And (length_of (name 0 (codes "v"))) (signed 9 sign.Not (name 7 (codes "x"))))))
    ≡ Some (joined 12 operator.And (length_of (name 8 (codes "v"))) (signed 17 sign.Not (name 19 (codes "x"))))
unfolding ending
printed_again = refl

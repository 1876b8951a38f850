-- What is read from a tree's text is that tree.
use Rattle.std.proofs.Common.{◌≡◌, ℕ, ℤ, zero, suc, ◌+◌, ◌≤◌, List, [], ◌∷◌, ◌++◌, length, codes, true, false, IsTrue, refl, sym, ◌∙◌, ap}
use Rattle.std.proofs.Common.{subst, arith}
use Rattle.std.specs.Fmt.{signed_decimal}
use Rattle.std.specs.List.{list_all}
use Rattle.evp_base.specs.Name.{is_name}
use Rattle.evp_expr.specs.declared.operator.Operator.{Operator}
use Rattle.evp_expr.specs.declared.operator.Sign.{Sign}
use Rattle.evp_expr.specs.declared.operator.Sign.TheVariants as sign
use Rattle.evp_expr.specs.declared.token.Placed.{Placed}
use Rattle.evp_expr.specs.declared.token.Token.TheVariants as token
use Rattle.evp_expr.specs.Tree.{Tree, number, name, field, index, length_of, same, signed, joined}
use Rattle.evp_expr.specs.Lexing.{placed, is_plain}
use Rattle.evp_expr.specs.Grammar.{most_levels, len_word, same_word}
use Rattle.evp_expr.specs.Sound.{is_path, IsFormed}
use Rattle.evp_expr.specs.Printing.{printed, spaced, quotes, sign_text, operator_text, height, IsLegal, bare}
use Rattle.evp_expr.specs.Laws.{ReadsBack}
use Rattle.evp_expr.proofs.Lexemes.{Reads, reads, name_reads, number_reads, text_reads, operator_reads}
use Rattle.evp_expr.proofs.Scanned.{Scanned, both, one, whole_text}
use Rattle.evp_expr.proofs.Prints.{AtomReads, PathReads, path_atom, number_atom, name_path, field_path, index_path, length_atom, same_atom}
use Rattle.evp_expr.proofs.Prints.{behind_same, sign_token, signed_atom, joined_atom, as_expression}

-- What reading a tree's text from a place on finds: its tokens, and the tree with its places there, which is
-- read from the tokens within d levels.
record Found (at d : ℕ) (tree : Tree) : Type 0 where
  pub tokens : List Placed
  pub read : Tree
  pub scanned : Scanned at (printed tree) tokens
  pub bared : bare read ≡ bare tree
  pub atom : AtomReads read tokens d
  pub as_path : is_path tree ≡ true → PathReads read tokens d

sign_reads : (s : Sign) → Reads (sign_text s) (sign_token s)
sign_reads sign.Negate = reads refl (λ rest. refl)
sign_reads sign.Not = reads refl (λ rest. refl)

-- texts of tokens without parts, each at its place
dot_at : (at : ℕ) → Scanned at (spaced (codes ".")) (placed at token.Dot ∷ [])
dot_at at = one at (codes ".") token.Dot (reads refl (λ rest. refl))

comma_at : (at : ℕ) → Scanned at (spaced (codes ",")) (placed at token.Comma ∷ [])
comma_at at = one at (codes ",") token.Comma (reads refl (λ rest. refl))

open_at : (at : ℕ) → Scanned at (spaced (codes "(")) (placed at token.OpenParen ∷ [])
open_at at = one at (codes "(") token.OpenParen (reads refl (λ rest. refl))

close_at : (at : ℕ) → Scanned at (spaced (codes ")")) (placed at token.CloseParen ∷ [])
close_at at = one at (codes ")") token.CloseParen (reads refl (λ rest. refl))

open_bracket_at : (at : ℕ) → Scanned at (spaced (codes "[")) (placed at token.OpenBracket ∷ [])
open_bracket_at at = one at (codes "[") token.OpenBracket (reads refl (λ rest. refl))

close_bracket_at : (at : ℕ) → Scanned at (spaced (codes "]")) (placed at token.CloseBracket ∷ [])
close_bracket_at at = one at (codes "]") token.CloseBracket (reads refl (λ rest. refl))

-- what was found of a tree that is no path, and of a path
atom_found : (at d : ℕ) (tree read : Tree) (ts : List Placed) → is_path tree ≡ false → Scanned at (printed tree) ts → bare read ≡ bare tree
    → AtomReads read ts d → Found at d tree
atom_found at d tree read ts none scanned bared atom =
    record { tokens = ts; read = read; scanned = scanned; bared = bared; atom = atom; as_path = λ x. absurd (cc) }

path_found : (at d : ℕ) (tree read : Tree) (ts : List Placed) → Scanned at (printed tree) ts → bare read ≡ bare tree
    → PathReads read ts d → Found at d tree
path_found at d tree read ts scanned bared goes_on =
    record { tokens = ts; read = read; scanned = scanned; bared = bared; atom = path_atom read ts d goes_on; as_path = λ x. goes_on }

found_number : (at d : ℕ) (n : ℤ) → IsLegal (number n) → Found at d (number n)
found_number at d n (k, e, small) =
    let text : Reads (signed_decimal n) (token.Number n) =
    subst (λ z. Reads (signed_decimal z) (token.Number z)) (sym e) (number_reads k small) in
    let ts = placed at (token.Number n) ∷ [] in
    atom_found at d (number n) (number n) ts refl (one at (signed_decimal n) (token.Number n) text) refl (number_atom n at d)

found_name : (at d place : ℕ) (word : List ℕ) → IsLegal (name place word) → Found at d (name place word)
found_name at d place word legal =
    let ts = placed at (token.Name word) ∷ [] in
    path_found at d (name place word) (name at word) ts (one at word (token.Name word) (name_reads word legal)) refl (name_path at word d)

found_field : (at d : ℕ) (p : Tree) (place : ℕ) (word : List ℕ) → is_path p ≡ true → IsTrue (is_name word) → Found at d p
    → Found at d (field p place word)
found_field at d p place word path legal f =
    let dot = at + length (printed p) in
    let here = dot + length (spaced (codes ".")) in
    let dot_token = placed dot token.Dot ∷ [] in
    let name_token = placed here (token.Name word) ∷ [] in
    path_found at d (field p place word) (field f.read here word) (f.tokens ++ placed dot token.Dot ∷ name_token)
    (both at (printed p) (spaced (codes ".") ++ spaced word) f.tokens (placed dot token.Dot ∷ name_token) f.scanned
    (both dot (spaced (codes ".")) (spaced word) dot_token name_token (dot_at dot)
    (one here word (token.Name word) (name_reads word legal))))
    (ap (λ x. field x 0 word) f.bared)
    (field_path f.read here word f.tokens dot d (f.as_path path))

found_index : (at d : ℕ) (p : Tree) (place : ℕ) (i : Tree) → is_path p ≡ true → Found at (suc d) p
    → Found (at + length (printed p) + length (spaced (codes "["))) d i → Found at (suc d) (index p place i)
found_index at d p place i path f g =
    let here = at + length (printed p) in
    let inner = here + length (spaced (codes "[")) in
    let end = inner + length (printed i) in
    let close = placed end token.CloseBracket ∷ [] in
    let behind = placed here token.OpenBracket ∷ (g.tokens ++ close) in
    path_found at (suc d) (index p place i) (index f.read here g.read) (f.tokens ++ behind)
    (both at (printed p) (spaced (codes "[") ++ (printed i ++ spaced (codes "]"))) f.tokens behind f.scanned
    (both here (spaced (codes "[")) (printed i ++ spaced (codes "]")) (placed here token.OpenBracket ∷ []) (g.tokens ++ close)
    (open_bracket_at here)
    (both inner (printed i) (spaced (codes "]")) g.tokens close g.scanned (close_bracket_at end))))
    (ap (λ x. index x 0 (bare g.read)) f.bared ∙ ap (λ x. index (bare p) 0 x) g.bared)
    (index_path f.read g.read here end f.tokens g.tokens d (f.as_path path) g.atom)

-- a path in the parentheses of a function, behind its name
found_length : (at d : ℕ) (p : Tree) → is_path p ≡ true → Found (at + length (spaced len_word) + length (spaced (codes "("))) d p
    → Found at (suc d) (length_of p)
found_length at d p path f =
    let paren = at + length (spaced len_word) in
    let inner = paren + length (spaced (codes "(")) in
    let end = inner + length (printed p) in
    let word = placed at (token.Name len_word) ∷ [] in
    let close = placed end token.CloseParen ∷ [] in
    let behind = placed paren token.OpenParen ∷ (f.tokens ++ close) in
    atom_found at (suc d) (length_of p) (length_of f.read) (word ++ behind) refl
    (both at (spaced len_word) (spaced (codes "(") ++ (printed p ++ spaced (codes ")"))) word behind
    (one at len_word (token.Name len_word) (name_reads len_word refl))
    (both paren (spaced (codes "(")) (printed p ++ spaced (codes ")")) (placed paren token.OpenParen ∷ []) (f.tokens ++ close)
    (open_at paren)
    (both inner (printed p) (spaced (codes ")")) f.tokens close f.scanned (close_at end))))
    (ap length_of f.bared)
    (length_atom f.read f.tokens at paren end d (f.as_path path))

-- what stands behind the path of `same`
rest_of_same : List ℕ → List ℕ
rest_of_same text = spaced (codes ",") ++ (spaced (quotes text) ++ spaced (codes ")"))

rest_scanned : (comma : ℕ) (text : List ℕ) → IsTrue (list_all is_plain text)
    → Scanned comma (rest_of_same text) (behind_same text comma (comma + length (spaced (codes ",")))
    (comma + length (spaced (codes ",")) + length (spaced (quotes text))) [])
unfolding rest_of_same
rest_scanned comma text legal =
    let quote = comma + length (spaced (codes ",")) in
    let end = quote + length (spaced (quotes text)) in
    let text_token = placed quote (token.Text text) ∷ [] in
    let close = placed end token.CloseParen ∷ [] in
    both comma (spaced (codes ",")) (spaced (quotes text) ++ spaced (codes ")")) (placed comma token.Comma ∷ []) (text_token ++ close)
    (comma_at comma)
    (both quote (spaced (quotes text)) (spaced (codes ")")) text_token close
    (one quote (quotes text) (token.Text text) (text_reads text legal)) (close_at end))

found_same : (at d : ℕ) (p : Tree) (text : List ℕ) → is_path p ≡ true → IsTrue (list_all is_plain text)
    → Found (at + length (spaced same_word) + length (spaced (codes "("))) d p → Found at (suc d) (same p text)
unfolding rest_of_same
found_same at d p text path legal f =
    let paren = at + length (spaced same_word) in
    let inner = paren + length (spaced (codes "(")) in
    let comma = inner + length (printed p) in
    let quote = comma + length (spaced (codes ",")) in
    let end = quote + length (spaced (quotes text)) in
    let word = placed at (token.Name same_word) ∷ [] in
    let behind = placed paren token.OpenParen ∷ (f.tokens ++ behind_same text comma quote end []) in
    atom_found at (suc d) (same p text) (same f.read text) (word ++ behind) refl
    (both at (spaced same_word) (spaced (codes "(") ++ (printed p ++ rest_of_same text)) word behind
    (one at same_word (token.Name same_word) (name_reads same_word refl))
    (both paren (spaced (codes "(")) (printed p ++ rest_of_same text) (placed paren token.OpenParen ∷ [])
    (f.tokens ++ behind_same text comma quote end []) (open_at paren)
    (both inner (printed p) (rest_of_same text) f.tokens (behind_same text comma quote end []) f.scanned (rest_scanned comma text legal))))
    (ap (λ x. same x text) f.bared)
    (same_atom f.read text f.tokens at paren comma quote end d (f.as_path path))

found_signed : (at d place : ℕ) (s : Sign) (x : Tree) → Found (at + length (spaced (codes "(")) + length (spaced (sign_text s))) d x
    → Found at (suc (suc d)) (signed place s x)
found_signed at d place s x f =
    let here = at + length (spaced (codes "(")) in
    let inner = here + length (spaced (sign_text s)) in
    let end = inner + length (printed x) in
    let sign_here = placed here (sign_token s) ∷ [] in
    let close = placed end token.CloseParen ∷ [] in
    atom_found at (suc (suc d)) (signed place s x) (signed here s f.read) (placed at token.OpenParen ∷ (sign_here ++ (f.tokens ++ close)))
    refl
    (both at (spaced (codes "(")) (spaced (sign_text s) ++ (printed x ++ spaced (codes ")"))) (placed at token.OpenParen ∷ [])
    (sign_here ++ (f.tokens ++ close)) (open_at at)
    (both here (spaced (sign_text s)) (printed x ++ spaced (codes ")")) sign_here (f.tokens ++ close)
    (one here (sign_text s) (sign_token s) (sign_reads s))
    (both inner (printed x) (spaced (codes ")")) f.tokens close f.scanned (close_at end))))
    (ap (λ y. signed 0 s y) f.bared)
    (signed_atom here s f.read f.tokens at end d f.atom)

found_joined : (at d place : ℕ) (op : Operator) (x y : Tree) → Found (at + length (spaced (codes "("))) d x
    → Found (at + length (spaced (codes "(")) + length (printed x) + length (spaced (operator_text op))) d y
    → Found at (suc d) (joined place op x y)
found_joined at d place op x y f g =
    let left = at + length (spaced (codes "(")) in
    let here = left + length (printed x) in
    let right = here + length (spaced (operator_text op)) in
    let end = right + length (printed y) in
    let close = placed end token.CloseParen ∷ [] in
    let behind = placed here (token.Operator op) ∷ (g.tokens ++ close) in
    atom_found at (suc d) (joined place op x y) (joined here op f.read g.read) (placed at token.OpenParen ∷ (f.tokens ++ behind)) refl
    (both at (spaced (codes "(")) (printed x ++ (spaced (operator_text op) ++ (printed y ++ spaced (codes ")"))))
    (placed at token.OpenParen ∷ []) (f.tokens ++ behind) (open_at at)
    (both left (printed x) (spaced (operator_text op) ++ (printed y ++ spaced (codes ")"))) f.tokens behind f.scanned
    (both here (spaced (operator_text op)) (printed y ++ spaced (codes ")")) (placed here (token.Operator op) ∷ []) (g.tokens ++ close)
    (one here (operator_text op) (token.Operator op) (operator_reads op))
    (both right (printed y) (spaced (codes ")")) g.tokens close g.scanned (close_at end)))))
    (ap (λ v. joined 0 op v (bare g.read)) f.bared ∙ ap (λ v. joined 0 op (bare x) v) g.bared)
    (joined_atom here op f.read g.read f.tokens g.tokens at end d f.atom g.atom)

found : (at d : ℕ) (tree : Tree) → IsFormed tree → IsLegal tree → height tree ≤ d → Found at d tree
found at d (number n) w l h = found_number at d n l
found at d (name place word) w l h = found_name at d place word l
found at d (field p place word) w l h = found_field at d p place word w.0 l.1 (found at d p w.1 l.0 h)
found at zero (index p place i) w l h = absurd (omega arith)
found at (suc d) (index p place i) w l h =
    found_index at d p place i w.0 (found at (suc d) p w.1.0 l.0 (omega arith))
    (found (at + length (printed p) + length (spaced (codes "["))) d i w.1.1 l.1 (omega arith))
found at zero (length_of p) w l h = absurd (omega arith)
found at (suc d) (length_of p) w l h =
    found_length at d p w.0 (found (at + length (spaced len_word) + length (spaced (codes "("))) d p w.1 l (omega arith))
found at zero (same p text) w l h = absurd (omega arith)
found at (suc d) (same p text) w l h =
    found_same at d p text w.0 l.1 (found (at + length (spaced same_word) + length (spaced (codes "("))) d p w.1 l.0 (omega arith))
found at zero (signed place s x) w l h = absurd (omega arith)
found at (suc zero) (signed place s x) w l h = absurd (omega arith)
found at (suc (suc d)) (signed place s x) w l h =
    found_signed at d place s x (found (at + length (spaced (codes "(")) + length (spaced (sign_text s))) d x w l (omega arith))
found at zero (joined place op x y) w l h = absurd (omega arith)
found at (suc d) (joined place op x y) w l h =
    let left = at + length (spaced (codes "(")) in
    let right = left + length (printed x) + length (spaced (operator_text op)) in
    found_joined at d place op x y (found left d x w.0 l.0 (omega arith)) (found right d y w.1 l.1 (omega arith))

pub reads_back_law : ReadsBack
reads_back_law tree formed legal low short =
    let f = found 0 most_levels tree formed legal low in (
      f.read,
      record {
        tokens = f.tokens;
        short = short;
        scanned = whole_text (printed tree) f.tokens f.scanned;
        parsed = as_expression f.read f.tokens most_levels f.atom;
      },
      f.bared,
    )

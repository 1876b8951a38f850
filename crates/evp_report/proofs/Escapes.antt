-- What is left of a text in quotes, behind some of its bytes.
use Rattle.std.proofs.Common.{◌≡◌, ℕ, ◌+◌, ◌<◌, List, [], ◌∷◌, ◌++◌, drop, length, get_or, codes}
use Rattle.std.proofs.Common.{sym, ap, ◌∙◌, append_assoc, drop-cons, add-one, arith}
use Rattle.std.specs.List.{flat_map}
use Rattle.std.proofs.lemmas.List.{drop_all}
use Rattle.evp_base.specs.Quoted.{escaped}

-- the bytes from a place on are its byte and the rest
drop_here : (bytes : List ℕ) (i : ℕ) → i < length bytes
    → drop i bytes ≡ get_or bytes i 0 ∷ drop (i + 1) bytes
drop_here bytes i h = rw (add-one, drop-cons bytes i 0)

pub escapes_from : (bytes : List ℕ) (i : ℕ) → i < length bytes
    → escaped (get_or bytes i 0) ++ (flat_map escaped (drop (i + 1) bytes) ++ codes "\"")
    ≡ flat_map escaped (drop i bytes) ++ codes "\""
escapes_from bytes i h =
    sym (append_assoc (escaped (get_or bytes i 0)) (flat_map escaped (drop (i + 1) bytes))
    (codes "\""))
    ∙ ap (λ rest. flat_map escaped rest ++ codes "\"") (sym (drop_here bytes i h))

pub escapes_ended : (bytes : List ℕ) (i : ℕ) → i ≡ length bytes
    → flat_map escaped (drop i bytes) ++ codes "\"" ≡ codes "\""
escapes_ended bytes i end =
    let none : drop i bytes ≡ [] = drop_all i bytes (omega (arith, end)) in
    ap (λ rest. flat_map escaped rest ++ codes "\"") none

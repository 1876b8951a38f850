-- How the front of a buffer that agrees with a file grows.
use Rattle.std.proofs.Common.{◌≡◌, ℕ, ◌+◌, ◌-◌, ◌≤◌, List, ◌++◌, length, take, drop, Option, Some, None, IfSome, Result, Ok, Err, IfOk}
use Rattle.std.proofs.Common.{refl, sym, ap, ◌∙◌, arith, take-add, length-append, length-take, length-drop}
use Rattle.std.specs.FinMap.{get}
use Rattle.std.proofs.lemmas.List.{take-append-le}
use Rattle.std.proofs.Math.Seq.{take-append-add, take-append_seam}
use Rattle.evp_depot.specs.Files.{Files, OnHeld}
use Rattle.evp_depot.specs.Fronts.{IsFront}

-- a list that begins with xs has it as its front
front_of : (xs ys : List ℕ) (n : ℕ) → n ≡ length xs → take n (xs ++ ys) ≡ xs
front_of xs ys n e = rw e (take-append_seam xs ys)

-- bytes of the file were put behind the front: `put` stands where `piece` stood, from `at` on
front_grows : (buffer piece put post file : List ℕ) (at n : ℕ) → length piece + at ≡ length buffer → length put ≡ length piece
    → n ≤ length piece → put ≡ take n (drop at file) ++ drop n piece → IsFront at buffer file
    → IsFront (at + n) (take at buffer ++ (put ++ post)) file
front_grows buffer piece put post file at n whole same room is front =
    let long : length put ≡ length (take n (drop at file)) + (length piece - n) = simp (is, length-append, length-drop) refl in
    let within : at + n ≤ length file = omega (arith, long, same, whole, front.0, length-take n (drop at file), length-drop at file) in
    let got : length (take n (drop at file)) ≡ n = omega (arith, length-take n (drop at file), length-drop at file, within) in
    let head : length (take at buffer) ≡ at = omega (arith, length-take at buffer, whole) in
    let second : take n (put ++ post) ≡ take n (drop at file) =
    take-append-le n put post (omega (arith, same)) ∙ ap (take n) is ∙ front_of (take n (drop at file)) _ n (sym got) in
    let both : take (at + n) (take at buffer ++ (put ++ post)) ≡ take at buffer ++ take n (put ++ post) =
    rw head at (take-append-add (take at buffer) (put ++ post) n) in
    (within, both ∙ ap (λ b. take at buffer ++ b) second ∙ ap (λ b. b ++ take n (drop at file)) front.1 ∙ sym (take-add at n file))

-- the same at a read's answer, where the depot tells
pub front_after : {E : Type 0} (told : Option Files) (name : List ℕ) (answer : Result ℕ E) (buffer piece put post : List ℕ) (at : ℕ)
    → length piece + at ≡ length buffer → length put ≡ length piece → IfOk answer (λ n. n ≤ length piece)
    → OnHeld told name (λ file. IfOk answer (λ n. put ≡ take n (drop at file) ++ drop n piece))
    → OnHeld told name (λ file. IfOk answer (λ n. IsFront at buffer file → IsFront (at + n) (take at buffer ++ (put ++ post)) file))
front_after None name answer buffer piece put post at whole same room is = tt
front_after (Some files) name (Err e) buffer piece put post at whole same room is = elim (get files name)
    as (λ o. IfSome o (λ file. Unit {0})) [ None ↦ tt | Some file ↦ tt ]
front_after (Some files) name (Ok n) buffer piece put post at whole same room is =
    elim (get files name) as (λ o. IfSome o (λ file. put ≡ take n (drop at file) ++ drop n piece)
    → IfSome o (λ file. IsFront at buffer file → IsFront (at + n) (take at buffer ++ (put ++ post)) file)) [
      | None ↦ λ _. tt
      | Some file ↦ λ p. front_grows buffer piece put post file at n whole same room p
    ] is

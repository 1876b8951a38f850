-- Bytes put at a place: two that don't meet may be put in either order.
use Rattle.std.proofs.Common.{◌≡◌, ℕ, zero, suc, ◌+◌, ◌-◌, ◌≤◌, List, [], ◌∷◌, ◌++◌, length, take, drop, sym, ap, ◌∙◌, arith}
use Rattle.std.specs.Prelude.{replicate}
use Rattle.std.proofs.lemmas.List.{length-take, length-drop, length-append, length-replicate, append-nil, append_assoc, take-append-drop}
use Rattle.std.proofs.lemmas.List.{take-append-le, drop-append-le, take_at, drop_at, drop-drop, drop-replicate, replicate-append-replicate}
use Rattle.std.proofs.Math.Seq.{take-append_seam, drop-append-add}
use Rattle.evp_format.specs.Bytes.{put_at}

pub put_none : (t : ℕ) (out : List ℕ) → put_at t [] out ≡ out
put_none t out =
    let none : t + 0 ≡ t = omega arith in
    ap (λ (l : List ℕ). l ++ drop (t + 0) out) (append-nil (take t out)) ∙ ap (λ (n : ℕ). take t out ++ drop n out) none
    ∙ take-append-drop t out

pub put_long : (t : ℕ) (new out : List ℕ) → t + length new ≤ length out → length (put_at t new out) ≡ length out
put_long t new out room =
    let front = take t out in
    let first = length-append front new in
    let whole = length-append (front ++ new) (drop (t + length new) out) in
    let taken = length-take t out in
    let left = length-drop (t + length new) out in
    omega (arith, room, first, whole, taken, left)

pub put_grows : (t : ℕ) (new out : List ℕ) → length out ≤ length (put_at t new out)
put_grows t new out =
    let front = take t out in
    let first = length-append front new in
    let whole = length-append (front ++ new) (drop (t + length new) out) in
    let taken = length-take t out in
    let left = length-drop (t + length new) out in
    omega (arith, first, whole, taken, left)

-- bytes behind one another
pub put_more : (t : ℕ) (first rest out : List ℕ) → t + length first ≤ length out
    → put_at (t + length first) rest (put_at t first out) ≡ put_at t (first ++ rest) out
put_more t first rest out room =
    let front = take t out ++ first in
    let behind = drop (t + length first) out in
    let taken = length-take t out in
    let long = length-append (take t out) first in
    let seam : length front ≡ t + length first = omega (arith, room, taken, long) in
    let both = length-append first rest in
    let last : t + length first + length rest ≡ t + length (first ++ rest) = omega (arith, both) in
    ap (λ (n : ℕ). put_at n rest (front ++ behind)) (sym seam)
    ∙ ap (λ (l : List ℕ). l ++ rest ++ drop (length front + length rest) (front ++ behind)) (take-append_seam front behind)
    ∙ ap (λ (l : List ℕ). front ++ rest ++ l)
    (drop-append-add front behind (length rest) ∙ drop-drop (length rest) (t + length first) out ∙ ap (λ (n : ℕ). drop n out) last)
    ∙ ap (λ (l : List ℕ). l ++ drop (t + length (first ++ rest)) out) (append_assoc (take t out) first rest)

-- ---- two of them

put_first : (byte : ℕ) (new : List ℕ) (old : ℕ) (out : List ℕ) → put_at 0 (byte ∷ new) (old ∷ out) ≡ byte ∷ put_at 0 new out
put_first byte new old out =
    let next : 0 + length (byte ∷ new) ≡ suc (0 + length new) = omega arith in
    ap (λ (n : ℕ). byte ∷ (new ++ drop n (old ∷ out))) next

put_behind : (t : ℕ) (new : List ℕ) (old : ℕ) (out : List ℕ) → put_at (suc t) new (old ∷ out) ≡ old ∷ put_at t new out
put_behind t new old out =
    let next : suc t + length new ≡ suc (t + length new) = omega arith in
    ap (λ (n : ℕ). old ∷ (take t out ++ new ++ drop n (old ∷ out))) next

-- the first ends before the second begins
pub put_swap : (a : ℕ) (one : List ℕ) (b : ℕ) (two out : List ℕ) → a + length one ≤ b → a + length one ≤ length out
    → put_at a one (put_at b two out) ≡ put_at b two (put_at a one out)
put_swap zero [] b two out before room = put_none 0 (put_at b two out) ∙ sym (ap (put_at b two) (put_none 0 out))
put_swap zero (byte ∷ one) zero two out before room = absurd (omega arith)
put_swap zero (byte ∷ one) (suc b) two [] before room = absurd (omega arith)
put_swap zero (byte ∷ one) (suc b) two (old ∷ out) before room =
    ap (put_at 0 (byte ∷ one)) (put_behind b two old out) ∙ put_first byte one old (put_at b two out)
    ∙ ap (λ (l : List ℕ). byte ∷ l) (put_swap zero one b two out (omega arith) (omega arith))
    ∙ sym (ap (put_at (suc b) two) (put_first byte one old out) ∙ put_behind b two byte (put_at 0 one out))
put_swap (suc a) one zero two out before room = absurd (omega arith)
put_swap (suc a) one (suc b) two [] before room = absurd (omega arith)
put_swap (suc a) one (suc b) two (old ∷ out) before room =
    ap (put_at (suc a) one) (put_behind b two old out) ∙ put_behind a one old (put_at b two out)
    ∙ ap (λ (l : List ℕ). old ∷ l) (put_swap a one b two out (omega arith) (omega arith))
    ∙ sym (ap (put_at (suc b) two) (put_behind a one old out) ∙ put_behind b two old (put_at a one out))

-- ---- on a front with more behind it

pub put_front : (t : ℕ) (new front more : List ℕ) → t + length new ≤ length front → put_at t new (front ++ more) ≡ put_at t new front ++ more
put_front t new front more room =
    ap (λ (l : List ℕ). l ++ new ++ drop (t + length new) (front ++ more)) (take-append-le t front more (omega arith))
    ∙ ap (λ (l : List ℕ). take t front ++ new ++ l) (drop-append-le (t + length new) front more room)
    ∙ sym (append_assoc (take t front ++ new) (drop (t + length new) front) more)

put_between : (q : ℕ) (before rest block : List ℕ) → length before ≡ q
    → put_at q block (before ++ rest) ≡ before ++ block ++ drop (length block) rest
put_between q before rest block long =
    ap (λ (l : List ℕ). l ++ block ++ drop (q + length block) (before ++ rest)) (take_at before rest q long)
    ∙ ap (λ (l : List ℕ). before ++ block ++ l)
    (sym (drop-drop (length block) q (before ++ rest)) ∙ ap (drop (length block)) (drop_at before rest q long))

zeros_split : (first rest all : ℕ) (front : List ℕ) → first + rest ≡ all
    → front ++ replicate all 0 ≡ (front ++ replicate first 0) ++ replicate rest 0
zeros_split first rest all front count =
    ap (λ (m : ℕ). front ++ replicate m 0) (sym count)
    ∙ ap (λ (l : List ℕ). front ++ l) (sym (replicate-append-replicate first rest 0))
    ∙ sym (append_assoc front (replicate first 0) (replicate rest 0))

-- a block behind the front, where zeros stand
pub put_end : (q n : ℕ) (front block : List ℕ) → length front ≤ q → q + length block ≤ n
    → put_at q block (front ++ replicate (n - length front) 0)
    ≡ (front ++ replicate (q - length front) 0 ++ block) ++ replicate (n - (q + length block)) 0
put_end q n front block behind room =
    let gap_long = length-replicate {A = ℕ} (q - length front) 0 in
    let both = length-append front (replicate (q - length front) 0) in
    let left : (n - q) - length block ≡ n - (q + length block) = omega arith in
    ap (put_at q block) (zeros_split (q - length front) (n - q) (n - length front) front (omega arith))
    ∙ put_between q (front ++ replicate (q - length front) 0) (replicate (n - q) 0) block (omega (arith, gap_long, both))
    ∙ ap (λ (l : List ℕ). front ++ replicate (q - length front) 0 ++ block ++ l)
    (drop-replicate (length block) (n - q) 0 ∙ ap (λ (m : ℕ). replicate m 0) left)

-- the same with a pointer to it
pub block_put : (to q n : ℕ) (pointer front block : List ℕ) → to + length pointer ≤ length front → length front ≤ q → q + length block ≤ n
    → put_at q block (put_at to pointer (front ++ replicate (n - length front) 0))
    ≡ (put_at to pointer front ++ replicate (q - length front) 0 ++ block) ++ replicate (n - (q + length block)) 0
block_put to q n pointer front block room behind fits =
    let pointed = put_at to pointer front in
    let long : length pointed ≡ length front = put_long to pointer front room in
    ap (put_at q block) (put_front to pointer front (replicate (n - length front) 0) room
    ∙ ap (λ (m : ℕ). pointed ++ replicate (n - m) 0) (sym long))
    ∙ put_end q n pointed block (omega (arith, long)) fits
    ∙ ap (λ (m : ℕ). (pointed ++ replicate (q - m) 0 ++ block) ++ replicate (n - (q + length block)) 0) long

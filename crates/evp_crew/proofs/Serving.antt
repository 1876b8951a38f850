-- Rotas and their desks, side by side.
use Rattle.std.proofs.Common.{◌≡◌, ℕ, zero, suc, ◌+◌, ◌<◌, ◌≤◌, List, [], ◌∷◌, ◌++◌, length, set, take, Some, Bool}
use Rattle.std.proofs.Common.{refl, sym, subst, ◌∙◌, ⊎_elim, arith, length-append}
use Rattle.std.proofs.Math.Seq.{take-suc}
use Rattle.std.proofs.lemmas.List.{length-set, take_all}
use Rattle.std.proofs.lemmas.Option.{slice_get_read, get_or_from_slice_get}
use Rattle.std.specs.Prelude.{slice_index_or}
use Rattle.std.proofs.lemmas.Bool.Decides.{eqb_tells}
use Rattle.std.specs.List.{slice_get}
use Rattle.evp_stone.proofs.Change.{set_here, set_elsewhere}
use Rattle.evp_stone.proofs.Elements.{snoc_at, there_below}
use Rattle.evp_crew.specs.declared.rota.Rota.{Rota}
use Rattle.evp_crew.specs.declared.worker.Desk.{Desk}
use Rattle.evp_crew.specs.declared.three.Three.{Three}
use Rattle.evp_crew.specs.Rota.{three_of, ServesIn, IsServing, AreServing}

same_desk : (a b : Desk) → Some a ≡ Some b → a ≡ b
same_desk a b same = cc

same_rota : (a b : Rota) → Some a ≡ Some b → a ≡ b
same_rota a b same = cc

pub serving_none : (three : Three) (rotas : List Rota) (desks : List Desk) → rotas ≡ [] → desks ≡ []
    → AreServing three rotas desks
serving_none three [] [] no_rota no_pass = record { long = refl; each = λ place rota desk at there. absurd (cc) }
serving_none three (r ∷ rotas) desks no_rota no_pass = absurd (cc)
serving_none three [] (p ∷ desks) no_rota no_pass = absurd (cc)

-- one rota more, with its pass
serving_one : (three : Three) (rotas : List Rota) (desks : List Desk) (rota : Rota) (desk : Desk)
    → AreServing three rotas desks → IsServing three rota desk.pass → AreServing three (rotas ++ rota ∷ []) (desks ++ desk ∷ [])
serving_one three rotas desks rota desk are is = record {
  long = omega (arith, length-append rotas (rota ∷ []), length-append desks (desk ∷ []), are.long);
  each = λ place r p at there.
      ⊎_elim
      (λ front. ⊎_elim (are.each place r p front)
      (λ last. absurd (let below = within rotas place r front in let long = are.long in omega (arith, last.0)))
      (snoc_at desks desk p place there))
      (λ last. ⊎_elim
      (λ front. absurd (let below = within desks place p front in let long = are.long in omega (arith, last.0)))
      (λ end. subst (λ (x : Rota). IsServing three x p.pass) last.1 (subst (λ (d : Desk). IsServing three rota d.pass) end.1 is))
      (snoc_at desks desk p place there))
      (snoc_at rotas rota r place at);
}
  where
    within : {X : Type 0} (xs : List X) (k : ℕ) (x : X) → slice_get xs k ≡ Some x → k < length xs
    within [] k x at = absurd (cc)
    within (z ∷ xs) zero x at = omega arith
    within (z ∷ xs) (suc k) x at = let below = within xs k x at in omega arith

-- the same of the lists that were made so
pub serving_more : (three : Three) (rotas more : List Rota) (desks later : List Desk) (rota : Rota) (desk : Desk)
    → more ≡ rotas ++ rota ∷ [] → later ≡ desks ++ desk ∷ [] → AreServing three rotas desks → IsServing three rota desk.pass
    → AreServing three more later
serving_more three rotas more desks later rota desk one other are is =
    subst (λ (rs : List Rota). AreServing three rs later) (sym one)
    (subst (λ (ds : List Desk). AreServing three (rotas ++ rota ∷ []) ds) (sym other)
    (serving_one three rotas desks rota desk are is))

-- the pass of one rota became another of it
pub serving_set : (three : Three) (rotas : List Rota) (desks : List Desk) (place : ℕ) (rota : Rota) (old new : Desk)
    → slice_get rotas place ≡ Some rota → slice_get desks place ≡ Some old → IsServing three rota new.pass
    → AreServing three rotas desks → AreServing three rotas (set desks place new)
serving_set three rotas desks place rota old new at was is are = record {
  long = length-set desks place new ∙ are.long;
  each = λ k r p here there.
      ⊎_elim
      (λ e.
      let as_new : new ≡ p = same_desk new p (sym (set_here desks place old new was) ∙ subst (λ (n : ℕ). slice_get (set desks place new) n ≡ Some p) e.1 there) in
      let as_rota : rota ≡ r = same_rota rota r (sym at ∙ subst (λ (n : ℕ). slice_get rotas n ≡ Some r) e.1 here) in
      subst (λ (x : Rota). IsServing three x p.pass) as_rota (subst (λ (d : Desk). IsServing three rota d.pass) as_new is))
      (λ e. are.each k r p here (sym (set_elsewhere desks place k new e.1) ∙ there))
      (eqb_tells k place);
}

-- what was read of rotas and desks at a place
module _ (three : Three) (rotas : List Rota) (desks : List Desk) (place : ℕ) (other : Rota) (desk : Desk)
    (are : AreServing three rotas desks) (below : place < length rotas) (read : desk ≡ slice_index_or desks place desk) where
  -- the rota that stands there
  there : (rota : Rota) × (slice_get rotas place ≡ Some rota) × (slice_index_or rotas place other ≡ rota)
  there = let found = there_below rotas place below in (found.0, found.1, get_or_from_slice_get rotas place found.0 other found.1)

  desk_there : slice_get desks place ≡ Some desk
  desk_there = slice_get_read desks (length desks) place desk refl (let long = are.long in omega arith) read

  pub serving_at : IsServing three (slice_index_or rotas place other) desk.pass
  serving_at = subst (λ (r : Rota). IsServing three r desk.pass) (sym there.2) (are.each place there.0 desk there.1 desk_there)

  pub serving_kept : (new : Desk)
      → ServesIn (slice_index_or rotas place other) new.pass × (three_of new.pass ≡ three_of desk.pass)
      → AreServing three rotas (set desks place new)
  serving_kept new kept =
      serving_set three rotas desks place there.0 desk new there.1 desk_there
      (subst (λ (r : Rota). IsServing three r new.pass) there.2 record { serves = kept.0; knows = kept.1 ∙ serving_at.knows }) are

-- a desk with the same pass
pub same_pass : (three : Three) (rotas : List Rota) (desks : List Desk) (place : ℕ) (desk : Desk) (closed : Bool)
    → AreServing three rotas desks → place < length rotas → desk ≡ slice_index_or desks place desk
    → AreServing three rotas (set desks place record { pass = desk.pass; is_closed = closed })
same_pass three rotas desks place desk closed are below read =
    let rota = there_below rotas place below in
    let serving = serving_at three rotas desks place rota.0 desk are below read in
    serving_kept three rotas desks place rota.0 desk are below read record { pass = desk.pass; is_closed = closed }
    (serving.serves, refl)

-- one more pass of each of the first rotas, and of the next
pub serving_next : (three : Three) (rotas : List Rota) (place : ℕ) (other : Rota) (more all : List Desk) (desk : Desk)
    → place < length rotas → AreServing three (take place rotas) more → IsServing three (slice_index_or rotas place other) desk.pass
    → all ≡ more ++ desk ∷ [] → AreServing three (take (place + 1) rotas) all
serving_next three rotas place other more all desk below are is whole =
    let next : suc place ≡ place + 1 = omega arith in
    subst (λ (n : ℕ). AreServing three (take n rotas) all) next
    (subst (λ (rs : List Rota). AreServing three rs all) (sym (take-suc rotas place other below))
    (subst (λ (ds : List Desk). AreServing three (take place rotas ++ slice_index_or rotas place other ∷ []) ds) (sym whole)
    (serving_one three (take place rotas) more (slice_index_or rotas place other) desk are is)))

-- all of them
pub serving_all : (three : Three) (rotas : List Rota) (place : ℕ) (desks : List Desk) → length rotas ≤ place
    → AreServing three (take place rotas) desks → AreServing three rotas desks
serving_all three rotas place desks past are = subst (λ (rs : List Rota). AreServing three rs desks) (take_all place rotas past) are

-- What the counts of a pass are after an entry, and after it was split.
use Rattle.std.proofs.Common.{◌≡◌, ℕ, ◌+◌, ◌≢◌, true, false, List, [], ◌∷◌, Some, None, sym, refl, ◌∙◌, subst, ⊎_elim, arith}
use Rattle.std.proofs.lemmas.Bool.Decides.{eqb_tells, nat_tests}
use Rattle.evp_queue.specs.Counts.{Counts, count_at, IsRoute, zeroed, raised, is_among, those, others}

pub raised_here : (route count : ℕ) (cs : Counts) → count_at route cs ≡ Some count → count_at route (raised route cs) ≡ Some (count + 1)
raised_here route count [] at = grind arith
raised_here route count (c ∷ cs) at =
    let more = raised_here route count cs in grind (arith, nat_tests, more)

pub raised_elsewhere : (route other : ℕ) (cs : Counts) → other ≢ route → count_at other (raised route cs) ≡ count_at other cs
raised_elsewhere route other [] apart = refl
raised_elsewhere route other (c ∷ cs) apart =
    let more = raised_elsewhere route other cs apart in grind (arith, nat_tests, more)

pub still_route : (route other : ℕ) (cs : Counts) → IsRoute other cs → IsRoute other (raised route cs)
still_route route other cs is =
    ⊎_elim (λ e. (is.0 + 1, subst (λ r. count_at other (raised r cs) ≡ Some (is.0 + 1)) e.1 (raised_here other is.0 cs is.1)))
    (λ e. (is.0, raised_elsewhere route other cs e.1 ∙ is.1))
    (eqb_tells other route)

was_raised : (route : ℕ) (cs : Counts) → IsRoute route (raised route cs) → IsRoute route cs
was_raised route [] is = is
was_raised route (c ∷ cs) is =
    ⊎_elim (λ e. (c.1, rw e.0))
    (λ e. let more = was_raised route cs (is.0, rw e.0 at is.1) in (more.0, rw e.0 more.1))
    (eqb_tells c.0 route)

pub was_route : (route other : ℕ) (cs : Counts) → IsRoute other (raised route cs) → IsRoute other cs
was_route route other cs is =
    ⊎_elim (λ e. was_raised other cs (subst (λ r. IsRoute other (raised r cs)) (sym e.1) is))
    (λ e. (is.0, sym (raised_elsewhere route other cs e.1) ∙ is.1))
    (eqb_tells other route)

pub those_at : (routes : List ℕ) (route : ℕ) (cs : Counts) → is_among route routes ≡ true → count_at route (those routes cs)
    ≡ count_at route cs
those_at routes route [] among = refl
those_at routes route (c ∷ cs) among =
    let more = those_at routes route cs among in grind (arith, nat_tests, more)

pub not_in_those : (routes : List ℕ) (route : ℕ) (cs : Counts) → is_among route routes ≡ false → count_at route (those routes cs) ≡ None
not_in_those routes route [] among = refl
not_in_those routes route (c ∷ cs) among =
    let more = not_in_those routes route cs among in grind (arith, nat_tests, more)

pub others_at : (routes : List ℕ) (route : ℕ) (cs : Counts) → is_among route routes ≡ false → count_at route (others routes cs)
    ≡ count_at route cs
others_at routes route [] among = refl
others_at routes route (c ∷ cs) among =
    let more = others_at routes route cs among in grind (arith, nat_tests, more)

pub not_in_others : (routes : List ℕ) (route : ℕ) (cs : Counts) → is_among route routes ≡ true → count_at route (others routes cs)
    ≡ None
not_in_others routes route [] among = refl
not_in_others routes route (c ∷ cs) among =
    let more = not_in_others routes route cs among in grind (arith, nat_tests, more)

pub zeroed_at : (routes : List ℕ) (route count : ℕ) → count_at route (zeroed routes) ≡ Some count → count ≡ 0
zeroed_at [] route count at = grind arith
zeroed_at (first ∷ routes) route count at =
    let more = zeroed_at routes route count in grind (arith, nat_tests, more)

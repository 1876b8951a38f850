-- Accounts go on: by a record that the stone acted on, and by a round that ends.
use Rattle.std.proofs.Common.{subst, ◌≡◌, ℕ, ◌+◌, List, [], ◌∷◌, ◌++◌, length, map, take, Some, refl, sym, ap, ◌∙◌, add-one, arith}
use Rattle.std.proofs.lemmas.List.{append-nil}
use Rattle.std.proofs.lemmas.List.Concat.{flat_map-append}
use Rattle.std.proofs.lemmas.List.Sums.{sum_by-append, sum_by-cons}
use Rattle.std.proofs.lemmas.Option.{slice_get-map}
use Rattle.std.specs.List.{AllZip, slice_get, sum_by}
use Rattle.evp_format.specs.Layout.{Layout}
use Rattle.evp_stone.specs.declared.account.RoundAccount.{RoundAccount}
use Rattle.evp_stone.specs.Carried.{Carried, Acts, outcome_of, part_arrived, part_refused, one_passed, one_dropped}
use Rattle.evp_stone.specs.Rounds.{Worked}
use Rattle.evp_stone.specs.Tallied.{IsReceived, IsTallied}
use Rattle.evp_stone.specs.Tally.{tally_of, account_of}
use Rattle.evp_stone.specs.Turning.{CountsIn, Closes, nothing_done}
use Rattle.evp_stone.specs.State.{Running, IsRunning}
use Rattle.evp_stone.proofs.Fronts.{take_more}

pub zip_append : {A B : Type 0} (R : A → B → Type 0) (xs : List A) (ys : List B) (us : List A) (vs : List B)
    → AllZip R xs ys → AllZip R us vs → AllZip R (xs ++ us) (ys ++ vs)
zip_append R [] [] us vs one other = other
zip_append R [] (y ∷ ys) us vs one other = absurd one
zip_append R (x ∷ xs) [] us vs one other = absurd one
zip_append R (x ∷ xs) (y ∷ ys) us vs one other = (one.0, zip_append R xs ys us vs one.1 other)

module _ (formats : List Layout) (act : Acts) (stone : ℕ) where
  sum_more : (f : Carried → ℕ) (done : List Carried) (c : Carried) → sum_by f (done ++ c ∷ []) ≡ sum_by f done + f c
  sum_more f done c = omega (arith, sum_by-append f done (c ∷ []), sum_by-cons f c [])

  pub tallied_more : (old new : Running) (done : List Carried) (c : Carried) → IsRunning formats old (tally_of act stone done 0)
      → CountsIn formats old new c (outcome_of act stone c) → IsRunning formats new (tally_of act stone (done ++ c ∷ []) 0)
  tallied_more old new done c was more = record {
    passed = more.passed ∙ ap (λ (n : ℕ). n + one_passed (outcome_of act stone c)) was.passed
        ∙ sym (sum_more (λ (d : Carried). one_passed (outcome_of act stone d)) done c);
    dropped = more.dropped ∙ ap (λ (n : ℕ). n + one_dropped (outcome_of act stone c)) was.dropped
        ∙ sym (sum_more (λ (d : Carried). one_dropped (outcome_of act stone d)) done c);
    refused = more.refused ∙ ap (λ l. l ++ part_refused c (outcome_of act stone c)) was.refused
        ∙ sym (flat_map-append (λ d. part_refused d (outcome_of act stone d)) done (c ∷ [])
        ∙ ap (λ l. (tally_of act stone done 0).refused ++ l) (append-nil (part_refused c (outcome_of act stone c))));
    arrived = rw (
      more.arrived,
      flat_map-append (λ d. part_arrived d (outcome_of act stone d)) done (c ∷ []),
      append-nil (part_arrived c (outcome_of act stone c)),
    )
        (zip_append (IsReceived formats) old.arrived (tally_of act stone done 0).arrived more.received
        (part_arrived c (outcome_of act stone c)) was.arrived more.are);
  }

  pub tallied_end : (running : Running) (account : RoundAccount) (done kept : List Carried) (held : ℕ) → held ≡ length kept
      → IsRunning formats running (tally_of act stone done 0) → Closes running held account
      → IsTallied formats account (account_of act stone (record { done = done; held = kept }))
  tallied_end running account done kept held is was closes = record {
    passed = closes.passed ∙ was.passed;
    dropped = closes.dropped ∙ was.dropped;
    refused = closes.refused ∙ was.refused;
    arrived = subst (λ l. AllZip (IsReceived formats) l (tally_of act stone done 0).arrived) (sym closes.arrived) was.arrived;
    held = closes.held ∙ is;
  }

  pub ended_more : (rounds : List Worked) (ended : List RoundAccount) (account : RoundAccount) (round : ℕ) (worked : Worked)
      → slice_get rounds round ≡ Some worked → AllZip (IsTallied formats) ended (take round (map (account_of act stone) rounds))
      → IsTallied formats account (account_of act stone worked)
      → AllZip (IsTallied formats) (ended ++ account ∷ []) (take (round + 1) (map (account_of act stone) rounds))
  ended_more rounds ended account round worked at was more =
      let accounts = map (account_of act stone) rounds in
      let there : slice_get accounts round ≡ Some (account_of act stone worked) =
      rw (slice_get-map (account_of act stone) rounds round, at) refl in
      rw (add-one round, take_more accounts round (account_of act stone worked) there)
      (zip_append (IsTallied formats) ended (take round accounts) (account ∷ []) (account_of act stone worked ∷ []) was (more, tt))

  -- nothing was done yet
  pub tallied_none : IsRunning formats nothing_done (tally_of act stone [] 0)
  tallied_none = record { passed = refl; dropped = refl; refused = refl; arrived = tt }

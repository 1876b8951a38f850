-- What came of a record, settled on its route, is what the stone's turn does with it: a lemma for each kind of outcome.
use Rattle.std.proofs.Common.{◌≡◌, ℕ, ◌+◌, Bool, List, [], ◌∷◌, ◌++◌, add-zero, refl, sym, ap, subst, ◌∙◌}
use Rattle.std.proofs.lemmas.Bool.{false≢true}
use Rattle.std.proofs.lemmas.List.{append-nil}
use Rattle.std.specs.Prelude.{if◌then◌else◌}
use Rattle.std.specs.Arc.{arc_value}
use Rattle.std.specs.declared.sync.Arc.{Arc}
use Rattle.std.specs.declared.alloc.Global.{Global}
use Rattle.evp_action.specs.Outcome.{Outcome, sent, dropped, arrived, refused}
use Rattle.evp_action.specs.declared.acted.Reason.{Reason}
use Rattle.evp_action.specs.declared.acted.To.{To}
use Rattle.evp_format.specs.Datum.{Datum}
use Rattle.evp_format.specs.Layout.{Layout}
use Rattle.evp_record.specs.OwnedBytes.{OwnedBytes}
use Rattle.evp_stone.specs.declared.entry.Entry.{Entry}
use Rattle.evp_stone.specs.declared.entry.Entry.TheVariants.{Item, Mark}
use Rattle.evp_stone.specs.Accounts.{act_of}
use Rattle.evp_stone.specs.Carried.{Carried, become, part_to, outcome_of}
use Rattle.evp_stone.specs.Entries.{IsThat, StandsForPart}
use Rattle.evp_stone.specs.Flow.{item}
use Rattle.evp_stone.specs.JobShape.{JobShape}
use Rattle.evp_stone.specs.Lining.{a_record, an_end, IsOf, AreLined, lengthened}
use Rattle.evp_stone.specs.State.{Running, RouteWork}
use Rattle.evp_stone.specs.Turning.{CountsIn, Delivers, ActedOn}
use Rattle.evp_stone.specs.Working.{goes_by}
use Rattle.evp_stone.proofs.Turns.{never, lengthened-never, lined-never}

-- an entry of the record stands for it
record_stands : (formats : List Layout) (index : ℕ) (owned : OwnedBytes) (c : Carried) → index ≡ c.index → IsThat formats owned c
    → (entry : Entry) → IsOf (a_record index owned) entry → StandsForPart formats entry (item c)
record_stands formats index owned c same that (Item route position i arc) is =
    (is.0 ∙ same, subst (λ (o : OwnedBytes). IsThat formats o c) (sym is.1) that)
record_stands formats index owned c same that (Mark route position round) is = absurd is

-- the account by one record more that was sent
one_sent : (formats : List Layout) (old : Running) (c : Carried) (to : To) (format : ℕ) (value : Datum)
    → CountsIn formats old (record old { passed = old.passed + 1 }) c (sent to format value)
one_sent formats old c to format value = record {
  passed = refl;
  dropped = sym (add-zero old.dropped);
  refused = sym (append-nil old.refused);
  received = [];
  arrived = sym (append-nil old.arrived);
  are = tt;
}

module _ (job : JobShape) (stone : ℕ) (here : RouteWork) (waiting : List Entry) (c : Carried) where
  abbrev outcome : Outcome
  outcome = outcome_of (act_of job) stone c

  -- it was sent on
  pub was_sent : (index : ℕ) (owned : OwnedBytes) (to : To) (format : ℕ) (value : Datum)
      → outcome ≡ sent to format value → index ≡ c.index → IsThat job.formats owned (become c format value)
      → AreLined (IsOf (a_record index owned)) (goes_by to) 0 here.outlets waiting
      → ActedOn job stone here waiting (lengthened (goes_by to) 0 here.outlets)
      (record here.running { passed = here.running.passed + 1 }) c
  was_sent index owned to format value is same that lined =
      let made = become c format value in
      record {
        goes = goes_by to;
        sending = a_record index owned;
        waits = lined;
        lengthens = refl;
        counts = subst (CountsIn job.formats here.running (record here.running { passed = here.running.passed + 1 }) c) (sym is)
            (one_sent job.formats here.running c to format value);
        delivers = subst (λ (o : Outcome). Delivers job.formats c o (goes_by to) (a_record index owned)) (sym is) (record {
          there = λ position goes. record {
            sent = made;
            is = ap (λ (b : Bool). if b then made ∷ [] else []) goes;
            stands = record_stands job.formats index owned made same that;
          };
          elsewhere = λ position not_. ap (λ (b : Bool). if b then made ∷ [] else []) not_;
        });
      }

  -- nothing of it goes on
  stops : (running : Running) (o : Outcome) → outcome ≡ o → ((position : ℕ) → part_to position c o ≡ [])
      → CountsIn job.formats here.running running c o → waiting ≡ []
      → ActedOn job stone here waiting here.outlets running c
  stops running o is none counts waits = record {
    goes = never;
    sending = an_end 0;
    waits = subst (AreLined (IsOf (an_end 0)) never 0 here.outlets) (sym waits) (lined-never (IsOf (an_end 0)) 0 here.outlets);
    lengthens = lengthened-never 0 here.outlets;
    counts = subst (CountsIn job.formats here.running running c) (sym is) counts;
    delivers = record {
      there = λ position goes. absurd (false≢true goes);
      elsewhere = λ position not_. ap (part_to position c) is ∙ none position;
    };
  }

  -- it was dropped
  pub was_dropped : outcome ≡ dropped → waiting ≡ []
      → ActedOn job stone here waiting here.outlets (record here.running { dropped = here.running.dropped + 1 }) c
  was_dropped is waits =
      stops (record here.running { dropped = here.running.dropped + 1 }) dropped is (λ position. refl) (record {
        passed = sym (add-zero here.running.passed);
        dropped = refl;
        refused = sym (append-nil here.running.refused);
        received = [];
        arrived = sym (append-nil here.running.arrived);
        are = tt;
      }) waits

  -- it was received
  pub was_received : (index : ℕ) (owned : Arc OwnedBytes Global) (format : ℕ) (value : Datum)
      → outcome ≡ arrived format value → index ≡ c.index → IsThat job.formats (arc_value owned) (become c format value) → waiting ≡ []
      → ActedOn job stone here waiting here.outlets (record here.running {
        passed = here.running.passed + 1;
        arrived = here.running.arrived ++ (index, owned) ∷ [];
      }) c
  was_received index owned format value is same that waits =
      stops (record here.running { passed = here.running.passed + 1; arrived = here.running.arrived ++ (index, owned) ∷ [] })
      (arrived format value) is (λ position. refl) (record {
        passed = refl;
        dropped = sym (add-zero here.running.dropped);
        refused = sym (append-nil here.running.refused);
        received = (index, owned) ∷ [];
        arrived = refl;
        are = ((same, that), tt);
      }) waits

  -- it was refused
  pub was_refused : (index : ℕ) (reason : Reason) → outcome ≡ refused reason → index ≡ c.index → waiting ≡ []
      → ActedOn job stone here waiting here.outlets (record here.running {
        refused = here.running.refused ++ (index, reason) ∷ [];
      }) c
  was_refused index reason is same waits =
      stops (record here.running { refused = here.running.refused ++ (index, reason) ∷ [] })
      (refused reason) is (λ position. refl) (record {
        passed = sym (add-zero here.running.passed);
        dropped = sym (add-zero here.running.dropped);
        refused = ap (λ (n : ℕ). here.running.refused ++ (n, reason) ∷ []) same;
        received = [];
        arrived = sym (append-nil here.running.arrived);
        are = tt;
      }) waits

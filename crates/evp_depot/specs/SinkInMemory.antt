-- What a sink in memory is, and what a write leaves of it.
use Rattle.std.specs.Prelude.{◌≡◌, ℕ, ◌-◌, ◌<◌, min, List, ◌++◌, length, take, ◌⊎◌, Result, Ok, Err}
use Rattle.std.specs.Prelude.{refl}
use Rattle.std.specs.Coded.{Coded, code_by, coded×, coded_ℕ, coded_list}
use Rattle.evp_depot.specs.Counts.{next_call, next_count}
use Rattle.evp_depot.specs.DepotInMemory.{IsMadeToFail}
use Rattle.evp_depot.specs.declared.sink.SinkFault.{SinkFault}

-- the bytes so far, for how many there is room, how many one write takes at most,
-- the numbers of the calls that fail, and the counts
pub record SinkInMemory : Type 0 where
  pub put : List ℕ
  pub room : ℕ
  pub take : ℕ
  pub failing : List ℕ
  pub calls : ℕ
  pub faults : ℕ

abbrev pub sink_code : Coded SinkInMemory
sink_code =
    code_by (List ℕ × (ℕ × (ℕ × (List ℕ × (ℕ × ℕ)))))
    (coded× (coded_list coded_ℕ) (coded× coded_ℕ
    (coded× coded_ℕ (coded× (coded_list coded_ℕ) (coded× coded_ℕ coded_ℕ)))))
    (λ s. (s.put, (s.room, (s.take, (s.failing, (s.calls, s.faults))))))
    (λ p. record {
      put = p.0;
      room = p.1.0;
      take = p.1.1.0;
      failing = p.1.1.1.0;
      calls =
          p.1.1.1.1.0;
      faults = p.1.1.1.1.1;
    })
    (λ _. refl)

-- a write of these bytes fails: it is made to, or no room is left for any of them
abbrev pub Refuses : SinkInMemory → List ℕ → Type 0
Refuses sink bytes =
    IsMadeToFail sink.failing sink.calls ⊎ ((0 < length bytes) × (length sink.put ≡ sink.room))

-- how many of these bytes a write takes
abbrev pub taken_of : SinkInMemory → List ℕ → ℕ
taken_of sink bytes = min (min sink.take (sink.room - length sink.put)) (length bytes)

-- one more call, and the bytes that it took, or one more fault
abbrev pub after_write : SinkInMemory → List ℕ → Result ℕ SinkFault → SinkInMemory
after_write sink bytes (Ok n) = record sink
    { put = sink.put ++ take n bytes; calls = next_call sink.calls }
after_write sink bytes (Err fault) = record sink
    { calls = next_call sink.calls; faults = next_count sink.faults }

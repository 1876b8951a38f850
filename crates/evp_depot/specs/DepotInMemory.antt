-- What a depot in memory is, and what a read leaves of it.
use Rattle.std.specs.Prelude.{◌<◌, ℕ, List, Contains, Result, Ok, Err, refl}
use Rattle.std.specs.FinMap as map
use Rattle.std.specs.Coded.{Coded, code_by, coded×, coded_ℕ, coded_list}
use Rattle.evp_depot.specs.Counts.{next_call, next_count, last_call}
use Rattle.evp_depot.specs.Files.{Files}
use Rattle.evp_depot.specs.declared.depot.DepotFault.{DepotFault}
use Rattle.evp_depot.specs.declared.depot.DepotFault.TheVariants.{Absent, Failed}

-- the files, the numbers of the calls that fail, and the counts
pub record DepotInMemory : Type 0 where
  pub files : Files
  pub failing : List ℕ
  pub calls : ℕ
  pub misses : ℕ
  pub faults : ℕ

abbrev pub depot_code : Coded DepotInMemory
depot_code =
    code_by (Files × (List ℕ × (ℕ × (ℕ × ℕ))))
    (coded× (map.code (coded_list coded_ℕ) (coded_list coded_ℕ))
    (coded× (coded_list coded_ℕ) (coded× coded_ℕ (coded× coded_ℕ coded_ℕ))))
    (λ d. (d.files, (d.failing, (d.calls, (d.misses, d.faults)))))
    (λ p. record {
      files = p.0;
      failing = p.1.0;
      calls = p.1.1.0;
      misses = p.1.1.1.0;
      faults = p.1.1.1.1;
    })
    (λ _. refl)

-- the call of this number is one that fails; at the last value no call is
abbrev pub IsMadeToFail : List ℕ → ℕ → Type 0
IsMadeToFail failing call = (call < last_call) × Contains failing call

-- one more call, and one more miss or fault where that was the answer
abbrev pub after_read : DepotInMemory → Result ℕ DepotFault → DepotInMemory
after_read depot (Ok n) = record depot { calls = next_call depot.calls }
after_read depot (Err Absent) = record depot
    { calls = next_call depot.calls; misses = next_count depot.misses }
after_read depot (Err Failed) = record depot
    { calls = next_call depot.calls; faults = next_count depot.faults }

-- Workers whose seats are gathered.
use Rattle.std.specs.Prelude.{◌≡◌, ℕ, List, Some, slice_get}
use Rattle.evp_crew.specs.declared.rota.Rota.{Rota}
use Rattle.evp_crew.specs.declared.three.Three.{Three}
use Rattle.evp_crew.specs.declared.worker.Worker.{Worker}
use Rattle.evp_crew.specs.Done.{WorksAt}

abbrev pub AllWork : List Rota → Three → List Worker → Type 0
AllWork rotas three workers = (place : ℕ) (worker : Worker) → slice_get workers place ≡ Some worker
    → WorksAt rotas three worker

-- The accounts of a whole job.
use Rattle.std.specs.Prelude.{◌≡◌, ℕ, List, length, slice_get, Some}
use Rattle.evp_stone.specs.declared.account.Account.{Account}
use Rattle.evp_stone.specs.JobShape.{JobShape}
use Rattle.evp_stone.specs.Tallied.{IsAccount}

-- one account for each stone of the job, in the order of stones
pub record AreAccounts (job : JobShape) (accounts : List Account) : Type 0 where
  pub count : length accounts ≡ length job.stones
  pub each : (stone : ℕ) (account : Account) → slice_get accounts stone ≡ Some account
      → (account.stone ≡ stone) × IsAccount job account

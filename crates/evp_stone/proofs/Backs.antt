-- Which entry a port handed back, and why.
use Rattle.std.proofs.Common.{◌≡◌, inl, inr}
use Rattle.std.specs.Prelude.{◌⊎◌}
use Rattle.evp_queue.specs.declared.pass.Given.{Given as Back}
use Rattle.evp_queue.specs.declared.pass.Given.TheVariants.{Full, Memory}
use Rattle.evp_stone.specs.declared.entry.Entry.{Entry}

pub full_back : (entry e : Entry) (back : Back Entry) (Rose : Type 0) → back ≡ Full e
    → ((back ≡ Full entry) × Rose) ⊎ (back ≡ Memory entry) → (e ≡ entry) × Rose
full_back entry e back Rose is (inl (full, rose)) = (cc, rose)
full_back entry e back Rose is (inr memory) = absurd (cc)

pub memory_back : (entry e : Entry) (back : Back Entry) (Rose : Type 0) → back ≡ Memory e
    → ((back ≡ Full entry) × Rose) ⊎ (back ≡ Memory entry) → e ≡ entry
memory_back entry e back Rose is (inl (full, rose)) = absurd (cc)
memory_back entry e back Rose is (inr memory) = cc

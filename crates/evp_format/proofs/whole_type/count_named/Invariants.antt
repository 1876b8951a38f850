use Rattle.std.proofs.Common.{◌≡◌, drop}
use Rattle.std.specs.List.{position_from}
use Rattle.evp_format.specs.declared.draft.DraftField.{DraftField}
use Rattle.evp_format.specs.Drafts.{count_named, is_count_named}
use Rattle.evp_format.proofs.whole_type.count_named.Given as goal

abbrev pub invariant-loop-number : goal.invariant-loop-number
invariant-loop-number l = position_from (λ (draft : DraftField). is_count_named draft l.name) l.number (drop l.number l.drafts)
    ≡ count_named l.drafts l.name

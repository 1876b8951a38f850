use Rattle.std.proofs.Common.{◌≡◌, get_or, arith}
use Rattle.std.proofs.lemmas.Grind.{common_steps}
use Rattle.evp_format.specs.Tree.{trees, empty_tree}
use Rattle.evp_profile.specs.Alignment.{alignment}
use Rattle.evp_profile.proofs.Alignments.{alignment_positive}
use Rattle.evp_profile.proofs.alignment.base_alignment.Goals as goal

pub returns-in-Some-clause-positive : goal.returns-in-Some-clause-positive
returns-in-Some-clause-positive c =
    let earlier = c.args.earlier.now in
    let type = get_or (trees earlier.types) c.in-Nested.number empty_tree in
    let is : c.in-Some.alignment.now ≡ alignment earlier.profile type = grind (arith, common_steps) in
    let positive = alignment_positive earlier.profile type in
    λ _. omega (arith, is, positive)

use Rattle.std.proofs.Common.{◌≡◌, ℕ, ◌+◌, ◌*◌, List, drop, map}
use Rattle.evp_format.specs.declared.value.Value.{Value}
use Rattle.evp_format.specs.Converting.{make_branches, make_elements}
use Rattle.evp_format.specs.Tree.{branches_of, trees}
use Rattle.evp_format.specs.ValueView.{datum_of, elements_of_values, entries_of_pairs}
use Rattle.evp_value.specs.Making.{make_at}
use Rattle.evp_format.proofs.LaidBases.{rank}
use Rattle.evp_value.proofs.MadeSoFar.{Making, elements_left, fields_left}
use Rattle.evp_value.proofs.making.+making.Given as goal

abbrev pub decreases-make_record : goal.decreases-make_record
decreases-make_record l = 8 * l.type_number + 7

abbrev pub decreases-make_field : goal.decreases-make_field
decreases-make_field l = rank l.field.now.base + 4

abbrev pub decreases-make_single : goal.decreases-make_single
decreases-make_single l = rank l.field.now.base + 3

abbrev pub decreases-make_fixed : goal.decreases-make_fixed
decreases-make_fixed l = rank l.field.now.base + 3

abbrev pub decreases-make_counted : goal.decreases-make_counted
decreases-make_counted l = rank l.field.now.base + 3

abbrev pub decreases-make_inside : goal.decreases-make_inside
decreases-make_inside l = rank l.field.now.base + 2

abbrev pub decreases-make_elements : goal.decreases-make_elements
decreases-make_elements l = rank l.field.now.base + 1

abbrev pub decreases-make_element : goal.decreases-make_element
decreases-make_element l = rank l.field.now.base

-- the elements so far, followed by what is made of the others, are what is made of all
abbrev pub invariant-make_elements-loop-k : goal.invariant-make_elements-loop-k
invariant-make_elements-loop-k l =
    elements_left (make_at l.to.limit l.to.format.now l.field l.place) (map datum_of l.values.items) l.k l.size (drop l.k l.partners)
    ≡ make_elements (make_at l.to.limit l.to.format.now l.field l.place) (elements_of_values l.partners) 0 l.initial.size

-- the fields so far, followed by what is made of the others, are what is made of all
abbrev pub invariant-make_record-loop-k : goal.invariant-make_record-loop-k
invariant-make_record-loop-k l =
    let making : Making = record {
      limit = l.to.limit;
      layout = l.to.format.now;
      numbers = l.numbers.items;
      place = l.place;
      partner = entries_of_pairs l.partner;
    } in
    fields_left making (map (λ (pair : List ℕ × Value). (pair.0, datum_of pair.1)) l.pairs.items) l.k l.size (drop l.k l.fields)
    ≡ make_branches l.to.limit (branches_of (trees l.to.format.now.types) l.fields) l.numbers.items 0 l.place (entries_of_pairs l.partner)
    l.initial.size

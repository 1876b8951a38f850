-- The stones of the generator's document.
use Rattle.std.proofs.Common.{◌≡◌, ℕ, ◌++◌, List, [], ◌∷◌, map, codes, Some, Ok, decimal, refl, ap}
use Rattle.std.specs.List.{flat_map}
use Rattle.evp_base.specs.declared.step.Step.TheVariants.{Field}
use Rattle.evp_eval.specs.Bound.{bound_tree}
use Rattle.evp_expr.specs.Laws.{OneTree, TreeOrFault}
use Rattle.evp_expr.specs.Parsing.{HasTree}
use Rattle.evp_expr.specs.Tree.{Tree}
use Rattle.evp_gen.specs.Formats.{whole}
use Rattle.evp_gen.specs.Stones.{split_value, filter_value, router_value, transform_value}
use Rattle.evp_gen.specs.Stones.{terminal_value, row_values, all_rows, stones_value}
use Rattle.evp_job.specs.Expressions.{Reading, expression_in}
use Rattle.evp_job.specs.Formats.{Named, named_with, known_format}
use Rattle.evp_job.specs.Forms.{whole_number, number_within, text_in, list_in, list_within, object_in, no_others}
use Rattle.evp_job.specs.Kinds.{kind_in}
use Rattle.evp_job.specs.Settings.{setting_values, setting_in, settings_in, next_set, set_with}
use Rattle.evp_job.specs.Steps.{under}
use Rattle.evp_job.specs.Stones.{declared_in, stone_number, targets_in, terminal_in, filter_in, router_in, split_in, transform_in}
use Rattle.evp_job.specs.Stones.{stone_in, stones_in}
use Rattle.evp_job.specs.TextShape.{stone_with, filter, transform}
use Rattle.evp_stones.specs.BenchJob.{bench_names, bench_layouts, bench_stones, parting, by_fifths, shortening}
use Rattle.evp_stones.specs.BenchJob.{sharing, ending, wide, calc, thirds, squares, fifths, evens}
use Rattle.evp_stones.proofs.BenchExpressions.{answered, expression_is, thirds_there, evens_there, fifths_there}
use Rattle.evp_stones.proofs.BenchExpressions.{first_square, second_square, third_square, fourth_square}
use Rattle.evp_stones.proofs.BenchSteps.{then_is, AreStonesFrom, stones_from}

abbrev pub bench_named : Named
bench_named = named_with bench_names (map known_format bench_layouts)

-- ---- rows without expressions

parts_there : (reading : Reading) (k : ℕ)
    → (stone_in reading bench_named k (split_value (4 ∷ 8 ∷ [])) ≡ Ok (parting 0))
    × (stone_in reading bench_named k (split_value (5 ∷ 9 ∷ [])) ≡ Ok (parting 1))
    × (stone_in reading bench_named k (split_value (6 ∷ 10 ∷ [])) ≡ Ok (parting 2))
    × (stone_in reading bench_named k (split_value (7 ∷ 11 ∷ [])) ≡ Ok (parting 3))
unfolding whole_number number_within text_in list_in list_within object_in no_others kind_in stone_number targets_in split_in stone_in
parts_there reading k = (refl, refl, refl, refl)

shares : (reading : Reading) (k : ℕ)
    → stone_in reading bench_named k (split_value (28 ∷ 29 ∷ 30 ∷ 31 ∷ [])) ≡ Ok (sharing 0)
unfolding whole_number number_within text_in list_in list_within object_in no_others kind_in stone_number targets_in split_in stone_in
shares reading k = refl

shortens : (reading : Reading) (k : ℕ) → stone_in reading bench_named k (terminal_value (codes "short")) ≡ Ok (shortening 0)
unfolding text_in object_in no_others kind_in declared_in terminal_in stone_in
shortens reading k = refl

ends : (reading : Reading) (k : ℕ) → (stone_in reading bench_named k (terminal_value (codes "full")) ≡ Ok (ending 0))
    × (stone_in reading bench_named k (terminal_value (codes "tight")) ≡ Ok (ending 2))
unfolding text_in object_in no_others kind_in declared_in terminal_in stone_in
ends reading k = (refl, refl)

-- ---- rows with expressions

-- a filter of `wide`, whose text has this tree
filters_wide : (reading : Reading) (k target : ℕ) (text : List ℕ) (tree : Tree) → number_within 0 65535 (Some (whole target)) ≡ Ok target
    → expression_in reading k 0 wide text ≡ Ok (bound_tree tree wide)
    → stone_in reading bench_named k (filter_value (codes "wide") text target)
    ≡ Ok (stone_with (filter 0 (bound_tree tree wide)) (target ∷ []))
unfolding text_in object_in no_others kind_in declared_in filter_in stone_in
filters_wide reading k target text tree there expression =
    then_is _ (ap (λ r. under (Field (codes "target")) r) there) (then_is _ expression refl)

filters_calc : (reading : Reading) (k target : ℕ) (text : List ℕ) (tree : Tree) → number_within 0 65535 (Some (whole target)) ≡ Ok target
    → expression_in reading k 0 calc text ≡ Ok (bound_tree tree calc)
    → stone_in reading bench_named k (filter_value (codes "calc") text target)
    ≡ Ok (stone_with (filter 1 (bound_tree tree calc)) (target ∷ []))
unfolding text_in object_in no_others kind_in declared_in filter_in stone_in
filters_calc reading k target text tree there expression =
    then_is _ (ap (λ r. under (Field (codes "target")) r) there) (then_is _ expression refl)

-- the routers
routes : (reading : Reading) (k : ℕ) → expression_in reading k 0 wide (codes "(x + 500) % 5") ≡ Ok (bound_tree fifths wide)
    → stone_in reading bench_named k (router_value (codes "wide") (codes "(x + 500) % 5") (20 ∷ 21 ∷ 22 ∷ 23 ∷ [])) ≡ Ok (by_fifths 0)
unfolding whole_number number_within text_in list_in list_within object_in no_others kind_in declared_in stone_number
    targets_in router_in stone_in
routes reading k expression = then_is _ expression refl

-- a transform, whose setting's text has this tree
transforms : (reading : Reading) (k target : ℕ) (text : List ℕ) (tree : Tree) → number_within 0 65535 (Some (whole target)) ≡ Ok target
    → expression_in reading k 0 wide text ≡ Ok (bound_tree tree wide)
    → stone_in reading bench_named k (transform_value text target)
    ≡ Ok (stone_with (transform 0 1 (set_with 0 (bound_tree tree wide) ∷ [])) (target ∷ []))
unfolding text_in list_in list_within object_in no_others kind_in declared_in setting_values setting_in settings_in
    next_set transform_in stone_in
transforms reading k target text tree there expression =
    then_is _ (ap (λ r. under (Field (codes "target")) r) there) (then_is _ (then_is _ (then_is _ expression refl) refl) refl)

-- ---- all

module _ (one : OneTree) (no_fault : TreeOrFault) (reading : Reading) where
  third : (k : ℕ) → expression_in reading k 0 wide (codes "x % 3 != 0") ≡ Ok (bound_tree thirds wide)
  third k =
      expression_is reading k 0 wide (codes "x % 3 != 0") thirds
      (answered one no_fault reading (codes "x % 3 != 0") thirds thirds_there) refl

  even : (k : ℕ) → expression_in reading k 0 calc (codes "y % 2 == 0") ≡ Ok (bound_tree evens calc)
  even k =
      expression_is reading k 0 calc (codes "y % 2 == 0") evens (answered one no_fault reading (codes "y % 2 == 0") evens evens_there) refl

  fifth : (k : ℕ) → expression_in reading k 0 wide (codes "(x + 500) % 5") ≡ Ok (bound_tree fifths wide)
  fifth k = expression_is reading k 0 wide (codes "(x + 500) % 5") fifths
      (answered one no_fault reading (codes "(x + 500) % 5") fifths fifths_there) refl

  square : (k j : ℕ) → HasTree (codes "x*x - " ++ decimal j) (squares j)
      → expression_in reading k 0 wide (codes "x*x - " ++ decimal j) ≡ Ok (bound_tree (squares j) wide)
  square k j there = expression_is reading k 0 wide (codes "x*x - " ++ decimal j) (squares j)
      (answered one no_fault reading (codes "x*x - " ++ decimal j) (squares j) there) refl

  rows : AreStonesFrom reading bench_named 0 (flat_map row_values all_rows) bench_stones
  unfolding whole_number number_within
  rows = (
    (parts_there reading 0).0,
    (
      (parts_there reading 1).1,
      (
        (parts_there reading 2).2,
        (
          (parts_there reading 3).3,
          (
            filters_wide reading 4 12 _ thirds refl (third 4),
            (
              filters_wide reading 5 13 _ thirds refl (third 5),
              (
                filters_wide reading 6 14 _ thirds refl (third 6),
                (
                  filters_wide reading 7 15 _ thirds refl (third 7),
                  (
                    transforms reading 8 16 _ (squares 0) refl (square 8 0 first_square),
                    (
                      transforms reading 9 17 _ (squares 1) refl (square 9 1 second_square),
                      (
                        transforms reading 10 18 _ (squares 2) refl (square 10 2 third_square),
                        (
                          transforms reading 11 19 _ (squares 3) refl (square 11 3 fourth_square),
                          (
                            routes reading 12 (fifth 12),
                            (
                              routes reading 13 (fifth 13),
                              (
                                routes reading 14 (fifth 14),
                                (
                                  routes reading 15 (fifth 15),
                                  (
                                    filters_calc reading 16 24 _ evens refl (even 16),
                                    (
                                      filters_calc reading 17 25 _ evens refl (even 17),
                                      (
                                        filters_calc reading 18 26 _ evens refl (even 18),
                                        (
                                          filters_calc reading 19 27 _ evens refl (even 19),
                                          (
                                            shortens reading 20,
                                            (
                                              shortens reading 21,
                                              (
                                                shortens reading 22,
                                                (
                                                  shortens reading 23,
                                                  (
                                                    shares reading 24,
                                                    (
                                                      shares reading 25,
                                                      (
                                                        shares reading 26,
                                                        (
                                                          shares reading 27,
                                                          (
                                                            (ends reading 28).0,
                                                            (
                                                              (ends reading 29).0,
                                                              ((ends reading 30).1, ((ends reading 31).1, tt)),
                                                            ),
                                                          ),
                                                        ),
                                                      ),
                                                    ),
                                                  ),
                                                ),
                                              ),
                                            ),
                                          ),
                                        ),
                                      ),
                                    ),
                                  ),
                                ),
                              ),
                            ),
                          ),
                        ),
                      ),
                    ),
                  ),
                ),
              ),
            ),
          ),
        ),
      ),
    ),
  )

  pub stones_there : stones_in reading bench_named (Some stones_value) ≡ Ok bench_stones
  unfolding list_in list_within stones_in
  stones_there = stones_from reading bench_named 0 [] (flat_map row_values all_rows) bench_stones rows

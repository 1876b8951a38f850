-- Each tree that the grammar makes is sound.
use Rattle.std.proofs.Common.{◌≡◌, ℕ, suc, ◌+◌, ◌*◌, ◌-◌, ◌≤◌, List, true, refl, arith}
use Rattle.evp_expr.specs.declared.operator.Level.{Level}
use Rattle.evp_expr.specs.declared.operator.Level.TheVariants.{Disjunction, Conjunction, Comparison, Sum, Product}
use Rattle.evp_expr.specs.declared.token.Placed.{Placed}
use Rattle.evp_expr.specs.Levels.{rank}
use Rattle.evp_expr.specs.Tree.{Tree, joined}
use Rattle.evp_expr.specs.Grammar.{Part, Chain, Behind, Complete, Unary, Atom, Path, BehindPath, Front, operand, behind, IsExpression}
use Rattle.evp_expr.specs.Grammar.{most_levels, chain, no_more, more, complete, negated, denied, unsigned, literal, group, path, measured}
use Rattle.evp_expr.specs.Grammar.{compared, first, path_end, dotted, subscripted}
use Rattle.evp_expr.specs.Sound.{is_path, IsFormed, stack_need, IsSound}
use Rattle.evp_expr.specs.Laws.{TreesAreSound}

-- what a part of the grammar is given, and what it gives: trees in which paths stand where they should
PartTakes : Part → Type 0
PartTakes (Chain l) = Unit {0}
PartTakes (Behind l t) = IsFormed t
PartTakes (Complete t) = IsFormed t
PartTakes Unary = Unit {0}
PartTakes Atom = Unit {0}
PartTakes Path = Unit {0}
PartTakes (BehindPath p) = (is_path p ≡ true) × IsFormed p

PartGives : Part → Tree → Type 0
PartGives (Chain l) tree = IsFormed tree
PartGives (Behind l t) tree = IsFormed tree
PartGives (Complete t) tree = IsFormed tree
PartGives Unary tree = IsFormed tree
PartGives Atom tree = IsFormed tree
PartGives Path tree = (is_path tree ≡ true) × IsFormed tree
PartGives (BehindPath p) tree = (is_path tree ≡ true) × IsFormed tree

operand_takes : (l : Level) → PartTakes (operand l)
unfolding PartTakes
operand_takes Disjunction = tt
operand_takes Conjunction = tt
operand_takes Comparison = tt
operand_takes Sum = tt
operand_takes Product = tt

operand_gives : (l : Level) (tree : Tree) → PartGives (operand l) tree → IsFormed tree
unfolding PartGives
operand_gives Disjunction tree h = h
operand_gives Conjunction tree h = h
operand_gives Comparison tree h = h
operand_gives Sum tree h = h
operand_gives Product tree h = h

behind_takes : (l : Level) (t : Tree) → IsFormed t → PartTakes (behind l t)
unfolding PartTakes
behind_takes Disjunction t h = h
behind_takes Conjunction t h = h
behind_takes Comparison t h = h
behind_takes Sum t h = h
behind_takes Product t h = h

behind_gives : (l : Level) (t tree : Tree) → PartGives (behind l t) tree → IsFormed tree
unfolding PartGives
behind_gives Disjunction t tree h = h
behind_gives Conjunction t tree h = h
behind_gives Comparison t tree h = h
behind_gives Sum t tree h = h
behind_gives Product t tree h = h

front_formed : {d : ℕ} {part : Part} {ts us : List Placed} {tree : Tree} → Front d part ts us tree → PartTakes part → PartGives part tree
unfolding PartTakes PartGives
front_formed (chain {l = l} {t = t} f b) h = front_formed b (operand_gives l t (front_formed f (operand_takes l)))
front_formed no_more h = h
front_formed (more {at = at} {l = l} {op = op} {t = t} {right = right} {tree = tree} e f b) h =
    behind_gives l (joined at op t right) tree
    (front_formed b (behind_takes l (joined at op t right) (h, operand_gives l right (front_formed f (operand_takes l)))))
front_formed complete h = h
front_formed (negated f) h = front_formed f tt
front_formed (denied f) h = front_formed f tt
front_formed (unsigned f) h = front_formed f tt
front_formed literal h = tt
front_formed (group f) h = front_formed f tt
front_formed (path f) h = (front_formed f tt).1
front_formed (measured f) h = front_formed f tt
front_formed (compared f) h = front_formed f tt
front_formed (first f) h = front_formed f (refl, tt)
front_formed path_end h = h
front_formed (dotted f) h = front_formed f (refl, h)
front_formed (subscripted f g) h = front_formed g (refl, (h.0, (h.1, front_formed f tt)))

-- the values that a phrase of a level may need, within d levels
room : Level → ℕ → ℕ
room l d = (6 - rank l) + 6 * d

-- what a part is given and gives: trees that need few values
NeedTakes : ℕ → Part → Type 0
NeedTakes d (Chain l) = Unit {0}
NeedTakes d (Behind l t) = stack_need t ≤ room l d
NeedTakes d (Complete t) = stack_need t ≤ room Comparison d
NeedTakes d Unary = Unit {0}
NeedTakes d Atom = Unit {0}
NeedTakes d Path = Unit {0}
NeedTakes d (BehindPath p) = stack_need p ≤ 1 + 6 * d

NeedGives : ℕ → Part → Tree → Type 0
NeedGives d (Chain l) tree = stack_need tree ≤ room l d
NeedGives d (Behind l t) tree = stack_need tree ≤ room l d
NeedGives d (Complete t) tree = stack_need tree ≤ room Comparison d
NeedGives d Unary tree = stack_need tree ≤ 1 + 6 * d
NeedGives d Atom tree = stack_need tree ≤ 1 + 6 * d
NeedGives d Path tree = stack_need tree ≤ 1 + 6 * d
NeedGives d (BehindPath p) tree = stack_need tree ≤ 1 + 6 * d

operand_needs_nothing : (d : ℕ) (l : Level) → NeedTakes d (operand l)
unfolding NeedTakes
operand_needs_nothing d Disjunction = tt
operand_needs_nothing d Conjunction = tt
operand_needs_nothing d Comparison = tt
operand_needs_nothing d Sum = tt
operand_needs_nothing d Product = tt

operand_need : (d : ℕ) (l : Level) (tree : Tree) → NeedGives d (operand l) tree → suc (stack_need tree) ≤ room l d
unfolding NeedGives room
operand_need d Disjunction tree h = omega arith
operand_need d Conjunction tree h = omega arith
operand_need d Comparison tree h = omega arith
operand_need d Sum tree h = omega arith
operand_need d Product tree h = omega arith

behind_needs : (d : ℕ) (l : Level) (t : Tree) → stack_need t ≤ room l d → NeedTakes d (behind l t)
unfolding NeedTakes
behind_needs d Disjunction t h = h
behind_needs d Conjunction t h = h
behind_needs d Comparison t h = h
behind_needs d Sum t h = h
behind_needs d Product t h = h

behind_need : (d : ℕ) (l : Level) (t tree : Tree) → NeedGives d (behind l t) tree → stack_need tree ≤ room l d
unfolding NeedGives
behind_need d Disjunction t tree h = h
behind_need d Conjunction t tree h = h
behind_need d Comparison t tree h = h
behind_need d Sum t tree h = h
behind_need d Product t tree h = h

whole_need : (d : ℕ) (tree : Tree) → stack_need tree ≤ room Disjunction d → suc (stack_need tree) ≤ 1 + 6 * suc d
unfolding room
whole_need d tree h = omega arith

front_need : {d : ℕ} {part : Part} {ts us : List Placed} {tree : Tree} → Front d part ts us tree → NeedTakes d part → NeedGives d part tree
unfolding NeedTakes NeedGives
front_need (chain {d = d} {l = l} {t = t} f b) h =
    let w = operand_need d l t (front_need f (operand_needs_nothing d l)) in front_need b (omega arith)
front_need no_more h = h
front_need (more {d = d} {at = at} {l = l} {op = op} {t = t} {right = right} {tree = tree} e f b) h =
    let w = operand_need d l right (front_need f (operand_needs_nothing d l)) in
    behind_need d l (joined at op t right) tree (front_need b (behind_needs d l (joined at op t right) (omega arith)))
front_need complete h = h
front_need (negated f) h = let w = front_need f tt in omega arith
front_need (denied f) h = let w = front_need f tt in omega arith
front_need (unsigned f) h = front_need f tt
front_need literal h = omega arith
front_need (group {d = d} {t = t} f) h = let w = whole_need d t (front_need f tt) in omega arith
front_need (path f) h = front_need f tt
front_need (measured f) h = let w = front_need f tt in omega arith
front_need (compared f) h = let w = front_need f tt in omega arith
front_need (first f) h = front_need f (omega arith)
front_need path_end h = h
front_need (dotted f) h = front_need f h
front_need (subscripted {d = d} {i = i} f g) h = let w = whole_need d i (front_need f tt) in front_need g (omega arith)

pub expression_sound : (tokens : List Placed) (tree : Tree) → IsExpression most_levels tokens tree → IsSound tree
unfolding PartTakes PartGives NeedTakes NeedGives room
expression_sound tokens tree e =
    let w : stack_need tree ≤ 6 + 6 * 64 = front_need e tt in
    record { formed = front_formed e tt; shallow = omega arith }

pub trees_are_sound_law : TreesAreSound
trees_are_sound_law text tree h = expression_sound h.tokens tree h.parsed

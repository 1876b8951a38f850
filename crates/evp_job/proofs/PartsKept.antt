-- What holds of the parts of each document that has them, and of the job that they make.
use Rattle.std.proofs.Common.{◌≡◌, ◌≢◌, ℕ, ◌≤◌, ◌<◌, ◌^◌, List, [], ◌∷◌, length, map, get_or, Result, Ok, Err, All, ◌⊎◌, inl, inr}
use Rattle.std.proofs.Common.{refl, sym, ap, ◌∙◌, subst, codes, arith}
use Rattle.std.proofs.Math.ListN.{get_or-map}
use Rattle.std.proofs.lemmas.List.{length-map}
use Rattle.evp_action.specs.Agreement.{Agrees}
use Rattle.evp_action.specs.declared.action.Action.{Action}
use Rattle.evp_action.specs.declared.action.Action.TheVariants.{Filter, Router, Transform, Split, Terminal}
use Rattle.evp_base.specs.declared.step.Step.TheVariants.{Field}
use Rattle.evp_expr.specs.Laws.{EachTextIsAnswered}
use Rattle.evp_expr.specs.Parsing.{HasTree, HasFault}
use Rattle.evp_expr.specs.Tree.{Tree}
use Rattle.evp_expr.specs.declared.fault.ExprFault.{ExprFault}
use Rattle.evp_format.specs.Layout.{Layout}
use Rattle.evp_graph.specs.Shape.{Shape, shape}
use Rattle.serde_json.specs.Data.{Data}
use Rattle.serde_json.specs.Find.{get}
use Rattle.evp_job.specs.declared.sources.SourceText.{SourceText}
use Rattle.evp_job.specs.Expressions.{IsAnswer, Reading}
use Rattle.evp_job.specs.Head.{head_in}
use Rattle.evp_job.specs.Forms.{no_others}
use Rattle.evp_job.specs.Job.{PartsShape, parts_with, job_members, parts_in}
use Rattle.evp_job.specs.Steps.{under}
use Rattle.evp_job.specs.Rounds.{rounds_in}
use Rattle.evp_job.specs.SourceView.{source_of, sources_of}
use Rattle.evp_job.specs.Sources.{SourceShape}
use Rattle.evp_job.specs.Stated.{graph_of}
use Rattle.evp_job.specs.Stones.{stones_in}
use Rattle.evp_job.specs.TextShape.{StoneShape, graph_with}
use Rattle.evp_job.specs.TextView.{action_of, stone_of, stones_of}
use Rattle.evp_job.proofs.HeadKept.{IsHeadKept, head_kept}
use Rattle.evp_job.proofs.RoundsKept.{AreRoundsKept, rounds_kept}
use Rattle.evp_job.proofs.StonesKept.{AgreesWith, AreStonesKept, stones_kept}
use Rattle.evp_job.proofs.WentOn.{went_on, from_under, the_same}
use Rattle.evp_stone.specs.declared.stone.Stone.{Stone}

-- ---- a reading of all texts

abbrev answer_of : (text : List ℕ) → ((tree : Tree) × HasTree text tree) ⊎ ((cause : ExprFault) × HasFault text cause)
    → Result Tree ExprFault
answer_of text (inl there) = Ok there.0
answer_of text (inr there) = Err there.0

right_of : (text : List ℕ) (told : ((tree : Tree) × HasTree text tree) ⊎ ((cause : ExprFault) × HasFault text cause))
    → IsAnswer text (answer_of text told)
right_of text (inl there) = there.1
right_of text (inr there) = there.1

pub reading_of : EachTextIsAnswered → Reading
reading_of law = record { answer = λ text. answer_of text (law text); right = λ text. right_of text (law text) }

-- ---- parts

pub record ArePartsKept (parts : PartsShape) : Type 0 where
  pub head : IsHeadKept parts.head
  pub stones : AreStonesKept parts.head.formats parts.stones
  pub rounds : AreRoundsKept (length parts.head.sources) (length parts.stones) parts.rounds

pub parts_kept : (reading : Reading) (value : Data) (parts : PartsShape) → parts_in reading value ≡ Ok parts
    → ArePartsKept parts
unfolding parts_in
parts_kept reading value parts is =
    let head = went_on (head_in value) _ parts is in
    let stones = went_on (under (Field (codes "stones")) (stones_in reading head.value.formats (get (codes "stones") value)))
    _ parts head.rest in
    let rounds = went_on (under (Field (codes "rounds"))
    (rounds_in (length head.value.sources) (length stones.value) (get (codes "rounds") value))) _ parts stones.rest in
    let alone = went_on (no_others job_members value) _ parts rounds.rest in
    subst ArePartsKept (the_same (parts_with head.value stones.value rounds.value) parts alone.rest)
    (record {
      head = head_kept value head.value head.first;
      stones = stones_kept reading head.value.formats (get (codes "stones") value) stones.value
          (from_under (Field (codes "stones")) (stones_in reading head.value.formats (get (codes "stones") value))
          stones.value stones.first);
      rounds = rounds_kept (length head.value.sources) (length stones.value) (get (codes "rounds") value) rounds.value
          (from_under (Field (codes "rounds"))
          (rounds_in (length head.value.sources) (length stones.value) (get (codes "rounds") value))
          rounds.value rounds.first);
    })

-- ---- what is seen of lists

pub all_seen : {A B : Type 0} (P : B → Type 0) (see : A → B) (xs : List A) → All P (map see xs) → All (λ x. P (see x)) xs
all_seen P see xs all = λ k d below.
    subst P (get_or-map see xs k d) (all k (see d) (subst (λ (n : ℕ). k < n) (sym (length-map xs see)) below))

pub all_weaker : {A : Type 0} (P Q : A → Type 0) (xs : List A) → ((x : A) → P x → Q x) → All P xs → All Q xs
all_weaker P Q xs weaker all = λ k d below. weaker (get_or xs k d) (all k d below)

seen_twice : {A B C : Type 0} (f : B → C) (see : A → B) (xs : List A) → map f (map see xs) ≡ map (λ x. f (see x)) xs
seen_twice f see [] = refl
seen_twice f see (x ∷ xs) = ap (λ (rest : List _). f (see x) ∷ rest) (seen_twice f see xs)

pub graph_same : (sources : List SourceText) (stones : List Stone)
    → graph_with (sources_of sources) (stones_of stones) ≡ graph_of sources stones
graph_same sources stones =
    ap (λ (first : List ℕ). shape first (map (λ (stone : StoneShape). stone.targets) (stones_of stones)))
    (seen_twice (λ (source : SourceShape). source.stone) source_of sources)
    ∙ ap (λ (targets : List (List ℕ)). shape (map (λ (source : SourceText). source.stone) sources) targets)
    (seen_twice (λ (stone : StoneShape). stone.targets) stone_of stones)

pub agrees_so : (formats : List Layout) (declared : ℕ) (action : Action)
    → AgreesWith formats declared (action_of action) → Agrees formats declared action
agrees_so formats declared (Filter format test) agrees = agrees
agrees_so formats declared (Router format choose) agrees = agrees
agrees_so formats declared (Transform format into set) agrees = agrees
agrees_so formats declared Split agrees = agrees
agrees_so formats declared (Terminal format) agrees = agrees

-- few sources, stones and targets, as a graph wants them
pub below_16_bits : (n most : ℕ) → most ≤ 256 → n ≤ most → n < 2 ^ 16
below_16_bits n most few within = omega (arith, few, within)

-- What holds of each job that a document states.
use Rattle.std.proofs.Common.{◌≡◌, ℕ, ◌≤◌, List, length, Result, Ok, Err, All, refl, sym, ap, ◌∙◌, subst}
use Rattle.std.specs.Prelude.{IfOk}
use Rattle.evp_action.specs.Agreement.{Agrees}
use Rattle.evp_graph.specs.Routes.{ListsRoutes, routes_of}
use Rattle.evp_graph.specs.Shape.{Shape, IsSound}
use Rattle.evp_job.specs.declared.fault.JobFault.{JobFault}
use Rattle.evp_job.specs.declared.job_text.JobText.{JobText}
use Rattle.evp_job.specs.Formats.{named_with}
use Rattle.evp_job.specs.Head.{head_with}
use Rattle.evp_job.specs.Job.{PartsShape, parts_with, graph_of_parts}
use Rattle.evp_job.specs.JobView.{Makes}
use Rattle.evp_job.specs.Stated.{layouts_of, graph_of, IsRoundOf, IsStated}
use Rattle.evp_job.specs.TextShape.{TextShape, StoneShape}
use Rattle.evp_job.specs.TextView.{action_of, stone_of, stones_of, text_of}
use Rattle.evp_job.proofs.Lowered.{sources_count, stones_count}
use Rattle.evp_job.proofs.PartsKept.{ArePartsKept, all_seen, all_weaker, graph_same, agrees_so}
use Rattle.evp_job.proofs.StonesKept.{AgreesWith, IsStoneKept}
use Rattle.evp_stone.specs.declared.round.Round.{Round}
use Rattle.evp_stone.specs.declared.stone.Stone.{Stone}

-- the parts of a job
abbrev parts_in_text : TextShape → PartsShape
parts_in_text text = parts_with (head_with text.limit text.queue (named_with text.names text.formats) text.sources)
    text.stones text.rounds

-- the parts' facts, and those of their graph
record HoldsOf (parts : PartsShape) (text : JobText) : Type 0 where
  pub kept : ArePartsKept parts
  pub sound : IsSound (graph_of_parts parts)
  pub few : length (routes_of (graph_of_parts parts)) ≤ 1024
  pub routes : text.routes ≡ routes_of (graph_of_parts parts)
  pub listed : ListsRoutes (graph_of_parts parts) text.routes

stated_here : (text : JobText) → HoldsOf (parts_in_text (text_of text)) text → IsStated text
stated_here text h =
    let sources = text.sources.items in
    let stones = text.stones.items in
    let same = graph_same sources stones in
    let formats = named_with text.names.items text.formats.items in
    let layouts = layouts_of text.formats.items in
    let declared = length text.formats.items in
    record {
      bounded = record {
        longest = h.kept.head.longest;
        queue = h.kept.head.queue;
        formats = h.kept.head.few;
        sources = subst (λ (n : ℕ). (1 ≤ n) × (n ≤ 64)) (sources_count sources) h.kept.head.sources;
        stones = subst (λ (n : ℕ). (1 ≤ n) × (n ≤ 256)) (stones_count stones) h.kept.stones.count;
        rounds = h.kept.rounds.count;
        targets = all_seen (λ (stone : StoneShape). length stone.targets ≤ 16) stone_of stones
            (all_weaker (IsStoneKept formats) (λ (stone : StoneShape). length stone.targets ≤ 16) (stones_of stones)
            (λ stone good. good.few) h.kept.stones.each);
        routes = subst (λ (routes : List _). length routes ≤ 1024) (sym h.routes) h.few;
      };
      named = h.kept.head.paired;
      sound = subst IsSound same h.sound;
      routes = h.routes ∙ ap routes_of same;
      listed = subst (λ (graph : Shape). ListsRoutes graph text.routes) same h.listed;
      rounds = subst (λ (n : ℕ). All (IsRoundOf (length sources) n) text.rounds.items) (stones_count stones)
          (subst (λ (n : ℕ). All (IsRoundOf n (length (stones_of stones))) text.rounds.items) (sources_count sources)
          h.kept.rounds.each);
      actions = all_weaker (λ (stone : Stone). AgreesWith layouts declared (action_of stone.action))
          (λ (stone : Stone). Agrees layouts declared stone.action) stones
          (λ stone agrees. agrees_so layouts declared stone.action agrees)
          (all_seen (λ (stone : StoneShape). AgreesWith layouts declared stone.action) stone_of stones
          (all_weaker (IsStoneKept formats) (λ (stone : StoneShape). AgreesWith layouts declared stone.action)
          (stones_of stones) (λ stone good. good.agrees) h.kept.stones.each));
    }

pub stated_result : (parts : PartsShape) (result : Result JobText JobFault) → ArePartsKept parts → Makes parts result
    → IfOk result (λ (text : JobText). ListsRoutes (graph_of_parts parts) text.routes) → IfOk result IsStated
stated_result parts (Ok text) kept makes listed =
    let same : parts ≡ parts_in_text (text_of text) = sym (ap parts_in_text makes.2) in
    let routes : text.routes ≡ routes_of (graph_of_parts parts) = ap (λ (shape : TextShape). shape.routes) makes.2 in
    stated_here text (subst (λ (p : PartsShape). HoldsOf p text) same
    (record { kept = kept; sound = makes.0; few = makes.1; routes = routes; listed = listed }))
stated_result parts (Err cause) kept makes listed = tt

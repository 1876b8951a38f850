use Rattle.std.proofs.Common.{◌≡◌, ℕ, ◌<◌, List, length, get_or, Some, refl, ap, arith}
use Rattle.std.proofs.lemmas.List.{length-map}
use Rattle.std.proofs.lemmas.Option.{slice_get_read}
use Rattle.std.specs.Arc.{arc_value}
use Rattle.std.specs.List.{slice_get}
use Rattle.std.specs.declared.alloc.Global.{Global}
use Rattle.std.specs.declared.sync.Arc.{Arc}
use Rattle.evp_record.specs.OwnedBytes.{OwnedBytes}
use Rattle.evp_stone.specs.declared.source.Source.{Source}
use Rattle.evp_stone.specs.Fed.{fed}
use Rattle.evp_stone.specs.JobShape.{JobShape}
use Rattle.evp_stone.proofs.FedStep.{record_there, item_comes}
use Rattle.evp_stone.proofs.feeder.Feeder.next.Goals as goal

-- what was read of a list that is another one
read_at : (sources list : List Source) (number place : ℕ) (source : Source) → list ≡ sources → place ≡ number → number < length sources
    → source ≡ get_or list place source → slice_get sources number ≡ Some source
read_at sources list number place source are is below read =
    rw (← are, ← is) (slice_get_read list (length list) place source refl (let long = ap (λ (l : List Source). length l) are in
    omega arith) read)

pub bounds-as_slice-self : goal.bounds-as_slice-self
bounds-as_slice-self c =
    let job = c.args.job.now in
    let work = fed c.args.self.now in
    let source = c.index-source.result.now in
    let at = read_at job.sources c.parts.result.now.sources.items work.source c.from.result source
    (ap (λ (j : JobShape). j.sources) c.parts.ensures.value) c.from.ensures c.requires.source c.index-source.ensures in
    let there = record_there job work c.requires source at (let some = c.if-self-eq0.false in omega arith) in
    let files = ap (λ (l : List OwnedBytes). length l) c.as_slice.ensures in
    let long = length-map c.as_slice.result.now (λ (a : Arc OwnedBytes Global). arc_value a) in
    omega arith

pub returns : goal.returns
returns c =
    let job = c.args.job.now in
    let work = fed c.args.self.now in
    let source = c.index-source.result.now in
    let at = read_at job.sources c.parts.result.now.sources.items work.source c.from.result source
    (ap (λ (j : JobShape). j.sources) c.parts.ensures.value) c.from.ensures c.requires.source c.index-source.ensures in
    let some : 0 < work.left = let left = c.if-self-eq0.false in omega arith in
    let there = record_there job work c.requires source at some in
    let files = ap (λ (l : List OwnedBytes). length l) c.as_slice.ensures in
    let long = length-map c.as_slice.result.now (λ (a : Arc OwnedBytes Global). arc_value a) in
    item_comes job work c.requires c.parts.ensures.kept source c.as_slice.result.now c.index-as_slice-self.result c.in_ok-owned.owned
    at c.as_slice.ensures (omega arith) c.index-as_slice-self.is c.in_ok-owned.ensures some

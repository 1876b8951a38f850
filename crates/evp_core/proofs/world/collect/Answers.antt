use Rattle.std.proofs.Common.{◌≡◌, ℕ, ◌+◌, ◌≤◌, List, [], ◌∷◌, ◌++◌, length, drop, vec_len, rules}
use Rattle.std.proofs.Common.{sym, ap, subst, ◌∙◌, arith, length-append, length-drop}
use Rattle.std.proofs.lemmas.Option.{slice_get_within}
use Rattle.std.specs.Prelude.{Some}
use Rattle.std.specs.Vec.Iter.{into_iter_items, into_iter_len}
use Rattle.evp_stone.specs.declared.account.Account.{Account}
use Rattle.evp_stone.specs.JobShape.{JobShape}
use Rattle.evp_stone.proofs.Collected.{AreSoFar, are_stones, one_account, none_so_far}
use Rattle.evp_stone.proofs.Elements.{next_at}
use Rattle.evp_core.proofs.Accounting.{account_right, one_out}
use Rattle.evp_core.proofs.world.collect.Goals as goal

pub loop-init : goal.loop-init
loop-init c =
    let items : vec_len c.args.actors ≡ length c.args.actors.items = search rules in
    record {
      left = c.into_iter-actors.ensures.rest;
      long = c.into_iter-actors.ensures.len ∙ items ∙ ap (λ (l : List _). length l) (sym c.into_iter-actors.ensures.rest);
    }

pub loop-preserved : goal.loop-preserved
loop-preserved c =
    let out = one_out c.args.actors.items c.loop.counter c.loop.actors c.next.new.self c.next.result c.next.ensures.cases
    c.loop.invariant.left c.loop.invariant.long c.next.ensures.items in
    record { left = out.0; long = out.1 }

pub loop-actor-init : goal.loop-actor-init
loop-actor-init c =
    let job = c.args.reach.now.lists.job in
    let long : c.len-sources.result ≡ length c.parts.result.now.sources.items = search rules in
    let sources : c.len-sources.result ≡ length job.sources =
    long ∙ ap (λ (j : JobShape). length j.sources) (c.parts.ensures.value ∙ c.job.ensures.job) in
    let same = c.into_iter-actor-iterator.ensures.into_iter_gives in
    let none : length c.args.room.items ≡ 0 = ap (λ (l : List Account). length l) c.requires.none in
    let all : c.loop.counter ≡ length job.sources + length c.args.room.items =
    (let past = c.loop-test.false in let within = c.loop.auto.counter-end in omega arith) in
    record {
      left = ap (λ (it : _). into_iter_items it) same ∙ c.loop.invariant.left ∙ ap (λ (n : ℕ). drop n c.args.actors.items) all;
      long = ap (λ (it : _). into_iter_len it) same ∙ c.loop.invariant.long ∙ ap (λ (it : _). length (into_iter_items it)) (sym same);
      so_far = subst (λ (n : ℕ). AreSoFar job n c.args.room.items) (sym none) (none_so_far job c.args.room.items c.requires.none);
      within = omega arith;
      room = c.requires.enough;
    }

pub account-requires : goal.account-requires
account-requires c =
    let job = c.args.reach.now.lists.job in
    let place = length job.sources + length c.loop-actor.room.items in
    let at = (next_at c.args.actors.items _ place c.in-Some.actor (sym c.loop-actor.invariant.left ∙ c.in-Some.ensures.steps.0)).0 in
    are_stones job place c.in-Some.actor.role (c.requires.held.rules.numbered place c.in-Some.actor at) (omega arith)

pub push_reserved-requires : goal.push_reserved-requires
push_reserved-requires c =
    let job = c.args.reach.now.lists.job in
    let place = length job.sources + length c.loop-actor.room.items in
    let at = (next_at c.args.actors.items _ place c.in-Some.actor (sym c.loop-actor.invariant.left ∙ c.in-Some.ensures.steps.0)).0 in
    let below = slice_get_within c.args.actors.items place c.in-Some.actor at in
    let items : vec_len c.loop-actor.room ≡ length c.loop-actor.room.items = search rules in
    let count = c.requires.held.rules.count in
    let room = c.loop-actor.invariant.room in
    omega arith

pub loop-actor-preserved : goal.loop-actor-preserved
loop-actor-preserved c =
    let job = c.args.reach.now.lists.job in
    let was = c.loop-actor.room.items in
    let now = c.push_reserved.new.self.items in
    let place = length job.sources + length was in
    let first = c.in-Some.ensures.steps.0 in
    let at = (next_at c.args.actors.items _ place c.in-Some.actor (sym c.loop-actor.invariant.left ∙ first)).0 in
    let below = slice_get_within c.args.actors.items place c.in-Some.actor at in
    let right = account_right _ c.requires.held c.requires.closed (length was) c.in-Some.actor at c.account.result
    c.account.ensures.stone c.account.ensures.account in
    let out = one_out c.args.actors.items place c.loop-actor.actor-iterator c.next-in-loop-actor.new.self (Some c.in-Some.actor)
    c.in-Some.ensures.steps c.loop-actor.invariant.left c.loop-actor.invariant.long first in
    let more : length (was ++ c.account.result ∷ []) ≡ length was + 1 = omega (arith, length-append was (c.account.result ∷ [])) in
    let long : length now ≡ length was + 1 = ap (λ (l : List Account). length l) c.push_reserved.ensures.items ∙ more in
    let next : place + 1 ≡ length job.sources + length now = omega arith in
    let count = c.requires.held.rules.count in
    record {
      left = out.0 ∙ ap (λ (n : ℕ). drop n c.args.actors.items) next;
      long = out.1;
      so_far = subst (λ (l : List Account). AreSoFar job (length l) l) (sym c.push_reserved.ensures.items)
          (subst (λ (n : ℕ). AreSoFar job n (was ++ c.account.result ∷ [])) (sym more)
          (one_account job (length was) was c.account.result c.loop-actor.invariant.so_far right.0 right.1));
      within = omega arith;
      room = subst (λ (n : ℕ). length job.stones ≤ n) (sym c.push_reserved.ensures.capacity) c.loop-actor.invariant.room;
    }

pub returns : goal.returns
returns c =
    let job = c.args.reach.now.lists.job in
    let place = length job.sources + length c.loop-actor.room.items in
    let none = c.in-None.ensures.steps.0 in
    let long = c.loop-actor.invariant.long in
    let left = ap (λ (l : List _). length l) c.loop-actor.invariant.left in
    let count = c.requires.held.rules.count in
    let within = c.loop-actor.invariant.within in
    record {
      count = omega (arith, length-drop place c.args.actors.items);
      each = c.loop-actor.invariant.so_far.each;
    }

-- What holds of the stones of each document that has some.
use Rattle.std.proofs.Common.{◌≡◌, ℕ, suc, ◌+◌, ◌≤◌, List, [], ◌∷◌, ◌++◌, ◌^◌, length, map, Option, Some, None, Result, Ok, Err}
use Rattle.std.proofs.Common.{All, refl, sym, ap, ◌∙◌, subst, codes, arith}
use Rattle.std.specs.Option.{ok_or}
use Rattle.std.proofs.lemmas.List.{length-append}
use Rattle.std.proofs.lemmas.List.Elements.{All-nil, All-push}
use Rattle.evp_action.specs.Agreement.{IsDeclared, Binds, IsSetting, AreSettings}
use Rattle.evp_action.specs.declared.action.Setting.{Setting}
use Rattle.evp_base.specs.declared.step.Step.TheVariants.{Field, Index}
use Rattle.evp_eval.specs.Bound.{BoundTree, bound_tree}
use Rattle.evp_eval.specs.Meaning.{bound}
use Rattle.evp_eval.specs.declared.fault.BindFault.{BindFault}
use Rattle.evp_expr.specs.Tree.{Tree}
use Rattle.evp_format.specs.Layout.{Layout}
use Rattle.serde_json.specs.Data.{Data}
use Rattle.serde_json.specs.Find.{get}
use Rattle.evp_job.specs.declared.fault.JobFault.{JobFault}
use Rattle.evp_job.specs.declared.fault.JobFault.TheVariants as fault
use Rattle.evp_job.specs.declared.kinds.StoneKind.{StoneKind}
use Rattle.evp_job.specs.declared.kinds.StoneKind.TheVariants as kind
use Rattle.evp_job.specs.Expressions.{Reading, tree_at, bound_at, expression_in}
use Rattle.evp_job.specs.Formats.{Named}
use Rattle.evp_job.specs.Forms.{list_within, object_in, no_others}
use Rattle.evp_job.specs.Kinds.{kind_in}
use Rattle.evp_job.specs.Settings.{SettingShape, root_fields, settable, set_with, next_set, all_set, setting_in}
use Rattle.evp_job.specs.Settings.{settings_in}
use Rattle.evp_job.specs.Stated.{layouts_of}
use Rattle.evp_job.specs.Steps.{under, each_in}
use Rattle.evp_job.specs.Stones.{Declared, text_at, target_at, format_at, declared_in, stone_number, targets_in, targets_at}
use Rattle.evp_job.specs.Stones.{terminal_in, filter_in, router_in, split_in, transform_in, of_kind, stone_in}
use Rattle.evp_job.specs.Stones.{next_stone, stones_in}
use Rattle.evp_job.specs.TextShape.{ActionShape, filter, router, transform, split, terminal, StoneShape, stone_with}
use Rattle.evp_job.proofs.NamedFormats.{declared_kept}
use Rattle.evp_job.proofs.Settable.{settable_kept}
use Rattle.evp_job.proofs.WentOn.{went_on, from_under, from_some, the_same, as_many, from_zero, IsEach, each_kept, none_yet}

-- ---- an action agrees with the declared formats

abbrev pub AgreesWith : List Layout → ℕ → ActionShape → Type 0
AgreesWith formats declared (filter format test) = Binds formats declared format test
AgreesWith formats declared (router format choose) = Binds formats declared format choose
AgreesWith formats declared (transform format into set) = AreSettings formats declared format into set
AgreesWith formats declared split = Unit {0}
AgreesWith formats declared (terminal format) = (layout : Layout) × IsDeclared formats declared format layout

pub record IsStoneKept (formats : Named) (stone : StoneShape) : Type 0 where
  pub few : length stone.targets ≤ 16
  pub agrees : AgreesWith (layouts_of formats.known) (length formats.known) stone.action

-- the format is declared
abbrev pub Is : Named → Declared → Type 0
Is formats declared = IsDeclared (layouts_of formats.known) (length formats.known) declared.number declared.layout

format_kept : (key : List ℕ) (formats : Named) (value : Data) (declared : Declared)
    → format_at key formats value ≡ Ok declared → Is formats declared
format_kept key formats value declared is =
    declared_kept formats (get key value) declared (from_under (Field key) (declared_in formats (get key value)) declared is)

-- ---- expressions

bound_layout : (k j : ℕ) (layout : Layout) (tree : Tree) (found : Option BindFault) (made : BoundTree)
    → bound_at k j layout tree found ≡ Ok made → layout ≡ made.layout
bound_layout k j layout tree None made is = ap (λ (b : BoundTree). b.layout) (the_same (bound_tree tree layout) made is)
bound_layout k j layout tree (Some cause) made is = cc

expression_layout : (reading : Reading) (k j : ℕ) (layout : Layout) (text : List ℕ) (made : BoundTree)
    → expression_in reading k j layout text ≡ Ok made → layout ≡ made.layout
unfolding expression_in
expression_layout reading k j layout text made is =
    let tree = went_on (tree_at k j (reading.answer text)) _ made is in
    bound_layout k j layout tree.value (bound layout tree.value) made tree.rest

binds : (formats : Named) (declared : Declared) (reading : Reading) (k j : ℕ) (text : List ℕ) (made : BoundTree)
    → Is formats declared → expression_in reading k j declared.layout text ≡ Ok made
    → Binds (layouts_of formats.known) (length formats.known) declared.number made
binds formats declared reading k j text made is read =
    subst (IsDeclared (layouts_of formats.known) (length formats.known) declared.number)
    (expression_layout reading k j declared.layout text made read) is

-- ---- settings

abbrev AreSet : Named → Declared → Declared → ℕ → List Setting → Type 0
AreSet formats from into j done =
    IsEach (IsSetting (layouts_of formats.known) (length formats.known) from.number into.number) j done

one_set : (formats : Named) (from into : Declared) → Is formats from → Is formats into → (reading : Reading) (k : ℕ)
    → (j : ℕ) (done more : List Setting) (said : SettingShape) → AreSet formats from into j done
    → next_set reading k from.layout into.layout j done said ≡ Ok more → AreSet formats from into (j + 1) more
unfolding next_set
one_set formats from into is_from is_into reading k j done more said so_far is =
    let field = went_on (ok_or (settable said.field (root_fields into.layout)) (fault.SetTarget k j)) _ more is in
    let value = went_on (expression_in reading k j from.layout said.text) _ more field.rest in
    let set = set_with field.value value.value in
    let right : IsSetting (layouts_of formats.known) (length formats.known) from.number into.number set = record {
      bound = binds formats from reading k j said.text value.value is_from value.first;
      layout = into.layout;
      into_it = is_into;
      settable = settable_kept into.layout said.field field.value
          (from_some (settable said.field (root_fields into.layout)) (fault.SetTarget k j) field.value field.first);
    } in
    subst (AreSet formats from into (j + 1)) (the_same (done ++ set ∷ []) more value.rest)
    (record {
      each = All-push (IsSetting (layouts_of formats.known) (length formats.known) from.number into.number) done set
          so_far.each right;
      count = length-append done (set ∷ []) ∙ ap (λ (n : ℕ). n + 1) so_far.count;
    })

few_settings : (value : Data) (settings : List SettingShape)
    → under (Field (codes "set")) (settings_in (get (codes "set") value)) ≡ Ok settings → length settings ≤ 64
unfolding settings_in
few_settings value settings is =
    let read = from_under (Field (codes "set")) (settings_in (get (codes "set") value)) settings is in
    let values = went_on (list_within 0 64 (get (codes "set") value)) _ settings read in
    let all = each_kept (λ (said : SettingShape). Unit {0}) setting_in (λ value said is. tt {0}) values.value settings values.rest in
    subst (λ (n : ℕ). n ≤ 64) (sym all.count)
    (as_many 0 64 (get (codes "set") value) values.value values.first).1

below_their_numbers : (made said : ℕ) → made ≡ said → said ≤ 64 → made ≤ 2 ^ 16
below_their_numbers made said same few = omega (arith, same, few)

-- ---- targets

targets_kept : (value : Data) (targets : List ℕ) → targets_at value ≡ Ok targets → length targets ≤ 16
unfolding targets_in
targets_kept value targets is =
    let read = from_under (Field (codes "targets")) (targets_in (get (codes "targets") value)) targets is in
    let values = went_on (list_within 0 16 (get (codes "targets") value)) _ targets read in
    let all = each_kept (λ (n : ℕ). Unit {0}) stone_number (λ value n is. tt {0}) values.value targets values.rest in
    subst (λ (n : ℕ). n ≤ 16) (sym all.count)
    (as_many 0 16 (get (codes "targets") value) values.value values.first).1

-- ---- the five kinds

one_of_16 : (n : ℕ) → n ≡ 1 → n ≤ 16
one_of_16 n one = omega (arith, one)

none_of_16 : 0 ≤ 16
none_of_16 = omega arith

terminal_kept : (formats : Named) (value : Data) (stone : StoneShape) → terminal_in formats value ≡ Ok stone
    → IsStoneKept formats stone
unfolding terminal_in
terminal_kept formats value stone is =
    let format = went_on (format_at (codes "format") formats value) _ stone is in
    let alone = went_on (no_others (codes "kind" ∷ codes "format" ∷ []) value) _ stone format.rest in
    subst (IsStoneKept formats) (the_same (stone_with (terminal format.value.number) []) stone alone.rest)
    (record {
      few = none_of_16;
      agrees = (format.value.layout, format_kept (codes "format") formats value format.value format.first);
    })

filter_kept : (reading : Reading) (formats : Named) (k : ℕ) (value : Data) (stone : StoneShape)
    → filter_in reading formats k value ≡ Ok stone → IsStoneKept formats stone
unfolding filter_in
filter_kept reading formats k value stone is =
    let format = went_on (format_at (codes "format") formats value) _ stone is in
    let text = went_on (text_at (codes "expr") value) _ stone format.rest in
    let target = went_on (target_at value) _ stone text.rest in
    let alone = went_on (no_others (codes "kind" ∷ codes "format" ∷ codes "expr" ∷ codes "target" ∷ []) value) _ stone target.rest in
    let test = went_on (expression_in reading k 0 format.value.layout text.value) _ stone alone.rest in
    subst (IsStoneKept formats) (the_same (stone_with (filter format.value.number test.value) (target.value ∷ [])) stone test.rest)
    (record {
      few = one_of_16 (length (target.value ∷ [])) refl;
      agrees = binds formats format.value reading k 0 text.value test.value
          (format_kept (codes "format") formats value format.value format.first) test.first;
    })

router_kept : (reading : Reading) (formats : Named) (k : ℕ) (value : Data) (stone : StoneShape)
    → router_in reading formats k value ≡ Ok stone → IsStoneKept formats stone
unfolding router_in
router_kept reading formats k value stone is =
    let format = went_on (format_at (codes "format") formats value) _ stone is in
    let text = went_on (text_at (codes "expr") value) _ stone format.rest in
    let targets = went_on (targets_at value) _ stone text.rest in
    let alone = went_on (no_others (codes "kind" ∷ codes "format" ∷ codes "expr" ∷ codes "targets" ∷ []) value) _ stone targets.rest in
    let choose = went_on (expression_in reading k 0 format.value.layout text.value) _ stone alone.rest in
    subst (IsStoneKept formats) (the_same (stone_with (router format.value.number choose.value) targets.value) stone choose.rest)
    (record {
      few = targets_kept value targets.value targets.first;
      agrees = binds formats format.value reading k 0 text.value choose.value
          (format_kept (codes "format") formats value format.value format.first) choose.first;
    })

split_kept : (formats : Named) (value : Data) (stone : StoneShape) → split_in value ≡ Ok stone → IsStoneKept formats stone
unfolding split_in
split_kept formats value stone is =
    let targets = went_on (targets_at value) _ stone is in
    let alone = went_on (no_others (codes "kind" ∷ codes "targets" ∷ []) value) _ stone targets.rest in
    subst (IsStoneKept formats) (the_same (stone_with split targets.value) stone alone.rest)
    (record { few = targets_kept value targets.value targets.first; agrees = tt {0} })

transform_kept : (reading : Reading) (formats : Named) (k : ℕ) (value : Data) (stone : StoneShape)
    → transform_in reading formats k value ≡ Ok stone → IsStoneKept formats stone
unfolding transform_in
transform_kept reading formats k value stone is =
    let format = went_on (format_at (codes "format") formats value) _ stone is in
    let into = went_on (format_at (codes "into") formats value) _ stone format.rest in
    let settings = went_on (under (Field (codes "set")) (settings_in (get (codes "set") value))) _ stone into.rest in
    let target = went_on (target_at value) _ stone settings.rest in
    let alone = went_on (no_others (codes "kind" ∷ codes "format" ∷ codes "into" ∷ codes "set" ∷ codes "target" ∷ []) value) _ stone target.rest in
    let set = went_on (all_set reading k format.value.layout into.value.layout settings.value) _ stone alone.rest in
    let from_is = format_kept (codes "format") formats value format.value format.first in
    let into_is = format_kept (codes "into") formats value into.value into.first in
    let all = from_zero (AreSet formats format.value into.value)
    (next_set reading k format.value.layout into.value.layout)
    (one_set formats format.value into.value from_is into_is reading k) [] set.value settings.value
    (none_yet (IsSetting (layouts_of formats.known) (length formats.known) format.value.number into.value.number)) set.first in
    subst (IsStoneKept formats) (the_same (stone_with (transform format.value.number into.value.number set.value) (target.value ∷ [])) stone set.rest)
    (record {
      few = one_of_16 (length (target.value ∷ [])) refl;
      agrees = record {
        layout = format.value.layout;
        second = into.value.layout;
        first_there = from_is;
        second_there = into_is;
        each = all.each;
        few = below_their_numbers (length set.value) (length settings.value) all.count
            (few_settings value settings.value settings.first);
      };
    })

-- ---- a stone, and all

kind_kept : (reading : Reading) (formats : Named) (k : ℕ) (value : Data) (of : StoneKind) (stone : StoneShape)
    → of_kind reading formats k value of ≡ Ok stone → IsStoneKept formats stone
kind_kept reading formats k value kind.Terminal stone is = terminal_kept formats value stone is
kind_kept reading formats k value kind.Filter stone is = filter_kept reading formats k value stone is
kind_kept reading formats k value kind.Router stone is = router_kept reading formats k value stone is
kind_kept reading formats k value kind.Split stone is = split_kept formats value stone is
kind_kept reading formats k value kind.Transform stone is = transform_kept reading formats k value stone is

stone_kept : (reading : Reading) (formats : Named) (k : ℕ) (value : Data) (stone : StoneShape)
    → stone_in reading formats k value ≡ Ok stone → IsStoneKept formats stone
unfolding stone_in
stone_kept reading formats k value stone is =
    let object = went_on (object_in value) _ stone is in
    let of = went_on (under (Field (codes "kind")) (kind_in (get (codes "kind") object.value))) _ stone object.rest in
    kind_kept reading formats k object.value of.value stone of.rest

one_stone : (reading : Reading) (formats : Named) (k : ℕ) (done more : List StoneShape) (value : Data)
    → IsEach (IsStoneKept formats) k done → next_stone reading formats k done value ≡ Ok more
    → IsEach (IsStoneKept formats) (k + 1) more
unfolding next_stone
one_stone reading formats k done more value so_far is =
    let read = went_on (under (Index k) (stone_in reading formats k value)) _ more is in
    let good = stone_kept reading formats k value read.value
    (from_under (Index k) (stone_in reading formats k value) read.value read.first) in
    subst (IsEach (IsStoneKept formats) (k + 1)) (the_same (done ++ read.value ∷ []) more read.rest)
    (record {
      each = All-push (IsStoneKept formats) done read.value so_far.each good;
      count = length-append done (read.value ∷ []) ∙ ap (λ (n : ℕ). n + 1) so_far.count;
    })

pub record AreStonesKept (formats : Named) (stones : List StoneShape) : Type 0 where
  pub each : All (IsStoneKept formats) stones
  pub count : (1 ≤ length stones) × (length stones ≤ 256)

pub stones_kept : (reading : Reading) (formats : Named) (value : Option Data) (stones : List StoneShape)
    → stones_in reading formats value ≡ Ok stones → AreStonesKept formats stones
unfolding stones_in
stones_kept reading formats value stones is =
    let values = went_on (list_within 1 256 value) _ stones is in
    let all = from_zero (IsEach (IsStoneKept formats)) (next_stone reading formats) (one_stone reading formats) [] stones
    values.value (record { each = All-nil (IsStoneKept formats); count = refl }) values.rest in
    record {
      each = all.each;
      count = subst (λ (n : ℕ). (1 ≤ n) × (n ≤ 256)) (sym all.count) (as_many 1 256 value values.value values.first);
    }
